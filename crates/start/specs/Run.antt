-- DEFINITIONS. Demand 3 over the bytes of a table: what is promised of any series of ticks from the record that `start` gave.
-- Assumes nothing.
use Rattle.std.specs.Prelude.{◌≡◌, Bool, List, ℕ, suc}
use Rattle.records.specs.Record.{request_of}
use Rattle.dispatch.specs.Tick.{Ticks, answer_in}
use Rattle.dispatch.specs.declared.Answer.{Answer}
use Rattle.records.specs.declared.Dispatcher.{Dispatcher}
use Rattle.model.specs.Phase.{Choice, phases_of}
use Rattle.model.specs.Works.{Least, Works}
use Rattle.promise.specs.Promise.{Kept}
use Rattle.start.specs.Start.{Starts}
use Rattle.start.specs.declared.How.TheVariants.{Ready}
use Rattle.start.specs.declared.Started.{Started}
use Rattle.table.specs.Parse.{got, table}
use Rattle.table.specs.TaskModel.{tasks_of}
use Rattle.table.specs.declared.Table.{Table}

-- A run: the record that `start` gave on these bytes, moved on by ticks alone. Tick t is given mask t and flag t, and answers answer t.
pub record Run (bytes : List ℕ) (mask : ℕ → ℕ) (flag : ℕ → Bool) (answer : ℕ → Answer) : Type 0 where
  pub begun : Started
  pub starts : Starts bytes begun
  pub ready : begun.how ≡ Ready
  -- the record before each tick
  pub before : ℕ → Dispatcher
  pub first : before 0 ≡ begun.dispatcher
  pub ticks : (t : ℕ) → Ticks (before t) (mask t) (flag t) (before (suc t)) (answer t)

-- DEMAND 3 of the answers: the bytes hold a table; there are counts that are least among all choices that work; and under these counts every job
-- let in meets its deadline within its budget, its pieces in order and unbroken (promise/Promise: Kept).
pub record Promised (bytes : List ℕ) (mask : ℕ → ℕ) (flag : ℕ → Bool) (answer : ℕ → Answer) : Type 0 where
  pub read : Table
  pub next : ℕ
  pub holds : table bytes 0 ≡ got read next
  pub counts : Choice
  pub least : Least (tasks_of read) (phases_of (tasks_of read)) (Works (tasks_of read) (phases_of (tasks_of read))) counts
  pub kept : Kept (tasks_of read) counts (λ t. request_of (mask t) (flag t)) (λ t. answer_in (answer t))
