-- DEFINITIONS. What a run of the dispatcher over an input starts with, and what the input's ticks do to it. Assumes nothing.
use Rattle.std.specs.Prelude.{◌≡◌, ℕ, ◌+◌, ◌%◌, ◌^◌, ◌≤◌, Bool, List, length, slice_range}
use Rattle.std.specs.List.{FoldsTo}
use Rattle.dispatch.specs.Tick.{Ticks}
use Rattle.dispatch.specs.declared.Answer.{Answer}
use Rattle.records.specs.declared.Dispatcher.{Dispatcher}
use Rattle.start.specs.Start.{Starts}
use Rattle.start.specs.declared.How.TheVariants.{Ready}
use Rattle.start.specs.declared.Started.{Started}
use Rattle.show_run.specs.declared.Run.{Run}

-- what a tick is asked: a release mask and a flag
pub record Request : Type 0 where
  pub mask : ℕ
  pub flag : Bool

-- the dispatcher's record and the number of the next tick
pub record Stage : Type 0 where
  pub dispatcher : Dispatcher
  pub tick : ℕ

-- one tick
pub record OneTick (p : Stage) (r : Request) (q : Stage) : Type 0 where
  pub answer : Answer
  pub ticks : Ticks p.dispatcher r.mask r.flag q.dispatcher answer
  pub counted : q.tick ≡ (p.tick + 1) % 2 ^ 64

abbrev pub stage_of : Run → Stage
stage_of run = record { dispatcher = run.dispatcher; tick = run.tick }

-- ticks alone took one run's record and number to the other's
pub record AfterTicks (old new : Run) : Type 0 where
  pub requests : List Request
  pub each : FoldsTo OneTick (stage_of old) requests (stage_of new)

-- A run's first tick, on a table: the dispatcher was started on it, and was ready.
pub record StartsOn (table : List ℕ) (run : Run) : Type 0 where
  pub start : Started
  pub starts : Starts table start
  pub ready : start.how ≡ Ready
  pub dispatcher_is : run.dispatcher ≡ start.dispatcher
  pub first : run.tick ≡ 0

-- A run that begins on an input starts on the table that ends where its ticks begin.
pub record Begins (input : List ℕ) (run : Run) : Type 0 where
  pub within : run.place ≤ length input
  pub from : ℕ
  pub starts : StartsOn (slice_range input from run.place) run
