-- DEFINITIONS. What each of the four steps of a tick promises of a record in range: the record after it and its answer are those of that step of the
-- rules. Each step but the last leaves a record in range, which the next one asks for.
-- Assumes nothing.
use Rattle.std.specs.Prelude.{◌≡◌, Bool, true, ℕ}
use Rattle.finite.specs.Masks.{bit, mask_of}
use Rattle.records.specs.Ranges.{in_range}
use Rattle.records.specs.Record.{record_of, state_in}
use Rattle.records.specs.Held.{counts_in, held_in, tasks_in}
use Rattle.records.specs.declared.Dispatcher.{Dispatcher}
use Rattle.dispatch.specs.declared.steps.Ran.{Ran}
use Rattle.promise.specs.Rules as rules

-- the record that holds what d holds, its table and counts, in another state
abbrev pub in_state : Dispatcher → rules.State → Dispatcher
in_state d s = record_of (held_in d) s

-- 1. Admission: a job of each task let in begins. What is answered is the mask of those let in.
pub record Admits (d : Dispatcher) (asked : ℕ) (next : Dispatcher) (entered : ℕ) : Type 0 where
  pub moved : next ≡ in_state d (rules.admit (tasks_in d) (bit asked) (state_in d))
  pub answered : entered ≡ mask_of 32 (rules.lets_in (tasks_in d) (state_in d) (bit asked))
  pub kept : in_range next ≡ true

-- 2. If no piece runs, the unfinished job with least time left starts its next piece.
pub record Picks (d : Dispatcher) (next : Dispatcher) : Type 0 where
  pub moved : next ≡ in_state d (rules.pick (tasks_in d) (counts_in d) (state_in d))
  pub kept : in_range next ≡ true

-- what a tick answers of the piece that ran
abbrev pub ran_of : rules.Answer → Ran
ran_of a = record { task = a.ran; phase = a.phase; piece = a.piece; ended = a.ended; finished = a.finished }

-- 3. The running piece uses one tick. What is answered is what ran and what became of it, whoever was let in before.
pub record WorksOn (d : Dispatcher) (flag : Bool) (next : Dispatcher) (ran : Ran) : Type 0 where
  pub moved : next ≡ in_state d (rules.work_at (tasks_in d) (counts_in d) flag (state_in d) d.running)
  pub answered : (entered : ℕ → Bool) → ran ≡ ran_of (rules.answer_by (tasks_in d) (counts_in d) entered flag (state_in d) d.running)
  pub kept : in_range next ≡ true

-- 4. Spacing counts rise by one and times left fall by one, within their stops.
pub record Elapses (d : Dispatcher) (next : Dispatcher) : Type 0 where
  pub moved : next ≡ in_state d (rules.elapse (tasks_in d) (state_in d))
