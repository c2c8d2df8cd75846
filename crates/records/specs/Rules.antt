-- The tick's rules on the record, as the loops over its arrays compute. Nobody need believe them: dispatch proves that they are the rules of promise.
-- Assumes nothing.
use Rattle.std.specs.Prelude.{Bool, not, cond, ◌&&◌, ◌||◌, ℕ, zero, suc, ◌+◌, ◌-◌, ◌*◌, leb, ltb, eqb, get_or}
use Rattle.finite.specs.Masks.{bit}
use Rattle.model.specs.Phase.{piece_length}
use Rattle.records.specs.declared.Dispatcher.{Dispatcher}
use Rattle.records.specs.declared.rules.Due.{Due}

-- whether task i, of the mask's bit i, is let in
abbrev pub enters_of : Dispatcher → (mask i : ℕ) → Bool
enters_of d mask i = bit mask i && ltb i d.tasks && not (eqb (get_or d.unfinished i 0) 1) && leb (get_or d.spacing i 0) (get_or d.since i 0)

-- whether task i (from 0) is to go before the best so far (from 1; 0 for none), which has time left `least`
abbrev pub goes_before : Dispatcher → (i best least : ℕ) → Bool
goes_before d i best least = eqb (get_or d.unfinished i 0) 1 && (eqb best 0 || ltb (get_or d.left i 0) least)

-- the task (from 1) of the unfinished job with least time left among the first n tasks, on equal time left the lower number; 0 when there is none
unfoldable pub urgent_of : Dispatcher → ℕ → ℕ
urgent_of d zero = 0
urgent_of d (suc i) = cond (goes_before d i (urgent_of d i) (get_or d.left (urgent_of d i - 1) 0)) (suc i) (urgent_of d i)

-- the place of a task's (from 1) running or next due phase in the arrays of 256
abbrev pub place_of : Dispatcher → (task : ℕ) → ℕ
place_of d task = 8 * (task - 1) + (get_or d.phase (task - 1) 0 - 1)

-- the ticks of its running or next due piece, as the model has the length of a piece
abbrev pub ticks_of : Dispatcher → (task : ℕ) → ℕ
ticks_of d task =
    piece_length (get_or d.work (place_of d task) 0) (get_or d.cost (place_of d task) 0) (get_or d.counts (place_of d task) 0)
    (get_or d.piece (task - 1) 0 - 1)

-- that piece: its phase and number, how many pieces its phase has, and how many phases the job
abbrev pub due_of : Dispatcher → (task : ℕ) → Due
due_of d task = record {
  task = task;
  phase = get_or d.phase (task - 1) 0;
  piece = get_or d.piece (task - 1) 0;
  pieces = get_or d.counts (place_of d task) 0;
  phases = get_or d.phases (task - 1) 0;
}
