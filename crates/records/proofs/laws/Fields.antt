-- What it means that every field of a record is in its range: what no tick changes of it is, and its state is one that the rules keep.
-- Assumes nothing.
use Rattle.std.specs.Prelude.{ℕ, ◌≤◌, get_or}
use Rattle.promise.proofs.laws.Range.{Range}
use Rattle.promise.proofs.laws.Remaining.{Proper}
use Rattle.records.specs.Record.{state_in}
use Rattle.records.specs.Held.{HeldInRange, counts_in, held_in, tasks_in}
pub use Rattle.records.specs.Record.{Long}
use Rattle.records.specs.declared.Dispatcher.{Dispatcher}

-- THE RANGE OF A RECORD, as the rules and the argument ask it; laws/InRange proves that the test `inRange` decides it
pub record Fields (d : Dispatcher) : Type 0 where
  pub held : HeldInRange (held_in d)
  pub state : Range (tasks_in d) (state_in d)
  pub jobs : Proper (tasks_in d) (counts_in d) (state_in d)
  pub binary : (i : ℕ) → get_or d.unfinished i 0 ≤ 1
