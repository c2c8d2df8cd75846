-- `lacking` meets its contract. The invariant: the phases before phase j have room.
-- Assumes nothing.
use Rattle.std.specs.Prelude.{◌≡◌, false, get_or}
use Rattle.model.specs.Phase.{phases_of}
use Rattle.table.specs.TaskModel.{tasks_of}
use Rattle.walk.proofs.laws.Stuck.{Searching}
use Rattle.walk.proofs.stuck.lacking.Given as goal

abbrev pub invariant-loop-j : goal.invariant-loop-j
invariant-loop-j l = Searching (get_or l.table.phases l.i 0) (λ k. (phases_of (tasks_of l.table)).room l.i k l.margin ≡ false) l.j
