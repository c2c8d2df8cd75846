-- `add_up` meets its contract. The invariant is `AddingUp`: the tasks of the mask that are not among the rest are added up. The measure is the rest.
-- Assumes nothing.
use Rattle.table.specs.TaskModel.{arrays_of}
use Rattle.walk.proofs.laws.Budgets.{AddingUp}
use Rattle.walk.proofs.points.add_up.Given as goal

abbrev pub invariant-loop-rest : goal.invariant-loop-rest
invariant-loop-rest l = AddingUp (arrays_of l.table) l.t l.low l.mask l.initial.known l.rest l.known l.added

abbrev pub decreases-loop-rest : goal.decreases-loop-rest
decreases-loop-rest l = l.rest
