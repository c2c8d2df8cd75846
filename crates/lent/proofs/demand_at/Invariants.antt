-- `lent::demand_at` meets its contract. The invariant: the running answer is that of the tasks looked at. Assumes nothing.
use Rattle.std.proofs.Common.{◌≡◌, Some}
use Rattle.lent.specs.laws.Running.{told, up_to}
use Rattle.lent.proofs.demand_at.Given as goal

abbrev pub invariant-loop-task : goal.invariant-loop-task
invariant-loop-task l = Some l.sum ≡ told (up_to l.tasks l.t l.task-index)
