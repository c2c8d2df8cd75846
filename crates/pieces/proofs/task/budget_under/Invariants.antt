-- `budget_under` meets its contract. The invariant is `Adding`: the sum is that of the first j phases, and bounded.
-- Assumes nothing.
use Rattle.table.specs.TaskModel.{tasks_of}
use Rattle.pieces.specs.laws.Loops.{Adding}
use Rattle.pieces.proofs.task.budget_under.Given as goal

abbrev pub invariant-loop-j : goal.invariant-loop-j
invariant-loop-j l = Adding (tasks_of l.table) l.margin l.i l.j l.sum
