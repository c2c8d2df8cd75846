-- `longest_of` meets its contract. The invariant is `Rising`: the largest of the first j phases, and bounded.
-- Assumes nothing.
use Rattle.model.specs.Arrays.{phase_at}
use Rattle.table.specs.TaskModel.{tasks_of}
use Rattle.pieces.specs.laws.Loops.{Rising}
use Rattle.pieces.proofs.task.longest_of.Given as goal

abbrev pub invariant-loop-j : goal.invariant-loop-j
invariant-loop-j l = Rising (tasks_of l.table) (phase_at l.counts) l.i l.j l.top
