-- `first_stuck` meets its contract. The invariant: none of the tasks before task i has a stuck phase.
-- Assumes nothing.
use Rattle.table.specs.TaskModel.{arrays_of}
use Rattle.walk.specs.Stuck.{StuckTask}
use Rattle.walk.proofs.laws.Stuck.{Searching}
use Rattle.walk.proofs.stuck.first_stuck.Given as goal

abbrev pub invariant-loop-i : goal.invariant-loop-i
invariant-loop-i l = Searching l.table.tasks (StuckTask (arrays_of l.table) l.t l.margin) l.i
