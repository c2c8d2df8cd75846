-- `writer::numbers` meets its contract: the number of tasks, and a pass over the tasks, one a turn. Assumes nothing.
use Rattle.groups.proofs.Passes.{Passing}
use Rattle.writer.specs.Written.{task_items}
use Rattle.writer.proofs.numbers.Given as goal

abbrev pub invariant-loop-i : goal.invariant-loop-i
invariant-loop-i g l = let s = g.S.Sink in Passing s.takes s.passed l.initial.sink l.table.tasks (task_items l.table) l.sink l.i
