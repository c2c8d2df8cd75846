-- `answer::tasks` meets its contract: a pass over the tasks, one a turn. Assumes nothing.
use Rattle.std.proofs.Common.{◌*◌, get_or}
use Rattle.groups.proofs.Passes.{Passing}
use Rattle.answer.specs.Answer.{task_numbers}
use Rattle.answer.proofs.tasks.Given as goal

abbrev pub invariant-loop-i : goal.invariant-loop-i
invariant-loop-i g l = let s = g.S.Sink in
    Passing s.takes s.passed l.initial.sink l.table.tasks (λ i. task_numbers l.counts (8 * i) (get_or l.table.phases i 0) (get_or l.longest i 0)) l.sink l.i
