-- `answer::task` meets its contract: a pass over the counts, one a turn, and the longest piece behind them. Assumes nothing.
use Rattle.std.proofs.Common.{◌≤◌, length}
use Rattle.groups.proofs.Passes.{Passing, each}
use Rattle.answer.proofs.task.Given as goal

abbrev pub invariant-loop-count : goal.invariant-loop-count
invariant-loop-count g l = let s = g.S.Sink in
    Passing s.takes s.passed l.initial.sink (length l.counts) (each l.counts) l.sink l.count-index × (l.count-index ≤ length l.counts)
