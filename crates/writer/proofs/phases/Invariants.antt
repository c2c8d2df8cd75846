-- `writer::phases` meets its contract: a pass over the phases, one a turn. Assumes nothing.
use Rattle.std.proofs.Common.{◌+◌}
use Rattle.groups.proofs.Passes.{Passing}
use Rattle.writer.specs.Written.{phase_items}
use Rattle.writer.proofs.phases.Given as goal

abbrev pub invariant-loop-j : goal.invariant-loop-j
invariant-loop-j g l = let s = g.S.Sink in
    Passing s.takes s.passed l.initial.sink l.count (λ k. phase_items l.table.work l.table.cost (l.first + k)) l.sink l.j
