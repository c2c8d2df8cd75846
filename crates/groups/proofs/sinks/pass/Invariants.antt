-- `pass` meets its contract: a pass over the values, one a turn. Assumes nothing.
use Rattle.std.proofs.Common.{◌≤◌, length}
use Rattle.groups.proofs.Passes.{Passing, each}
use Rattle.groups.proofs.sinks.pass.Given as goal

abbrev pub invariant-loop-value : goal.invariant-loop-value
invariant-loop-value g l = let s = g.S.Sink in
    Passing s.takes s.passed l.initial.sink (length l.values) (each l.values) l.sink l.value-index × (l.value-index ≤ length l.values)
