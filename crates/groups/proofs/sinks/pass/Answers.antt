use Rattle.std.proofs.Common.{refl, arith}
use Rattle.groups.proofs.Passes.{begins_each, part_fits, part_passed, all_each_passed}
use Rattle.groups.proofs.sinks.pass.Goals as goal

pub loop-value-init : goal.loop-value-init
loop-value-init g c = (begins_each g.S.Sink.laws _ c.requires.room, omega arith)

pub number-requires-clause-room : goal.number-requires-clause-room
number-requires-clause-room g c = part_fits g.S.Sink.laws c.loop-value.invariant.0 refl c.loop-value-test.true

pub loop-value-preserved : goal.loop-value-preserved
loop-value-preserved g c = (part_passed g.S.Sink.laws c.loop-value.invariant.0 refl c.number.ensures, omega arith)

pub returns : goal.returns
returns g c = all_each_passed _ c.loop-value.invariant.0 (omega arith)
