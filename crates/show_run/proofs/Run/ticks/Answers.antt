use Rattle.std.proofs.Common.{refl, arith}
use Rattle.show_run.proofs.Ticking.{stays, ticks_on}
use Rattle.show_run.proofs.Run.ticks.Goals as goal

pub loop-at-init : goal.loop-at-init
loop-at-init g c = record { within = omega arith; ran = stays _ _ refl }

pub returns-in_err-take_tick-in-Ok-clause-ran : goal.returns-in_err-take_tick-in-Ok-clause-ran
returns-in_err-take_tick-in-Ok-clause-ran g c = ticks_on _ _ _ c.loop-at.invariant.ran c.take_tick.ensures

pub loop-at-preserved : goal.loop-at-preserved
loop-at-preserved g c = record { within = omega arith; ran = ticks_on _ _ _ (ticks_on _ _ _ c.loop-at.invariant.ran c.take_tick.ensures) (stays _ _ refl) }
