use native.Mathlib.Omega.{arith}
use Rattle.table.specs.Parse.{phase}
use Rattle.table.proofs.ItemLaws.{stops}
use Rattle.table.proofs.Steps.{again, no_more, finish}
use Rattle.table.proofs.items.Reader.phases.Goals as goal

pub returns-in_err-phase : goal.returns-in_err-phase
returns-in_err-phase c = stops _ _ (c.loop-k.invariant _ _ (no_more phase (omega arith) c.in_err-phase.ensures)) c.from_residual.ensures.1

pub loop-k-preserved : goal.loop-k-preserved
loop-k-preserved c = λ a r x. c.loop-k.invariant a r (again phase (omega arith) c.in_ok-phase.ensures x)

pub returns : goal.returns
returns c = c.loop-k.invariant _ _ (finish phase (omega arith))
