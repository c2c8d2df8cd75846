use native.Mathlib.Omega.{arith}
use borrow.Author.Rules.{rules}
use Rattle.walk.proofs.laws.Deadlines.{moving_all, moving_more}
use Rattle.walk.proofs.deadlines.pass.Goals as goal

pub loop-i-preserved : goal.loop-i-preserved
loop-i-preserved c = moving_more c.loop-i.invariant (search rules) (omega arith) c.move_on-moved.ensures

pub returns : goal.returns
returns c = moving_all c.loop-i.invariant (omega arith)
