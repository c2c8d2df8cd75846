use Rattle.std.proofs.Common.{arith}
use Rattle.groups.proofs.Writing.{counted_more, counted_last, counted_full}
use Rattle.groups.proofs.size.Goals as goal

pub returns-then-rest-lt128 : goal.returns-then-rest-lt128
returns-then-rest-lt128 c = let l = c.loop-n in omega (arith, l.invariant, counted_last l.n l.rest c.if-rest-lt128.true)

pub loop-n-preserved : goal.loop-n-preserved
loop-n-preserved c = let l = c.loop-n in omega (arith, l.invariant, counted_more l.n l.rest c.loop-n-test.true c.if-rest-lt128.false)

pub returns : goal.returns
returns c = let l = c.loop-n in omega (arith, l.invariant, counted_full l.n l.rest c.loop-n-test.false)
