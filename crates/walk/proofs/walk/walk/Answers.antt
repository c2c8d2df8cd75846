use native.Mathlib.Omega.{arith}
use Rattle.walk.proofs.laws.Ends.{standing_more, standing_ready, standing_refuses, standing_small, standing_start, standing_stop}
use Rattle.walk.proofs.walk.walk.Goals as goal

pub loop-t-init : goal.loop-t-init
loop-t-init c = standing_start c.requires c.first_deadlines.ensures c.front-t.ensures

pub take_point-taken-requires : goal.take_point-taken-requires
take_point-taken-requires c = standing_ready c.loop-t.invariant (omega (arith, c.loop-t-test.true))

pub overflow_add-demand : goal.overflow_add-demand
overflow_add-demand c = omega (arith, standing_small c.loop-t.invariant, c.take_point-taken.ensures.budgets.most)

pub overflow_add-points : goal.overflow_add-points
overflow_add-points c = omega (arith, standing_small c.loop-t.invariant)

pub judge_point-requires : goal.judge_point-requires
judge_point-requires c = standing_stop c.loop-t.invariant _

pub returns-in-Some : goal.returns-in-Some
returns-in-Some c = standing_refuses c.loop-t.invariant (omega (arith, c.loop-t-test.true)) c.take_point-taken.ensures c.in-Some.ensures

pub loop-t-preserved : goal.loop-t-preserved
loop-t-preserved c = standing_more c.loop-t.invariant (omega (arith, c.loop-t-test.true)) c.take_point-taken.ensures c.in_default.ensures c.min-low.ensures
