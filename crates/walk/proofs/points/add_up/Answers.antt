use native.Mathlib.Omega.{arith}
use borrow.Author.Rules.{rules}
use Rattle.walk.proofs.laws.Budgets.{adding_all, adding_fits, adding_more, adding_none}
use Rattle.walk.proofs.points.add_up.Goals as goal

pub loop-rest-init : goal.loop-rest-init
loop-rest-init c = adding_none c.requires

pub overflow_add-added : goal.overflow_add-added
overflow_add-added c = omega (arith, adding_fits c.loop-rest.invariant c.first_of-i.ensures c.take-added.ensures)

pub loop-rest-preserved : goal.loop-rest-preserved
loop-rest-preserved c = adding_more c.loop-rest.invariant c.first_of-i.ensures c.take-added.ensures (search rules) (search rules) c.others_of-rest.ensures

pub returns : goal.returns
returns c = adding_all c.loop-rest.invariant (omega (arith, c.loop-rest-test.false))
