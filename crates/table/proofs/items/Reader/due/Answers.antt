-- `due` meets its contract: what is found, and the range that `tested` tests. Assumes nothing.
use Rattle.std.proofs.Common.{arith}
use Rattle.std.proofs.lemmas.Grind.{common_steps}
use Rattle.table.proofs.ItemLaws.{none, outside, inside}
use Rattle.table.proofs.items.Reader.due.Goals as goal

pub returns-in_default-clause-is : goal.returns-in_default-clause-is
returns-in_default-clause-is c = none _ _ _ _ c.found-found.ensures c.in_default.is

pub returns-then-not-contains-clause-is : goal.returns-then-not-contains-clause-is
returns-then-not-contains-clause-is c = outside _ _ _ _ c.found-found.ensures c.in-Ok.is (λ low high. grind (arith, common_steps))

pub returns-clause-is : goal.returns-clause-is
returns-clause-is c = inside _ _ _ _ c.found-found.ensures c.in-Ok.is (grind (arith, common_steps)) (grind (arith, common_steps))
