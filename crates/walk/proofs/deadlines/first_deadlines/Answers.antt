-- `first_deadlines` meets its contract: each element's conversion keeps its value.
-- Assumes nothing.
use Rattle.std.proofs.Common.{rules, arith}
use lib.Seq.{ext_get_or}
use Rattle.walk.proofs.deadlines.first_deadlines.Goals as goal

pub returns : goal.returns
returns c = ext_get_or 0 _ _ (search rules) (λ i l. let converted = c.map.ensures.items.at i 0 0 (omega (arith, c.map.ensures.items.long)) in search rules)
