-- `longests` meets its contract, place by place.
-- Assumes nothing.
use Rattle.std.proofs.Common.{rules}
use Rattle.finite.proofs.laws.Lists.{list_by_place}
use Rattle.pieces.proofs.counts.longests.Goals as goal

pub returns : goal.returns
returns c = list_by_place 32 _ _ 0 c.filled.ensures.long (λ k l. let h = c.filled.ensures.each k l in search rules)
