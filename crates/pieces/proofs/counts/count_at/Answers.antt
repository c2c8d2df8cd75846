-- `count_at` meets its contract: a count is at most the work.
-- Assumes nothing.
use native.Mathlib.Omega.{arith}
use Rattle.pieces.specs.laws.Counts.{count_least}
use Rattle.pieces.proofs.counts.count_at.Goals as goal

pub overflow_cast-result : goal.overflow_cast-result
overflow_cast-result c = omega (arith, (count_least _ _ _ c.requires.1 _ c.if-table-i.false c.if-table-i-2.false c.need_at.ensures).1)
