-- `filled` meets its contract. The invariant: the first places have what f gives for them.
-- Assumes nothing.
use Rattle.std.proofs.Common.{◌≡◌, get_or, length}
use Rattle.finite.specs.Finite.{Below}
use Rattle.pieces.proofs.counts.filled.Given as goal

abbrev pub invariant-loop-place : goal.invariant-loop-place
invariant-loop-place g l = (length l.all ≡ g.row.N) × Below l.place (λ p. goal.F-post g l.f p (get_or l.all p 0))
