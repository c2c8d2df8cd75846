-- The measure of `gcd` is its second number.
-- Assumes nothing.
use Rattle.table.proofs.horizon.+gcd.Given as goal

abbrev pub decreases-gcd : goal.decreases-gcd
decreases-gcd l = l.b
