-- DEFINITIONS. A mask given bit by bit, and how many of its bits are set.
-- Assumes nothing.
use Rattle.std.specs.Prelude.{Bool, cond, ℕ, zero, suc, ◌+◌, ◌*◌, ◌/◌, ◌%◌, ◌^◌, eqb}

-- 1 for true and 0 for false
abbrev pub digit : Bool → ℕ
digit b = cond b 1 0

-- bit i of a number, bit 0 the lowest
abbrev pub bit : ℕ → ℕ → Bool
bit m i = eqb (m / 2 ^ i % 2) 1

-- the number below 2 ^ n whose bit i is p i
unfoldable pub mask_of : ℕ → (ℕ → Bool) → ℕ
mask_of zero p = 0
mask_of (suc n) p = digit (p n) * 2 ^ n + mask_of n p

-- how many of p 0, .., p (n - 1) hold
unfoldable pub count_of : ℕ → (ℕ → Bool) → ℕ
count_of zero p = 0
count_of (suc n) p = digit (p n) + count_of n p
