-- The laws of masks, and of the number of their ones.
-- Assumes nothing.
use Rattle.std.specs.Prelude.{◌≡◌, refl, Bool, true, false, not, ◌&&◌, ℕ, zero, suc, ◌+◌, ◌-◌, ◌*◌, ◌/◌, ◌%◌, ◌^◌, ◌<◌, eqb}
use Rattle.std.proofs.Common.{sym, ap, ap₂, ◌∙◌, ⊎_elim, mod-lt, mod-eq_of_lt, lt_of_lt_of_le, add-one, one-add, arith, lit<, pow_mono, shl_exact}
use Rattle.std.proofs.lemmas.Bool.{false≢true}
use Rattle.std.proofs.Math.Nat.{pow-succ', mod-one}
use Rattle.std.proofs.Math.Arith.{digits_lt}
use Rattle.std.proofs.Math.Pow.{high, low, field, mod-mod-pow}
use Rattle.std.proofs.lemmas.Nat.{mod-pow-add, ones_cat}
use Rattle.std.specs.Int.Count.{ones, ones_in}
use Rattle.finite.specs.Masks.{digit, bit, mask_of, count_of}
use Rattle.finite.proofs.laws.Lists.{last_or_below}

digit_lt : (b : Bool) → digit b < 2
digit_lt true = lit< tt
digit_lt false = lit< tt

digit_bit : (b : Bool) → eqb (digit b % 2) 1 ≡ b
digit_bit true = refl
digit_bit false = refl

bit_digit : (x : ℕ) → x < 2 → digit (eqb x 1) ≡ x
bit_digit zero h = refl
bit_digit (suc zero) h = refl
bit_digit (suc (suc x)) h = absurd (omega arith)

ones_digit : (b : Bool) → ones (digit b) ≡ digit b
unfolding ones ones_in
ones_digit true = refl
ones_digit false = refl

pub mask_of_lt : (n : ℕ) (p : ℕ → Bool) → mask_of n p < 2 ^ n
unfolding mask_of
mask_of_lt zero p = lit< tt
mask_of_lt (suc n) p = rw pow-succ' (digits_lt (digit_lt (p n)) (mask_of_lt n p))

-- the ones of a mask are as many as the bits asked for
pub ones_mask_of : (n : ℕ) (p : ℕ → Bool) → ones (mask_of n p) ≡ count_of n p
unfolding mask_of count_of
ones_mask_of zero p = ones_digit false
ones_mask_of (suc n) p = ones_cat n (digit (p n)) (mask_of n p) (mask_of_lt n p) ∙ ap₂ ◌+◌ (ones_digit (p n)) (ones_mask_of n p)

-- a bit below n is a bit of the remainder by 2 ^ n
pub bit_mod : (n m i : ℕ) → i < n → bit (m % 2 ^ n) i ≡ bit m i
bit_mod n m i h =
    let e : n ≡ (n - (1 + i)) + (1 + i) = omega arith in
    let f : m % 2 ^ n % 2 ^ (1 + i) ≡ m % 2 ^ (1 + i) = rw e (mod-mod-pow m (n - (1 + i)) (1 + i)) in
    ap (λ (x : ℕ). eqb x 1) (sym (field (m % 2 ^ n) 1 i) ∙ ap (λ (x : ℕ). x / 2 ^ i) f ∙ field m 1 i)

pub bit_mask_of : (n : ℕ) (p : ℕ → Bool) (i : ℕ) → i < n → bit (mask_of n p) i ≡ p i
unfolding mask_of
bit_mask_of zero p i h = absurd (omega arith)
bit_mask_of (suc n) p i h =
    ⊎_elim
    (λ e. rw e (rw (high (digit (p n)) n (mask_of_lt n p)) (digit_bit (p n))))
    (λ l. sym (bit_mod n _ i l) ∙ rw (low (digit (p n)) n (mask_of_lt n p)) (bit_mask_of n p i l))
    (last_or_below h)

-- a number below 2 ^ n is given by its bits
pub mask_of_bits : (n m : ℕ) → mask_of n (bit m) ≡ m % 2 ^ n
unfolding mask_of
mask_of_bits zero m = sym (mod-one m)
mask_of_bits (suc n) m = rw (mask_of_bits n m, bit_digit (m / 2 ^ n % 2) (mod-lt _ (lit< tt)), ← one-add n) (sym (mod-pow-add m 1 n))

rest_digit : (a b : Bool) (x u v w : ℕ) → (a ≡ true → b ≡ true) → u + v ≡ w → digit a * x + u + (digit (b && not a) * x + v) ≡ digit b * x + w
rest_digit true true x u v w h e = omega arith
rest_digit true false x u v w h e = absurd (false≢true (h refl))
rest_digit false true x u v w h e = omega arith
rest_digit false false x u v w h e = omega arith

-- what is asked for, less what is let in, is what is left
pub mask_of_rest : (n : ℕ) (p q : ℕ → Bool) → ((i : ℕ) → i < n → p i ≡ true → q i ≡ true) → mask_of n p + mask_of n (λ i. q i && not (p i)) ≡ mask_of n q
unfolding mask_of
mask_of_rest zero p q h = refl
mask_of_rest (suc n) p q h =
    rest_digit (p n) (q n) (2 ^ n) (mask_of n p) (mask_of n (λ i. q i && not (p i))) (mask_of n q)
    (h n (omega arith))
    (mask_of_rest n p q (λ i l. h i (omega arith)))

pub mask_of_alike : (n : ℕ) (p q : ℕ → Bool) → ((i : ℕ) → i < n → p i ≡ q i) → mask_of n p ≡ mask_of n q
unfolding mask_of
mask_of_alike zero p q h = refl
mask_of_alike (suc n) p q h = rw (h n (omega arith), mask_of_alike n p q (λ i l. h i (omega arith)))

-- one bit more, as a machine of 32 bits makes it
pub one_shifted : (i : ℕ) → i < 32 → (1 * 2 ^ i) % 2 ^ 32 ≡ 1 * 2 ^ i
one_shifted i h = shl_exact 1 i 32 (lit< tt) (omega arith)

pub more_fits : (i m : ℕ) → i < 32 → m < 2 ^ i → (1 * 2 ^ i) % 2 ^ 32 + m < 2 ^ 32
more_fits i m h l =
    rw (one_shifted i h)
    (lt_of_lt_of_le (digits_lt {q = 1} {m = 2} (lit< tt) l) (rw (← pow-succ' 2 i) (pow_mono h)))

-- a loop that makes a mask
pub mask_of_more : (i : ℕ) (p : ℕ → Bool) (m v : ℕ) → m ≡ mask_of i p → v ≡ digit (p i) * 2 ^ i + m → v ≡ mask_of (i + 1) p
unfolding mask_of
mask_of_more i p m v e g = g ∙ rw (add-one, e)

pub mask_of_none : (p : ℕ → Bool) → 0 ≡ mask_of 0 p
unfolding mask_of
mask_of_none p = refl

-- what is let in is at most what is asked for, and the difference is what is turned away
pub asked_split : (n m : ℕ) (p : ℕ → Bool) → m < 2 ^ n → ((i : ℕ) → i < n → p i ≡ true → bit m i ≡ true) → mask_of n p + mask_of n (λ i. bit m i && not (p i)) ≡ m
asked_split n m p l h = mask_of_rest n p (bit m) h ∙ mask_of_bits n m ∙ mod-eq_of_lt l
