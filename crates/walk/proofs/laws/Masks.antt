-- A mask with one bit more, and the lowest bit of a mask.
-- Assumes nothing.
use Rattle.std.specs.Prelude.{◌≡◌, refl, true, false, ℕ, zero, suc, ◌+◌, ◌-◌, ◌*◌, ◌/◌, ◌%◌, ◌^◌, ◌≤◌, ◌<◌, eqb}
use Rattle.std.proofs.Common.{sym, ap, ◌∙◌, ⊎_elim, lt_of_lt_of_le, add-one, arith, lit<, pow_mono}
use Rattle.std.proofs.Math.Nat.{div-eq_of_lt, pow-succ'}
use Rattle.std.proofs.Math.Arith.{digits_lt}
use Rattle.std.specs.Int.Bits.{bit_and, and_self, and_step}
use Rattle.std.proofs.lemmas.Nat.{and_le_r}
use Rattle.std.proofs.lemmas.Nat.Bits.{bit_at-suc, bit_at-trailing_zeros, bit_at-zero, bit_at_lowest}
use Rattle.std.proofs.Common.{w32}
use Rattle.std.specs.Int.Count.{count_trailing_zeros, under}
use Rattle.std.proofs.Math.Pow.{high, low}
use Rattle.finite.specs.Masks.{bit}
use Rattle.finite.proofs.laws.Masks.{bit_mod, one_shifted}
use Rattle.finite.proofs.laws.Tests.{le_or_lt}
use Rattle.model.specs.Ranges.{tasks_most}
use Rattle.walk.specs.Masks.{BitPut, FirstOf, OthersOf, lowest}

-- ---- bits

-- a bit of half the number is the next bit of the number
bit_half : (m i : ℕ) → bit m (suc i) ≡ bit (m / 2) i
bit_half m i = ap (λ (x : ℕ). eqb x 1) (bit_at-suc m i)

-- no bit from n on in a number below 2 ^ n
pub bit_beyond : {m n : ℕ} → m < 2 ^ n → (i : ℕ) → n ≤ i → bit m i ≡ false
bit_beyond {m} {n} l i le = ap (λ (x : ℕ). eqb (x % 2) 1) (div-eq_of_lt (lt_of_lt_of_le l (pow_mono le)))

pub bit_none : (i : ℕ) → bit 0 i ≡ false
bit_none i = ap (λ (x : ℕ). eqb x 1) (bit_at-zero i)

bit_low : (m : ℕ) → bit m 0 ≡ eqb (m % 2) 1
bit_low m = ap (λ (x : ℕ). eqb x 1) (bit_at_lowest m)

-- ---- one bit more, above all that the mask has

more_less : (i m : ℕ) → m < 2 ^ i → 1 * 2 ^ i + m < 2 ^ (i + 1)
more_less i m l = rw (add-one, pow-succ') (digits_lt {q = 1} {m = 2} (lit< tt) l)

module _ {i m : ℕ} (l : m < 2 ^ i) where
  more_below : (k : ℕ) → k < i → bit (1 * 2 ^ i + m) k ≡ bit m k
  more_below k h = sym (bit_mod i (1 * 2 ^ i + m) k h) ∙ ap (λ (x : ℕ). bit x k) (low 1 i l)

  more_above : (k : ℕ) → i < k → bit (1 * 2 ^ i + m) k ≡ bit m k
  more_above k h = bit_beyond (more_less i m l) k (omega arith) ∙ sym (bit_beyond l k (omega arith))

  more_put : BitPut i true m (1 * 2 ^ i + m)
  more_put =
      record {
        here = ap (λ (x : ℕ). eqb (x % 2) 1) (high 1 i l);
        elsewhere = λ k ne. ⊎_elim (λ (le : k ≤ i). more_below k (omega arith)) (λ (h : i < k). more_above k h) (le_or_lt k i);
      }

-- as a machine of 32 bits makes it
pub marks : {i m r : ℕ} → i < tasks_most → m < 2 ^ i → r ≡ (1 * 2 ^ i) % 2 ^ 32 + m → BitPut i true m r × (r < 2 ^ (i + 1))
marks {i} {m} h l e = rw (e, one_shifted i h) (more_put l, more_less i m l)

-- ---- a number without its lowest bit

module _ (m : ℕ) where
  -- the digits of an odd number
  odd_rest : m % 2 ≡ 1 → bit_and m (m - 1) ≡ m / 2 * 2
  odd_rest e =
      let a : (m - 1) / 2 ≡ m / 2 = omega arith in
      let b : (m - 1) % 2 ≡ 0 = omega arith in
      and_step m (m - 1) ∙ rw (a, b, e, and_self) (omega arith)

  even_rest : 0 < m → m % 2 ≡ 0 → bit_and m (m - 1) ≡ bit_and (m / 2) (m / 2 - 1) * 2
  even_rest p e =
      let a : (m - 1) / 2 ≡ m / 2 - 1 = omega arith in
      let b : (m - 1) % 2 ≡ 1 = omega arith in
      and_step m (m - 1) ∙ rw (a, b, e) (omega arith)

  odd_lowest : m % 2 ≡ 1 → BitPut 0 false m (bit_and m (m - 1))
  odd_lowest e =
      let r : ℕ = bit_and m (m - 1) in
      let half : r / 2 ≡ m / 2 = omega (arith, odd_rest e) in
      let even : r % 2 ≡ 0 = omega (arith, odd_rest e) in
      record { here = bit_low r ∙ ap (λ (x : ℕ). eqb x 1) even; elsewhere = other half }
    where
      other : bit_and m (m - 1) / 2 ≡ m / 2 → (k : ℕ) → (k ≡ 0 → ⊥) → bit (bit_and m (m - 1)) k ≡ bit m k
      other half zero ne = absurd (ne refl)
      other half (suc k) ne = bit_half (bit_and m (m - 1)) k ∙ ap (λ (x : ℕ). bit x k) half ∙ sym (bit_half m k)

  even_lowest : (i : ℕ) → 0 < m → m % 2 ≡ 0 → BitPut i false (m / 2) (bit_and (m / 2) (m / 2 - 1)) → BitPut (suc i) false m (bit_and m (m - 1))
  even_lowest i p e ih =
      record { here = bit_half r i ∙ ap (λ (x : ℕ). bit x i) half ∙ ih.here; elsewhere = other }
    where
      r : ℕ
      r = bit_and m (m - 1)

      half : bit_and m (m - 1) / 2 ≡ bit_and (m / 2) (m / 2 - 1)
      half = let f = even_rest p e in omega arith

      even : bit_and m (m - 1) % 2 ≡ 0
      even = let f = even_rest p e in omega arith

      other : (k : ℕ) → (k ≡ suc i → ⊥) → bit (bit_and m (m - 1)) k ≡ bit m k
      other zero ne = bit_low (bit_and m (m - 1)) ∙ ap (λ (x : ℕ). eqb x 1) (even ∙ sym e) ∙ sym (bit_low m)
      other (suc k) ne = bit_half (bit_and m (m - 1)) k ∙ ap (λ (x : ℕ). bit x k) half ∙ ih.elsewhere k (λ q. ne (ap suc q)) ∙ sym (bit_half m k)

lowest_out : (d m : ℕ) → 0 < m → m < 2 ^ d → BitPut (count_trailing_zeros d m) false m (bit_and m (m - 1))
unfolding count_trailing_zeros
lowest_out zero m p l = absurd (omega arith)
lowest_out (suc d) m p l = go (m % 2) refl (λ h q. lowest_out d (m / 2) h q)
  where
    go : (r : ℕ) → m % 2 ≡ r → (0 < m / 2 → m / 2 < 2 ^ d → BitPut (count_trailing_zeros d (m / 2)) false (m / 2) (bit_and (m / 2) (m / 2 - 1)))
        → BitPut (under r (count_trailing_zeros d (m / 2))) false m (bit_and m (m - 1))
    go zero e ih = even_lowest m _ p e (ih (omega arith) (omega (arith, pow-succ' 2 d)))
    go (suc r) e ih = odd_lowest m (omega arith)

-- ---- the two calls

pub first_of : {m i : ℕ} → 0 < m → m < 2 ^ 32 → i ≡ lowest m → FirstOf m i
first_of {m} {i} p l e =
    let (place, one, below) = bit_at-trailing_zeros w32 m p l in
    record { is = e; place = rw e place; marked = rw e (ap (λ (x : ℕ). eqb x 1) one) }

pub others_of : {m r : ℕ} → 0 < m → m < 2 ^ 32 → r ≡ bit_and m (m - 1) → OthersOf m r
others_of {m} {r} p l e = rw e (record { without = lowest_out 32 m p l; fewer = omega (arith, and_le_r m (m - 1)) })
