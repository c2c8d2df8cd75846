-- The largest and the least value of an index function.
-- Assumes nothing.
use Rattle.std.specs.Prelude.{◌≡◌, refl, ◌⊎◌, Bool, true, cond, ℕ, zero, suc, ◌≤◌, ◌<◌, max, min}
use Rattle.std.proofs.Common.{◌∙◌, inl, inr, zero-le, le_refl, le_trans, le_antisymm, eq-or-lt_of_le, le_of_suc-le-suc, not-suc-le-zero, lt-suc_self, le_of_lt, arith}
use Rattle.std.proofs.Math.Nat.{le-max_left, le-max_right, max-le, min-le_left, min-le_right, min-eq_left, min-eq_right, le_step}
use Rattle.finite.specs.Finite.{Below, Some, max_to, min_to}
use Rattle.finite.proofs.laws.Sums.{but_last}
use Rattle.finite.proofs.laws.Tests.{by_cases, le_or_lt}

-- the largest is at least each, and no more than what is at least each
pub max_upper : (n : ℕ) (f : ℕ → ℕ) → Below n (λ i. f i ≤ max_to n f)
unfolding max_to
max_upper zero f i l = absurd (not-suc-le-zero l)
max_upper (suc n) f i l = go (eq-or-lt_of_le (le_of_suc-le-suc l)) (max_upper n f i)
  where
    go : (i ≡ n) ⊎ (i < n) → (i < n → f i ≤ max_to n f) → f i ≤ max (max_to n f) (f n)
    go (inl e) ih = rw e (le-max_right (max_to n f) (f n))
    go (inr l') ih = le_trans (ih l') (le-max_left (max_to n f) (f n))

pub max_least : (n : ℕ) (f : ℕ → ℕ) {k : ℕ} → Below n (λ i. f i ≤ k) → max_to n f ≤ k
unfolding max_to
max_least zero f h = zero-le
max_least (suc n) f h = max-le (max_least n f (but_last h)) (h n (lt-suc_self n))

pub max_mono : (n : ℕ) (f g : ℕ → ℕ) → Below n (λ i. f i ≤ g i) → max_to n f ≤ max_to n g
max_mono n f g h = max_least n f (λ i l. le_trans (h i l) (max_upper n g i l))

pub max_cong : (n : ℕ) (f g : ℕ → ℕ) → Below n (λ i. f i ≡ g i) → max_to n f ≡ max_to n g
max_cong n f g h =
    le_antisymm (max_mono n f g (λ i l. omega (arith, h i l))) (max_mono n g f (λ i l. omega (arith, h i l)))

-- the largest among those that pass a test
pub where_upper : (n : ℕ) (p : ℕ → Bool) (f : ℕ → ℕ) → Below n (λ i. p i ≡ true → f i ≤ max_to n (λ i. cond (p i) (f i) 0))
where_upper n p f i l e = le_trans (rw e (le_refl (f i))) (max_upper n (λ i. cond (p i) (f i) 0) i l)

pub where_least : (n : ℕ) (p : ℕ → Bool) (f : ℕ → ℕ) {k : ℕ} → Below n (λ i. p i ≡ true → f i ≤ k) → max_to n (λ i. cond (p i) (f i) 0) ≤ k
where_least n p f h = max_least n _ (λ i l. by_cases (p i) (λ e. rw e (h i l e)) (λ e. rw e zero-le))

-- the least is no more than each, and one of them
pub min_lower : (n : ℕ) (f : ℕ → ℕ) → Below (suc n) (λ i. min_to n f ≤ f i)
unfolding min_to
min_lower zero f zero l = le_refl (f 0)
min_lower zero f (suc i) l = absurd (not-suc-le-zero (le_of_suc-le-suc l))
min_lower (suc n) f i l = go (eq-or-lt_of_le (le_of_suc-le-suc l)) (min_lower n f i)
  where
    go : (i ≡ suc n) ⊎ (i < suc n) → (i < suc n → min_to n f ≤ f i) → min (min_to n f) (f (suc n)) ≤ f i
    go (inl e) ih = rw e (min-le_right (min_to n f) (f (suc n)))
    go (inr l') ih = le_trans (min-le_left (min_to n f) (f (suc n))) (ih l')

pub min_attained : (n : ℕ) (f : ℕ → ℕ) → Some (suc n) (λ i. min_to n f ≡ f i)
unfolding min_to
min_attained zero f = (0, lt-suc_self 0, refl)
min_attained (suc n) f = go (le_or_lt (min_to n f) (f (suc n))) (min_attained n f)
  where
    go : (min_to n f ≤ f (suc n)) ⊎ (f (suc n) < min_to n f) → Some (suc n) (λ i. min_to n f ≡ f i)
        → Some (suc (suc n)) (λ i. min (min_to n f) (f (suc n)) ≡ f i)
    go (inl h) (i, l, e) = (i, le_step l, min-eq_left h ∙ e)
    go (inr h) s = (suc n, lt-suc_self (suc n), min-eq_right (le_of_lt h))
