-- Whether some number passes a test, and which is the first.
-- Assumes nothing.
use Rattle.std.specs.Prelude.{◌≡◌, refl, ◌⊎◌, Bool, true, false, cond, ◌||◌, ℕ, zero, suc, ◌≤◌, ◌<◌, ltb}
use Rattle.std.proofs.lemmas.Bool.{ltb-false, ltb-true}
use Rattle.std.proofs.Common.{sym, ◌∙◌, inl, inr, true≢false, zero-le, le_refl, eq-or-lt_of_le, le_of_suc-le-suc, not-suc-le-zero, lt-suc_self, lt_of_lt_of_le, arith}
use Rattle.std.proofs.Math.Nat.{le_step, not-suc-le_self}
use Rattle.finite.specs.Finite.{Below, Some, any_to, find_to}
use Rattle.finite.proofs.laws.Sums.{but_last}
use Rattle.finite.proofs.laws.Tests.{by_cases, le_or_lt}
use Rattle.std.specs.Bool.{Decides}

pub any_decides : (n : ℕ) (p : ℕ → Bool) (P : ℕ → Type 0) → Below n (λ i. Decides (p i) (P i)) → Decides (any_to n p) (Some n P)
unfolding any_to
any_decides zero p P d = (λ e. absurd (true≢false (sym e)), λ h. absurd (not-suc-le-zero h.1))
any_decides (suc n) p P d = go (any_to n p) (any_decides n p P (but_last d)) (p n) (d n (lt-suc_self n))
  where
    last : (h : Some (suc n) P) → (h.0 ≡ n) ⊎ (h.0 < n) → (P n) ⊎ (Some n P)
    last h (inl e) = inl (rw e at h.2)
    last h (inr l) = inr (h.0, l, h.2)

    go : (a : Bool) → Decides a (Some n P) → (b : Bool) → Decides b (P n) → Decides (a || b) (Some (suc n) P)
    go true da b db = (λ e. let s = da.0 refl in (s.0, le_step s.1, s.2), λ h. refl)
    go false da true db = (λ e. (n, lt-suc_self n, db.0 refl), λ h. refl)
    go false da false db = (λ e. absurd (true≢false (sym e)), λ h. neither (last h (eq-or-lt_of_le (le_of_suc-le-suc h.1))))
      where
        neither : (P n) ⊎ (Some n P) → false ≡ true
        neither (inl x) = db.1 x
        neither (inr y) = da.1 y

-- k is the first number below n that passes the test, or n where none does
pub record IsFirst (n : ℕ) (p : ℕ → Bool) (k : ℕ) : Type 0 where
  pub within : k ≤ n
  pub earlier : Below k (λ i. p i ≡ false)
  pub found : k < n → p k ≡ true

pub find_first : (n : ℕ) (p : ℕ → Bool) → IsFirst n p (find_to n p)
unfolding find_to
find_first zero p = record { within = zero-le; earlier = λ i l. absurd (not-suc-le-zero l); found = λ l. absurd (not-suc-le-zero l) }
find_first (suc n) p =
    by_cases (ltb (find_to n p) n) (before (find_to n p) (find_first n p)) (λ e. by_cases (p n) (here (find_to n p) (find_first n p) e) (nowhere (find_to n p) (find_first n p) e))
  where
    before : (r : ℕ) → IsFirst n p r → ltb r n ≡ true → IsFirst (suc n) p (cond (ltb r n) r (cond (p n) n (suc n)))
    before r f e = rw e (record { within = le_step f.within; earlier = f.earlier; found = λ l. f.found (ltb-true r n e) })

    here : (r : ℕ) → IsFirst n p r → ltb r n ≡ false → p n ≡ true → IsFirst (suc n) p (cond (ltb r n) r (cond (p n) n (suc n)))
    here r f e e' =
        rw (e, e') (record { within = omega arith; earlier = λ i l. f.earlier i (omega (arith, ltb-false r n e)); found = λ l. e' })

    nowhere : (r : ℕ) → IsFirst n p r → ltb r n ≡ false → p n ≡ false → IsFirst (suc n) p (cond (ltb r n) r (cond (p n) n (suc n)))
    nowhere r f e e' =
        rw (e, e') (record { within = le_refl (suc n); earlier = λ i l. all i (eq-or-lt_of_le (le_of_suc-le-suc l)); found = λ l. absurd (not-suc-le_self (suc n) l) })
      where
        all : (i : ℕ) → (i ≡ n) ⊎ (i < n) → p i ≡ false
        all i (inl u) = rw u e'
        all i (inr l) = f.earlier i (omega (arith, ltb-false r n e))

-- where some number passes, the first is one of them; where the search ends at n, none does
pub first_some : {n : ℕ} {p : ℕ → Bool} {k : ℕ} → IsFirst n p k → Some n (λ i. p i ≡ true) → k < n
first_some {n} {p} {k} f (i, l, e) = go (le_or_lt n k)
  where
    go : (n ≤ k) ⊎ (k < n) → k < n
    go (inl h) = absurd (true≢false (sym e ∙ f.earlier i (lt_of_lt_of_le l h)))
    go (inr h) = h

pub first_none : {n : ℕ} {p : ℕ → Bool} {k : ℕ} → IsFirst n p k → ¬ (k < n) → Below n (λ i. p i ≡ false)
first_none f h i l = f.earlier i (omega arith)
