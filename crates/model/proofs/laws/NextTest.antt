-- From one test point to the next, for a judge that visits no other length.
-- Assumes nothing.
use Rattle.std.specs.Prelude.{◌≡◌, ◌⊎◌, ℕ, zero, suc, ◌+◌, ◌-◌, ◌*◌, ◌/◌, ◌≤◌, ◌<◌}
use Rattle.std.proofs.Common.{ap, ◌∙◌, inl, inr, div-lt_iff_lt-mul, mul-le-mul_right, arith}
use Rattle.std.proofs.Math.Nat.{le_trans, lt-div-mul-add}
use Rattle.finite.specs.Finite.{Below, Some, min_to}
use Rattle.finite.proofs.laws.Extremes.{min_attained, min_lower}
use Rattle.finite.proofs.laws.Tests.{le_or_lt}
use Rattle.model.specs.Demand.{jobs}
use Rattle.model.specs.Tasks.{Sane, Tasks}
use Rattle.model.specs.TestPoints.{TestPoint, points}
use Rattle.model.proofs.laws.Jobs.{jobs_before, jobs_from}
use Rattle.model.proofs.laws.TestPoints.{points_skip, points_test}

-- the first deadline of a task above the length s, if a job is released as soon as it can be
unfoldable pub next_deadline : ℕ → ℕ → ℕ → ℕ
next_deadline T D s = jobs T D s * T + D

next_above : (T D s : ℕ) → 0 < T → s < next_deadline T D s
unfolding next_deadline
next_above T D s pos = go (le_or_lt D s)
  where
    go : (D ≤ s) ⊎ (s < D) → s < jobs T D s * T + D
    go (inl h) =
        let q : s - D < (s - D) / T * T + T = lt-div-mul-add pos in
        rw (jobs_from T D s h) (omega arith)
    go (inr h) = rw (jobs_before T D s h) (omega arith)

next_least : (T D s k : ℕ) → 0 < T → s < k * T + D → next_deadline T D s ≤ k * T + D
unfolding next_deadline
next_least T D s k pos l = go (le_or_lt D s)
  where
    go : (D ≤ s) ⊎ (s < D) → jobs T D s * T + D ≤ k * T + D
    go (inl h) =
        let q : (s - D) / T < k = (div-lt_iff_lt-mul pos).1 (omega arith) in
        let r : ((s - D) / T + 1) * T ≤ k * T = mul-le-mul_right T (omega arith) in
        rw (jobs_from T D s h) (omega arith)
    go (inr h) = rw (jobs_before T D s h) (omega arith)

unfoldable pub next_test : Tasks → ℕ → ℕ
next_test S s = min_to (S.n - 1) (λ i. next_deadline (S.T i) (S.D i) s)

module _ (S : Tasks) (sane : Sane S) where
  all_of : {i : ℕ} → i < S.n → i < suc (S.n - 1)
  all_of l = omega (arith, sane.some_task)

  of_all : {i : ℕ} → i < suc (S.n - 1) → i < S.n
  of_all l = omega (arith, sane.some_task)

  T_pos : Below S.n (λ i. 0 < S.T i)
  T_pos i l = omega (arith, sane.D_least i l, sane.D_most i l)

  nearest : (s : ℕ) → Some (suc (S.n - 1)) (λ i. next_test S s ≡ next_deadline (S.T i) (S.D i) s)
  unfolding next_test
  nearest s = min_attained (S.n - 1) _

  pub next_test_above : (s : ℕ) → s < next_test S s
  next_test_above s = let (i, l, e) = nearest s in rw e (next_above (S.T i) (S.D i) s (T_pos i (of_all l)))

  pub next_test_is : (s : ℕ) → TestPoint S (next_test S s)
  unfolding next_deadline
  next_test_is s = let (i, l, e) = nearest s in (i, of_all l, (jobs (S.T i) (S.D i) s, e))

  -- there is none in between
  pub next_test_first : (s t : ℕ) → s < t → TestPoint S t → next_test S s ≤ t
  unfolding next_test
  next_test_first s t l (i, h, (k, e)) =
      le_trans (min_lower (S.n - 1) (λ i. next_deadline (S.T i) (S.D i) s) i (all_of h))
      (rw e (next_least (S.T i) (S.D i) s k (T_pos i h) (rw e at l)))

  -- the count of test points, from one to the next
  points_through : (d s : ℕ) → ((t : ℕ) → s < t → t ≤ s + d → ¬ TestPoint S t) → points S (s + d) ≡ points S s
  points_through zero s f = let e : s + 0 ≡ s = omega arith in rw e
  points_through (suc d) s f =
      let e : s + suc d ≡ suc (s + d) = omega arith in
      rw e (points_skip S sane (s + d) (f (suc (s + d)) (omega arith) (omega arith)) ∙ points_through d s (λ t a b. f t a (omega arith)))

  -- and up to a length that the next one passes
  pub points_until : (s L : ℕ) → s ≤ L → L < next_test S s → points S L ≡ points S s
  points_until s L h g =
      let e : s + (L - s) ≡ L = omega arith in
      rw e at (points_through (L - s) s (λ t l k p. absurd (omega (arith, next_test_first s t l p))))

  pub points_next : (s : ℕ) → points S (next_test S s) ≡ suc (points S s)
  points_next s =
      let a = next_test_above s in
      let e : next_test S s ≡ suc (s + (next_test S s - suc s)) = omega arith in
      let between = points_through (next_test S s - suc s) s (λ t l h p. absurd (omega (arith, next_test_first s t l p))) in
      let q = points_test S sane (s + (next_test S s - suc s)) (rw e at (next_test_is s)) in
      ap (points S) e ∙ q ∙ ap suc between
