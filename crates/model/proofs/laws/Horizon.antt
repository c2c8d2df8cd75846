-- The horizon theorem of document 01: to look at the test points up to H decides every length.
-- H is any positive number that every T divides; the least one is not asked for.
-- Assumes nothing.
use Rattle.std.specs.Prelude.{◌≡◌, ◌⊎◌, ℕ, zero, suc, ◌+◌, ◌-◌, ◌*◌, ◌/◌, ◌%◌, ◌≤◌, ◌<◌}
use Rattle.std.proofs.Math.Path.{ap}
use Rattle.std.proofs.Common.{◌∙◌, inl, inr, le_trans, le_refl, mod-lt, div-add-mod', add-mul, not-suc-le-zero, mul-div_cancel, mul-le-mul_right, zero-mul, arith}
use Rattle.std.proofs.Math.Nat.{not-suc-le_self}
use Rattle.finite.specs.Finite.{Below, sum_to}
use Rattle.finite.proofs.laws.Sums.{sum_add, sum_cong}
use Rattle.finite.proofs.laws.Tests.{decided, le_or_lt}
use Rattle.model.specs.Demand.{blocking, demand, jobs}
use Rattle.model.specs.Tasks.{Sane, Tasks}
use Rattle.model.specs.TestPoints.{TestPoint}
use Rattle.model.specs.Works.{Counted, Fits}
use Rattle.model.proofs.laws.Demand.{blocking_least, blocking_upper, counted_or_not, demand_early}
use Rattle.model.proofs.laws.Jobs.{jobs_shifts, jobs_steady}
use Rattle.model.proofs.laws.TestPoints.{is_test_decides}

-- a positive multiple of every spacing
pub record Horizon (S : Tasks) (H : ℕ) : Type 0 where
  pub positive : 1 ≤ H
  pub multiple : Below S.n (λ i. (k : ℕ) × (H ≡ k * S.T i))

module _ (S : Tasks) (sane : Sane S) where
  T_positive : Below S.n (λ i. 0 < S.T i)
  T_positive i l = omega (arith, sane.D_least i l, sane.D_most i l)

  -- ---- between test points nothing changes

  module _ (t : ℕ) (between : ¬ TestPoint S (suc t)) where
    no_new_deadline : Below S.n (λ i. ¬ (S.D i ≡ suc t))
    no_new_deadline i l e = between (i, l, (0, omega arith))

    pub steady_counted : Counted S (suc t) → Counted S t
    steady_counted c = (c.0, c.1, omega (arith, c.2, no_new_deadline c.0 c.1))

    pub steady_demand : (C : ℕ → ℕ) → demand S C (suc t) ≡ demand S C t
    unfolding demand
    steady_demand C =
        sum_cong S.n _ _ (λ i l. ap (λ (x : ℕ). x * C i) (jobs_steady (S.T i) (S.D i) t (T_positive i l) (λ k e. between (i, l, (k, e)))))

    pub steady_blocking : (B : ℕ → ℕ) → blocking S B (suc t) ≤ blocking S B t
    steady_blocking B = blocking_least S B (suc t) (λ i l h. blocking_upper S B t i l (omega arith))

    pub steady_works : (C B : ℕ → ℕ) → (Counted S t → Fits S C B t) → Counted S (suc t) → Fits S C B (suc t)
    steady_works C B w c = omega (arith, w (steady_counted c), steady_demand C, steady_blocking B)

  -- ---- up to H

  module _ (C B : ℕ → ℕ) where
    -- by the test points up to L, at every length up to L
    pub all_lengths : (L : ℕ) → ((t : ℕ) → t ≤ L → TestPoint S t → Fits S C B t) → (t : ℕ) → t ≤ L → Counted S t → Fits S C B t
    all_lengths L w zero l c = absurd (not-suc-le-zero (le_trans (sane.D_least c.0 c.1) c.2))
    all_lengths L w (suc t) l c = go (decided (is_test_decides S sane (suc t))) (all_lengths L w t (omega arith))
      where
        go : TestPoint S (suc t) ⊎ ¬ TestPoint S (suc t) → (Counted S t → Fits S C B t) → Fits S C B (suc t)
        go (inl p) ih = w (suc t) l p
        go (inr f) ih = steady_works t f C B ih c

  -- ---- beyond H

  demand_start : (C : ℕ → ℕ) → demand S C 0 ≡ 0
  demand_start C = demand_early S C 0 (λ c. not-suc-le-zero (le_trans (sane.D_least c.0 c.1) c.2))

  module _ (H : ℕ) (hz : Horizon S H) where
    whole : Below S.n (λ i. H ≡ H / S.T i * S.T i)
    whole i l =
        let q = hz.multiple i l in
        let e : H / S.T i ≡ q.0 = rw (q.1, mul-div_cancel q.0 (T_positive i l)) in
        rw e q.1

    -- what a length of H adds
    unfoldable share : (ℕ → ℕ) → ℕ
    share C = sum_to S.n (λ i. H / S.T i * C i)

    adds_share : (C : ℕ → ℕ) (t : ℕ) → demand S C (t + H) ≡ demand S C t + share C
    unfolding demand share
    adds_share C t = sum_cong S.n _ _ each ∙ sum_add S.n (λ i. jobs (S.T i) (S.D i) t * C i) (λ i. H / S.T i * C i)
      where
        each : Below S.n (λ i. jobs (S.T i) (S.D i) (t + H) * C i ≡ jobs (S.T i) (S.D i) t * C i + H / S.T i * C i)
        each i l =
            let e : jobs (S.T i) (S.D i) (t + H / S.T i * S.T i) ≡ jobs (S.T i) (S.D i) t + H / S.T i =
            jobs_shifts (S.T i) (S.D i) t (H / S.T i) (sane.D_least i l) (sane.D_most i l) in
            let h : jobs (S.T i) (S.D i) (t + H) ≡ jobs (S.T i) (S.D i) t + H / S.T i =
            ap (λ (x : ℕ). jobs (S.T i) (S.D i) (t + x)) (whole i l) ∙ e in
            rw (h, add-mul)

    pub demand_shift : (C : ℕ → ℕ) (t : ℕ) → demand S C (t + H) ≡ demand S C t + demand S C H
    demand_shift C t =
        let e : 0 + H ≡ H = omega arith in
        let at_h : demand S C (0 + H) ≡ demand S C 0 + share C = adds_share C 0 in
        let at_h' : demand S C H ≡ demand S C 0 + share C = rw e at at_h in
        omega (arith, adds_share C t, at_h', demand_start C)

    D_within : Below S.n (λ i. S.D i ≤ H)
    D_within i l =
        let q = hz.multiple i l in
        let pos : 1 ≤ q.0 = one_of q.0 q.1 in
        omega (arith, sane.D_most i l, q.1, mul-le-mul_right (S.T i) pos)
      where
        one_of : (k : ℕ) → H ≡ k * S.T i → 1 ≤ k
        one_of zero e = omega (arith, hz.positive, zero-mul (S.T i))
        one_of (suc k) e = omega arith

    H_counted : Counted S H
    H_counted = (0, sane.some_task, D_within 0 sane.some_task)

    blocking_beyond : (B : ℕ → ℕ) (t : ℕ) → H ≤ t → blocking S B t ≤ 0
    blocking_beyond B t h = blocking_least S B t (λ i l d. absurd (not-suc-le_self t (le_trans d (le_trans (D_within i l) h))))

    module _ (C B : ℕ → ℕ) (w : (t : ℕ) → t ≤ H → Counted S t → Fits S C B t) where
      demand_below : (t : ℕ) → t ≤ H → demand S C t ≤ t
      demand_below t l = go (counted_or_not S t)
        where
          go : Counted S t ⊎ ¬ Counted S t → demand S C t ≤ t
          go (inl c) = omega (arith, w t l c)
          go (inr f) = omega (arith, demand_early S C t f)

      demand_fits : (q r : ℕ) → r ≤ H → demand S C (q * H + r) ≤ q * H + r
      demand_fits zero r l =
          let e : 0 * H + r ≡ r = omega arith in
          rw e (demand_below r l)
      demand_fits (suc q) r l =
          let e : suc q * H + r ≡ q * H + r + H = omega arith in
          rw (e, demand_shift C (q * H + r)) (omega (arith, demand_fits q r l, demand_below H (le_refl H)))

      demand_always : (t : ℕ) → demand S C t ≤ t
      demand_always t =
          let r : t % H < H = mod-lt t hz.positive in
          rw div-add-mod' at (demand_fits (t / H) (t % H) (omega arith))

      pub beyond : (t : ℕ) → Counted S t → Fits S C B t
      beyond t c = go (le_or_lt t H)
        where
          go : (t ≤ H) ⊎ (H < t) → Fits S C B t
          go (inl l) = w t l c
          go (inr l) =
              let e : t - H + H ≡ t = omega arith in
              omega (arith, rw e at (demand_shift C (t - H)), demand_always (t - H), w H (le_refl H) H_counted, blocking_beyond B t (omega arith))

    -- the theorem
    pub horizon : (C B : ℕ → ℕ) → ((t : ℕ) → t ≤ H → TestPoint S t → Fits S C B t) → (t : ℕ) → Counted S t → Fits S C B t
    horizon C B w = beyond C B (all_lengths C B H w)
