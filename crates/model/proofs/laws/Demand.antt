-- Laws of demand and blocking.
-- Assumes nothing.
use Rattle.std.specs.Prelude.{◌≡◌, ◌⊎◌, ℕ, ◌*◌, ◌≤◌, ◌<◌, leb, ltb}
use Rattle.std.proofs.lemmas.Bool.{lt-ltb, ltb-true}
use Rattle.std.proofs.Common.{ap, ◌∙◌, inl, inr, zero-mul, lt_of_not-le, mul-le-mul_left, arith}
use Rattle.finite.specs.Finite.{Below}
use Rattle.finite.proofs.laws.Extremes.{where_least, where_upper}
use Rattle.finite.proofs.laws.Searches.{any_decides}
use Rattle.finite.proofs.laws.Sums.{sum_mono, sum_zero}
use Rattle.finite.proofs.laws.Tests.{decided, le_or_lt, leb_decides}
use Rattle.model.specs.Demand.{blocking, demand, jobs}
use Rattle.model.specs.Tasks.{Tasks}
use Rattle.model.specs.Works.{Counted}
use Rattle.model.proofs.laws.Jobs.{jobs_before}

-- a larger budget, a larger demand
pub demand_mono : (S : Tasks) (C C' : ℕ → ℕ) (t : ℕ) → Below S.n (λ i. S.D i ≤ t → C i ≤ C' i) → demand S C t ≤ demand S C' t
unfolding demand
demand_mono S C C' t h = sum_mono S.n _ _ (λ i l. go i l (le_or_lt (S.D i) t))
  where
    go : (i : ℕ) → i < S.n → (S.D i ≤ t) ⊎ (t < S.D i) → jobs (S.T i) (S.D i) t * C i ≤ jobs (S.T i) (S.D i) t * C' i
    go i l (inl d) = mul-le-mul_left (jobs (S.T i) (S.D i) t) (h i l d)
    go i l (inr d) = rw (jobs_before (S.T i) (S.D i) t d) (omega arith)

-- below the shortest deadline there is no demand
pub demand_early : (S : Tasks) (C : ℕ → ℕ) (t : ℕ) → ¬ Counted S t → demand S C t ≡ 0
unfolding demand
demand_early S C t f =
    sum_zero S.n _ (λ i l. ap (λ (x : ℕ). x * C i) (jobs_before (S.T i) (S.D i) t (lt_of_not-le (λ d. f (i, l, d)))) ∙ zero-mul (C i))

pub counted_or_not : (S : Tasks) (t : ℕ) → Counted S t ⊎ ¬ Counted S t
counted_or_not S t = decided (any_decides S.n (λ i. leb (S.D i) t) _ (λ i l. leb_decides (S.D i) t))

pub blocking_upper : (S : Tasks) (B : ℕ → ℕ) (t : ℕ) → Below S.n (λ i. t < S.D i → B i ≤ blocking S B t)
unfolding blocking
blocking_upper S B t i l d = where_upper S.n (λ i. ltb t (S.D i)) B i l (lt-ltb t (S.D i) d)

pub blocking_least : (S : Tasks) (B : ℕ → ℕ) (t : ℕ) {k : ℕ} → Below S.n (λ i. t < S.D i → B i ≤ k) → blocking S B t ≤ k
unfolding blocking
blocking_least S B t h = where_least S.n (λ i. ltb t (S.D i)) B (λ i l e. h i l (ltb-true t (S.D i) e))
