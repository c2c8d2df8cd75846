-- What stops the walk at a point, or lets it go on.
-- Assumes nothing.
use Rattle.std.specs.Prelude.{◌≡◌, Bool, true, false, ℕ, ◌+◌, ◌-◌, ◌≤◌, ◌<◌, Option, Some, None, get_or}
use Rattle.std.proofs.Common.{arith, below_more, below_none}
use Rattle.std.proofs.lemmas.Bool.{both_ways}
use Rattle.finite.specs.Finite.{Below}
use Rattle.model.specs.Arrays.{Arrays}
use Rattle.walk.specs.Stuck.{BeforeStop, FirstStuck, FirstWhere, IsFirst, PointJudged, Stuck, StuckTask, blocked, overloaded}

-- no test has both outcomes
pub not_both : {b : Bool} → b ≡ true → b ≡ false → ⊥
not_both t f = both_ways _ f t

-- ---- a search that goes on while the property fails

pub record Searching (n : ℕ) (P : ℕ → Type 0) (k : ℕ) : Type 0 where
  pub so_far : k ≤ n
  pub none : Below k (λ j. P j → ⊥)

pub searching_none : (n : ℕ) (P : ℕ → Type 0) → Searching n P 0
searching_none n P = record { so_far = omega arith; none = below_none _ }

module _ {n : ℕ} {P : ℕ → Type 0} {k : ℕ} (s : Searching n P k) where
  pub searching_more : k < n → (P k → ⊥) → Searching n P (k + 1)
  searching_more l f = record { so_far = omega arith; none = below_more _ _ s.none f }

  pub searching_found : k < n → P k → FirstWhere n P (Some k)
  searching_found l p = record { within = l; here = p; earlier = s.none }

  pub searching_end : n ≤ k → FirstWhere n P None
  searching_end le = λ j l. s.none j (omega arith)

-- ---- what was searched for

module _ (n : ℕ) (P : ℕ → Type 0) where
  -- the same search for another property
  pub first_same : (Q : ℕ → Type 0) (found : Option ℕ) → ((k : ℕ) → P k → Q k) → ((k : ℕ) → Q k → P k) → FirstWhere n Q found → FirstWhere n P found
  first_same Q None to from none = λ k l p. none k l (to k p)
  first_same Q (Some r) to from f = record { within = f.within; here = from r f.here; earlier = λ k l p. f.earlier k l (to k p) }

  -- where none is found, there is none
  pub none_found : FirstWhere n P None → (k : ℕ) × (k < n) × P k → ⊥
  none_found none (k, l, p) = none k l p

-- where it has nowhere the property, none is found; what is found is below n
module _ {n : ℕ} {P : ℕ → Type 0} where
  pub first_out : Below n (λ k. P k → ⊥) → FirstWhere n P None
  first_out h = h

  pub found_below : {r : ℕ} → FirstWhere n P (Some r) → r < n
  found_below f = f.within

-- ---- the point

-- the first phase that is stuck, of the first task that has one
pub stuck_found : {a : Arrays} {t M i j : ℕ} → Searching a.tasks (StuckTask a t M) i → i < a.tasks → IsFirst (get_or a.phases i 0) (Stuck a t M i) j → FirstStuck a t M i j
stuck_found {j = j} s l f = record { task = searching_found s l (j, f.within, f.here); phase = f }

-- no task has one
pub stuck_nowhere : (a : Arrays) (t M i : ℕ) → Searching a.tasks (StuckTask a t M) i → a.tasks ≤ i → FirstWhere a.tasks (StuckTask a t M) None
stuck_nowhere a t M i s le = searching_end s le

module _ {a : Arrays} {t demand : ℕ} where
  pub stops_over : t < demand → PointJudged a t demand (Some (record { task = 0; phase = 0 }))
  stops_over l = overloaded l

  -- the search in the margin M finds a phase, or none
  pub stops_blocked : {M i j : ℕ} → demand ≤ t → M ≡ t - demand → Searching a.tasks (StuckTask a t M) i → i < a.tasks → IsFirst (get_or a.phases i 0) (Stuck a t M i) j
      → PointJudged a t demand (Some (record { task = i + 1; phase = j + 1 }))
  stops_blocked {M} {i} {j} le e s l f = let first : FirstStuck a t M i j = stuck_found s l f in blocked le (rw e at first)

  pub goes_free : {M i : ℕ} → demand ≤ t → M ≡ t - demand → Searching a.tasks (StuckTask a t M) i → a.tasks ≤ i → PointJudged a t demand None
  goes_free {M} le e s end = let none : Below a.tasks (λ k. StuckTask a t M k → ⊥) = searching_end s end in record { fits = le; free = rw e at none }

  pub goes_roomy : {low : ℕ} → BeforeStop a t demand low → demand ≤ t → low ≤ t - demand → PointJudged a t demand None
  goes_roomy b le l = record { fits = le; free = b.roomy l }
