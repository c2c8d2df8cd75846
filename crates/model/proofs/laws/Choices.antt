-- Laws of choices: more pieces, more demand and no longer pieces; the least choice is one and has no more pieces than can help.
-- Assumes nothing.
use Rattle.std.specs.Prelude.{◌≡◌, ◌⊎◌, ℕ, ◌≤◌, ◌<◌, min}
use Rattle.std.proofs.Common.{sym, inl, inr, le_refl, le_antisymm, le_of_eq, le_of_lt, arith}
use Rattle.std.proofs.Math.Nat.{le_trans, min-le_left, min-le_right, min-eq_left, min-eq_right}
use Rattle.finite.specs.Finite.{Below}
use Rattle.finite.proofs.laws.Extremes.{max_least, max_mono, max_upper}
use Rattle.finite.proofs.laws.Tests.{le_or_lt}
use Rattle.model.specs.Phase.{Choice, Phases}
use Rattle.model.specs.Tasks.{Each, Tasks}
use Rattle.model.specs.Works.{Holds, Least, NoMore, AllAllowed, Works, WorksBelow, blocking_of, demand_of, longest}
use Rattle.model.proofs.laws.Demand.{blocking_least, blocking_upper, demand_mono}
use Rattle.model.proofs.laws.Phases.{Laws}

-- the least choice is one, at the phases that there are
pub least_unique : (S : Tasks) (P : Phases) (Good : Choice → Type 0) (x y : Choice) → Least S P Good x → Least S P Good y
    → Each S (λ i j. x i j ≡ y i j)
least_unique S P Good x y a b i j l k =
    le_antisymm (a.least y b.valid b.good i j l k) (b.least x a.valid a.good i j l k)

module _ (S : Tasks) (P : Phases) (laws : Laws S P) where
  -- more pieces, more demand
  pub demand_of_mono : (x y : Choice) (t : ℕ) → Below S.n (λ i. S.D i ≤ t → Below (S.m i) (λ j. x i j ≤ y i j))
      → demand_of S P x t ≤ demand_of S P y t
  demand_of_mono x y t h = demand_mono S (P.budget x) (P.budget y) t (λ i l d. laws.cost_mono i l x y (h i l d))

  -- more pieces, no longer ones
  pub piece_antitone : Each S (λ i j. (x y : ℕ) → P.Allowed i j x → P.Allowed i j y → x ≤ y → P.longest_piece i j y ≤ P.longest_piece i j x)
  piece_antitone i j l k x y ax ay h =
      let q = laws.need_least i j l k (P.longest_piece i j x) x ax (le_refl (P.longest_piece i j x)) in
      laws.need_enough i j l k (P.longest_piece i j x) y q.0 ay (le_trans q.1 h)

  pub longest_antitone : (x y : Choice) → AllAllowed S P x → AllAllowed S P y → NoMore S x y → Below S.n (λ i. longest S P y i ≤ longest S P x i)
  unfolding longest
  longest_antitone x y vx vy h i l =
      max_mono (S.m i) _ _ (λ j k. piece_antitone i j l k (x i j) (y i j) (vx i j l k) (vy i j l k) (h i j l k))

  pub blocking_of_antitone : (x y : Choice) (t : ℕ) → AllAllowed S P x → AllAllowed S P y → NoMore S x y → blocking_of S P y t ≤ blocking_of S P x t
  blocking_of_antitone x y t vx vy h =
      blocking_least S (longest S P y) t (λ i l d. le_trans (longest_antitone x y vx vy h i l) (blocking_upper S (longest S P x) t i l d))

  -- a blocking task's phases, one by one
  pub piece_blocks : (x : Choice) (t : ℕ) → Each S (λ i j. t < S.D i → P.longest_piece i j (x i j) ≤ blocking_of S P x t)
  unfolding longest
  piece_blocks x t i j l k d =
      le_trans (max_upper (S.m i) (λ j. P.longest_piece i j (x i j)) j k) (blocking_upper S (longest S P x) t i l d)

  pub pieces_block : (x : Choice) (t : ℕ) {M : ℕ} → Each S (λ i j. t < S.D i → P.longest_piece i j (x i j) ≤ M) → blocking_of S P x t ≤ M
  unfolding longest
  pieces_block x t h =
      blocking_least S (longest S P x) t (λ i l d. max_least (S.m i) (λ j. P.longest_piece i j (x i j)) (λ j k. h i j l k d))

  -- ---- what is asked of a choice by lengths alone

  -- `Good` asks for nothing but that some lengths hold
  abbrev pub ByLengths : (Choice → Type 0) → Type 0
  ByLengths Good = (x y : Choice) → ((t : ℕ) → Holds S P x t → Holds S P y t) → Good x → Good y

  pub by_works : ByLengths (Works S P)
  by_works x y h w L t c l = h t (w L t c l)

  pub by_below : (L : ℕ) → ByLengths (λ x. WorksBelow S P x L)
  by_below L x y h w t c l = h t (w t c l)

  -- unused places do not matter
  holds_same : (x y : Choice) → Each S (λ i j. x i j ≡ y i j) → AllAllowed S P x → AllAllowed S P y → (t : ℕ) → Holds S P x t → Holds S P y t
  holds_same x y e vx vy t h =
      omega (arith, demand_of_mono y x t (λ i l d j k. le_of_eq (sym (e i j l k))), blocking_of_antitone x y t vx vy (λ i j l k. le_of_eq (e i j l k)))

  pub least_same : (Good : Choice → Type 0) → ByLengths Good → (x y : Choice) → Each S (λ i j. x i j ≡ y i j) → Least S P Good x → Least S P Good y
  least_same Good by x y e a =
      let v : AllAllowed S P y = λ i j l k. rw (e i j l k) at (a.valid i j l k) in
      record {
        valid = v;
        good = by x y (holds_same x y e a.valid v) a.good;
        least = λ z vz wz i j l k. rw (e i j l k) at (a.least z vz wz i j l k);
      }

  -- the least counts are at most the count beyond which nothing is gained
  module _ (x : Choice) (vx : AllAllowed S P x) where
    abbrev capped : Choice
    capped i j = min (x i j) (P.most i j)

    capped_is : (i j : ℕ) (Q : ℕ → Type 0) → Q (x i j) → Q (P.most i j) → Q (capped i j)
    capped_is i j Q a b = go (le_or_lt (x i j) (P.most i j))
      where
        go : (x i j ≤ P.most i j) ⊎ (P.most i j < x i j) → Q (capped i j)
        go (inl h) = rw (min-eq_left h) a
        go (inr h) = rw (min-eq_right (le_of_lt h)) b

    capped_valid : AllAllowed S P capped
    capped_valid i j l k = capped_is i j (λ z. P.Allowed i j z) (vx i j l k) (laws.most_allowed i j l k)

    capped_piece : Each S (λ i j. P.longest_piece i j (capped i j) ≤ P.longest_piece i j (x i j))
    capped_piece i j l k =
        let M : ℕ = P.longest_piece i j (x i j) in
        let q = laws.need_least i j l k M (x i j) (vx i j l k) (le_refl M) in
        capped_is i j (λ z. P.longest_piece i j z ≤ P.longest_piece i j (x i j)) (le_refl M)
        (laws.need_enough i j l k M (P.most i j) q.0 (laws.most_allowed i j l k) (laws.need_most i j l k M q.0))

    capped_holds : (t : ℕ) → Holds S P x t → Holds S P capped t
    capped_holds t h =
        let d = demand_of_mono capped x t (λ i l d j k. min-le_left (x i j) (P.most i j)) in
        let b = pieces_block capped t (λ i j l k d. le_trans (capped_piece i j l k) (piece_blocks x t i j l k d)) in
        omega arith

  pub least_within : (Good : Choice → Type 0) → ByLengths Good → (x : Choice) → Least S P Good x → Each S (λ i j. x i j ≤ P.most i j)
  least_within Good by x a i j l k =
      le_trans (a.least (capped x a.valid) (capped_valid x a.valid) (by x (capped x a.valid) (capped_holds x a.valid) a.good) i j l k)
      (min-le_right (x i j) (P.most i j))
