-- Every place of an array, by whether it is used: tests, numbers read as they were written, numbers one behind the other.
-- Assumes nothing.
use Rattle.std.specs.Prelude.{◌≡◌, Bool, List, [], ◌∷◌, ℕ, zero, suc, ◌+◌, ◌*◌, ◌/◌, ◌%◌, ◌≤◌, ◌<◌, get_or, length}
use Rattle.std.proofs.Common.{subst, arith}
use Rattle.std.proofs.Math.Decide.{dec_lt}
use Rattle.finite.specs.Finite.{Below, list_to}
use Rattle.finite.proofs.laws.Decided.{by_test, every, within_decides}
use Rattle.std.proofs.lemmas.Bool.Decides.{Decides-eqb, Decides-like, Decides-ltb}
use Rattle.std.specs.Bool.{Decides}
use Rattle.model.specs.Arrays.{listed_by_phase, phase_at}
use Rattle.model.specs.Ranges.{FromTo, all_phases, number_test, phases_most, tasks_most}
use Rattle.model.specs.Tasks.{Each, Tasks}
use Rattle.model.proofs.laws.Arrays.{at_phase, at_place, phase_none, phase_past, place_phase}

-- what holds of every place holds of every phase of every task
phases_from_lem : (P : ℕ → ℕ → Type 0) → Below 256 (λ p. P (p / 8) (p % 8)) → (i j : ℕ) → i < 32 → j < 8 → P i j
phases_from_lem P f i j l k = subst (λ T. T) (place_phase P i j k) (f (8 * i + j) (omega arith))

-- the numbers of phases of a table
pub record Few (S : Tasks) : Type 0 where
  pub tasks : S.n ≤ tasks_most
  pub phases : (i : ℕ) → S.m i ≤ phases_most
  pub none : (i : ℕ) → S.n ≤ i → S.m i ≡ 0

pub places_decide : (S : Tasks) → Few S → (f : ℕ → ℕ → Bool) (U N : ℕ → ℕ → Type 0)
    → ((i j : ℕ) → Decides (f i j) ((j < S.m i → U i j) × (¬ (j < S.m i) → N i j)))
    → ((i j : ℕ) → 32 ≤ i → N i j) → ((i j : ℕ) → 8 ≤ j → N i j)
    → Decides (all_phases f) (Each S U × ((i j : ℕ) → S.m i ≤ j → N i j))
places_decide S few f U N test past over =
    Decides-like _ from to (every 256 (λ p. f (p / 8) (p % 8)) (λ p. P (p / 8) (p % 8)) (λ p. test (p / 8) (p % 8)))
  where
    P : ℕ → ℕ → Type 0
    P i j = (j < S.m i → U i j) × (¬ (j < S.m i) → N i j)

    from : Below 256 (λ p. P (p / 8) (p % 8)) → Each S U × ((i j : ℕ) → S.m i ≤ j → N i j)
    from h = (
      λ i j l k. (phases_from_lem P h i j (omega (arith, few.tasks)) (omega (arith, few.phases i))).0 k,
      λ i j l. unused i j l (dec_lt i 32) (dec_lt j 8),
    )
      where
        unused : (i j : ℕ) → S.m i ≤ j → Dec (i < 32) → Dec (j < 8) → N i j
        unused i j l (yes a) (yes b) = (phases_from_lem P h i j a b).1 (λ k. absurd (omega arith))
        unused i j l (yes a) (no b) = over i j (omega arith)
        unused i j l (no a) b = past i j (omega arith)

    to : Each S U × ((i j : ℕ) → S.m i ≤ j → N i j) → Below 256 (λ p. P (p / 8) (p % 8))
    to h p l = (λ k. h.0 (p / 8) (p % 8) (there (p / 8) k (dec_lt (p / 8) S.n)) k, λ k. h.1 (p / 8) (p % 8) (omega arith))
      where
        there : (i : ℕ) → p % 8 < S.m i → Dec (i < S.n) → i < S.n
        there i k (yes a) = a
        there i k (no a) = absurd (omega (arith, few.none i (omega arith)))

-- ---- arrays given place by place

module _ (S : Tasks) (few : Few S) where
  past : (i j : ℕ) → 32 ≤ i → S.m i ≤ j
  past i j h = omega (arith, few.tasks, few.none i (omega (arith, few.tasks)))

  over : (i j : ℕ) → 8 ≤ j → S.m i ≤ j
  over i j h = omega (arith, few.phases i)

  -- what is 0 where there is no phase is read as it was written
  pub at_used : (f : ℕ → ℕ → ℕ) → ((i j : ℕ) → S.m i ≤ j → f i j ≡ 0) → (i j : ℕ) → phase_at (listed_by_phase f) i j ≡ f i j
  at_used f none i j = at_phase f i j (λ h. none i j (past i j h)) (λ h. none i j (over i j h))

  -- and what is 0 where there is no task
  pub at_task : (f : ℕ → ℕ) → ((i : ℕ) → S.n ≤ i → f i ≡ 0) → (i : ℕ) → get_or (list_to 32 f) i 0 ≡ f i
  at_task f none i = at_place 32 f i (λ h. none i (omega (arith, few.tasks)))

-- ---- one number of every phase

abbrev pub NumberIn : Tasks → (least most : ℕ) → (ℕ → ℕ → ℕ) → Type 0
NumberIn S least most f = Each S (λ i j. (least ≤ f i j) × (f i j ≤ most)) × ((i j : ℕ) → S.m i ≤ j → f i j ≡ 0)

pub number_decides : (S : Tasks) → Few S → (least most : ℕ) (a : List ℕ) → length a ≡ 256
    → Decides (all_phases (number_test S.m least most (phase_at a))) (NumberIn S least most (phase_at a))
number_decides S few least most a long =
    places_decide S few (number_test S.m least most (phase_at a)) (λ i j. (least ≤ phase_at a i j) × (phase_at a i j ≤ most)) (λ i j. phase_at a i j ≡ 0)
    (λ i j. by_test (Decides-ltb j (S.m i)) (within_decides least most (phase_at a i j)) (Decides-eqb (phase_at a i j) 0))
    (λ i j h. phase_past a i j long h) (λ i j h. phase_none a i j h)

-- numbers one behind the other, each in its range
abbrev pub AllIn : List FromTo → List ℕ → Type 0
AllIn [] numbers = Unit {0}
AllIn (r ∷ rs) [] = ⊥
AllIn (r ∷ rs) (v ∷ vs) = (r.least ≤ v) × (v ≤ r.most) × AllIn rs vs

-- no range
abbrev none : FromTo
none = record { least = 0; most = 0 }

-- the number at a place is in the range there
pub number_in : (rs : List FromTo) (vs : List ℕ) → AllIn rs vs → (k : ℕ) → k < length rs → ((get_or rs k none).least ≤ get_or vs k 0) × (get_or vs k 0 ≤ (get_or rs k none).most)
number_in [] vs h k l = absurd (omega arith)
number_in (r ∷ rs) [] h k l = absurd h
number_in (r ∷ rs) (v ∷ vs) h zero l = (h.0, h.1)
number_in (r ∷ rs) (v ∷ vs) h (suc k) l = number_in rs vs h.2 k (omega arith)
