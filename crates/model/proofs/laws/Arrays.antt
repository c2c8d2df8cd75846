-- The places of an array of 256 as phases of tasks, of one of 32 as tasks; a number put at one place, and beyond the last.
-- Assumes nothing.
use Rattle.std.specs.Prelude.{◌≡◌, refl, List, ◌⊎◌, ℕ, zero, suc, ◌+◌, ◌*◌, ◌/◌, ◌%◌, ◌≤◌, ◌<◌, ltb, length, get_or, replicate, set}
use Rattle.std.proofs.Common.{sym, ap, ap₂, ◌∙◌, inl, inr, arith, get_or-set_other, get_or-set_same, lt-ltb, le-ltb}
use Rattle.std.proofs.Math.Decide.{dec_lt}
use Rattle.std.proofs.Math.ListN.{get_or-eq_default}
use Rattle.finite.specs.Finite.{list_to}
use Rattle.finite.proofs.laws.Lists.{get_or_list, length_list, list_alike, list_of}
use Rattle.finite.proofs.laws.Tests.{by_cases, le_or_lt}
use Rattle.std.proofs.lemmas.Bool.{cond-false, cond-true}
use Rattle.model.specs.Arrays.{listed_by_phase, phase_at}

-- ---- phases

-- one of the eight phases
pub phase_at_lem : (xs : List ℕ) (i j : ℕ) → j < 8 → phase_at xs i j ≡ get_or xs (8 * i + j) 0
phase_at_lem xs i j l = cond-true (ltb j 8) (get_or xs (8 * i + j) 0) 0 (lt-ltb j 8 l)

-- no further one
pub phase_none : (xs : List ℕ) (i j : ℕ) → 8 ≤ j → phase_at xs i j ≡ 0
phase_none xs i j l = cond-false (ltb j 8) (get_or xs (8 * i + j) 0) 0 (le-ltb j 8 l)

-- a place, as a phase of its task
pub phase_place : (xs : List ℕ) (p : ℕ) → phase_at xs (p / 8) (p % 8) ≡ get_or xs p 0
phase_place xs p =
    let place : 8 * (p / 8) + p % 8 ≡ p = omega arith in
    phase_at_lem xs (p / 8) (p % 8) (omega arith) ∙ ap (λ (k : ℕ). get_or xs k 0) place

-- the place of one of the eight phases, as a phase of its task
pub place_phase {ℓ} : {A : Type ℓ} (f : ℕ → ℕ → A) (i j : ℕ) → j < 8 → f ((8 * i + j) / 8) ((8 * i + j) % 8) ≡ f i j
place_phase f i j l =
    let q : (8 * i + j) / 8 ≡ i = omega arith in
    let r : (8 * i + j) % 8 ≡ j = omega arith in
    ap₂ f q r

-- ---- beyond the arrays

pub beyond : (l : List ℕ) (n i : ℕ) → length l ≡ n → n ≤ i → get_or l i 0 ≡ 0
beyond l n i e h = get_or-eq_default l 0 (omega arith)

pub phase_past : (a : List ℕ) (i j : ℕ) → length a ≡ 256 → 32 ≤ i → phase_at a i j ≡ 0
phase_past a i j e h = by_cases (ltb j 8) (λ t. cond-true (ltb j 8) _ 0 t ∙ beyond a 256 (8 * i + j) e (omega arith)) (λ f. cond-false (ltb j 8) (get_or a (8 * i + j) 0) 0 f)

-- ---- an array given place by place

-- an array of 256, phase by phase
pub phases_of_lem : (a : List ℕ) → length a ≡ 256 → listed_by_phase (phase_at a) ≡ a
phases_of_lem a e =
    list_alike 256 (λ p. phase_at a (p / 8) (p % 8)) (λ p. get_or a p 0)
    (λ p l. phase_place a p) ∙
    list_of 256 a 0 e

-- it has at every place what it was given, where that is 0 from its end on
pub at_place : (n : ℕ) (f : ℕ → ℕ) (i : ℕ) → (n ≤ i → f i ≡ 0) → get_or (list_to n f) i 0 ≡ f i
at_place n f i h = go (dec_lt i n)
  where
    go : Dec (i < n) → get_or (list_to n f) i 0 ≡ f i
    go (yes l) = get_or_list n f i 0 l
    go (no l) = get_or-eq_default (list_to n f) 0 (omega (arith, length_list n f)) ∙ sym (h (omega arith))

pub at_phase : (f : ℕ → ℕ → ℕ) (i j : ℕ) → (32 ≤ i → f i j ≡ 0) → (8 ≤ j → f i j ≡ 0) → phase_at (listed_by_phase f) i j ≡ f i j
at_phase f i j h g = go (dec_lt j 8)
  where
    go : Dec (j < 8) → phase_at (listed_by_phase f) i j ≡ f i j
    go (yes l) =
        let e = place_phase f i j l in
        phase_at_lem (listed_by_phase f) i j l ∙
        at_place 256 (λ p. f (p / 8) (p % 8)) (8 * i + j) (λ k. e ∙ h (omega arith)) ∙ e
    go (no l) = phase_none (listed_by_phase f) i j (omega arith) ∙ sym (g (omega arith))

-- ---- no number yet

pub zeros : (n i : ℕ) → ◌≡◌ {A = ℕ} (get_or (replicate n 0) i 0) 0
zeros zero i = refl
zeros (suc n) zero = refl
zeros (suc n) (suc i) = zeros n i

pub zeros_phase : (i j : ℕ) → ◌≡◌ {A = ℕ} (phase_at (replicate 256 0) i j) 0
zeros_phase i j = go (le_or_lt 8 j)
  where
    go : (8 ≤ j) ⊎ (j < 8) → ◌≡◌ {A = ℕ} (phase_at (replicate 256 0) i j) 0
    go (inl many) = phase_none (replicate 256 0) i j many
    go (inr few) = phase_at_lem (replicate 256 0) i j few ∙ zeros 256 (8 * i + j)

-- ---- a number put at a place: it stands there, and every other place is as it was

pub task_here : (xs : List ℕ) (v a i : ℕ) → a ≡ i → i < length xs → get_or (set xs i v) a 0 ≡ v
task_here xs v a i e h = rw e (get_or-set_same xs i v 0 h)

pub task_else : (xs : List ℕ) (v a i : ℕ) → (a ≡ i → ⊥) → get_or (set xs i v) a 0 ≡ get_or xs a 0
task_else xs v a i other = get_or-set_other xs i a v 0 other

pub phase_here : (xs : List ℕ) (v a j k : ℕ) → j < 8 → 8 * a + j ≡ k → k < length xs → phase_at (set xs k v) a j ≡ v
phase_here xs v a j k few e h = phase_at_lem (set xs k v) a j few ∙ rw e (get_or-set_same xs k v 0 h)

pub phase_else : (xs : List ℕ) (v a j k : ℕ) → (j < 8 → 8 * a + j ≡ k → ⊥) → phase_at (set xs k v) a j ≡ phase_at xs a j
phase_else xs v a j k other = go (le_or_lt 8 j)
  where
    go : (8 ≤ j) ⊎ (j < 8) → phase_at (set xs k v) a j ≡ phase_at xs a j
    go (inl many) = phase_none (set xs k v) a j many ∙ sym (phase_none xs a j many)
    go (inr few) = phase_at_lem (set xs k v) a j few ∙ get_or-set_other xs k (8 * a + j) v 0 (other few) ∙ sym (phase_at_lem xs a j few)
