-- What the loops over a task's phases keep, turn by turn.
-- Assumes nothing.
use Rattle.std.specs.Prelude.{◌≡◌, ℕ, ◌+◌, ◌*◌, ◌≤◌, ◌<◌, max}
use Rattle.std.proofs.Common.{sym, ◌∙◌, arith}
use Rattle.std.proofs.Math.Path.{ap}
use Rattle.finite.specs.Finite.{max_to, sum_to}
use Rattle.model.specs.Phase.{Choice, brings, phases_of}
use Rattle.model.specs.Tasks.{Tasks}
use Rattle.model.specs.Works.{longest}
use Rattle.model.proofs.laws.Plain.{pieces_of}
use Rattle.pieces.specs.Bounds.{phase_most, piece_most}
use Rattle.pieces.specs.Task.{InPieces, PhaseFits, Roomy, needs}
use Rattle.pieces.specs.laws.Sums.{max_more, max_none, sum_more, sum_none}

-- ---- the budget of task i under a margin, over its first j phases

pub record Adding (S : Tasks) (M i j sum : ℕ) : Type 0 where
  pub is : sum ≡ sum_to j (brings S (needs (phases_of S) M) i)
  pub most : sum ≤ j * phase_most

pub adding_none : (S : Tasks) (M i : ℕ) → Adding S M i 0 0
adding_none S M i = record { is = sym (sum_none _); most = omega arith }

pub adding_fits : {S : Tasks} {M i : ℕ} (j : ℕ) → Roomy S M i → j < S.m i → PhaseFits (S.c i j) (S.q i j) M
adding_fits j r l =
    let p = r.phase j l in
    record { room = r.room j l; low = r.low; work = p.work_at_most; cost = p.cost_at_most }

pub adding_more : {S : Tasks} {M i j sum r : ℕ} → Adding S M i j sum → (r ≡ brings S (needs (phases_of S) M) i j) × (r ≤ phase_most) → Adding S M i (j + 1) (sum + r)
adding_more k e = record { is = rw sum_more (omega (arith, k.is, e.0)); most = omega (arith, k.most, e.1) }

pub adding_all : {S : Tasks} {M i j sum : ℕ} → Adding S M i j sum → j ≡ S.m i → sum ≡ (phases_of S).budget (needs (phases_of S) M) i
adding_all {S} {M} {i} k e =
    k.is ∙ ap (λ (n : ℕ). sum_to n (brings S (needs (phases_of S) M) i)) e ∙ sym ((pieces_of S).whole (needs (phases_of S) M) i)

-- its turns
pub ruleset adding_turns = (adding_none, adding_more, adding_all)

-- ---- the longest piece of task i, over its first j phases

pub record Rising (S : Tasks) (x : Choice) (i j top : ℕ) : Type 0 where
  pub is : top ≡ max_to j (λ k. (phases_of S).longest_piece i k (x i k))
  pub most : top ≤ piece_most

pub rising_none : (S : Tasks) (x : Choice) (i : ℕ) → Rising S x i 0 0
rising_none S x i = record { is = sym (max_none _); most = omega arith }

-- the phases that are looked at are in pieces
pub rising_some : {S : Tasks} {x : Choice} {i j : ℕ} → InPieces S x i → j < S.m i → 0 < x i j
rising_some {j = j} cut l = cut.some j l

pub rising_more : {S : Tasks} {x : Choice} {i j top r t : ℕ} → InPieces S x i → j < S.m i → Rising S x i j top
    → (r ≡ (phases_of S).longest_piece i j (x i j)) × (r ≤ S.c i j + S.q i j) → t ≡ max top r → Rising S x i (j + 1) t
rising_more {j = j} cut l k e et =
    let h = cut.phase j l in
    record { is = rw max_more (et ∙ rw (k.is, e.0)); most = omega (arith, k.most, e.1, h.work_at_most, h.cost_at_most) }

pub rising_all : {S : Tasks} {x : Choice} {i j top : ℕ} → Rising S x i j top → j ≡ S.m i → top ≡ longest S (phases_of S) x i
unfolding longest
rising_all {S} {x} {i} k e = k.is ∙ ap (λ (n : ℕ). max_to n (λ k. (phases_of S).longest_piece i k (x i k))) e

-- its turns
pub ruleset rising_turns = (rising_none, rising_more, rising_all)
