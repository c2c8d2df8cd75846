-- One step of the judge's walk: from the choice that is least among those working below t, to the verdict at t.
-- Assumes nothing.
use Rattle.std.specs.Prelude.{◌≡◌, ◌⊎◌, true, false, ℕ, ◌≤◌, ◌<◌}
use Rattle.std.proofs.lemmas.Bool.{le-ltb, lt-ltb, ltb-true}
use Rattle.std.proofs.Common.{sym, inl, inr, le_refl, le_antisymm, le_of_eq, le_of_lt, eq-or-lt_of_le}
use Rattle.std.proofs.Math.Nat.{le_trans}
use native.Mathlib.Omega.{arith}
use Rattle.model.specs.Phase.{Choice, Phases}
use Rattle.model.specs.Tasks.{Each, Tasks}
use Rattle.model.specs.Verdict.{LeastBelow, NoneUpTo, margin}
use Rattle.model.specs.Walk.{above, raise}
use Rattle.model.specs.Works.{Counted, Holds, Least, WorksBelow, WorksUpTo, demand_of}
use Rattle.model.proofs.laws.Choices.{blocking_of_antitone, demand_of_mono, piece_blocks, pieces_block}
use Rattle.model.proofs.laws.Phases.{Laws}
use Rattle.model.proofs.laws.Raise.{SameHigh, Stage, stage_enough, stage_least, stage_room}

above_true : (S : Tasks) {t i : ℕ} → t < S.D i → above S t i ≡ true
above_true S {t} {i} d = lt-ltb t (S.D i) d

true_above : (S : Tasks) {t i : ℕ} → above S t i ≡ true → t < S.D i
true_above S {t} {i} e = ltb-true t (S.D i) e

not_above : (S : Tasks) {t i : ℕ} → S.D i ≤ t → above S t i ≡ false
not_above S {t} {i} d = le-ltb t (S.D i) d

module _ (S : Tasks) (P : Phases) (laws : Laws S P) where
  -- the demand at s goes by the tasks with D at most s
  demand_high : (x y : Choice) (s t : ℕ) → s ≤ t → SameHigh S (above S t) x y → demand_of S P x s ≡ demand_of S P y s
  demand_high x y s t h e =
      le_antisymm
      (demand_of_mono S P laws x y s (λ i l d j k. le_of_eq (e i j l k (not_above S (le_trans d h)))))
      (demand_of_mono S P laws y x s (λ i l d j k. le_of_eq (sym (e i j l k (not_above S (le_trans d h))))))

  -- a length is a stage: what leaves a margin is the demand of the tasks with D at most t
  at_length : (t : ℕ) → Counted S t
      → Stage S P (above S t) (λ y. WorksBelow S P y t) (λ y. Holds S P y t) (λ y. demand_of S P y t ≤ t) (λ y. margin S P y t)
  unfolding margin
  at_length t c = record {
    asks = λ x v h. (omega arith, λ i j l k e. omega (arith, h, piece_blocks S P laws x t i j l k (true_above S e)));
    holds = λ x v h f. omega (arith, h, pieces_block S P laws x t (λ i j l k d. f i j l k (above_true S d)));
    enough_less = λ x y h e. le_trans (demand_of_mono S P laws x y t (λ i l d j k. h i j l k)) e;
    margin_less = λ x y h. omega (arith, demand_of_mono S P laws x y t (λ i l d j k. h i j l k));
    enough_high = λ x y h e. omega (arith, e, demand_high x y t t (le_refl t) h);
    margin_high = λ x y h. omega (arith, demand_high x y t t (le_refl t) h);
    before_kept = λ x y vx vy h e w s cs l. omega (arith, w s cs l, demand_high x y s t (le_of_lt l) e, blocking_of_antitone S P laws x y s vx vy h);
  }

  module _ (x : Choice) (t : ℕ) (c : Counted S t) (lb : LeastBelow S P t x) where
    both : (y : Choice) → WorksUpTo S P y t → (WorksBelow S P y t) × (Holds S P y t)
    both y w = (λ s cs l. w s cs (le_of_lt l), w t c (le_refl t))

    -- (a) the demand alone is too much
    pub demand_refuses : t < demand_of S P x t → NoneUpTo S P t
    demand_refuses h y vy w = stage_enough S P laws _ _ _ _ _ (at_length t c) x lb (omega arith) y vy (both y w).0 (both y w).1

    -- (b) some phase of a task with D above t has no room in the margin
    pub phase_refuses : Each S (λ i j. t < S.D i → P.room i j (margin S P x t) ≡ false → NoneUpTo S P t)
    phase_refuses i j l k d e y vy w = stage_room S P laws _ _ _ _ _ (at_length t c) x lb i j l k (above_true S d) e y vy (both y w).0 (both y w).1

    -- (c) otherwise the raised counts are least among those that work up to t
    pub raise_least : demand_of S P x t ≤ t → Each S (λ i j. t < S.D i → P.room i j (margin S P x t) ≡ true)
        → Least S P (λ y. WorksUpTo S P y t) (raise S P t (margin S P x t) x)
    raise_least h roomy =
        let a = stage_least S P laws _ _ _ _ _ (at_length t c) x lb h (λ i j l k e. roomy i j l k (true_above S e)) in
        record {
          valid = a.valid;
          good = λ s cs l. up_to (raise S P t (margin S P x t) x) s (eq-or-lt_of_le l) (a.good.0 s cs) a.good.1;
          least = λ y vy w. a.least y vy (both y w);
        }
      where
        up_to : (z : Choice) (s : ℕ) → (s ≡ t) ⊎ (s < t) → (s < t → Holds S P z s) → Holds S P z t → Holds S P z s
        up_to z s (inl e) before now = rw e now
        up_to z s (inr l) before now = before l
