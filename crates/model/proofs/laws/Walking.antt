-- What a loop needs that goes from test point to test point: the choice is kept in between.
-- Assumes nothing.
use Rattle.std.specs.Prelude.{◌≡◌, true, ℕ, zero, suc, ◌+◌, ◌-◌, ◌≤◌, ◌<◌}
use Rattle.std.proofs.Common.{sym, ap, ◌∙◌, arith}
use Rattle.model.specs.Phase.{Choice, Phases}
use Rattle.model.specs.Tasks.{Each, Sane, Tasks}
use Rattle.model.specs.TestPoints.{TestPoint, points}
use Rattle.model.specs.Verdict.{Blocked, LeastBelow, Refused, margin}
use Rattle.model.specs.Walk.{ones, raise}
use Rattle.model.specs.Works.{demand_of}
use Rattle.model.proofs.laws.Choices.{by_below, least_same}
use Rattle.model.proofs.laws.NextTest.{next_test_above, next_test_first, next_test_is, next_test, points_next, points_until}
use Rattle.model.proofs.laws.Phases.{Laws}
use Rattle.model.proofs.laws.Step.{raise_least}
use Rattle.model.proofs.laws.TestPoints.{points_zero, test_counted}
use Rattle.model.proofs.laws.Verdict.{AcceptedUpTo, next_least, next_pass, refuse, start_least, up_to_least}

module _ (S : Tasks) (sane : Sane S) (P : Phases) (laws : Laws S P) where
  through : (d s : ℕ) (x : Choice) → ((t : ℕ) → s < t → t ≤ s + d → ¬ TestPoint S t) → LeastBelow S P (suc s) x → LeastBelow S P (suc (s + d)) x
  through zero s x f lb = let e : s + 0 ≡ s = omega arith in rw e lb
  through (suc d) s x f lb =
      let e : s + suc d ≡ suc (s + d) = omega arith in
      rw e (next_pass S sane P laws x (s + d) (f (suc (s + d)) (omega arith) (omega arith)) (through d s x (λ t a b. f t a (omega arith)) lb))

  -- least up to s, so least up to any length that the next test point passes
  least_until : (s L : ℕ) (x : Choice) → s ≤ L → L < next_test S s → LeastBelow S P (suc s) x → LeastBelow S P (suc L) x
  least_until s L x h g lb =
      let e : s + (L - s) ≡ L = omega arith in
      rw e at (through (L - s) s x (λ t l k p. absurd (omega (arith, next_test_first S sane s t l p))) lb)

  -- so least below the next test point
  pub least_next : (s : ℕ) (x : Choice) → LeastBelow S P (suc s) x → LeastBelow S P (next_test S s) x
  least_next s x lb =
      let a = next_test_above S sane s in
      let e : suc (next_test S s - 1) ≡ next_test S s = omega arith in
      rw e at (least_until s (next_test S s - 1) x (omega arith) (omega arith) lb)

-- The state between two test points: all lengths up to s are done, x is least among the choices that work up to s, p test points were met.
pub record Walking (S : Tasks) (P : Phases) (s : ℕ) (x : Choice) (p : ℕ) : Type 0 where
  pub least : LeastBelow S P (suc s) x
  pub counted : p ≡ points S s

-- What the loop does with it. It begins at 0; at the next test point t it refuses or goes on; it ends when t is beyond the end L, whatever L is.
module _ (S : Tasks) (sane : Sane S) (P : Phases) (laws : Laws S P) where
  pub walking_start : (x : Choice) → Each S (λ i j. x i j ≡ 1) → Walking S P 0 x 0
  walking_start x e = record {
    least = least_same S P laws _ (by_below S P laws 1) ones x (λ i j l k. sym (e i j l k)) (start_least S sane P laws);
    counted = sym (points_zero S sane);
  }

  module _ (s : ℕ) (x : Choice) (p : ℕ) (w : Walking S P s x p) (t : ℕ) (next : t ≡ next_test S s) where
    test : TestPoint S t
    test = rw next (next_test_is S sane s)

    lb : LeastBelow S P t x
    lb = rw next (least_next S sane P laws s x w.least)

    met : suc p ≡ points S t
    met = rw next (ap suc w.counted ∙ sym (points_next S sane s))

    -- up to any end L
    pub walking_end : (L : ℕ) → s ≤ L → L < t → AcceptedUpTo S P L x p
    walking_end L h g = record {
      least = up_to_least S sane P laws x L (least_until S sane P laws s L x h (rw next at g) w.least);
      examined = w.counted ∙ sym (points_until S sane s L h (rw next at g));
    }

    pub walking_refuse : (L : ℕ) → t ≤ L → {i j : ℕ} → Blocked S P x t i j → Refused S P L t (demand_of S P x t) (suc p) i j
    walking_refuse L h b = refuse S sane P laws x t lb test L h (suc p) met b

    -- y is x raised, at the phases that there are
    pub walking_raise : demand_of S P x t ≤ t → Each S (λ i j. t < S.D i → P.room i j (margin S P x t) ≡ true)
        → (y : Choice) → Each S (λ i j. y i j ≡ raise S P t (margin S P x t) x i j) → Walking S P t y (suc p)
    walking_raise g roomy y e = record {
      least = least_same S P laws _ (by_below S P laws (suc t)) (raise S P t (margin S P x t) x) y (λ i j l k. sym (e i j l k))
          (next_least S sane P laws (raise S P t (margin S P x t) x) t (raise_least S P laws x t (test_counted S t test) lb g roomy));
      counted = met;
    }
