-- What is said of tests of places in other words than the methods say it: by two comparisons, and with a test in front. (No proof cites this today.)
-- Assumes nothing.
use Rattle.std.specs.Prelude.{◌≡◌, refl, Bool, true, false, cond, ◌&&◌, ℕ, ◌+◌, leb, eqb}
use Rattle.std.proofs.Common.{ap, ◌∙◌, add-one, arith}
use Rattle.std.proofs.lemmas.Bool.Decides.{Decides-and, Decides-eqb, Decides-like, same_from_decides}
use Rattle.finite.specs.Finite.{all_to}
use Rattle.finite.proofs.laws.Tests.{leb_decides}
use Rattle.records.specs.Held.{held_in, held_test}
use Rattle.records.specs.Lent.{changing_all, in_place, running_all}
use Rattle.records.specs.Ranges.{in_range}
use Rattle.records.specs.declared.Dispatcher.{Dispatcher}
use Rattle.records.proofs.laws.Fields.{Long}
use Rattle.records.proofs.laws.Lent.{all_both}
use Rattle.records.proofs.laws.Tested.{together}

-- two comparisons are a number's range
pub in_place_by : (used : Bool) (least most number : ℕ) → (leb (cond used least 0) number && leb number (cond used most 0)) ≡ in_place used least most number
in_place_by true least most number = refl
in_place_by false least most number =
    same_from_decides _ _
    (Decides-and _ _ (leb_decides 0 number) (leb_decides number 0))
    (Decides-like _ (λ e. (omega arith, omega arith)) (λ h. omega (arith, h.1)) (Decides-eqb number 0))

-- and two a count's, whatever the work at a place that is not used
pub count_by : (used : Bool) (work count : ℕ) → (cond used (leb 1 count) (eqb count 0) && leb count work) ≡ in_place used 1 work count
count_by true work count = refl
count_by false work count =
    same_from_decides _ _
    (Decides-and _ _ (Decides-eqb count 0) (leb_decides count work))
    (Decides-like _ (λ e. (e, omega (arith, e))) (λ h. h.0) (Decides-eqb count 0))

-- a test, and then one of every place
unfoldable pub all_after : Bool → ℕ → (ℕ → Bool) → Bool
all_after a n p = a && all_to n p

pub after_none : (a : Bool) (p : ℕ → Bool) → a ≡ all_after a 0 p
unfolding all_after all_to
after_none true p = refl
after_none false p = refl

pub after_more : (a : Bool) (i : ℕ) (p : ℕ → Bool) (b v : Bool) → b ≡ all_after a i p → v ≡ (b && p i) → v ≡ all_after a (i + 1) p
unfolding all_after all_to
after_more true i p b v e f = f ∙ rw (add-one, e)
after_more false i p b v e f = f ∙ rw e

-- one test at every place, and one more
pub after_one : (n : ℕ) (a : Bool) (p : ℕ → Bool) → all_after a n p ≡ (a && all_to n p)
unfolding all_after
after_one n a p = refl

pub after_all : (n : ℕ) (a : Bool) (p q : ℕ → Bool) {x : Bool} → all_after a n p ≡ x → all_after a n (λ i. p i && q i) ≡ (x && all_to n q)
unfolding all_after
after_all n true p q e = all_both n p q ∙ ap (λ b. b && all_to n q) e
after_all n false p q e = ap (λ b. b && all_to n q) e

-- what the record is tested for, one by one, is its range
pub tested_by : (d : Dispatcher) (long : Long d) (held changing runs : Bool)
    → held ≡ held_test (held_in d) → changing ≡ changing_all d → runs ≡ running_all d → ((held && changing) && runs) ≡ in_range d
tested_by d long held changing runs a b c = rw (a, b, c) (together d long)
