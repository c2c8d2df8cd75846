-- What the loop over the places of the phases tests, place by place, is the test of every phase, number by number.
-- Assumes nothing.
use Rattle.std.specs.Prelude.{◌≡◌, refl, Bool, true, false, ◌&&◌, List, ℕ, ◌/◌, ◌%◌, ◌<◌, leb, get_or}
use Rattle.std.proofs.Common.{sym, ap, ap₂, ◌∙◌, arith}
use Rattle.finite.specs.Finite.{Below, all_to}
use Rattle.finite.proofs.laws.Decided.{every, within_decides}
use Rattle.std.proofs.lemmas.Bool.Decides.{Decides-and, Decides-like, same_from_decides}
use Rattle.std.specs.Bool.{Decides}
use Rattle.finite.proofs.laws.Tests.{leb_decides}
use Rattle.model.specs.Arrays.{phase_at}
use Rattle.model.specs.Ranges.{all_phases, cost_most, number_test, table_test, task_test, tasks_most, work_most}
use Rattle.model.proofs.laws.Arrays.{phase_place}
use Rattle.records.specs.Held.{held_in, held_test, tasks_in}
use Rattle.records.specs.Lent.{cost_at, count_at, in_place, in_place_at, numbers_at, used_at, work_at}
use Rattle.records.specs.declared.Dispatcher.{Dispatcher}

-- ---- one place

-- where a count is in its range, the work is at least 1
work_some : (used : Bool) (most work count : ℕ) → in_place used 1 work count ≡ true → in_place used 0 most work ≡ in_place used 1 most work
work_some true most work count h =
    let c = (within_decides 1 work count).0 h in
    same_from_decides _ _
    (Decides-and _ _ (leb_decides 0 work) (leb_decides work most))
    (Decides-like _ (λ t. (omega arith, t.1)) (λ t. (omega (arith, c.0, c.1), t.1)) (Decides-and _ _ (leb_decides 1 work) (leb_decides work most)))
work_some false most work count h = refl

-- ---- every place

pub itself : (b : Bool) → Decides b (b ≡ true)
itself b = (λ e. e, λ e. e)

pub all_both : (n : ℕ) (p q : ℕ → Bool) → all_to n (λ i. p i && q i) ≡ (all_to n p && all_to n q)
all_both n p q =
    same_from_decides _ _
    (every n (λ i. p i && q i) (λ i. (p i ≡ true) × (q i ≡ true)) (λ i. Decides-and _ _ (itself (p i)) (itself (q i))))
    (Decides-like _
    (λ t i l. (t.0 i l, t.1 i l))
    (λ t. (λ i l. (t i l).0, λ i l. (t i l).1))
    (Decides-and _ _ (every n p (λ i. p i ≡ true) (λ i. itself (p i))) (every n q (λ i. q i ≡ true) (λ i. itself (q i)))))

pub all_alike : (n : ℕ) (p q : ℕ → Bool) → ((i : ℕ) → i < n → p i ≡ q i) → all_to n p ≡ all_to n q
all_alike n p q e =
    same_from_decides _ _
    (every n p (λ i. p i ≡ true) (λ i. itself (p i)))
    (Decides-like _ (λ t i l. e i l ∙ t i l) (λ t i l. sym (e i l) ∙ t i l) (every n q (λ i. q i ≡ true) (λ i. itself (q i))))

-- what matters only where the last test passes
pub under_last : (b : Bool) {x y : Bool} → (b ≡ true → x ≡ y) → (x && b) ≡ (y && b)
under_last true e = ap (λ z. z && true) (e refl)
under_last false {x} {y} e = none x ∙ sym (none y)
  where
    none : (z : Bool) → (z && false) ≡ false
    none true = refl
    none false = refl

-- a first test and three more, grouped in two ways
grouped : (a w q c : Bool) → (a && (w && q && c)) ≡ (a && w && q && c)
grouped true w q c = refl
grouped false w q c = refl

module _ (d : Dispatcher) where
  -- one number of every phase, with a most of its own at each
  pub all_in_place : (least : ℕ) (most : ℕ → ℕ) (each : ℕ → ℕ → ℕ) (numbers : List ℕ) → ((p : ℕ) → most p ≡ each (p / 8) (p % 8))
      → all_to 256 (in_place_at d least most numbers) ≡ all_phases (λ i j. number_test (λ i. get_or d.phases i 0) least (each i j) (phase_at numbers) i j)
  all_in_place least most each numbers e =
      all_alike 256 (in_place_at d least most numbers) (λ p. number_test (λ i. get_or d.phases i 0) least (each (p / 8) (p % 8)) (phase_at numbers) (p / 8) (p % 8))
      (λ p l. ap₂ (λ z v. in_place (used_at d p) least z v) (e p) (sym (phase_place numbers p)))

  -- where all counts are, all works are at least 1
  pub works_some : (most : ℕ) → all_to 256 (count_at d) ≡ true → all_to 256 (in_place_at d 0 (λ p. most) d.work) ≡ all_to 256 (in_place_at d 1 (λ p. most) d.work)
  works_some most h =
      all_alike 256 (in_place_at d 0 (λ p. most) d.work) (in_place_at d 1 (λ p. most) d.work)
      (λ p l. work_some (used_at d p) most (get_or d.work p 0) (get_or d.counts p 0) (each p l))
    where
      each : Below 256 (λ p. count_at d p ≡ true)
      each = (every 256 (count_at d) (λ p. count_at d p ≡ true) (λ p. itself (count_at d p))).0 h

  -- the number of tasks, the tests of every task and those of every place are the test of what the record holds
  pub held_by : (leb d.tasks tasks_most && all_to 32 (task_test (tasks_in d)) && all_to 256 (numbers_at d)) ≡ held_test (held_in d)
  unfolding held_test table_test
  held_by =
      let A : Bool = leb d.tasks tasks_most && all_to 32 (task_test (tasks_in d)) in
      let W = all_in_place 1 (λ p. work_most) (λ i j. work_most) d.work (λ p. refl) in
      let Q = all_in_place 0 (λ p. cost_most) (λ i j. cost_most) d.cost (λ p. refl) in
      let C = all_in_place 1 (λ p. get_or d.work p 0) (phase_at d.work) d.counts (λ p. sym (phase_place d.work p)) in
      ap (λ b. A && b) (all_both 256 (λ p. work_at d p && cost_at d p) (count_at d) ∙ ap (λ b. b && all_to 256 (count_at d)) (all_both 256 (work_at d) (cost_at d))) ∙
      grouped A (all_to 256 (work_at d)) (all_to 256 (cost_at d)) (all_to 256 (count_at d)) ∙
      under_last (all_to 256 (count_at d)) (λ h. ap (λ w. (A && w) && all_to 256 (cost_at d)) (works_some work_most h)) ∙
      (λ k. ((A && W k) && Q k) && C k)
