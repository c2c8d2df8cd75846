-- One stage of a walk, whatever is walked: some tasks are low, and their pieces have to fit a margin that the counts of the other tasks leave.
-- For EDF a stage is a length t and the low tasks are those with D above t (`Step.antt`); for fixed priority it is a task, and the low ones those below it.
-- Assumes nothing.
use Rattle.std.specs.Prelude.{◌≡◌, Bool, true, false, ℕ, ◌≤◌, max}
use Rattle.std.proofs.Common.{sym, ◌∙◌, subst, true≢false, le_trans, le_refl}
use Rattle.std.proofs.Math.Nat.{le-max_left, le-max_right, max-le}
use Rattle.finite.proofs.laws.Tests.{by_cases}
use Rattle.model.specs.Phase.{Choice, Phases}
use Rattle.model.specs.Tasks.{Each, Tasks}
use Rattle.model.specs.Walk.{raise_low}
use Rattle.model.specs.Works.{Least, NoMore, AllAllowed}
use Rattle.model.proofs.laws.Phases.{Laws}

pub raise_kept : (P : Phases) (low : ℕ → Bool) (M : ℕ) (x : Choice) (i j : ℕ) → low i ≡ false → raise_low P low M x i j ≡ x i j
unfolding raise_low
raise_kept P low M x i j e = rw e

pub raise_raised : (P : Phases) (low : ℕ → Bool) (M : ℕ) (x : Choice) (i j : ℕ) → low i ≡ true → raise_low P low M x i j ≡ max (x i j) (P.need i j M)
unfolding raise_low
raise_raised P low M x i j e = rw e

-- what holds of the count kept and of the count raised, each where it is in place, holds of the count
raise_by : (P : Phases) (low : ℕ → Bool) (M : ℕ) (x : Choice) (i j : ℕ) (Q : ℕ → Type 0)
    → (low i ≡ false → Q (x i j)) → (low i ≡ true → Q (max (x i j) (P.need i j M))) → Q (raise_low P low M x i j)
raise_by P low M x i j Q kept more =
    by_cases (low i) (λ e. rw (raise_raised P low M x i j e) (more e)) (λ e. rw (raise_kept P low M x i j e) (kept e))

-- the pieces of the low tasks fit M
abbrev pub LowFit : Tasks → Phases → (ℕ → Bool) → ℕ → Choice → Type 0
LowFit S P low M x = Each S (λ i j. low i ≡ true → P.longest_piece i j (x i j) ≤ M)

-- the same counts for the tasks that are not low
abbrev pub SameHigh : Tasks → (ℕ → Bool) → Choice → Choice → Type 0
SameHigh S low x y = Each S (λ i j. low i ≡ false → x i j ≡ y i j)

-- A stage: `Before` was asked up to here, `Here` is asked now. `Here` says that something is `Enough`, and that the low tasks' pieces fit a margin.
-- More counts leave less, and only the counts of the tasks that are not low matter.
pub record Stage (S : Tasks) (P : Phases) (low : ℕ → Bool) (Before Here Enough : Choice → Type 0) (margin : Choice → ℕ) : Type 0 where
  pub asks : (x : Choice) → AllAllowed S P x → Here x → (Enough x) × (LowFit S P low (margin x) x)
  pub holds : (x : Choice) → AllAllowed S P x → Enough x → LowFit S P low (margin x) x → Here x
  pub enough_less : (x y : Choice) → NoMore S x y → Enough y → Enough x
  pub margin_less : (x y : Choice) → NoMore S x y → margin y ≤ margin x
  pub enough_high : (x y : Choice) → SameHigh S low x y → Enough x → Enough y
  pub margin_high : (x y : Choice) → SameHigh S low x y → margin x ≡ margin y
  pub before_kept : (x y : Choice) → AllAllowed S P x → AllAllowed S P y → NoMore S x y → SameHigh S low x y → Before x → Before y

module _ (S : Tasks) (P : Phases) (laws : Laws S P) (low : ℕ → Bool) (Before Here Enough : Choice → Type 0) (margin : Choice → ℕ)
    (stage : Stage S P low Before Here Enough margin) (x : Choice) (lb : Least S P Before x) where
  -- whatever satisfies both leaves the least choice's low tasks no more room than that choice does
  module _ (y : Choice) (vy : AllAllowed S P y) (by : Before y) (hy : Here y) where
    no_fewer : NoMore S x y
    no_fewer = lb.least y vy by

    fits_margin : LowFit S P low (margin x) y
    fits_margin i j l k e = le_trans ((stage.asks y vy hy).1 i j l k e) (stage.margin_less x y no_fewer)

    needs_margin : Each S (λ i j. low i ≡ true → (P.room i j (margin x) ≡ true) × (P.need i j (margin x) ≤ y i j))
    needs_margin i j l k e = laws.need_least i j l k (margin x) (y i j) (vy i j l k) (fits_margin i j l k e)

  -- (a) there is not enough even under the least choice
  pub stage_enough : ¬ Enough x → (y : Choice) → AllAllowed S P y → Before y → ¬ Here y
  stage_enough f y vy by hy = f (stage.enough_less x y (no_fewer y vy by hy) (stage.asks y vy hy).0)

  -- (b) some phase of a low task has no room
  pub stage_room : Each S (λ i j. low i ≡ true → P.room i j (margin x) ≡ false → (y : Choice) → AllAllowed S P y → Before y → ¬ Here y)
  stage_room i j l k e f y vy by hy = true≢false (sym (needs_margin y vy by hy i j l k e).0 ∙ f)

  -- (c) otherwise
  module _ (enough : Enough x) (roomy : Each S (λ i j. low i ≡ true → P.room i j (margin x) ≡ true)) where
    abbrev x' : Choice
    x' = raise_low P low (margin x) x

    pub raise_valid : AllAllowed S P x'
    raise_valid i j l k =
        raise_by P low (margin x) x i j (λ z. P.Allowed i j z) (λ e. lb.valid i j l k)
        (λ e. laws.max_allowed i j l k (x i j) _ (lb.valid i j l k) (laws.need_allowed i j l k (margin x) (roomy i j l k e)))

    pub raise_more : NoMore S x x'
    raise_more i j l k = raise_by P low (margin x) x i j (λ z. x i j ≤ z) (λ e. le_refl (x i j)) (λ e. le-max_left (x i j) _)

    pub raise_high : SameHigh S low x x'
    raise_high i j l k e = sym (raise_kept P low (margin x) x i j e)

    raise_fits : LowFit S P low (margin x) x'
    raise_fits i j l k e =
        laws.need_enough i j l k (margin x) (x' i j) (roomy i j l k e) (raise_valid i j l k)
        (rw (raise_raised P low (margin x) x i j e) (le-max_right (x i j) _))

    raise_here : Here x'
    raise_here =
        stage.holds x' raise_valid (stage.enough_high x x' raise_high enough) (subst (λ (M : ℕ). LowFit S P low M x') (stage.margin_high x x' raise_high) raise_fits)

    pub stage_least : Least S P (λ y. (Before y) × (Here y)) x'
    stage_least = record {
      valid = raise_valid;
      good = (stage.before_kept x x' lb.valid raise_valid raise_more raise_high lb.good, raise_here);
      least = λ y vy g i j l k. raise_by P low (margin x) x i j (λ z. z ≤ y i j) (λ e. no_fewer y vy g.0 g.1 i j l k)
          (λ e. max-le (no_fewer y vy g.0 g.1 i j l k) (needs_margin y vy g.0 g.1 i j l k e).1);
    }
