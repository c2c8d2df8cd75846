-- The demand of a slice as a running answer, one task after another; and that its contract allows one answer.
-- Assumes nothing.
use Rattle.std.specs.Prelude.{◌≡◌, refl, Option, Some, None, IfSome, SomeIff, List, ℕ, ◌+◌, ◌-◌, ◌*◌, ◌/◌, ◌≤◌, ◌<◌, ◌^◌, length}
use Rattle.std.proofs.Common.{sym, ap, ◌∙◌, ⊎_elim, add-one, arith, lt-ltb, le-ltb}
use Rattle.finite.specs.Finite.{sum_to}
use Rattle.finite.proofs.laws.Sums.{sum_grow}
use Rattle.finite.proofs.laws.Tests.{le_or_lt}
use Rattle.model.specs.Demand.{demand}
use Rattle.model.proofs.laws.Jobs.{jobs_before, jobs_from}
use Rattle.lent.specs.declared.TaskLoad.{TaskLoad}
use Rattle.lent.specs.Lent.{task_at, demand_lent, Sums}
use Rattle.lent.specs.laws.Running.{told, plus, term_of, up_to}

pub told_within : (k : ℕ) → k < 2 ^ 64 → told k ≡ Some k
unfolding told
told_within k h = rw (lt-ltb k (2 ^ 64) h)

pub told_past : (k : ℕ) → 2 ^ 64 ≤ k → told k ≡ None
unfolding told
told_past k h = rw (le-ltb k (2 ^ 64) h)

pub told_fits : (k : ℕ) → IfSome (told k) (λ sum. sum < 2 ^ 64)
told_fits k =
    ⊎_elim
    (λ (h : 2 ^ 64 ≤ k). rw (told_past k h) tt)
    (λ (h : k < 2 ^ 64). rw (told_within k h) h)
    (le_or_lt (2 ^ 64) k)

-- what is answered is the number itself
pub told_some : (k sum : ℕ) → told k ≡ Some sum → k ≡ sum
told_some k sum e =
    ⊎_elim
    (λ (h : 2 ^ 64 ≤ k). let none : None ≡ Some sum = sym (told_past k h) ∙ e in cc)
    (λ (h : k < 2 ^ 64). let some : Some k ≡ Some sum = sym (told_within k h) ∙ e in cc)
    (le_or_lt (2 ^ 64) k)

-- where none is answered, the number does not fit
pub told_none : (k : ℕ) → told k ≡ None → 2 ^ 64 ≤ k
told_none k e =
    ⊎_elim
    (λ (h : 2 ^ 64 ≤ k). h)
    (λ (h : k < 2 ^ 64). let some : Some k ≡ None = sym (told_within k h) ∙ e in cc)
    (le_or_lt (2 ^ 64) k)

-- what the library's checked sums and products answer
pub checked_told : (r : Option ℕ) (k : ℕ) → SomeIff r (k < 2 ^ 64) k → r ≡ told k
checked_told None k h = sym (told_past k (omega arith))
checked_told (Some x) k h = ap Some h.1 ∙ sym (told_within k h.0)

-- a task's term, by the test that the code makes
pub term_none : (t : ℕ) (s : TaskLoad) → t < s.deadline → term_of t s ≡ 0
unfolding term_of
term_none t s h = rw (jobs_before s.spacing s.deadline t h) (omega arith)

pub term_some : (t : ℕ) (s : TaskLoad) → s.deadline ≤ t → term_of t s ≡ ((t - s.deadline) / s.spacing + 1) * s.budget
unfolding term_of
term_some t s h = rw (jobs_from s.spacing s.deadline t h)

-- adding to an answer that fits, and to one that does not
pub plus_fits : (sum k : ℕ) → plus (Some sum) k ≡ told (sum + k)
unfolding plus
plus_fits sum k = refl

pub plus_past : (k : ℕ) → plus None k ≡ None
unfolding plus
plus_past k = refl

pub plus_told : (a b : ℕ) → plus (told a) b ≡ told (a + b)
plus_told a b =
    ⊎_elim
    (λ (h : 2 ^ 64 ≤ a). ap (λ (d : Option ℕ). plus d b) (told_past a h) ∙ plus_past b ∙ sym (told_past (a + b) (omega arith)))
    (λ (h : a < 2 ^ 64). ap (λ (d : Option ℕ). plus d b) (told_within a h) ∙ plus_fits a b)
    (le_or_lt (2 ^ 64) a)

-- the running answer before the first task, after one more, and after the last
pub up_none : (tasks : List TaskLoad) (t : ℕ) → told (up_to tasks t 0) ≡ Some 0
unfolding up_to sum_to
up_none tasks t = told_within 0 (omega arith)

pub up_next : (tasks : List TaskLoad) (t i : ℕ) → plus (told (up_to tasks t i)) (term_of t (task_at tasks i)) ≡ told (up_to tasks t (i + 1))
unfolding up_to sum_to
up_next tasks t i = plus_told (up_to tasks t i) (term_of t (task_at tasks i)) ∙ rw add-one

-- once a demand no longer fits, no further task makes it fit
pub up_past : (tasks : List TaskLoad) (t i : ℕ) → i ≤ length tasks → told (up_to tasks t i) ≡ None → told (up_to tasks t (length tasks)) ≡ None
unfolding up_to
up_past tasks t i within e = told_past _ (omega (arith, told_none _ e, sum_grow (length tasks) i (λ k. term_of t (task_at tasks k)) within))

up_all : (tasks : List TaskLoad) (t : ℕ) → up_to tasks t (length tasks) ≡ demand_lent tasks t
unfolding up_to term_of demand
up_all tasks t = refl

pub up_sums : (tasks : List TaskLoad) (t : ℕ) → Sums tasks t (told (up_to tasks t (length tasks)))
up_sums tasks t = record {
  within = λ h. ap told (up_all tasks t) ∙ told_within (demand_lent tasks t) h;
  past = λ h. ap told (up_all tasks t) ∙ told_past (demand_lent tasks t) h;
}

-- the contract allows one answer
pub sums_unique : {tasks : List TaskLoad} {t : ℕ} {r s : Option ℕ} → Sums tasks t r → Sums tasks t s → r ≡ s
sums_unique {tasks} {t} a b = ⊎_elim (λ h. a.past h ∙ sym (b.past h)) (λ h. a.within h ∙ sym (b.within h)) (le_or_lt (2 ^ 64) (demand_lent tasks t))
