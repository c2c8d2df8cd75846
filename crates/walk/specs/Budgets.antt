-- WITHIN THE WALK (nobody need believe this: edf states the promise, and it is proved). The tasks' budgets, and the margins that their counts are
-- cut to: both are settled at a task's first deadline.
-- Assumes nothing.
use Rattle.std.specs.Prelude.{◌≡◌, Bool, true, ℕ, ◌*◌, ◌≤◌, get_or, set, eqb}
use Rattle.finite.specs.Finite.{Below, sum_to}
use Rattle.std.specs.Prelude.{if◌then◌else◌}
use Rattle.model.specs.Arrays.{Arrays, as_tasks}
use Rattle.model.specs.Ranges.{tasks_most}
use Rattle.model.specs.Phase.{phases_of}
use Rattle.pieces.specs.Bounds.{budget_most}
use Rattle.pieces.specs.Task.{Roomy, needs}
use Rattle.walk.specs.Deadlines.{Mapped}
use Rattle.walk.specs.declared.points.Known.{Known}

-- what one point may add to the demand
abbrev pub added_most : ℕ
added_most = tasks_most * budget_most

-- the budget of task i whose counts are the least for a margin
abbrev pub least_budget : Arrays → ℕ → ℕ → ℕ
least_budget a M i = (phases_of (as_tasks a)).budget (needs (phases_of (as_tasks a)) M) i

-- what is known of a task from its deadline d on: the new value at t, which is its deadline, otherwise the old one
abbrev pub settled : ℕ → ℕ → ℕ → ℕ → ℕ
settled t d new old = if eqb d t then new else old

-- the budget and the margin of task i after the point t, under the least margin so far
abbrev pub budget_at : Arrays → ℕ → ℕ → ℕ → ℕ → ℕ
budget_at a t low i v = settled t (get_or a.deadline i 0) (least_budget a low i) v

abbrev pub cut_at : Arrays → ℕ → ℕ → ℕ → ℕ → ℕ
cut_at a t low i v = settled t (get_or a.deadline i 0) low v

-- what a task adds to the demand at t: its budget b where its next deadline v is t
abbrev pub owed : ℕ → ℕ → ℕ → ℕ
owed t v b = if eqb v t then b else 0

-- task i is due at t and has the budget b: at its first deadline a new one, and a new margin
pub record Settles (a : Arrays) (t low i : ℕ) (k k' : Known) (b : ℕ) : Type 0 where
  pub next : k'.next ≡ k.next
  pub budget : k'.budget ≡ set k.budget i b
  pub cuts : k'.cuts ≡ set k.cuts i (cut_at a t low i (get_or k.cuts i 0))
  pub is : b ≡ budget_at a t low i (get_or k.budget i 0)

-- what f makes of the tasks that are due; the others are left
abbrev pub where_due : (ℕ → Bool) → (ℕ → ℕ → ℕ) → ℕ → ℕ → ℕ
where_due due f i v = if due i then f i v else v

-- what is asked before the budgets of the tasks that are due at t are added up
pub record BeforeSum (a : Arrays) (t low : ℕ) (due : ℕ → Bool) (k : Known) : Type 0 where
  pub bounded : Below tasks_most (λ i. due i ≡ true → get_or k.budget i 0 ≤ budget_most)
  pub roomy : Below tasks_most (λ i. due i ≡ true → get_or a.deadline i 0 ≡ t → Roomy (as_tasks a) low i)

-- the tasks that are due at t have their budgets and margins, and `added` is what their budgets come to
pub record AddedUp (a : Arrays) (t low : ℕ) (due : ℕ → Bool) (k k' : Known) (added : ℕ) : Type 0 where
  pub next : k'.next ≡ k.next
  pub budget : Mapped tasks_most (where_due due (budget_at a t low)) k.budget k'.budget
  pub cuts : Mapped tasks_most (where_due due (cut_at a t low)) k.cuts k'.cuts
  pub sum : added ≡ sum_to tasks_most (λ i. if due i then get_or k'.budget i 0 else 0)

-- the point t is taken: budgets, margins, and what is added to the demand, by the next deadlines before it
pub record BudgetsSettled (a : Arrays) (t low : ℕ) (k k' : Known) (added : ℕ) : Type 0 where
  pub budget : Mapped a.tasks (budget_at a t low) k.budget k'.budget
  pub cuts : Mapped a.tasks (cut_at a t low) k.cuts k'.cuts
  pub sum : added ≡ sum_to a.tasks (λ i. owed t (get_or k.next i 0) (get_or k'.budget i 0))
  pub most : added ≤ added_most
