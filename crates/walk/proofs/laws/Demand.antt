-- What the walk's state means after its last point: each next deadline, and the demand, by the number of jobs. Assumes nothing.
use Rattle.std.specs.Prelude.{◌≡◌, List, ℕ, ◌+◌, ◌*◌, ◌<◌, get_or}
use Rattle.std.proofs.Common.{sym, ap₂, ◌∙◌, ⊎_elim, add-mul, one-mul, zero-mul, arith, eq-eqb, ne_eqb}
use Rattle.finite.specs.Finite.{sum_to}
use Rattle.finite.proofs.laws.Sums.{sum_cong, sum_add, sum_zero}
use Rattle.model.specs.Demand.{jobs}
use Rattle.model.proofs.laws.Jobs.{jobs_before}
use Rattle.finite.proofs.laws.Tests.{le_or_lt}
use Rattle.model.specs.Arrays.{Arrays}
use Rattle.walk.specs.Budgets.{budget_at, owed}
use Rattle.walk.specs.Deadlines.{Earliest}
use Rattle.walk.specs.Walk.{PointStep, Reached, WalkState, Walkable, start, step}
use Rattle.walk.proofs.laws.Deadlines.{cond_cases}
use Rattle.walk.proofs.laws.Jobs.{jobs_stay, jobs_step}
use Rattle.walk.proofs.laws.Limits.{task_in}
use Rattle.walk.proofs.laws.Walk.{bounded, later, settled_of}

-- the jobs of task i inside a length t
abbrev pub jobs_of : Arrays → ℕ → ℕ → ℕ
jobs_of a i t = jobs (get_or a.spacing i 0) (get_or a.deadline i 0) t

-- the demand at t under given budgets
abbrev pub demand_at : Arrays → List ℕ → ℕ → ℕ
demand_at a budgets t = sum_to a.tasks (λ i. jobs_of a i t * get_or budgets i 0)

-- what task i asks at t with the budget v, by what it asked at the last point and what it owes at t
abbrev Asks : Arrays → WalkState → ℕ → ℕ → ℕ → Type 0
Asks a s t i v = jobs_of a i t * v ≡ jobs_of a i s.last * get_or s.known.budget i 0 + owed t (get_or s.known.next i 0) v

module _ (a : Arrays) (h : ℕ) (lim : Walkable a h) where
  -- where a task's next deadline is the point, it has one job more there, otherwise as many
  due_jobs : (s : WalkState) (t i : ℕ) → s.last < t → i < a.tasks → get_or s.known.next i 0 ≡ get_or a.deadline i 0 + jobs_of a i s.last * get_or a.spacing i 0
      → get_or s.known.next i 0 ≡ t → jobs_of a i t ≡ jobs_of a i s.last + 1
  due_jobs s t i past l wait e = jobs_step (get_or a.spacing i 0) (get_or a.deadline i 0) s.last t (task_in a h lim i l).spacing_least past (sym e ∙ wait)

  idle_jobs : (s : WalkState) (t i : ℕ) → s.last < t → i < a.tasks → get_or s.known.next i 0 ≡ get_or a.deadline i 0 + jobs_of a i s.last * get_or a.spacing i 0
      → t < get_or s.known.next i 0 → jobs_of a i t ≡ jobs_of a i s.last
  idle_jobs s t i past l wait lt = jobs_stay (get_or a.spacing i 0) (get_or a.deadline i 0) s.last t (task_in a h lim i l).spacing_least past (rw wait at lt)

  -- each task's next deadline is the first one past the last point
  pub next_is : {s : WalkState} → Reached a h s → (i : ℕ) → i < a.tasks → get_or s.known.next i 0 ≡ get_or a.deadline i 0 + jobs_of a i s.last * get_or a.spacing i 0
  next_is start i l = rw (jobs_before (get_or a.spacing i 0) (get_or a.deadline i 0) 0 (task_in a h lim i l).deadline_least) (omega arith)
  next_is (step t {s} {e} r st free) i l = go (next_is r i l)
    where
      go : get_or s.known.next i 0 ≡ get_or a.deadline i 0 + jobs_of a i s.last * get_or a.spacing i 0 → get_or e.known.next i 0 ≡ get_or a.deadline i 0 + jobs_of a i e.last * get_or a.spacing i 0
      go wait =
          let past : s.last < t = later a h lim s t (bounded a h lim r) st.earliest in
          rw (st.last, st.taken.deadlines.each.below i l)
          (cond_cases (λ v. v ≡ get_or a.deadline i 0 + jobs_of a i t * get_or a.spacing i 0) (get_or s.known.next i 0) t _ _
          (λ eq. rw (due_jobs s t i past l wait eq, add-mul (jobs_of a i s.last) 1 (get_or a.spacing i 0)) (omega (arith, one-mul (get_or a.spacing i 0))))
          (λ ne. rw (idle_jobs s t i past l wait (omega (arith, st.earliest.below i l))) wait))

  module _ (s : WalkState) (r : Reached a h s) (t : ℕ) (earliest : Earliest a.tasks s.known.next t) (i : ℕ) (l : i < a.tasks) where
    past : s.last < t
    past = later a h lim s t (bounded a h lim r) earliest

    due : (v : ℕ) → get_or s.known.next i 0 ≡ t → jobs_of a i t * v ≡ jobs_of a i s.last * v + owed t (get_or s.known.next i 0) v
    due v e = rw (eq-eqb (get_or s.known.next i 0) t e, due_jobs s t i past l (next_is r i l) e, add-mul (jobs_of a i s.last) 1 v) (omega (arith, one-mul v))

    -- at its first deadline a task had asked nothing before
    at_first : (v : ℕ) → get_or a.deadline i 0 ≡ t → Asks a s t i v
    at_first v e =
        let now : get_or s.known.next i 0 ≡ t = (settled_of a h lim r).fresh i l (omega (arith, past)) ∙ e in
        due v now ∙ rw (jobs_before (get_or a.spacing i 0) (get_or a.deadline i 0) s.last (omega (arith, past))) (omega (arith, zero-mul v, zero-mul (get_or s.known.budget i 0)))

    -- later its budget stays
    again : Asks a s t i (get_or s.known.budget i 0)
    again =
        ⊎_elim
        (λ le. due (get_or s.known.budget i 0) (omega (arith, le, earliest.below i l)))
        (λ lt. rw (ne_eqb (get_or s.known.next i 0) t (λ e. omega arith), idle_jobs s t i past l (next_is r i l) lt) (omega arith))
        (le_or_lt (get_or s.known.next i 0) t)

    task_demand : Asks a s t i (budget_at a t s.low i (get_or s.known.budget i 0))
    task_demand = cond_cases (Asks a s t i) (get_or a.deadline i 0) t _ _ (at_first _) (λ ne. again)

  pub demand_step : (t : ℕ) (s e : WalkState) → Reached a h s → PointStep a h t s e → s.demand ≡ demand_at a s.known.budget s.last → e.demand ≡ demand_at a e.known.budget e.last
  demand_step t s e r st ih =
      st.demand ∙ ap₂ ◌+◌ ih st.taken.budgets.sum
      ∙ sym (sum_add a.tasks (λ i. jobs_of a i s.last * get_or s.known.budget i 0) (λ i. owed t (get_or s.known.next i 0) (get_or e.known.budget i 0)))
      ∙ sum_cong a.tasks _ _ (λ i l. rw (st.last, st.taken.budgets.budget.below i l) (sym (task_demand s r t st.earliest i l)))

  -- the demand that the walk carries is the demand at its last point, under the budgets that it carries
  pub demand_is : {s : WalkState} → Reached a h s → s.demand ≡ demand_at a s.known.budget s.last
  demand_is start = sym (sum_zero a.tasks _ (λ i l. rw (jobs_before (get_or a.spacing i 0) (get_or a.deadline i 0) 0 (task_in a h lim i l).deadline_least) (zero-mul _)))
  demand_is (step t {s} {e} r st go) = demand_step t s e r st (demand_is r)
