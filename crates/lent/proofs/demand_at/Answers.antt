-- `lent::demand_at` meets its contract: task by task, the running answer. Assumes nothing.
use Rattle.std.proofs.Common.{◌≡◌, ◌+◌, ◌<◌, ℕ, List, Option, Some, None, length, ap, sym, ◌∙◌, subst, arith}
use Rattle.lent.specs.declared.TaskLoad.{TaskLoad}
use Rattle.lent.specs.Lent.{Sums, task_at}
use Rattle.lent.specs.laws.Running.{told, plus, term_of, up_to}
use Rattle.lent.proofs.laws.Running.{told_past, told_some, told_none, checked_told, plus_fits, plus_told, up_none, up_next, up_past, up_sums}
use Rattle.lent.proofs.demand_at.Goals as goal

-- the sum so far and a task's demand answer for one task more
one_more : (tasks : List TaskLoad) (t i sum demand : ℕ) → Some sum ≡ told (up_to tasks t i) → Some demand ≡ told (term_of t (task_at tasks i)) → told (sum + demand) ≡ told (up_to tasks t (i + 1))
one_more tasks t i sum demand e d =
    ap (λ k. told (sum + k)) (sym (told_some _ demand (sym d))) ∙ sym (plus_fits sum (term_of t (task_at tasks i))) ∙ ap (λ o. plus o (term_of t (task_at tasks i))) e ∙ up_next tasks t i

-- a task whose own demand does not fit leaves no answer
none_more : (tasks : List TaskLoad) (t i : ℕ) → None ≡ told (term_of t (task_at tasks i)) → told (up_to tasks t (i + 1)) ≡ None
none_more tasks t i d = let past = told_none _ (sym d) in sym (up_next tasks t i) ∙ plus_told _ _ ∙ told_past _ (omega (arith, past))

-- no answer for the tasks so far is no answer for all
none_of_all : (tasks : List TaskLoad) (t i : ℕ) (r : Option ℕ) → i < length tasks → r ≡ None → told (up_to tasks t (i + 1)) ≡ None → Sums tasks t r
none_of_all tasks t i r within e none = subst (Sums tasks t) (up_past tasks t (i + 1) (omega arith) none ∙ sym e) (up_sums tasks t)

pub loop-task-init : goal.loop-task-init
loop-task-init c = sym (up_none _ _)

pub returns-in_err-demand : goal.returns-in_err-demand
returns-in_err-demand c = none_of_all _ _ _ _ c.loop-task-test.true c.from_residual.ensures (none_more _ _ _ c.in_err-demand.ensures)

pub returns-in_err-sum : goal.returns-in_err-sum
returns-in_err-sum c =
    none_of_all _ _ _ _ c.loop-task-test.true c.from_residual-in_err-sum.ensures
    (sym (one_more _ _ _ _ _ c.loop-task.invariant c.in_ok-demand.ensures) ∙ told_past _ (omega (arith, c.in_err-sum.ensures)))

pub loop-task-preserved : goal.loop-task-preserved
loop-task-preserved c = sym c.in_ok-sum.was ∙ checked_told _ _ c.checked_add.ensures ∙ one_more _ _ _ _ _ c.loop-task.invariant c.in_ok-demand.ensures

pub returns : goal.returns
returns c =
    let whole : c.loop-task.task-index ≡ length c.args.tasks.now = omega arith in
    subst (Sums c.args.tasks.now c.args.t) (sym (c.loop-task.invariant ∙ ap (λ n. told (up_to c.args.tasks.now c.args.t n)) whole)) (up_sums _ _)
