use native.Mathlib.Omega.{arith}
use Rattle.table.specs.Parse.{task}
use Rattle.table.proofs.ItemLaws.{passed_on, no_tasks, tasks_by}
use Rattle.table.proofs.Steps.{again, no_more, finish}
use Rattle.table.proofs.items.tasks.Goals as goal

pub returns-in_err-count : goal.returns-in_err-count
returns-in_err-count c = rw (passed_on _ c.from_residual.ensures.1) (no_tasks _ c.in_err-count.ensures.reads).is

pub loop-i-init : goal.loop-i-init
loop-i-init c = λ a r x. (tasks_by _ c.in_ok-count.ensures.reads x).is

pub returns-in_err-task : goal.returns-in_err-task
returns-in_err-task c = rw (passed_on _ c.from_residual-in_err-task.ensures.1) (c.loop-i.invariant _ _ (no_more task (omega arith) c.in_err-task.ensures))

pub loop-i-preserved : goal.loop-i-preserved
loop-i-preserved c = λ a r x. c.loop-i.invariant a r (again task (omega arith) c.in_ok-task.ensures x)

pub returns : goal.returns
returns c = c.loop-i.invariant _ _ (finish task (omega arith))
