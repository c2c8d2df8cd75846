-- `task` meets its contract: number by number, as the definition reads them, and then the phases. Assumes nothing.
use Rattle.table.proofs.ItemLaws.{stops, no_spacing, no_deadline, no_count, task_by}
use Rattle.table.proofs.items.Reader.task.Goals as goal

pub returns-in_err-spacing : goal.returns-in_err-spacing
returns-in_err-spacing c = stops _ _ (no_spacing _ _ c.in_err-spacing.ensures.reads) c.from_residual.ensures.1

pub returns-in_err-deadline : goal.returns-in_err-deadline
returns-in_err-deadline c = stops _ _ (no_deadline _ _ c.in_ok-spacing.ensures.reads c.in_err-deadline.ensures.reads) c.from_residual-in_err-deadline.ensures.1

pub returns-in_err-count : goal.returns-in_err-count
returns-in_err-count c =
    stops _ _ (no_count _ _ c.in_ok-spacing.ensures.reads c.in_ok-deadline.ensures.reads c.in_err-count.ensures.reads) c.from_residual-in_err-count.ensures.1

pub returns : goal.returns
returns c = task_by _ _ c.in_ok-spacing.ensures.reads c.in_ok-deadline.ensures.reads c.in_ok-count.ensures.reads c.phases.ensures
