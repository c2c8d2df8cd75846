-- `phase` meets its contract: number by number, as the definition reads them. Assumes nothing.
use Rattle.table.proofs.ItemLaws.{stops, no_work, no_cost, phase_by}
use Rattle.table.proofs.items.Reader.phase.Goals as goal

pub returns-in_err-work : goal.returns-in_err-work
returns-in_err-work c = stops _ _ (no_work _ _ c.in_err-work.ensures.reads) c.from_residual.ensures.1

pub returns-in_err-cost : goal.returns-in_err-cost
returns-in_err-cost c = stops _ _ (no_cost _ _ c.in_ok-work.ensures.reads c.in_err-cost.ensures.reads) c.from_residual-in_err-cost.ensures.1

pub returns : goal.returns
returns c = phase_by _ _ c.in_ok-work.ensures.reads c.in_ok-cost.ensures.reads
