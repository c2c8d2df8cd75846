-- `taken` meets its contract. Assumes nothing.
use Rattle.records.proofs.laws.Taken.{tested_in, tested_out}
use borrow.Author.Rules.{rules}
use Rattle.records.proofs.taken.Goals as goal

pub returns-then-not-in_range : goal.returns-then-not-in_range
returns-then-not-in_range c =
    tested_out _ (search rules) _ _ _ c.held_in-held.ensures c.changing_in-changing.ensures c.running_in-runs.ensures _ c.if-not-in_range.true c.empty-given.ensures

pub returns-else-not-in_range : goal.returns-else-not-in_range
returns-else-not-in_range c =
    tested_in _ (search rules) _ _ _ c.held_in-held.ensures c.changing_in-changing.ensures c.running_in-runs.ensures c.if-not-in_range.false
