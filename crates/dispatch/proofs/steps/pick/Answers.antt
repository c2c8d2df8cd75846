-- `pick` meets its contract. Assumes nothing.
use Rattle.dispatch.specs.laws.Picking.{picks_next, picks_none, picks_running}
use borrow.Author.Rules.{rules}
use Rattle.dispatch.proofs.steps.pick.Goals as goal

-- the next piece of the most urgent job starts
pub returns-then-task-ne0 : goal.returns-then-task-ne0
returns-then-task-ne0 c = picks_next _ (search rules) (search rules) _ _ (search rules) (search rules) (search rules) (search rules)

-- no job is unfinished
pub returns-else-task-ne0 : goal.returns-else-task-ne0
returns-else-task-ne0 c = picks_none _ (search rules) (search rules) (search rules) (cc)

-- a piece runs
pub returns-else-held-eq0 : goal.returns-else-held-eq0
returns-else-held-eq0 c = picks_running _ (search rules) (search rules) (search rules)
