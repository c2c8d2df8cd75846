-- `work` meets its contract. Assumes nothing.
use native.Mathlib.Omega.{arith}
use Rattle.dispatch.specs.laws.Working.{Found, below, ticks_some, works_done, works_none, works_on, works_phase, works_piece}
use borrow.Author.Rules.{rules}
use Rattle.dispatch.proofs.steps.work.Goals as goal
use Rattle.dispatch.proofs.steps.work.Goals.{After-from_one-i}

-- what it has found before it changes the record
found : (c : After-from_one-i) → Found c.args.held c.args.flag c.due_piece-due.result c.told-ran.result c.from_one-i.result
found c = record { long = search rules; range = c.requires; is = search rules; told = search rules; at = search rules }

pub prove-unreachable-requires : goal.prove-unreachable-requires
prove-unreachable-requires c = omega (arith, below (found (goal.at.prove-unreachable-requires c).After-from_one-i) c.if-ended.true)

pub overflow_sub-held : goal.overflow_sub-held
overflow_sub-held c = ticks_some (found (goal.at.overflow_sub-held c).After-from_one-i) c.if-task-ne0.true

pub returns-then-due : goal.returns-then-due
returns-then-due c = works_piece (found (goal.at.returns-then-due c).After-from_one-i) c.if-ended.true c.if-due.true

pub returns-then-due-2 : goal.returns-then-due-2
returns-then-due-2 c = works_phase (found (goal.at.returns-then-due-2 c).After-from_one-i) c.if-ended.true c.if-due.false c.if-due-2.true

pub returns-else-due-2 : goal.returns-else-due-2
returns-else-due-2 c = works_done (found (goal.at.returns-else-due-2 c).After-from_one-i) c.if-ended.true c.if-due.false c.if-due-2.false

pub returns-then-task-ne0 : goal.returns-then-task-ne0
returns-then-task-ne0 c = works_on (found (goal.at.returns-then-task-ne0 c).After-from_one-i) c.if-ended.false c.if-task-ne0.true

pub returns-else-task-ne0 : goal.returns-else-task-ne0
returns-else-task-ne0 c = works_none (found (goal.at.returns-else-task-ne0 c).After-from_one-i) c.if-task-ne0.false
