-- `writer::write` meets its contract: a table that its arrays do not hold is not written, nor one that has no room. Assumes nothing.
use borrow.Author.Rules.{rules}
use Rattle.writer.specs.Written.{overfull}
use Rattle.writer.proofs.Outcomes.{arrays_hold, measured_fits, no_room, placed}
use Rattle.writer.proofs.write.Goals as goal

pub returns-then-table-gt-TASKS_MOST : goal.returns-then-table-gt-TASKS_MOST
unfolding overfull
returns-then-table-gt-TASKS_MOST c = search rules

pub size-requires : goal.size-requires
size-requires c = search (rules, arrays_hold)

pub fill-requires : goal.fill-requires
fill-requires c = search (rules, arrays_hold, measured_fits)

pub returns-then-out-size : goal.returns-then-out-size
returns-then-out-size c = search (rules, arrays_hold, no_room)

pub returns : goal.returns
returns c = search (rules, arrays_hold, placed)
