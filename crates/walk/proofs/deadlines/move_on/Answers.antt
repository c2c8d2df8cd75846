-- `move_on` meets its contract, by its test: a task that is due gets its new deadline and its bit, any other keeps what it has.
-- Assumes nothing.
use Rattle.walk.proofs.laws.Deadlines.{moves_not}
use Rattle.walk.proofs.deadlines.move_on.Goals as goal

pub returns : goal.returns
returns c = moves_not c.if-v-t.false c.requires.2 c.min-2.ensures
