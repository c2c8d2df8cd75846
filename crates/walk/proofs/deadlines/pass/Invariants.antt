-- `pass` meets its contract. The invariant: the tasks before task i are passed.
-- Assumes nothing.
use Rattle.walk.proofs.laws.Deadlines.{MovingOn}
use Rattle.walk.proofs.deadlines.pass.Given as goal

abbrev pub invariant-loop-i : goal.invariant-loop-i
invariant-loop-i l = MovingOn l.table.tasks l.t l.table.spacing l.initial.next l.i l.next l.moved
