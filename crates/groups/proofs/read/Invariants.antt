-- `groups::read` meets its contract. The invariant: the number is what was read, `value` below `weight`, in front of what the groups behind those give.
-- Assumes nothing.
use Rattle.groups.proofs.Reading.{SoFar}
use Rattle.groups.proofs.read.Given as goal

abbrev pub invariant-loop-k : goal.invariant-loop-k
invariant-loop-k l = SoFar l.bytes l.at l.value l.weight l.k
