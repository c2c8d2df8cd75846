-- `walk` meets its contract. The invariant is `Standing`: the state is reached, and t is its next point. The measure is what is left up to h.
-- Assumes nothing.
use Prim.Native.Nat.{◌+◌, ◌-◌}
use Rattle.table.specs.TaskModel.{arrays_of}
use Rattle.walk.proofs.laws.Ends.{Standing}
use Rattle.walk.proofs.walk.walk.Given as goal

abbrev pub invariant-loop-t : goal.invariant-loop-t
invariant-loop-t l = Standing (arrays_of l.table) l.h l.known l.low l.demand l.points l.t

abbrev pub decreases-loop-t : goal.decreases-loop-t
decreases-loop-t l = l.h + 1 - l.t
