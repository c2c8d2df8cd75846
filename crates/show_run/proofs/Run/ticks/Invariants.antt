-- The place stands within the bytes, and ticks alone changed the run.
use Rattle.std.proofs.Common.{◌-◌, ◌≤◌, length}
use Rattle.show_run.specs.Runs.{AfterTicks}
use Rattle.show_run.proofs.Run.ticks.Given as goal

abbrev pub invariant-loop-at : goal.invariant-loop-at
invariant-loop-at g l = record { within : l.at ≤ length l.bytes; ran : AfterTicks l.fn.self l.self }

abbrev pub decreases-loop-at : goal.decreases-loop-at
decreases-loop-at g l = length l.bytes - l.at
