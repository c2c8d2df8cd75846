-- What is left to use stands within the buffer, whose length stays.
use Rattle.std.proofs.Common.{◌≡◌, ◌≤◌, length}
use Rattle.replay.proofs.all_ticks.Given as goal

abbrev pub invariant-loop : goal.invariant-loop
invariant-loop g l = record { order : l.from ≤ l.to; within : l.to ≤ length l.buffer; room : length l.buffer ≡ length l.fn.buffer }
