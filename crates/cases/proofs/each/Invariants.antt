-- The turns so far, and the buffer's length, which stays.
use Rattle.std.proofs.Common.{◌≡◌, length}
use Rattle.cases.specs.Cases.{Turns}
use Rattle.cases.proofs.each.Given as goal

abbrev pub invariant-loop-turn : goal.invariant-loop-turn
invariant-loop-turn g l = record {
  callable : goal.F-IsAlwaysCallable g l.run;
  room : length l.buffer ≡ length l.fn.buffer;
  turns : Turns g.R.Read.remaining g.F.FnMut (length l.fn.buffer) (record { input = l.fn.input; run = l.fn.run; out = l.fn.out }) l.turn
      (record { input = l.input; run = l.run; out = l.out });
}

-- The measure that the loop of count_begun_anew.edit wants: its type,
-- and the turns that are left.
