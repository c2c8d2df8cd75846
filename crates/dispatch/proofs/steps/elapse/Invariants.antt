-- `elapse` meets its contract. Assumes nothing.
use mathlib.Core.Path.{◌≡◌}
use mathlib.Core.Bool.{true}
use Rattle.records.specs.Ranges.{in_range}
use Rattle.records.proofs.laws.Fields.{Long}
use Rattle.dispatch.specs.laws.Elapsing.{elapsed_state}
use Rattle.dispatch.specs.laws.Updates.{filling}
use Rattle.dispatch.proofs.steps.elapse.Given as goal

abbrev pub invariant-loop-i : goal.invariant-loop-i
invariant-loop-i l = record {
  so_far : l.held ≡ filling l.initial.held (elapsed_state l.initial.held) l.i;
  range : in_range l.initial.held ≡ true;
  long : Long l.initial.held;
}
