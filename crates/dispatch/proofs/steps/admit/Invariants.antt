-- `admit` meets its contract. Assumes nothing.
use mathlib.Core.Path.{◌≡◌}
use mathlib.Core.Bool.{true}
use Prim.Native.Nat.{◌-◌, ◌≤◌}
use Rattle.finite.specs.Masks.{bit, mask_of}
use Rattle.promise.specs.Rules.{lets_in}
use Rattle.records.specs.Ranges.{in_range}
use Rattle.records.specs.Record.{state_in}
use Rattle.records.specs.Held.{tasks_in}
use Rattle.records.proofs.laws.Fields.{Long}
use Rattle.dispatch.specs.laws.Admitting.{admitted_state}
use Rattle.dispatch.specs.laws.Updates.{filling}
use Rattle.dispatch.proofs.steps.admit.Given as goal

abbrev pub invariant-loop-i : goal.invariant-loop-i
invariant-loop-i l = (l.i ≤ 32) × (l.held ≡ filling l.initial.held (admitted_state l.initial.held l.asked) l.i) × (l.let_in ≡ mask_of 32 (lets_in (tasks_in l.initial.held) (state_in l.initial.held) (bit l.asked))) × (in_range l.initial.held ≡ true) × Long l.initial.held

abbrev pub decreases-loop-i : goal.decreases-loop-i
decreases-loop-i l = 32 - l.i
