-- `Dispatcher::let_in` meets its contract. Assumes nothing.
use mathlib.Core.Path.{◌≡◌}
use Rattle.finite.specs.Masks.{mask_of}
use Rattle.records.specs.Rules.{enters_of}
use Rattle.records.proofs.Dispatcher.let_in.Given as goal

abbrev pub invariant-loop-i : goal.invariant-loop-i
invariant-loop-i l = l.entered ≡ mask_of l.i (enters_of l.self l.mask)
