-- `Dispatcher::urgent` meets its contract. Assumes nothing.
use mathlib.Core.Path.{◌≡◌}
use Prim.Native.Nat.{◌-◌}
use lib.ListN.{get_or}
use Rattle.records.specs.Rules.{urgent_of}
use Rattle.records.proofs.Dispatcher.urgent.Given as goal

abbrev pub invariant-loop-i : goal.invariant-loop-i
invariant-loop-i l = record { best : l.best ≡ urgent_of l.self l.i; least : l.least ≡ get_or l.self.left (l.best - 1) 0 }
