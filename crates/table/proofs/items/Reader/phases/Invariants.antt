-- `phases` meets its contract. The invariant: what is read of the phases that are left is read of them all. Assumes nothing.
use Prim.Native.Nat.{◌-◌}
use Rattle.std.specs.Prelude.{Result}
use Rattle.table.specs.declared.Table.{Table}
use Rattle.table.specs.declared.TurnedAway.{TurnedAway}
use Rattle.table.specs.declared.items.Reader.{Reader}
use Rattle.table.specs.Parse.{each, phase}
use Rattle.table.specs.Steps.{Reads}
use Rattle.table.proofs.items.Reader.phases.Given as goal

abbrev pub invariant-loop-k : goal.invariant-loop-k
invariant-loop-k l = (a : Reader) (r : Result Table TurnedAway) → Reads (each phase (l.last - l.k) l.k l.table) l.self a r
    → Reads (each phase (l.last - l.first) l.first l.initial.table) l.initial.self a r
