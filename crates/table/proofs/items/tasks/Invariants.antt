-- `tasks` meets its contract. The invariant: what is read of the tasks that are left is read of them all. Assumes nothing.
use Prim.Native.Nat.{◌-◌}
use mathlib.Core.Path.{◌≡◌}
use Rattle.std.specs.Prelude.{Result}
use Rattle.table.specs.declared.Table.{Table}
use Rattle.table.specs.declared.TurnedAway.{TurnedAway}
use Rattle.table.specs.declared.items.Reader.{Reader}
use Rattle.table.specs.Parse.{each, task}
use Rattle.table.specs.Steps.{Reads, all_tasks, read_to}
use Rattle.table.proofs.items.tasks.Given as goal

abbrev pub invariant-loop-i : goal.invariant-loop-i
invariant-loop-i l = (a : Reader) (r : Result Table TurnedAway) → Reads (each task (l.i-end - l.i) l.i l.table) l.reader a r
    → all_tasks l.fn.table l.fn.bytes 0 ≡ read_to r a.at
