-- DEFINITIONS. The record that the dispatcher starts with, and of which tables demand 3 speaks.
-- Assumes nothing.
use Rattle.std.specs.Prelude.{◌≤◌}
use Rattle.model.specs.Phase.{Choice, phases_of}
use Rattle.model.specs.Tasks.{Tasks}
use Rattle.model.specs.Works.{Works}
use Rattle.promise.specs.Rules.{initial}
use Rattle.records.specs.Record.{record_of}
use Rattle.records.specs.Held.{HeldInRange, held_for}
use Rattle.records.specs.declared.Dispatcher.{Dispatcher}

-- a table that the dispatcher may start with: some task, every number in document 01's range, and counts that work
pub record Startable (S : Tasks) (x : Choice) : Type 0 where
  pub some_task : 1 ≤ S.n
  pub held : HeldInRange (held_for S x)
  pub works : Works S (phases_of S) x

-- the ready record: no job unfinished, every spacing count at its T
abbrev pub ready_record : Tasks → Choice → Dispatcher
ready_record S x = record_of (held_for S x) (initial S)
