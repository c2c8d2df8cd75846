-- DEFINITIONS. Document 01: a record with any field outside its range is taken as the empty record. What the call that does so promises.
-- Assumes nothing.
use Rattle.std.specs.Prelude.{◌≡◌, true}
use Rattle.records.specs.Ranges.{in_range, usable}
use Rattle.records.specs.declared.Dispatcher.{Dispatcher}
use Rattle.records.specs.Record.{Long}

-- what record d is taken as
pub record Taken (d r : Dispatcher) : Type 0 where
  pub is : r ≡ usable d
  -- it is in range
  pub range : in_range r ≡ true
  -- and its arrays have the lengths that their types give
  pub long : Long r
