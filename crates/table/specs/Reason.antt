-- DEFINITIONS. Document 01's number for each reason for turning a table away ("Reasons for turning a table away"). Assumes nothing.
use Rattle.std.specs.Prelude.{ℕ}
use Rattle.table.specs.declared.Reason.{Reason}
use Rattle.table.specs.declared.Reason.TheVariants.{NoRoom, Ends, Malformed, OutOfRange, Trailing, Horizon, Jobs}

-- the number that stands in the table of reasons
abbrev pub reason_number : Reason → ℕ
reason_number NoRoom = 1
reason_number Ends = 2
reason_number Malformed = 3
reason_number OutOfRange = 4
reason_number Trailing = 5
reason_number Horizon = 6
reason_number Jobs = 7
