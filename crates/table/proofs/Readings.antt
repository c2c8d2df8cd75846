-- What callers have of a table that `read` answers. Assumes nothing.
use Rattle.std.specs.Prelude.{◌≡◌, Ok, List, ℕ}
use Rattle.model.specs.TestPoints.{horizon_of}
use Rattle.table.specs.declared.Reading.{Reading}
use Rattle.table.specs.Parse.{table, reading_of}
use Rattle.table.specs.TaskModel.{tasks_of}
use Rattle.table.specs.Valid.{Valid}
use Rattle.table.proofs.Steps.{was_read}
use Rattle.table.proofs.Valid.{read_valid}

-- it is valid, and its horizon is with it
pub valid_reading : (bytes : List ℕ) {r : Reading} → Ok r ≡ reading_of (table bytes 0) → Valid r.table × (r.horizon ≡ horizon_of (tasks_of r.table))
valid_reading bytes {r} is = let (next, e, h) = was_read (table bytes 0) is in (read_valid bytes 0 r.table next e, h)
