-- What the definitions say to a table in bytes, computed. (It need not be believed: proofs/Computed has that the contract of `edf::judge` allows
-- just this.) Assumes nothing.
use Rattle.std.specs.Prelude.{List, ℕ}
use Rattle.model.specs.Tasks.{Tasks}
use Rattle.model.specs.Phase.{phases_of}
use Rattle.model.specs.Answer.{answer}
use Rattle.model.specs.TestPoints.{horizon_of}
use Rattle.model.specs.Walk.{verdict}
use Rattle.table.specs.declared.Table.{Table}
use Rattle.table.specs.Parse.{Result, got, away, table}
use Rattle.table.specs.Reason.{reason_number}
use Rattle.table.specs.TaskModel.{tasks_of}
use Rattle.groups.specs.Encode.{encode_all}

-- the bytes of an answer, or a reason's number and a place
pub data Saying : Type 0 where
  writes : List ℕ → Saying
  turns_away : ℕ → ℕ → Saying

-- what is said of tasks that were read
unfoldable pub says_of : Tasks → Saying
says_of S = writes (encode_all (answer S (phases_of S) (horizon_of S) (verdict S (phases_of S) (horizon_of S))))

abbrev pub says_in : Result Table → Saying
says_in (got t next) = says_of (tasks_of t)
says_in (away reason place) = turns_away (reason_number reason) place

-- what is said to bytes, where the buffer has room
unfoldable pub says : List ℕ → Saying
says bytes = says_in (table bytes 0)
