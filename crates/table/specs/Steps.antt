-- What the reader's own functions answer, from a place on. (Nobody need believe these: `Parse` alone says what the public calls answer.)
-- Assumes nothing.
use Rattle.std.specs.Prelude as std
use Rattle.std.specs.Prelude.{◌≡◌, ℕ, List, length}
use Rattle.groups.specs.declared.Number.{Number}
use Rattle.groups.specs.declared.NumberError.{NumberError}
use Rattle.groups.specs.declared.NumberError.TheVariants as number
use Rattle.model.specs.Ranges.{tasks_most}
use Rattle.table.specs.declared.Reason.TheVariants.{Ends, Malformed}
use Rattle.table.specs.declared.Table.{Table}
use Rattle.table.specs.declared.items.Reader.{Reader}
use Rattle.table.specs.declared.TurnedAway.{TurnedAway}
use Rattle.table.specs.Parser.{Result, got, away, Parser, ◌>>=◌, answered, turned_away}
use Rattle.table.specs.Parse.{number_in, each, task}
use Rattle.table.specs.TaskModel.{with_count}

-- what is found at a place by what the number reader answers there: the number, or the reason and the place for turning the table away
abbrev pub found_at : List ℕ → (at : ℕ) → std.Result Number NumberError → std.Result Number TurnedAway
found_at bytes at (std.Ok n) = std.Ok n
found_at bytes at (std.Err number.Ends) = std.Err (turned_away Ends (length bytes))
found_at bytes at (std.Err number.Malformed) = std.Err (turned_away Malformed at)

-- a number that was read and the place behind it, or the reason and the place for turning the table away
abbrev pub number_of : Result ℕ → std.Result Number TurnedAway
number_of = answered (λ value next. record { value = value; next = next })

-- what was read up to a place, or the reason and the place for turning the table away
abbrev pub read_to : {A : Type 0} → std.Result A TurnedAway → (at : ℕ) → Result A
read_to (std.Ok a) at = got a at
read_to (std.Err e) at = away e.reason e.place

-- an answer with what was read, where it was
abbrev pub with_read : {A B : Type 0} → A → std.Result B TurnedAway → std.Result A TurnedAway
with_read a (std.Ok b) = std.Ok a
with_read a (std.Err e) = std.Err e

-- a reader goes on by a part, in the same bytes
pub record Reads {A : Type 0} (p : Parser A) (before after : Reader) (r : std.Result A TurnedAway) : Type 0 where
  pub is : p before.bytes.now before.at ≡ read_to r after.at
  pub same : after.bytes.now ≡ before.bytes.now

-- the tasks are read from the first byte on, up to the place that is answered
abbrev pub up_to : {A : Type 0} → A → std.Result ℕ TurnedAway → Result A
up_to a (std.Ok next) = got a next
up_to a (std.Err e) = away e.reason e.place

-- the number of tasks, and the tasks, put into a table
unfoldable pub all_tasks : Table → Parser Table
all_tasks t = do
  count ← number_in 1 tasks_most
  each task count 0 (with_count count t)
