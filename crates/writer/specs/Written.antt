-- DEFINITIONS. The bytes of a table, as document 01 has them ("Bytes of table and answer"), and what writing them gives and leaves.
use Rattle.std.specs.Prelude.{ℕ, ◌+◌, ◌*◌, List, [], ◌∷◌, ◌++◌, Bool, ◌||◌, ◌≡◌, length, get_or, drop, ltb, Result, Ok, Err}
use Rattle.model.specs.Ranges.{phases_most, tasks_most}
use Rattle.finite.specs.Finite.{any_to, join_to}
use Rattle.std.specs.Prelude.{if◌then◌else◌}
use Rattle.groups.specs.Encode.{encode_all}
use Rattle.table.specs.declared.Table.{Table}
use Rattle.writer.specs.declared.TableError.{TableError}
use Rattle.writer.specs.declared.TableError.TheVariants.{NoRoom, OutOfRange}

-- a phase, at a place of the arrays: c, q
abbrev pub phase_items : (work cost : List ℕ) → ℕ → List ℕ
phase_items work cost place = get_or work place 0 ∷ get_or cost place 0 ∷ []

-- a task: T, D, the number of phases; then its phases, from place 8 i on
unfoldable pub task_items : Table → ℕ → List ℕ
task_items t i =
    get_or t.spacing i 0 ∷ get_or t.deadline i 0 ∷ get_or t.phases i 0
    ∷ join_to (get_or t.phases i 0) (λ j. phase_items t.work t.cost (8 * i + j))

-- a table: the number of tasks, the tasks, and nothing behind them
abbrev pub table_items : Table → List ℕ
table_items t = t.tasks ∷ join_to t.tasks (task_items t)

abbrev pub table_bytes : Table → List ℕ
table_bytes t = encode_all (table_items t)

-- whether there are more than 32 tasks, or more than 8 phases in one of them: what a table's arrays do not hold
unfoldable pub overfull : Table → Bool
overfull t = ltb tasks_most t.tasks || any_to t.tasks (λ i. ltb phases_most (get_or t.phases i 0))

-- what writing a table into a buffer of so many bytes answers
abbrev pub result_of : Table → (room : ℕ) → Result ℕ TableError
result_of t room =
    if overfull t then Err OutOfRange
    else if ltb room (length (table_bytes t)) then Err NoRoom
    else Ok (length (table_bytes t))

-- the table's bytes and then the buffer as it was found; where nothing is written it stays as it was found
abbrev pub buffer_of : Table → (buffer : List ℕ) → List ℕ
buffer_of t buffer =
    if overfull t then buffer
    else if ltb (length buffer) (length (table_bytes t)) then buffer
    else table_bytes t ++ drop (length (table_bytes t)) buffer

-- what writing gives and leaves
pub record Writes (t : Table) (before after : List ℕ) (result : Result ℕ TableError) : Type 0 where
  pub result_is : result ≡ result_of t (length before)
  pub after_is : after ≡ buffer_of t before
