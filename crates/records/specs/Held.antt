-- DEFINITIONS. What the dispatcher's record holds that no tick changes, a table with counts: how it stands in arrays, how it is read from a record, and
-- its range (document 01, "The record is held by value"). The record is written field by field in one place, `record_with`. One thing more that a record
-- holds is a change of this file.
-- Assumes nothing.
use Rattle.std.specs.Prelude.{◌≡◌, Bool, ◌&&◌, List, ℕ, ◌≤◌, replicate}
use Rattle.model.specs.Arrays.{Arrays, arrays_as, arrays_from, as_tasks, listed_by_phase, empty_arrays, phase_at}
use Rattle.model.specs.Phase.{Choice, phases_of}
use Rattle.model.specs.Ranges.{InTable, all_phases, number_test, table_test}
use Rattle.model.specs.Tasks.{Each, Tasks}
use Rattle.records.specs.declared.Dispatcher.{Dispatcher}

-- ---- as arrays, and in the words of the model

-- in arrays: those of the table, and the count of each phase
pub record Fixed : Type 0 where
  pub table : Arrays
  pub counts : List ℕ

-- the same in the words of the model: the table's tasks, and a count for each of their phases
pub record Held : Type 0 where
  pub table : Tasks
  pub counts : Choice

-- the parts of it one by one
abbrev pub fixed_as : Arrays → (counts : List ℕ) → Fixed
fixed_as table counts = record { table = table; counts = counts }

-- what the arrays hold
abbrev pub held_of : Fixed → Held
held_of f = record { table = as_tasks f.table; counts = phase_at f.counts }

-- the way back: the arrays that hold it
abbrev pub fixed_of : Held → Fixed
fixed_of h = fixed_as (arrays_from h.table) (listed_by_phase h.counts)

-- what a record holds that starts with a table and counts
abbrev pub held_for : Tasks → Choice → Held
held_for S x = record { table = S; counts = x }

-- nothing
abbrev pub nothing_fixed : Fixed
nothing_fixed = fixed_as empty_arrays (replicate 256 0)

-- ---- in a record

-- the arrays of its table
abbrev pub arrays_in : Dispatcher → Arrays
arrays_in d = arrays_as d.tasks d.spacing d.deadline d.phases d.work d.cost

-- all that no tick changes of it
abbrev pub fixed_in : Dispatcher → Fixed
fixed_in d = fixed_as (arrays_in d) d.counts

-- and what that holds
abbrev pub held_in : Dispatcher → Held
held_in d = held_of (fixed_in d)

-- its table
abbrev pub tasks_in : Dispatcher → Tasks
tasks_in d = as_tasks (arrays_in d)

-- its counts
abbrev pub counts_in : Dispatcher → Choice
counts_in d = phase_at d.counts

-- THE RECORD, field by field: what no tick changes, then what a tick changes
abbrev pub record_with : Fixed → (since unfinished left phase piece : List ℕ) → (running ticks : ℕ) → Dispatcher
record_with f since unfinished left phase piece running ticks = record {
  tasks = f.table.tasks;
  spacing = f.table.spacing;
  deadline = f.table.deadline;
  phases = f.table.phases;
  work = f.table.work;
  cost = f.table.cost;
  counts = f.counts;
  since = since;
  unfinished = unfinished;
  left = left;
  phase = phase;
  piece = piece;
  running = running;
  ticks = ticks;
}

-- ---- its range

-- each count from 1 to the most that its phase may have, which is c; where there is no phase, 0
pub record CountsInRange (S : Tasks) (x : Choice) : Type 0 where
  pub count_least : Each S (λ i j. 1 ≤ x i j)
  pub count_most : Each S (λ i j. x i j ≤ (phases_of S).most i j)
  pub no_count : (i j : ℕ) → S.m i ≤ j → x i j ≡ 0

-- what no tick changes of a record, each number in its range
pub record HeldInRange (h : Held) : Type 0 where
  pub table : InTable h.table
  pub counts : CountsInRange h.table h.counts

-- the test of a count
abbrev pub count_test : Tasks → Choice → ℕ → ℕ → Bool
count_test S x i j = number_test S.m 1 ((phases_of S).most i j) x i j

-- of what no tick changes: the table, then the counts
unfoldable pub held_test : Held → Bool
held_test h = table_test h.table && all_phases (count_test h.table h.counts)
