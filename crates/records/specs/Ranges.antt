-- DEFINITIONS. Document 01, "The record is held by value": the range of each field, clause by clause in the paragraph's order. The range of what a record
-- holds that no tick changes stands in Held, that of a table in model/Ranges.
-- Assumes nothing.
use Rattle.std.specs.Prelude.{Bool, ◌&&◌, ℕ, ◌-◌, leb, ltb, eqb, get_or}
use Rattle.finite.specs.Finite.{all_to}
use Rattle.std.specs.Prelude.{if◌then◌else◌}
use Rattle.model.specs.Phase.{Choice}
use Rattle.model.specs.Ranges.{within}
use Rattle.model.specs.Tasks.{Tasks}
use Rattle.promise.specs.Rules.{State, stated}
use Rattle.records.specs.Held.{counts_in, held_in, held_test, tasks_in}
use Rattle.records.specs.Record.{empty_record, state_in}
use Rattle.records.specs.declared.Dispatcher.{Dispatcher}

-- the ticks since a task's last admitted release, 0 to T
abbrev pub since_test : Tasks → State → ℕ → Bool
since_test S s i = leb (s.since i) (S.T i)

-- whether a job is unfinished, 0 or 1
abbrev pub unfinished_test : Dispatcher → ℕ → Bool
unfinished_test d i = leb (get_or d.unfinished i 0) 1

-- if so, the time left to its deadline, 0 to D, and the phase and piece running or next due; otherwise three zeros
abbrev pub job_test : Tasks → Choice → State → ℕ → Bool
job_test S x s i =
    if s.busy i
    then leb (s.left i) (S.D i) && within 1 (S.m i) (s.phase i) && within 1 (x i (s.phase i - 1)) (s.piece i)
    else eqb (s.left i) 0 && eqb (s.phase i) 0 && eqb (s.piece i) 0

-- tasks that do not exist have 0 in each of these
abbrev pub absent_test : Dispatcher → ℕ → Bool
absent_test d i = eqb (get_or d.since i 0) 0 && eqb (get_or d.unfinished i 0) 0 && eqb (get_or d.left i 0) 0 && eqb (get_or d.phase i 0) 0 && eqb (get_or d.piece i 0) 0

-- what a tick changes of task i
abbrev pub changing_test : Dispatcher → ℕ → Bool
changing_test d i =
    if ltb i d.tasks
    then since_test (tasks_in d) (state_in d) i && unfinished_test d i && job_test (tasks_in d) (counts_in d) (state_in d) i
    else absent_test d i

-- the task whose piece is running, which has an unfinished job, and the ticks left of that piece, 1 to its length; 0 and 0 when none runs
abbrev pub run_test : Tasks → Choice → State → Bool
run_test S x s =
    if eqb s.run 0
    then eqb s.ticks 0
    else leb s.run S.n && s.busy (s.run - 1) && within 1 (stated S x (s.run - 1) (s.phase (s.run - 1)) (s.piece (s.run - 1))) s.ticks

-- Every field is in its range: those of the table, the counts, what a tick changes of each task, and the running piece. Where there are no tasks
-- every place is 0: the number of tasks is 0 only in the empty record.
unfoldable pub in_range : Dispatcher → Bool
in_range d =
    held_test (held_in d) &&
    all_to 32 (changing_test d) &&
    run_test (tasks_in d) (counts_in d) (state_in d)

-- a record with any field outside its range is taken as the empty record
abbrev pub usable : Dispatcher → Dispatcher
usable d = if in_range d then d else empty_record
