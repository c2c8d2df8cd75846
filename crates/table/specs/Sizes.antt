-- DEFINITIONS. How many bytes the parts of a table have at most, and how many bytes decide how a longer byte string is read. Assumes nothing.
use Rattle.std.specs.Prelude.{ℕ, ◌+◌, ◌*◌, length}
use Rattle.model.specs.Ranges.{phase_numbers, phases_most, tasks_most}

-- a number of a phase: each is below 128 ^ 4
abbrev pub number_long : ℕ
number_long = 4

-- a phase
abbrev pub phase_long : ℕ
phase_long = number_long * length phase_numbers

-- a task: T, D, the number of phases, the phases
abbrev pub task_long : ℕ
task_long = 5 + 5 + 1 + phases_most * phase_long

-- a table: the number of tasks, the tasks
abbrev pub table_long : ℕ
table_long = 1 + tasks_most * task_long

-- what decides: where the last number of a phase is due, eight bytes may be looked at, four more than it has
abbrev pub deciding : ℕ
deciding = table_long + 4
