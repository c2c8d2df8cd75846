-- DEFINITIONS. How arrays hold a table: 32 places for the tasks, and 256 for their phases, eight for each task.
-- Assumes nothing.
use Rattle.std.specs.Prelude.{List, [], ◌≡◌, ℕ, ◌+◌, ◌*◌, ◌/◌, ◌%◌, ltb, get_or, length, replicate, set}
use Rattle.finite.specs.Finite.{list_to}
use Rattle.std.specs.Prelude.{if◌then◌else◌}
use Rattle.model.specs.Tasks.{Tasks}

-- what stands at phase j of task i: a task has no ninth phase
abbrev pub phase_at : List ℕ → ℕ → ℕ → ℕ
phase_at xs i j = if ltb j 8 then get_or xs (8 * i + j) 0 else 0

-- the way back: a number of each phase, place by place
abbrev pub listed_by_phase : (ℕ → ℕ → ℕ) → List ℕ
listed_by_phase f = list_to 256 (λ p. f (p / 8) (p % 8))

-- the arrays of a table, wherever they stand: T, D and the number of phases of each task, c and q of each phase
pub record Arrays : Type 0 where
  pub tasks : ℕ
  pub spacing : List ℕ
  pub deadline : List ℕ
  pub phases : List ℕ
  pub work : List ℕ
  pub cost : List ℕ

-- an array of 32 for each number of a task, one of 256 for each number of a phase
pub record Sized (a : Arrays) : Type 0 where
  pub spacing : length a.spacing ≡ 32
  pub deadline : length a.deadline ≡ 32
  pub phases : length a.phases ≡ 32
  pub work : length a.work ≡ 256
  pub cost : length a.cost ≡ 256

-- the tasks that they hold
abbrev pub as_tasks : Arrays → Tasks
as_tasks a = record {
  n = a.tasks;
  T = λ i. get_or a.spacing i 0;
  D = λ i. get_or a.deadline i 0;
  m = λ i. get_or a.phases i 0;
  c = phase_at a.work;
  q = phase_at a.cost;
}

-- the way back: the arrays of a table
abbrev pub arrays_from : Tasks → Arrays
arrays_from S = record {
  tasks = S.n;
  spacing = list_to 32 S.T;
  deadline = list_to 32 S.D;
  phases = list_to 32 S.m;
  work = listed_by_phase S.c;
  cost = listed_by_phase S.q;
}

-- ---- a table that is filled number by number

-- the arrays one by one
abbrev pub arrays_as : ℕ → (spacing deadline phases work cost : List ℕ) → Arrays
arrays_as n spacing deadline phases work cost = record { tasks = n; spacing = spacing; deadline = deadline; phases = phases; work = work; cost = cost }

-- no task
unfoldable pub empty_arrays : Arrays
empty_arrays = arrays_as 0 (replicate 32 0) (replicate 32 0) (replicate 32 0) (replicate 256 0) (replicate 256 0)

-- the number of tasks put
abbrev pub with_count : ℕ → Arrays → Arrays
with_count n a = arrays_as n a.spacing a.deadline a.phases a.work a.cost

-- task i's T, D and number of phases put
abbrev pub with_task : (i spacing deadline phases : ℕ) → Arrays → Arrays
with_task i spacing deadline phases a = arrays_as a.tasks (set a.spacing i spacing) (set a.deadline i deadline) (set a.phases i phases) a.work a.cost

-- other arrays for the phases
abbrev pub with_phases : (work cost : List ℕ) → Arrays → Arrays
with_phases work cost a = arrays_as a.tasks a.spacing a.deadline a.phases work cost

-- the numbers of the phase at a place put: c, q
abbrev pub with_phase : (place : ℕ) → List ℕ → Arrays → Arrays
with_phase place numbers a = with_phases (set a.work place (get_or numbers 0 0)) (set a.cost place (get_or numbers 1 0)) a

-- ---- a part of a table, for functions that are lent no more

-- the arrays of its tasks alone
abbrev pub tasks_alone : ℕ → (spacing deadline phases : List ℕ) → Arrays
tasks_alone n spacing deadline phases = arrays_as n spacing deadline phases [] []
