-- DEFINITIONS. A lent slice of task structs as tasks of the model, and what the call over it answers.
-- Assumes nothing.
use Rattle.std.specs.Prelude.{◌≡◌, Option, Some, None, List, ℕ, ◌≤◌, ◌<◌, ◌^◌, length, get_or}
use Rattle.model.specs.Tasks.{Tasks, without_phases}
use Rattle.model.specs.Demand.{demand}
use Rattle.lent.specs.declared.TaskLoad.{TaskLoad}

-- task i of a slice; past its end, where demand never looks, a task of zeros
abbrev pub task_at : List TaskLoad → ℕ → TaskLoad
task_at tasks i = get_or tasks i (record { spacing = 0; deadline = 0; budget = 0 })

-- The tasks of a slice: as many as it is long, T and D as its structs say. Demand asks for no phases, so they have none.
abbrev pub tasks_lent : List TaskLoad → Tasks
tasks_lent tasks = without_phases (length tasks) (λ i. (task_at tasks i).spacing) (λ i. (task_at tasks i).deadline)

-- The demand at t of a slice, under its budgets. Division by 0 gives 0: a task with spacing 0 and D at most t has one job.
abbrev pub demand_lent : List TaskLoad → ℕ → ℕ
demand_lent tasks t = demand (tasks_lent tasks) (λ i. (task_at tasks i).budget) t

-- What the call answers, for every slice and every t.
pub record Sums (tasks : List TaskLoad) (t : ℕ) (r : Option ℕ) : Type 0 where
  -- A demand below 2^64 is the sum answered.
  pub within : demand_lent tasks t < 2 ^ 64 → r ≡ Some (demand_lent tasks t)
  -- Any other does not fit, and none is answered.
  pub past : 2 ^ 64 ≤ demand_lent tasks t → r ≡ None
