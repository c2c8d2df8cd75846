-- What a table's ranges give the walk, task by task.
-- Assumes nothing.
use Rattle.std.specs.Prelude.{ℕ, ◌≤◌, ◌<◌}
use Rattle.model.specs.Arrays.{Arrays, as_tasks}
use Rattle.model.specs.Phase.{phases_of}
use Rattle.model.specs.Ranges.{InTable, TaskIn, tasks_most}
use Rattle.model.specs.Tasks.{Sane, Tasks}
use Rattle.model.proofs.laws.Phases.{Laws}
use Rattle.model.proofs.laws.Plain.{laws_of}
use Rattle.walk.specs.Walk.{Walkable}

-- of a table's ranges, those on which the mathematics rests
pub sane_in : {S : Tasks} → 1 ≤ S.n → InTable S → Sane S
sane_in some v = record {
  some_task = some;
  D_least = λ i l. (v.task i l).deadline_least;
  D_most = λ i l. (v.task i l).deadline_most;
  some_phase = λ i l. (v.task i l).phases_least;
  some_work = λ i j l k. (v.phase i j l k).work_least;
}

module _ (a : Arrays) (h : ℕ) (lim : Walkable a h) where
  pub few_tasks : a.tasks ≤ tasks_most
  few_tasks = lim.items.tasks

  pub task_in : (i : ℕ) → i < a.tasks → TaskIn (as_tasks a) i
  task_in = lim.items.task

  pub sane : Sane (as_tasks a)
  sane = sane_in lim.some_task lim.items

  pub laws : Laws (as_tasks a) (phases_of (as_tasks a))
  laws = laws_of (as_tasks a) sane
