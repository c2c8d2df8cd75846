-- What is asked of phases needs neither spacings nor deadlines: it is the same of a table's phases alone. (No proof cites this today.)
-- Assumes nothing.
use Rattle.std.specs.Prelude.{◌≡◌, List, [], ℕ}
use Rattle.std.proofs.Common.{refl}
use Rattle.model.specs.Arrays.{Arrays, arrays_as, as_tasks}
use Rattle.model.specs.Phase.{Choice, Phases, budget, phases_of}
use Rattle.model.specs.Tasks.{Tasks}
use Rattle.model.specs.Works.{longest}
use Rattle.pieces.specs.Task.{InPieces, Roomy}

-- the arrays of the phases alone: numbers of phases, works, switching costs
abbrev pub phases_alone : (phases work cost : List ℕ) → Arrays
phases_alone phases work cost = arrays_as 0 [] [] phases work cost

-- the tasks that they hold
abbrev pub bare_tasks : (phases work cost : List ℕ) → Tasks
bare_tasks phases work cost = as_tasks (phases_alone phases work cost)

-- the phases in the arrays of 256
abbrev pub phases_in : (work cost : List ℕ) → Phases
phases_in work cost = phases_of (bare_tasks [] work cost)

module _ (a : Arrays) where
  -- the tasks that the arrays hold as far as phases go
  abbrev bare : Tasks
  bare = bare_tasks a.phases a.work a.cost

  pub roomy_bare : {M i : ℕ} → Roomy (as_tasks a) M i → Roomy bare M i
  roomy_bare r = record { task = r.task; few = r.few; low = r.low; phase = r.phase; room = r.room }

  pub in_pieces_bare : {x : Choice} {i : ℕ} → InPieces (as_tasks a) x i → InPieces bare x i
  in_pieces_bare r = record { task = r.task; few = r.few; phase = r.phase; some = r.some }

  pub cost_bare : (x : Choice) (i : ℕ) → (phases_of bare).budget x i ≡ (phases_of (as_tasks a)).budget x i
  unfolding budget
  cost_bare x i = refl

  pub longest_bare : (x : Choice) (i : ℕ) → longest bare (phases_of bare) x i ≡ longest (as_tasks a) (phases_of (as_tasks a)) x i
  unfolding longest
  longest_bare x i = refl
