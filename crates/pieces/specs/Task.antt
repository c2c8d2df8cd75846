-- WITHIN THE JUDGES (nobody need believe this: it is what their loops ask). A task whose phases can be added up.
-- Assumes nothing.
use Rattle.std.specs.Prelude.{◌≡◌, true, ℕ, ◌≤◌, ◌<◌}
use Rattle.finite.specs.Finite.{Below}
use Rattle.model.specs.Phase.{Choice, Phases, has_room, phases_of}
use Rattle.model.specs.Ranges.{cost_most, horizon_most, phases_most, tasks_most, work_most}
use Rattle.model.specs.Tasks.{Tasks}

-- the choice that gives each phase its least count for a margin
abbrev pub needs : Phases → (margin : ℕ) → Choice
needs phases margin i j = phases.need i j margin

-- what the arithmetic asks of a phase's work and switching cost, whatever other numbers a phase has
pub record WorkIn (c q : ℕ) : Type 0 where
  pub work_least : 1 ≤ c
  pub work_at_most : c ≤ work_most
  pub cost_at_most : q ≤ cost_most

-- what `need` and `brought` ask of a phase's numbers
pub record PhaseFits (c q M : ℕ) : Type 0 where
  pub room : has_room q M ≡ true
  pub low : M ≤ horizon_most
  pub work : c ≤ work_most
  pub cost : q ≤ cost_most

-- task i has its phases in range, and each has room in the margin M
pub record Roomy (S : Tasks) (M i : ℕ) : Type 0 where
  pub task : i < tasks_most
  pub few : S.m i ≤ phases_most
  pub low : M ≤ horizon_most
  pub phase : Below (S.m i) (λ j. WorkIn (S.c i j) (S.q i j))
  pub room : Below (S.m i) (λ j. (phases_of S).room i j M ≡ true)

-- task i has its phases in range, each in one piece or more
pub record InPieces (S : Tasks) (x : Choice) (i : ℕ) : Type 0 where
  pub task : i < tasks_most
  pub few : S.m i ≤ phases_most
  pub phase : Below (S.m i) (λ j. WorkIn (S.c i j) (S.q i j))
  pub some : Below (S.m i) (λ j. 1 ≤ x i j)
