-- WITHIN THE WALK (nobody need believe this: edf states the promise, and it is proved). What stops the walk at a test point.
-- Assumes nothing.
use Rattle.std.specs.Prelude.{◌≡◌, false, ℕ, ◌+◌, ◌-◌, ◌≤◌, ◌<◌, Option, MatchOption, get_or}
use Rattle.finite.specs.Finite.{Below}
use Rattle.model.specs.Arrays.{Arrays, as_tasks}
use Rattle.model.specs.Ranges.{phases_most, tasks_most}
use Rattle.model.specs.Phase.{phases_of}
use Rattle.walk.specs.declared.stuck.Blocked.{Blocked}

-- r is the first index below n at which P holds
pub record IsFirst (n : ℕ) (P : ℕ → Type 0) (r : ℕ) : Type 0 where
  pub within : r < n
  pub here : P r
  pub earlier : Below r (λ k. P k → ⊥)

-- the first index below n at which P holds, if there is one
abbrev pub FirstWhere : ℕ → (ℕ → Type 0) → Option ℕ → Type 0
FirstWhere n P found = MatchOption found (Below n (λ k. P k → ⊥)) (IsFirst n P)

-- phase j of task i is stuck at t: the task blocks there, and the margin leaves the phase no room
abbrev pub Stuck : Arrays → ℕ → ℕ → ℕ → ℕ → Type 0
Stuck a t M i j = (t < get_or a.deadline i 0) × ((phases_of (as_tasks a)).room i j M ≡ false)

-- task i has a phase that is
abbrev pub StuckTask : Arrays → ℕ → ℕ → ℕ → Type 0
StuckTask a t M i = (j : ℕ) × (j < get_or a.phases i 0) × Stuck a t M i j

-- the first such task, and its first such phase
pub record FirstStuck (a : Arrays) (t M i j : ℕ) : Type 0 where
  pub task : IsFirst a.tasks (StuckTask a t M) i
  pub phase : IsFirst (get_or a.phases i 0) (Stuck a t M i) j

-- the walk stops at t: the demand is above it, or a phase is stuck; with the numbers from 1 of task and phase
pub data StopsAt (a : Arrays) (t demand : ℕ) : ℕ → ℕ → Type 0 where
  overloaded : t < demand → StopsAt a t demand 0 0
  blocked : {i j : ℕ} → demand ≤ t → FirstStuck a t (t - demand) i j → StopsAt a t demand (i + 1) (j + 1)

-- it goes on
pub record WalksOn (a : Arrays) (t demand : ℕ) : Type 0 where
  pub fits : demand ≤ t
  pub free : Below a.tasks (λ i. StuckTask a t (t - demand) i → ⊥)

-- what is asked before: in a margin that is not under the least so far every phase that blocks has room
pub record BeforeStop (a : Arrays) (t demand low : ℕ) : Type 0 where
  pub few : a.tasks ≤ tasks_most
  pub phases : Below a.tasks (λ i. get_or a.phases i 0 ≤ phases_most)
  pub roomy : low ≤ t - demand → Below a.tasks (λ i. StuckTask a t (t - demand) i → ⊥)

-- what is answered: why the walk stops, or nothing where it goes on
abbrev pub PointJudged : Arrays → (t demand : ℕ) → Option Blocked → Type 0
PointJudged a t demand stop = MatchOption stop (WalksOn a t demand) (λ b. StopsAt a t demand b.task b.phase)
