-- DEFINITIONS. Document 01, "Bytes of table and answer": the range of each item of a table. The limits, what is asked, and the test that computes it.
-- Assumes nothing.
use Rattle.std.specs.Prelude.{◌≡◌, Bool, ◌&&◌, List, [], ◌∷◌, ℕ, ◌/◌, ◌%◌, ◌≤◌, leb, ltb, eqb}
use Rattle.finite.specs.Finite.{Below, all_to}
use Rattle.std.specs.Prelude.{if◌then◌else◌}
use Rattle.model.specs.Tasks.{Each, Tasks}

-- ---- the most of each item (the least is 1, of q 0; the most of D is T)

-- tasks
abbrev pub tasks_most : ℕ
tasks_most = 32

-- T
abbrev pub spacing_most : ℕ
spacing_most = 1_000_000_000

-- phases in a task
abbrev pub phases_most : ℕ
phases_most = 8

-- c
abbrev pub work_most : ℕ
work_most = 10_000_000

-- q
abbrev pub cost_most : ℕ
cost_most = 10_000_000

-- H
abbrev pub horizon_most : ℕ
horizon_most = 1_000_000_000_000

-- the sum of H/T over the tasks
abbrev pub jobs_most : ℕ
jobs_most = 1_000_000

-- a least and a most
pub record FromTo : Type 0 where
  pub least : ℕ
  pub most : ℕ

-- the numbers of a phase, in the order of their bytes: c, q
abbrev pub phase_numbers : List FromTo
phase_numbers = record { least = 1; most = work_most } ∷ record { least = 0; most = cost_most } ∷ []

-- ---- what is asked

-- T, D and the number of phases of a task
pub record TaskRange (T D m : ℕ) : Type 0 where
  pub spacing_least : 1 ≤ T
  pub spacing_at_most : T ≤ spacing_most
  pub deadline_least : 1 ≤ D
  pub deadline_most : D ≤ T
  pub phases_least : 1 ≤ m
  pub phases_at_most : m ≤ phases_most

abbrev pub TaskIn : Tasks → ℕ → Type 0
TaskIn S i = TaskRange (S.T i) (S.D i) (S.m i)

-- c and q of a phase
pub record PhaseRange (c q : ℕ) : Type 0 where
  pub work_least : 1 ≤ c
  pub work_at_most : c ≤ work_most
  pub cost_at_most : q ≤ cost_most

abbrev pub PhaseIn : Tasks → ℕ → ℕ → Type 0
PhaseIn S i j = PhaseRange (S.c i j) (S.q i j)

-- where there is no task, or no phase, there is 0
pub record TaskZero (T D m : ℕ) : Type 0 where
  pub no_spacing : T ≡ 0
  pub no_deadline : D ≡ 0
  pub no_phases : m ≡ 0

abbrev pub NoTask : Tasks → ℕ → Type 0
NoTask S i = TaskZero (S.T i) (S.D i) (S.m i)

pub record PhaseZero (c q : ℕ) : Type 0 where
  pub no_work : c ≡ 0
  pub no_cost : q ≡ 0

abbrev pub NoPhase : Tasks → ℕ → ℕ → Type 0
NoPhase S i j = PhaseZero (S.c i j) (S.q i j)

-- every item of a table is in its range, and unused places are 0
pub record InTable (S : Tasks) : Type 0 where
  pub tasks : S.n ≤ tasks_most
  pub task : Below S.n (TaskIn S)
  pub no_task : (i : ℕ) → S.n ≤ i → NoTask S i
  pub phase : Each S (PhaseIn S)
  pub no_phase : (i j : ℕ) → S.m i ≤ j → NoPhase S i j

-- ---- the same as a test

-- a number from `least` to `most`
abbrev pub within : ℕ → ℕ → ℕ → Bool
within least most v = leb least v && leb v most

-- T, D and the number of phases of task i; 0 where there is no such task
abbrev pub task_test : Tasks → ℕ → Bool
task_test S i =
    if ltb i S.n
    then within 1 spacing_most (S.T i) && within 1 (S.T i) (S.D i) && within 1 phases_most (S.m i)
    else eqb (S.T i) 0 && eqb (S.D i) 0 && eqb (S.m i) 0

-- a number of phase j of task i, where task i has m i phases; 0 where there is no such phase
abbrev pub number_test : (m : ℕ → ℕ) → (least most : ℕ) → (ℕ → ℕ → ℕ) → ℕ → ℕ → Bool
number_test m least most f i j = if ltb j (m i) then within least most (f i j) else eqb (f i j) 0

-- of the 256 places for phases
abbrev pub all_phases : (ℕ → ℕ → Bool) → Bool
all_phases f = all_to 256 (λ p. f (p / 8) (p % 8))

-- the tasks, and each number of the phases
unfoldable pub table_test : Tasks → Bool
table_test S =
    leb S.n tasks_most &&
    all_to 32 (task_test S) &&
    all_phases (number_test S.m 1 work_most S.c) &&
    all_phases (number_test S.m 0 cost_most S.q)
