-- The range of a record's fields as the loops over its arrays test it. Nobody need believe these tests: laws/Tested proves that together they are
-- `in_range`.
-- Assumes nothing.
use Rattle.std.specs.Prelude.{Bool, cond, ◌&&◌, List, ℕ, ◌-◌, ◌/◌, ◌%◌, leb, ltb, eqb, get_or}
use Rattle.finite.specs.Finite.{all_to}
use Rattle.model.specs.Arrays.{phase_at}
use Rattle.model.specs.Ranges.{cost_most, within, work_most}
use Rattle.records.specs.Rules.{ticks_of}
use Rattle.records.specs.declared.Dispatcher.{Dispatcher}

-- ---- what no tick changes

-- a number from `least` to `most` at a place that is used, 0 at any other
abbrev pub in_place : Bool → (least most number : ℕ) → Bool
in_place used least most number = cond used (within least most number) (eqb number 0)

-- whether place p of the arrays of 256 is used: the first m i places of each task i are
abbrev pub used_at : Dispatcher → ℕ → Bool
used_at d p = ltb (p % 8) (get_or d.phases (p / 8) 0)

-- the number at place p of an array of 256
abbrev pub in_place_at : Dispatcher → (least : ℕ) → (most : ℕ → ℕ) → (numbers : List ℕ) → ℕ → Bool
in_place_at d least most numbers p = in_place (used_at d p) least (most p) (get_or numbers p 0)

-- the work there, which is at least 1 where the count is in its range
abbrev pub work_at : Dispatcher → ℕ → Bool
work_at d = in_place_at d 0 (λ p. work_most) d.work

-- the switching cost there
abbrev pub cost_at : Dispatcher → ℕ → Bool
cost_at d = in_place_at d 0 (λ p. cost_most) d.cost

-- the count there, up to the work
abbrev pub count_at : Dispatcher → ℕ → Bool
count_at d = in_place_at d 1 (λ p. get_or d.work p 0) d.counts

-- all three
abbrev pub numbers_at : Dispatcher → ℕ → Bool
numbers_at d p = work_at d p && cost_at d p && count_at d p

-- ---- what a tick changes

-- the ticks since the last admitted release
abbrev pub since_at : Dispatcher → ℕ → Bool
since_at d i = leb (get_or d.since i 0) (get_or d.spacing i 0)

-- an unfinished job, but for the most of its piece, or three zeros
abbrev pub job_at : Dispatcher → ℕ → Bool
job_at d i =
    leb (get_or d.unfinished i 0) 1 &&
    cond (eqb (get_or d.unfinished i 0) 1)
    (leb (get_or d.left i 0) (get_or d.deadline i 0) && within 1 (get_or d.phases i 0) (get_or d.phase i 0) && leb 1 (get_or d.piece i 0))
    (eqb (get_or d.left i 0) 0 && eqb (get_or d.phase i 0) 0 && eqb (get_or d.piece i 0) 0)

-- its piece is one of its phase
abbrev pub piece_at : Dispatcher → ℕ → Bool
piece_at d i = leb (get_or d.piece i 0) (phase_at d.counts i (get_or d.phase i 0 - 1))

-- all three, of every task
abbrev pub changing_all : Dispatcher → Bool
changing_all d = all_to 32 (since_at d) && all_to 32 (job_at d) && all_to 32 (piece_at d)

-- ---- the running piece

-- the running task, whether its job is unfinished, the ticks left of its piece and how many the piece has
abbrev pub run_in : ℕ → ℕ → Bool → ℕ → ℕ → Bool
run_in run n unfinished ticks most = cond (eqb run 0) (eqb ticks 0) (leb run n && unfinished && within 1 most ticks)

-- those of the record
abbrev pub running_all : Dispatcher → Bool
running_all d = run_in d.running d.tasks (eqb (get_or d.unfinished (d.running - 1) 0) 1) d.ticks (ticks_of d d.running)
