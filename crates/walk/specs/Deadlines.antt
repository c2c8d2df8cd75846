-- WITHIN THE WALK (nobody need believe this: edf states the promise, and it is proved). The tasks' next deadlines, and the next test point among
-- them: what stands here changes where they are kept in another form.
-- Assumes nothing.
use Rattle.std.specs.Prelude.{◌≡◌, false, List, ℕ, ◌+◌, ◌*◌, ◌^◌, ◌≤◌, ◌<◌, min, length, get_or, set, eqb}
use Rattle.finite.specs.Finite.{Below}
use Rattle.std.specs.Prelude.{if◌then◌else◌}
use Rattle.model.specs.Ranges.{horizon_most, spacing_most, tasks_most}
use Rattle.walk.specs.Masks.{BitPut}
use Rattle.finite.specs.Masks.{bit}
use Rattle.walk.specs.declared.deadlines.Moved.{Moved}

-- what a next deadline may be while points up to the horizon are taken
abbrev pub next_most : ℕ
next_most = horizon_most + spacing_most

-- a number above every next deadline, from which the least is formed
abbrev pub beyond_all : ℕ
beyond_all = 2 * horizon_most

-- after is before with each of its first n places put through f, and is as long
pub record Mapped (n : ℕ) (f : ℕ → ℕ → ℕ) (before after : List ℕ) : Type 0 where
  pub same : length after ≡ length before
  pub below : (i : ℕ) → i < n → get_or after i 0 ≡ f i (get_or before i 0)
  pub beyond : (i : ℕ) → n ≤ i → get_or after i 0 ≡ get_or before i 0

-- the next deadline v of a task after the point t: moved on by its spacing where it was t
abbrev pub next_of : ℕ → ℕ → ℕ → ℕ
next_of spacing t v = if eqb v t then t + spacing else v

-- of task i, by the array of the spacings
abbrev pub next_at : List ℕ → ℕ → ℕ → ℕ → ℕ
next_at spacing t i v = next_of (get_or spacing i 0) t v

-- t is the least of the first n numbers of xs
pub record Earliest (n : ℕ) (xs : List ℕ) (t : ℕ) : Type 0 where
  pub below : (i : ℕ) → i < n → t ≤ get_or xs i 0
  pub met : (i : ℕ) × (i < n) × (get_or xs i 0 ≡ t)

-- every task that was due at t has moved on, and `soonest` is the next point
pub record DeadlinesMoved (n t : ℕ) (spacing next next' : List ℕ) (soonest : ℕ) : Type 0 where
  pub each : Mapped n (next_at spacing t) next next'
  pub earliest : Earliest n next' soonest

-- the tasks of the mask are those that are due at t: their next deadline is t
pub record DueAt (n t : ℕ) (next : List ℕ) (mask : ℕ) : Type 0 where
  pub each : Below n (λ i. bit mask i ≡ eqb (get_or next i 0) t)
  pub beyond : (i : ℕ) → n ≤ i → bit mask i ≡ false

-- task i is passed: its next deadline after t, and with it the tasks that were due and the soonest deadline of those passed
pub record MovesOn (i t spacing : ℕ) (next next' : List ℕ) (before after : Moved) : Type 0 where
  pub moved : next' ≡ set next i (next_of spacing t (get_or next i 0))
  pub marked : BitPut i (eqb (get_or next i 0) t) before.due after.due
  pub small : after.due < 2 ^ (i + 1)
  pub least : after.soonest ≡ min before.soonest (next_of spacing t (get_or next i 0))

-- what is asked before the point t is passed
pub record BeforePass (n t : ℕ) (spacing next : List ℕ) : Type 0 where
  pub some : 0 < n
  pub few : n ≤ tasks_most
  pub point : t ≤ horizon_most
  pub short : Below n (λ i. get_or spacing i 0 ≤ spacing_most)
  pub near : Below n (λ i. get_or next i 0 ≤ next_most)

-- it is passed: the next deadlines after it, who was due, and the next point
pub record PointPassed (n t : ℕ) (spacing next next' : List ℕ) (passed : Moved) : Type 0 where
  pub moved : DeadlinesMoved n t spacing next next' passed.soonest
  pub due : DueAt n t next passed.due
