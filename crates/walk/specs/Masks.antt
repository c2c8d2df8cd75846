-- WITHIN THE WALK (nobody need believe this: edf states the promise, and it is proved). Masks of tasks: bit i stands for task i.
-- Assumes nothing.
use Rattle.std.specs.Prelude.{◌≡◌, Bool, true, false, ℕ, ◌<◌}
use Rattle.std.specs.Int.Count.{count_trailing_zeros}
use Rattle.finite.specs.Masks.{bit}
use Rattle.model.specs.Ranges.{tasks_most}

-- after is the mask before with b for its bit i
pub record BitPut (i : ℕ) (b : Bool) (before after : ℕ) : Type 0 where
  pub here : bit after i ≡ b
  pub elsewhere : (k : ℕ) → (k ≡ i → ⊥) → bit after k ≡ bit before k

-- the place of the lowest bit that is set, in a mask that has one
abbrev pub lowest : ℕ → ℕ
lowest mask = count_trailing_zeros 32 mask

-- the first task of a mask
pub record FirstOf (mask first : ℕ) : Type 0 where
  pub is : first ≡ lowest mask
  pub place : first < tasks_most
  pub marked : bit mask first ≡ true

-- the tasks of a mask but its first
pub record OthersOf (mask others : ℕ) : Type 0 where
  pub without : BitPut (lowest mask) false mask others
  pub fewer : others < mask
