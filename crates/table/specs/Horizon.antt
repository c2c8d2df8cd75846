-- What the horizon's own functions are asked and answer, in the model's words. Assumes nothing.
use Rattle.std.specs.Prelude.{◌≡◌, List, ℕ, ◌≤◌, ◌<◌, length, get_or, ltb, Option, Some, None}
use Rattle.std.specs.Prelude.{if◌then◌else◌}
use Rattle.model.specs.Ranges.{tasks_most}

-- the number, or none where it is above the limit
abbrev pub none_above : (limit : ℕ) → ℕ → Option ℕ
none_above limit v = if ltb limit v then None else Some v

-- n spacings that stand in an array of 32, each at least 1
pub record Spacings (ts : List ℕ) (n : ℕ) : Type 0 where
  pub wide : length ts ≡ 32
  pub few : n ≤ tasks_most
  pub least : (i : ℕ) → i < n → 1 ≤ get_or ts i 0
