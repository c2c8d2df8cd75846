-- WITHIN THE JUDGES (nobody need believe this: it is what their arrays hold). The counts of a judged table in an array of 256, and its longest pieces
-- in one of 32, place by place.
-- Assumes nothing.
use Rattle.std.specs.Prelude.{ℕ, ◌/◌, ◌%◌, ltb}
use Rattle.std.specs.Prelude.{if◌then◌else◌}
use Rattle.model.specs.Phase.{Choice, phases_of}
use Rattle.model.specs.Tasks.{Tasks}
use Rattle.model.specs.Works.{longest}

-- place p: the least count for its task's margin, and 0 where no phase of the n tasks stands
unfoldable pub count_at : ℕ → Tasks → (ℕ → ℕ) → ℕ → ℕ
count_at n S cut p =
    if ltb (p / 8) n
    then (if ltb (p % 8) (S.m (p / 8)) then (phases_of S).need (p / 8) (p % 8) (cut (p / 8)) else 0)
    else 0

-- place i: the longest piece of task i, and 0 where there is no such task
unfoldable pub longest_at : ℕ → Tasks → Choice → ℕ → ℕ
longest_at n S x i = if ltb i n then longest S (phases_of S) x i else 0
