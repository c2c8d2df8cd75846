-- The demand of a slice as a running answer, one task after another: the words of the inner calls' contracts.
-- Assumes nothing.
use Rattle.std.specs.Prelude.{if◌then◌else◌, Option, Some, None, List, ℕ, ◌+◌, ◌*◌, ◌^◌, nat_lt}
use Rattle.finite.specs.Finite.{sum_to}
use Rattle.model.specs.Demand.{jobs}
use Rattle.lent.specs.declared.TaskLoad.{TaskLoad}
use Rattle.lent.specs.Lent.{task_at}

-- what is answered of a number: itself where it is below 2^64, else none
unfoldable pub told : ℕ → Option ℕ
told k = if nat_lt k (2 ^ 64) then Some k else None

-- an answer with a number added; where there is none it stays so
unfoldable pub plus : Option ℕ → ℕ → Option ℕ
plus None k = None
plus (Some sum) k = told (sum + k)

-- what one task demands
unfoldable pub term_of : ℕ → TaskLoad → ℕ
term_of t s = jobs s.spacing s.deadline t * s.budget

-- the demand of the first i tasks
unfoldable pub up_to : List TaskLoad → ℕ → ℕ → ℕ
up_to tasks t i = sum_to i (λ k. term_of t (task_at tasks k))
