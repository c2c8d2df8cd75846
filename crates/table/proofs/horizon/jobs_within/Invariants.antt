-- `jobs_within` meets its contract. The invariant: the sum is that of the spacings so far, each of which adds at most the limit. Assumes nothing.
use mathlib.Core.Path.{◌≡◌}
use Prim.Native.Nat.{◌≤◌, ◌*◌, ◌/◌}
use lib.ListN.{get_or}
use Rattle.finite.specs.Finite.{sum_to}
use Rattle.model.specs.Ranges.{horizon_most}
use Rattle.table.proofs.horizon.jobs_within.Given as goal

abbrev pub invariant-loop-spacing : goal.invariant-loop-spacing
invariant-loop-spacing l = (l.sum ≤ l.spacing-index * horizon_most) × (l.sum ≡ sum_to l.spacing-index (λ k. l.h / get_or l.table.spacing k 0))
