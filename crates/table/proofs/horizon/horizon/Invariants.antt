-- `horizon` meets its contract. The invariant: h is the least common multiple of the spacings so far, and within the limit. Assumes nothing.
use mathlib.Core.Path.{◌≡◌}
use Prim.Native.Nat.{◌≤◌}
use lib.ListN.{get_or}
use Rattle.model.specs.Ranges.{horizon_most}
use Rattle.model.specs.TestPoints.{lcm_to}
use Rattle.table.proofs.horizon.horizon.Given as goal

abbrev pub invariant-loop-spacing : goal.invariant-loop-spacing
invariant-loop-spacing l = (l.h ≡ lcm_to l.spacing-index (λ k. get_or l.table.spacing k 0)) × (l.h ≤ horizon_most)
