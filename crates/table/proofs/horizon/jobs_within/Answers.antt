use native.Mathlib.Omega.{arith}
use mathlib.Core.Path.{refl}
use Rattle.finite.specs.Finite.{sum_to}
use Rattle.table.proofs.Multiples.{Summed, sum_more, sum_small}
use Rattle.table.proofs.horizon.jobs_within.Goals as goal

pub loop-spacing-init : goal.loop-spacing-init
unfolding sum_to
loop-spacing-init c = (omega arith, refl)

pub loop-spacing-preserved : goal.loop-spacing-preserved
loop-spacing-preserved c =
    let l = c.loop-spacing.invariant in
    let summed : Summed _ _ _ _ _ _ _ = record { sp = c.requires.0; small = c.requires.1; below = l.0; so_far = l.1; here = c.from.ensures; some = omega arith } in
    (sum_small summed, sum_more summed)
