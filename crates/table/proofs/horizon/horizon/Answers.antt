use native.Mathlib.Omega.{arith}
use mathlib.Core.Path.{refl, ◌∙◌}
use Rattle.model.specs.Ranges.{horizon_most}
use Rattle.model.specs.TestPoints.{lcm_to}
use Rattle.table.proofs.Multiples.{Spaced, horizon_positive, spacing_positive, horizon_above, horizon_more}
use Rattle.table.proofs.horizon.horizon.Goals as goal

pub loop-spacing-init : goal.loop-spacing-init
unfolding lcm_to
loop-spacing-init c = (refl, omega arith)

pub lcm_within-requires : goal.lcm_within-requires
lcm_within-requires c =
    let spaced : Spaced _ _ _ _ _ = record { sp = c.requires; so_far = c.loop-spacing.invariant.0; here = c.from.ensures; some = omega arith } in
    (horizon_positive spaced, spacing_positive spaced)

pub returns-in_err-h : goal.returns-in_err-h
returns-in_err-h c =
    let spaced : Spaced _ _ _ _ _ = record { sp = c.requires; so_far = c.loop-spacing.invariant.0; here = c.from.ensures; some = omega arith } in
    c.from_residual.ensures ∙ horizon_above spaced horizon_most c.in_err-h.ensures

pub loop-spacing-preserved : goal.loop-spacing-preserved
loop-spacing-preserved c =
    let spaced : Spaced _ _ _ _ _ = record { sp = c.requires; so_far = c.loop-spacing.invariant.0; here = c.from.ensures; some = omega arith } in
    horizon_more spaced horizon_most c.in_ok-h.ensures
