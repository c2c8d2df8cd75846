use mathlib.Core.Path.{◌≡◌, ◌∙◌}
use native.Mathlib.Omega.{arith}
use Rattle.finite.proofs.laws.Lists.{all_none, all_more}
use Rattle.arrays.proofs.places.all_places.Goals as goal

pub loop-place-init : goal.loop-place-init
loop-place-init g c p describes = all_none p

pub loop-place-preserved : goal.loop-place-preserved
loop-place-preserved g c p describes =
    let l = c.loop-place in
    all_more l.place p _ _ (l.invariant p describes) (rw (describes l.place c.holds-all.result c.loop-place-test.true c.holds-all.ensures))

pub returns : goal.returns
returns g c p describes =
    let l = c.loop-place in
    let last : l.place ≡ g.row.N = omega arith in
    l.invariant p describes ∙ rw last
