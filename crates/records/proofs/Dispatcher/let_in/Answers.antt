use mathlib.Core.Path.{◌≡◌}
use native.Mathlib.Omega.{arith}
use Rattle.finite.proofs.laws.Masks.{mask_of_lt, mask_of_more, mask_of_none}
use Rattle.records.proofs.Dispatcher.let_in.Goals as goal

pub loop-i-init : goal.loop-i-init
loop-i-init c = mask_of_none _

pub with_bit-entered-requires : goal.with_bit-entered-requires
with_bit-entered-requires c = (omega arith, rw c.loop-i.invariant (mask_of_lt _ _))

pub loop-i-preserved : goal.loop-i-preserved
loop-i-preserved c = mask_of_more _ _ _ _ c.loop-i.invariant c.with_bit-entered.ensures

pub returns : goal.returns
returns c = let l = c.loop-i in
    let last : l.i ≡ 32 = omega arith in
    rw (l.invariant, last)
