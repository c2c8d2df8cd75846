use mathlib.Core.Path.{refl}
use native.Mathlib.Omega.{arith}
use Rattle.records.proofs.laws.InRange.{range_fields}
use Rattle.dispatch.specs.laws.Elapsing.{ages, elapses_by, since_fits}
use Rattle.dispatch.specs.laws.Updates.{filling_none}
use borrow.Author.Rules.{rules}
use Rattle.dispatch.proofs.steps.elapse.Goals as goal

pub loop-i-init : goal.loop-i-init
loop-i-init c = record { so_far = filling_none _ _ refl refl; range = c.requires; long = search rules }

pub overflow_add-held : goal.overflow_add-held
overflow_add-held c =
    let l = c.loop-i in
    record { fits = since_fits _ (range_fields _ l.invariant.long l.invariant.range) l.i _ l.invariant.so_far }

pub loop-i-preserved : goal.loop-i-preserved
loop-i-preserved c =
    let l = c.loop-i in
    record {
      so_far = ages _ l.invariant.long (range_fields _ l.invariant.long l.invariant.range) l.i _ _ l.held c.loop-i-test.true l.invariant.so_far c.min.ensures c.saturating_sub.ensures;
      range = l.invariant.range;
      long = l.invariant.long;
    }

pub returns : goal.returns
returns c =
    let l = c.loop-i in
    elapses_by _ l.invariant.long (range_fields _ l.invariant.long l.invariant.range) l.i l.held (omega arith) l.invariant.so_far
