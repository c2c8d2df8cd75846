use mathlib.Core.Path.{◌≡◌, refl}
use native.Mathlib.Omega.{arith}
use Rattle.records.proofs.laws.Rules.{urgent_more, urgent_time, urgent_none}
use Rattle.records.proofs.Dispatcher.urgent.Goals as goal

pub loop-i-init : goal.loop-i-init
loop-i-init c = record { best = urgent_none _; least = refl }

pub loop-i-preserved : goal.loop-i-preserved
loop-i-preserved c = let l = c.loop-i in
    let a = c.args.self.now in
    record {
      best = urgent_more a l.i l.best l.least _ l.invariant.least c.choose-best.ensures l.invariant.best;
      least = urgent_time a l.i l.best l.least _ l.invariant.least c.choose-best.ensures _ c.choose-least.ensures;
    }

pub returns : goal.returns
returns c = let l = c.loop-i in
    let last : l.i ≡ 32 = omega arith in
    rw (l.invariant.best, last)
