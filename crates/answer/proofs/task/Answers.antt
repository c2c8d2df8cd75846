use Rattle.std.proofs.Common.{[], ◌∷◌, ap, arith}
use Rattle.groups.proofs.Passes.{begins_each, part_fits, part_passed, all_each_passed}
use Rattle.answer.proofs.task.Goals as goal

pub loop-count-init : goal.loop-count-init
loop-count-init g c = let laws = g.S.Sink.laws in (begins_each laws _ (laws.front_fits _ _ _ c.requires), omega arith)

pub number-requires-clause-room : goal.number-requires-clause-room
number-requires-clause-room g c = part_fits g.S.Sink.laws c.loop-count.invariant.0 (ap (λ n. n ∷ []) c.from.ensures) c.loop-count-test.true

pub loop-count-preserved : goal.loop-count-preserved
loop-count-preserved g c = (part_passed g.S.Sink.laws c.loop-count.invariant.0 (ap (λ n. n ∷ []) c.from.ensures) c.number.ensures, omega arith)

pub number-requires-2-clause-room : goal.number-requires-2-clause-room
number-requires-2-clause-room g c =
    let counted = all_each_passed _ c.loop-count.invariant.0 (omega arith) in
    rw c.from-2.ensures (g.S.Sink.laws.rest_fits _ _ _ _ counted c.requires)

pub returns : goal.returns
returns g c =
    let counted = all_each_passed _ c.loop-count.invariant.0 (omega arith) in
    g.S.Sink.laws.joined _ _ _ _ _ counted (rw c.from-2.ensures at c.number-2.ensures)
