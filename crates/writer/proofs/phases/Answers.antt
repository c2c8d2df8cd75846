use Rattle.std.proofs.Common.{ℕ, List, [], ◌∷◌, ap₂, arith}
use Rattle.groups.proofs.Passes.{begins, part_fits, part_passed, all_passed}
use Rattle.writer.proofs.phases.Goals as goal

-- two numbers, as they are read
abbrev pair : ℕ → ℕ → List ℕ
pair work cost = work ∷ cost ∷ []

pub loop-j-init : goal.loop-j-init
loop-j-init g c = begins g.S.Sink.laws c.requires.room

pub pass-requires-clause-room : goal.pass-requires-clause-room
pass-requires-clause-room g c =
    part_fits g.S.Sink.laws c.loop-j.invariant (ap₂ pair c.from-work.ensures c.from-cost.ensures) c.loop-j-test.true

pub loop-j-preserved : goal.loop-j-preserved
loop-j-preserved g c =
    part_passed g.S.Sink.laws c.loop-j.invariant (ap₂ pair c.from-work.ensures c.from-cost.ensures) c.pass.ensures

pub returns : goal.returns
returns g c = all_passed c.loop-j.invariant (omega arith)
