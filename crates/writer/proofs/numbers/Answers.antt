use Rattle.std.proofs.Common.{refl, arith}
use Rattle.groups.proofs.Passes.{begins, part_fits, part_passed, all_passed}
use Rattle.writer.proofs.Outcomes.{few_tasks, phases_inside}
use Rattle.writer.proofs.numbers.Goals as goal

pub number-requires-clause-small : goal.number-requires-clause-small
number-requires-clause-small g c = omega (arith, few_tasks _ c.requires.held)

pub number-requires-clause-room : goal.number-requires-clause-room
number-requires-clause-room g c = g.S.Sink.laws.front_fits _ _ _ c.requires.room

pub loop-i-init : goal.loop-i-init
loop-i-init g c = let laws = g.S.Sink.laws in begins laws (laws.rest_fits _ _ _ _ c.number.ensures c.requires.room)

pub task-requires-clause-some_task : goal.task-requires-clause-some_task
task-requires-clause-some_task g c = omega (arith, few_tasks _ c.requires.held)

pub task-requires-clause-inside : goal.task-requires-clause-inside
task-requires-clause-inside g c = phases_inside _ _ c.requires.held c.loop-i-test.true

pub task-requires-clause-room : goal.task-requires-clause-room
task-requires-clause-room g c = part_fits g.S.Sink.laws c.loop-i.invariant refl c.loop-i-test.true

pub loop-i-preserved : goal.loop-i-preserved
loop-i-preserved g c = part_passed g.S.Sink.laws c.loop-i.invariant refl c.task.ensures

pub returns : goal.returns
returns g c = g.S.Sink.laws.joined _ _ _ _ _ c.number.ensures (all_passed c.loop-i.invariant (omega arith))
