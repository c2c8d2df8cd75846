use Rattle.std.proofs.Common.{◌≤◌, ◌*◌, ◌+◌, length, get_or, arith}
use Rattle.groups.proofs.Passes.{begins, part_fits, part_passed}
use Rattle.answer.proofs.Slices.{its_numbers}
use Rattle.answer.proofs.tasks.Goals as goal

pub loop-i-init : goal.loop-i-init
loop-i-init g c = begins g.S.Sink.laws c.requires.room

pub task-requires : goal.task-requires
task-requires g c =
    let i = c.loop-i.i in
    let inside : 8 * i + get_or c.args.table.now.phases i 0 ≤ length c.args.counts.now = omega (arith, c.requires.few_phases i) in
    part_fits g.S.Sink.laws c.loop-i.invariant (its_numbers _ _ _ _ inside) c.loop-i-test.true

pub loop-i-preserved : goal.loop-i-preserved
loop-i-preserved g c =
    let i = c.loop-i.i in
    let inside : 8 * i + get_or c.args.table.now.phases i 0 ≤ length c.args.counts.now = omega (arith, c.requires.few_phases i) in
    part_passed g.S.Sink.laws c.loop-i.invariant (its_numbers _ _ _ _ inside) c.task.ensures
