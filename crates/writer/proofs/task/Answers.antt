-- `writer::task` meets its contract: three numbers, and the phases' behind them. Assumes nothing.
use Rattle.writer.specs.Written.{task_items}
use Rattle.writer.proofs.task.Goals as goal

pub pass-requires-clause-room : goal.pass-requires-clause-room
unfolding task_items
pass-requires-clause-room g c =
    rw (c.from-spacing.ensures, c.from-deadline.ensures, c.from.ensures) (g.S.Sink.laws.front_fits _ _ _ c.requires.room)

pub phases-requires-clause-room : goal.phases-requires-clause-room
unfolding task_items
phases-requires-clause-room g c =
    let head = rw (c.from-spacing.ensures, c.from-deadline.ensures, c.from.ensures) at c.pass.ensures in
    g.S.Sink.laws.rest_fits _ _ _ _ head c.requires.room

pub returns : goal.returns
unfolding task_items
returns g c =
    let head = rw (c.from-spacing.ensures, c.from-deadline.ensures, c.from.ensures) at c.pass.ensures in
    g.S.Sink.laws.joined _ _ _ _ _ head c.phases.ensures
