-- `answer::accepted_numbers` meets its contract: three numbers, and the tasks' behind them. Assumes nothing.
use Rattle.answer.proofs.accepted_numbers.Goals as goal

pub pass-requires-clause-room : goal.pass-requires-clause-room
pass-requires-clause-room g c = g.S.Sink.laws.front_fits _ _ _ c.requires.room

pub tasks-requires-clause-room : goal.tasks-requires-clause-room
tasks-requires-clause-room g c = g.S.Sink.laws.rest_fits _ _ _ _ c.pass.ensures c.requires.room

pub returns : goal.returns
returns g c = g.S.Sink.laws.joined _ _ _ _ _ c.pass.ensures c.tasks.ensures
