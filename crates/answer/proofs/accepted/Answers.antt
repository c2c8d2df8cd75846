-- `answer::accepted` meets its contract: there is room for its numbers. Assumes nothing.
use Rattle.answer.proofs.Lengths.{accepted_fits}
use Rattle.answer.proofs.accepted.Goals as goal

pub accepted_numbers-requires-clause-room : goal.accepted_numbers-requires-clause-room
accepted_numbers-requires-clause-room c = accepted_fits c.requires.0 c.requires.1
