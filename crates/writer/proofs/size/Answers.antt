-- `writer::size` meets its contract: so few bytes can be counted. Assumes nothing.
use Rattle.writer.proofs.Outcomes.{can_be_measured}
use Rattle.writer.proofs.size.Goals as goal

pub numbers-requires-clause-room : goal.numbers-requires-clause-room
numbers-requires-clause-room c = can_be_measured _ c.requires
