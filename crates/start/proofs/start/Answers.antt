-- `start` passes on what the reader says, and judges a table that was read.
-- Assumes nothing.
use Rattle.table.proofs.Readings.{valid_reading}
use Rattle.start.proofs.start.Goals as goal

pub judge-judged-requires : goal.judge-judged-requires
judge-judged-requires c = valid_reading _ c.in-Ok.ensures

pub begun-requires : goal.begun-requires
begun-requires c = ((valid_reading _ c.in-Ok.ensures).0, c.judge-judged.ensures)
