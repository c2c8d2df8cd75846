-- `judge` meets its contract: what the reader says is passed on, and a table that was read is judged and answered. Assumes nothing.
use Rattle.table.proofs.Readings.{valid_reading}
use Rattle.edf.proofs.judge.Goals as goal

pub judge-judged-requires : goal.judge-judged-requires
judge-judged-requires c = valid_reading _ c.in_ok-read.ensures

pub say-requires : goal.say-requires
say-requires c = ((valid_reading _ c.in_ok-read.ensures).0, c.judge-judged.ensures, c.if-answer-lt-ANSWER_ROOM.false)
