-- DEFINITIONS. The room that an answer must be given (document 01, "Bytes of table and answer").
-- Assumes nothing.
use Rattle.std.specs.Prelude.{ℕ}

-- an answer buffer shorter than this is turned away
abbrev pub answer_room : ℕ
answer_room = 1_162
