-- `least_for` meets its contract: what is asked of the margins gives what its two calls ask.
-- Assumes nothing.
use Rattle.walk.proofs.Meaning.{in_pieces}
use Rattle.walk.proofs.judge.least_for.Goals as goal

pub longests-longest-requires : goal.longests-longest-requires
longests-longest-requires c = in_pieces c.requires _ c.counts-counts.ensures
