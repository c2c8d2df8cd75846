-- `judge` meets its contract: what holds of a table that was read lets it be walked, and each end of the walk gives its verdict.
-- Assumes nothing.
use Rattle.walk.proofs.Limits.{before_verdict}
use Rattle.walk.proofs.Meaning.{ready_at, verdict_is}
use Rattle.walk.proofs.judge.judge.Goals as goal

pub walk-walked-requires : goal.walk-walked-requires
walk-walked-requires c = (before_verdict c.requires.0 c.requires.1).walkable

pub map-requires : goal.map-requires
map-requires c = ready_at (before_verdict c.requires.0 c.requires.1) _ _ c.walk-walked.ensures

pub returns : goal.returns
returns c =
    record { horizon = c.requires.1; verdict = verdict_is (before_verdict c.requires.0 c.requires.1) _ _ _ c.walk-walked.ensures c.map.ensures.cases }
