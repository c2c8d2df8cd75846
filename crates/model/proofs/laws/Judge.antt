-- DEMAND 2, for the phases of a table: the walk gives a verdict as asked, and any verdict as asked is that one.
-- Assumes nothing.
use Rattle.model.specs.Phase.{phases_of}
use Rattle.model.specs.Tasks.{Sane, Tasks}
use Rattle.model.specs.TestPoints.{horizon_of}
use Rattle.model.specs.Verdict.{Judged, Same, Verdict}
use Rattle.model.specs.Walk.{verdict}
use Rattle.model.proofs.laws.Lcm.{horizon_is}
use Rattle.model.proofs.laws.Plain.{laws_of}
use Rattle.model.proofs.laws.Unique.{judged_unique}
use Rattle.model.proofs.laws.Verdict.{verdict_ok}

pub judged : (S : Tasks) → Sane S → Judged S (phases_of S) (horizon_of S) (verdict S (phases_of S) (horizon_of S))
judged S sane = verdict_ok S sane (phases_of S) (laws_of S sane) (horizon_of S) (horizon_is S sane)

pub judged_only : (S : Tasks) → Sane S → (v : Verdict) → Judged S (phases_of S) (horizon_of S) v → Same S v (verdict S (phases_of S) (horizon_of S))
judged_only S sane v a = judged_unique S (phases_of S) (laws_of S sane) (horizon_of S) v (verdict S (phases_of S) (horizon_of S)) a (judged S sane)
