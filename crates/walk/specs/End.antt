-- WITHIN THE WALK (nobody need believe this: edf states the promise, and it is proved). What the walk may answer, by the state that it ends in.
-- Assumes nothing.
use Rattle.std.specs.Prelude.{◌≡◌, List, ℕ, ◌<◌, MatchResult}
use Rattle.model.specs.Arrays.{Arrays}
use Rattle.walk.specs.Deadlines.{Earliest}
use Rattle.walk.specs.Stuck.{StopsAt}
use Rattle.walk.specs.Walk.{PointStep, Reached, WalkState}
use Rattle.walk.specs.declared.judge.Refused.{Refused}
use Rattle.walk.specs.declared.walk.Walked.{Walked}

-- every test point up to h has been taken: the counts are cut to the margins `cuts`
pub record EndAccepted (a : Arrays) (h points : ℕ) (cuts : List ℕ) : Type 0 where
  pub end : WalkState
  pub reached : Reached a h end
  pub next : ℕ
  pub earliest : Earliest a.tasks end.known.next next
  pub beyond : h < next
  pub examined : points ≡ end.points
  pub margins : cuts ≡ end.known.cuts

-- the walk stops at a point, at which no choice works
pub record EndRefused (a : Arrays) (h points : ℕ) (r : Refused) : Type 0 where
  pub from : WalkState
  pub reached : Reached a h from
  pub end : WalkState
  pub step : PointStep a h r.witness from end
  pub demand : r.demand ≡ end.demand
  pub examined : points ≡ end.points
  pub stops : StopsAt a r.witness r.demand r.task r.phase

abbrev pub WalkEnds : Arrays → (h : ℕ) → Walked → Type 0
WalkEnds a h r = MatchResult r.end (EndAccepted a h r.points) (EndRefused a h r.points)
