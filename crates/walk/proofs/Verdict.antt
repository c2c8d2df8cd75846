-- What was judged, by the case of the verdict. Assumes nothing.
use Rattle.std.specs.Prelude.{◌≡◌, Ok, Err}
use Rattle.std.proofs.lemmas.Result.{MatchResult-at_ok, MatchResult-at_err}
use Rattle.model.specs.Tasks.{Tasks}
use Rattle.walk.specs.Judge.{Accepts, Refuses, WalkJudges}
use Rattle.walk.specs.declared.judge.Judged.{Judged}
use Rattle.walk.specs.declared.judge.Least.{Least}
use Rattle.walk.specs.declared.judge.Refused.{Refused}

module _ {S : Tasks} {v : Judged} (judged : WalkJudges S v) where
  pub was_accepted : {l : Least} → v.verdict ≡ Ok l → Accepts S v.points l
  was_accepted {l} is = MatchResult-at_ok _ _ l is judged.verdict

  pub was_refused : {f : Refused} → v.verdict ≡ Err f → Refuses S v.points f
  was_refused {f} is = MatchResult-at_err _ _ f is judged.verdict
