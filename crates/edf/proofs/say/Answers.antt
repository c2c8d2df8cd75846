-- `say` meets its contract: by the verdict, the answer that is written of it. Assumes nothing.
use Rattle.walk.proofs.Verdict.{was_accepted, was_refused}
use Rattle.edf.proofs.Saying.{accepted_said, refused_said}
use Rattle.edf.proofs.say.Goals as goal

pub returns-in-Ok : goal.returns-in-Ok
returns-in-Ok c = accepted_said c.requires.0 c.requires.1.horizon (was_accepted c.requires.1 c.in-Ok.is) c.requires.2 c.accepted.ensures

pub returns-in-Err : goal.returns-in-Err
returns-in-Err c = refused_said c.requires.0 c.requires.1.horizon (was_refused c.requires.1 c.in-Err.is) c.requires.2 c.refused.ensures
