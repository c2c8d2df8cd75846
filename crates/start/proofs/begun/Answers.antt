-- `begun` gives what the verdict asks for: the ready record, or the refused verdict's numbers with the empty record.
-- Assumes nothing.
use Rattle.std.specs.Prelude.{refl}
use Rattle.start.specs.laws.Beginning.{accepted_begins, refused_begins}
use Rattle.walk.proofs.Verdict.{was_accepted, was_refused}
use Rattle.start.proofs.begun.Goals as goal

pub returns-in-Ok : goal.returns-in-Ok
returns-in-Ok c = accepted_begins _ _ (was_accepted c.requires.1 c.in-Ok.is) refl c.ready.ensures

pub returns-in-Err : goal.returns-in-Err
returns-in-Err c = refused_begins _ _ (was_refused c.requires.1 c.in-Err.is) refl c.empty.ensures
