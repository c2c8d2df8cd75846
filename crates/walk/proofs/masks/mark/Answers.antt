-- `mark` meets its contract: a bit above all others is added. Assumes nothing.
use mathlib.Core.Path.{refl}
use Rattle.walk.proofs.laws.Masks.{marks}
use Rattle.walk.proofs.masks.mark.Goals as goal

pub returns : goal.returns
returns c = marks c.requires.0 c.requires.1 refl
