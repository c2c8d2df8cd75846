-- `first_of` meets its contract, by the law of the lowest bit. Assumes nothing.
use mathlib.Core.Path.{refl}
use borrow.Author.Rules.{rules}
use Rattle.walk.proofs.laws.Masks.{first_of}
use Rattle.walk.proofs.masks.first_of.Goals as goal

pub returns : goal.returns
returns c = first_of c.requires (search rules) refl
