-- `others_of` meets its contract, by the law of the lowest bit. Assumes nothing.
use borrow.Author.Rules.{rules}
use mathlib.Core.Path.{refl}
use Rattle.walk.proofs.laws.Masks.{others_of}
use Rattle.walk.proofs.masks.others_of.Goals as goal

pub returns : goal.returns
returns c = others_of c.requires (search rules) refl
