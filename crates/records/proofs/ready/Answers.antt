-- `ready` meets its contract. Assumes nothing.
use mathlib.Core.Path.{refl}
use Rattle.records.proofs.laws.Ready.{ready_is}
use borrow.Author.Rules.{rules}
use Rattle.records.proofs.ready.Goals as goal

pub returns : goal.returns
returns c = ready_is _ _ _ (search rules) refl
    (record { since = refl; unfinished = refl; left = refl; phase = refl; piece = refl; running = refl; ticks = refl })
