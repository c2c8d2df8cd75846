-- `answer::refused` meets its contract: six numbers, each of them small, and there is room for all. Assumes nothing.
use Rattle.answer.proofs.Lengths.{refused_fits, refused_small}
use Rattle.answer.proofs.refused.Goals as goal

pub pass-requires-clause-small : goal.pass-requires-clause-small
pass-requires-clause-small c = refused_small c.requires.0

pub pass-requires-clause-room : goal.pass-requires-clause-room
pass-requires-clause-room c = refused_fits _ _ _ _ _ c.requires.1
