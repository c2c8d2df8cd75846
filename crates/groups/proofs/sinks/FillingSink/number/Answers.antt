-- `Filling` takes a number: its bytes are put, and the place moves behind them. Assumes nothing.
use Rattle.std.proofs.Common.{refl}
use Rattle.groups.proofs.Passes.{one_fits, one_filled}
use Rattle.groups.proofs.sinks.FillingSink.number.Goals as goal

pub put-self-requires : goal.put-self-requires
put-self-requires c = (c.requires.small, one_fits c.requires.room)

pub returns : goal.returns
returns c = (refl, one_filled c.put-self.ensures.0 c.put-self.ensures.1)
