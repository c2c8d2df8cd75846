-- `Measuring` takes a number: its bytes are counted. Assumes nothing.
use Rattle.std.proofs.Common.{arith}
use Rattle.groups.proofs.Passes.{one_countable, one_counted}
use Rattle.groups.proofs.sinks.MeasuringSink.number.Goals as goal

pub overflow_add-self : goal.overflow_add-self
overflow_add-self c = omega (arith, one_countable c.requires.room)

pub returns : goal.returns
returns c = one_counted c.size.ensures
