-- `Dispatcher::empty` meets its contract. Assumes nothing.
use mathlib.Core.Path.{refl}
use Rattle.model.specs.Arrays.{empty_arrays}
use Rattle.records.proofs.Dispatcher.empty.Goals as goal

pub returns : goal.returns
unfolding empty_arrays
returns c = refl
