-- `table::read` meets its contract: it is parsing, and then the limits. Assumes nothing.
use mathlib.Core.Path.{◌∙◌}
use Rattle.table.proofs.ItemLaws.{passed_on, parsed_in_range, read_away, limits_away, read_by}
use Rattle.table.proofs.Valid.{range_spacings}
use Rattle.table.proofs.read.Goals as goal

pub returns-in_err-table : goal.returns-in_err-table
returns-in_err-table c = passed_on _ c.from_residual.ensures.1 ∙ read_away _ c.in_err-table.ensures

pub limit-requires : goal.limit-requires
limit-requires c = range_spacings (parsed_in_range _ c.in_ok-table.ensures)

pub returns-in_err-horizon : goal.returns-in_err-horizon
returns-in_err-horizon c = passed_on _ c.from_residual-in_err-horizon.ensures.1 ∙ limits_away _ c.in_ok-table.ensures c.in_err-horizon.ensures

pub returns : goal.returns
returns c = read_by _ c.in_ok-table.ensures c.in_ok-horizon.ensures
