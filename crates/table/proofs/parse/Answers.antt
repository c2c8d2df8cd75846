-- `table::parse` meets its contract: the tasks and the test for bytes behind them, as the definition has them. Assumes nothing.
use mathlib.Core.Path.{◌∙◌, ap, sym}
use Rattle.table.specs.Parse.{parsed_of}
use Rattle.table.proofs.ItemLaws.{passed_on, numbers_away, numbers_behind, numbers_read}
use Rattle.table.proofs.parse.Goals as goal

pub returns-in_err-next : goal.returns-in_err-next
returns-in_err-next c = passed_on _ c.from_residual.ensures.1 ∙ ap parsed_of (sym (numbers_away _ c.empty-table.ensures c.in_err-next.ensures))

pub returns-then-next-bytes : goal.returns-then-next-bytes
returns-then-next-bytes c = ap parsed_of (sym (numbers_behind _ c.empty-table.ensures c.in_ok-next.ensures c.if-next-bytes.true))

pub returns : goal.returns
returns c = ap parsed_of (sym (numbers_read _ c.empty-table.ensures c.in_ok-next.ensures c.if-next-bytes.false))
