-- `table::dispatch::find` meets its contract: the row at the place of the code is the code's, or the code has none.
-- Assumes nothing.
use mathlib.Core.Path.{◌∙◌, ap}
use Rattle.base.specs.Said.{refuses}
use Rattle.table.proofs.Table.{row_placed, none_placed}
use Rattle.table.proofs.dispatch.find.Goals as goal

pub returns-then-row-cc : goal.returns-then-row-cc
returns-then-row-cc c = row_placed c.args.revision c.place.ensures c.row_at-row.ensures c.if-row-cc.true

pub returns : goal.returns
returns c = ap refuses c.refused.ensures ∙ none_placed c.args.revision c.place.ensures c.row_at-row.ensures c.if-row-cc.false
