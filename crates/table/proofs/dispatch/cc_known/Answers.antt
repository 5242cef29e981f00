-- `table::dispatch::cc_known` meets its contract: a row is found for the codes of the table, and for no other.
-- Assumes nothing.
use mathlib.Core.Path.{ap, ◌∙◌}
use Rattle.base.specs.Error.{numbered}
use Rattle.base.specs.Said.{given}
use Rattle.base.proofs.Answers.{is_given}
use Rattle.table.specs.Dispatch.{table_of}
use Rattle.table.proofs.Rows.{row_given}
use Rattle.table.proofs.dispatch.cc_known.Goals as goal

pub returns : goal.returns
returns c =
    c.is_ok.ensures.value ∙ is_given (λ r. r) numbered c.find.result
    ∙ ap given c.find.ensures ∙ row_given c.args.cc.0 (table_of c.args.revision)
