-- `marshal::total::judge_total` meets its contract: the sum stops at the largest number, and below that it is the total.
-- Assumes nothing.
use mathlib.Core.Path.{◌∙◌}
use Rattle.marshal.proofs.Judgements.{too_large, total_fits}
use Rattle.marshal.proofs.total.judge_total.Goals as goal

pub returns-then-total-gt-LARGEST_SIZE : goal.returns-then-total-gt-LARGEST_SIZE
returns-then-total-gt-LARGEST_SIZE c =
    let a = c.args in
    too_large _ a.room (rw c.size_field.ensures at c.saturating_add-total.ensures) c.if-total-gt-LARGEST_SIZE.true

pub returns : goal.returns
returns c =
    let a = c.args in
    c.fits.ensures ∙ total_fits _ a.room (rw c.size_field.ensures at c.saturating_add-total.ensures) c.if-total-gt-LARGEST_SIZE.false
