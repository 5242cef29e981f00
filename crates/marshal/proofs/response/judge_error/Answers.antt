-- `marshal::response::judge_error` meets its contract: each return is the case of the definition to which its tests lead.
-- Assumes nothing.
use mathlib.Core.Path.{sym, ◌∙◌, ap}
use Rattle.base.specs.Said.{given}
use Rattle.base.proofs.Answers.{passed_on}
use Rattle.base.proofs.Checks.{passes}
use Rattle.rc.specs.Code.{read_code}
use Rattle.marshal.proofs.Judgements.{told}
use Rattle.marshal.proofs.Writers.{error_fits, error_sessions, not_read}
use Rattle.marshal.proofs.response.judge_error.Goals as goal

pub returns-then-count-eq0 : goal.returns-then-count-eq0
returns-then-count-eq0 c =
    let a = c.args in
    c.fits.ensures ∙ error_fits a.rc.0 a.count a.room c.if-count-eq0.true
    ∙ passes (given (read_code a.rc.0)) _ _ (ap given (sym c.in_ok-read.ensures))

pub returns : goal.returns
returns c =
    let a = c.args in
    told c.into.ensures c.refused.ensures ∙ error_sessions a.rc.0 a.count a.room c.if-count-eq0.false
    ∙ passes (given (read_code a.rc.0)) _ _ (ap given (sym c.in_ok-read.ensures))

pub returns-in_err-read : goal.returns-in_err-read
returns-in_err-read c = passed_on _ _ _ c.from_residual.ensures.1 ∙ not_read c.args.rc.0 _ c.in_err-read.ensures
