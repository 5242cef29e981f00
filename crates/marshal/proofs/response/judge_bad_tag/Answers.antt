-- `marshal::response::judge_bad_tag` meets its contract: each return is the case of the definition to which its tests lead.
-- Assumes nothing.
use mathlib.Core.Path.{sym, ◌∙◌, ap}
use mathlib.Core.Bool.{◌||◌, or-true}
use native.Mathlib.Omega.{arith}
use borrow.Author.Tests.{eq-eqb}
use lib.Dec.{eqb}
use Rattle.base.specs.Said.{given}
use Rattle.base.proofs.Answers.{passed_on}
use Rattle.base.proofs.Checks.{passes}
use Rattle.rc.specs.Code.{read_code}
use Rattle.frame.specs.Header.{bad_tag}
use Rattle.marshal.proofs.Judgements.{told}
use Rattle.marshal.proofs.Writers.{bad_tag_fits, bad_tag_sessions, bad_tag_other, reads_asked, reads_known, reads_success, other_not_read}
use Rattle.marshal.proofs.response.judge_bad_tag.Goals as goal

pub returns-then-count-eq0 : goal.returns-then-count-eq0
returns-then-count-eq0 c =
    let a = c.args in
    let is = c.if-rc-eq-BAD_TAG.true in
    c.fits.ensures ∙ bad_tag_fits a.rc.0 a.count a.room is c.if-count-eq0.true
    ∙ passes (given (read_code a.rc.0) || eqb a.rc.0 bad_tag) _ _ (reads_asked a.rc.0 is)

pub returns-then-rc-eq-BAD_TAG : goal.returns-then-rc-eq-BAD_TAG
returns-then-rc-eq-BAD_TAG c =
    let a = c.args in
    let is = c.if-rc-eq-BAD_TAG.true in
    told c.into.ensures c.refused.ensures ∙ bad_tag_sessions a.rc.0 a.count a.room (λ zero. omega arith) c.if-count-eq0.false
    ∙ passes (given (read_code a.rc.0) || eqb a.rc.0 bad_tag) _ _ (reads_asked a.rc.0 is)

pub returns-then-rc-eq0 : goal.returns-then-rc-eq0
returns-then-rc-eq0 c =
    let a = c.args in
    let zero = c.if-rc-eq0.true in
    told c.into-then-rc-eq0.ensures c.refused-then-rc-eq0.ensures ∙ bad_tag_other a.rc.0 a.count a.room (rw (eq-eqb a.rc.0 0 zero)) c.if-rc-eq-BAD_TAG.false
    ∙ passes (given (read_code a.rc.0) || eqb a.rc.0 bad_tag) _ _ (reads_success a.rc.0 zero)

pub returns-then-count-eq0-2 : goal.returns-then-count-eq0-2
returns-then-count-eq0-2 c =
    let a = c.args in
    told c.into-then-count-eq0-2.ensures c.refused-then-count-eq0-2.ensures ∙ bad_tag_other a.rc.0 a.count a.room (rw (eq-eqb a.count 0 c.if-count-eq0-2.true) (or-true (eqb a.rc.0 0))) c.if-rc-eq-BAD_TAG.false
    ∙ passes (given (read_code a.rc.0) || eqb a.rc.0 bad_tag) _ _ (reads_known a.rc.0 (ap given (sym c.in_ok-read.ensures)))

pub returns : goal.returns
returns c =
    let a = c.args in
    told c.into-2.ensures c.refused-2.ensures ∙ bad_tag_sessions a.rc.0 a.count a.room c.if-rc-eq0.false c.if-count-eq0-2.false
    ∙ passes (given (read_code a.rc.0) || eqb a.rc.0 bad_tag) _ _ (reads_known a.rc.0 (ap given (sym c.in_ok-read.ensures)))

pub returns-in_err-read : goal.returns-in_err-read
returns-in_err-read c = passed_on _ _ _ c.from_residual.ensures.1 ∙ other_not_read c.args.rc.0 _ c.if-rc-eq-BAD_TAG.false c.in_err-read.ensures
