-- `frame::response::areas` meets its contract: it goes by what `cast_code` and the search said, and by whether the code is success.
-- Assumes nothing.
use mathlib.Core.Path.{◌∙◌, ap}
use Rattle.base.specs.Said.{refuses}
use borrow.Author.Tests.{eq-eqb, ne_eqb}
use Rattle.base.specs.Answer.{said}
use Rattle.frame.specs.Response.{cast_response, response_areas}
use Rattle.base.proofs.Answers.{learnt, passed_on}
use Rattle.base.proofs.Checks.{stops}
use Rattle.frame.proofs.Divisions.{response_header, areas_no_row, areas_success, areas_error}
use Rattle.frame.proofs.response.areas.Goals as goal

pub success_areas-requires : goal.success_areas-requires
success_areas-requires c =
    response_header _ c.args.s.now c.in_ok-code.ensures

pub error_areas-requires : goal.error_areas-requires
error_areas-requires c =
    response_header _ c.args.s.now c.in_ok-code.ensures

pub returns-in_err-code : goal.returns-in_err-code
unfolding response_areas
returns-in_err-code c = passed_on _ _ _ c.from_residual.ensures.1 ∙ stops (cast_response _ c.args.s.now) _ c.in_err-code.ensures

pub returns-in_default : goal.returns-in_default
returns-in_default c = ap refuses c.refused.ensures ∙ areas_no_row _ c.args.s.now _ c.in_ok-code.ensures (learnt said c.in_default.is c.find.ensures)

pub returns-then-code-eq0 : goal.returns-then-code-eq0
returns-then-code-eq0 c =
    c.success_areas.ensures
    ∙ areas_success _ c.args.s.now _ c.in_ok-code.ensures c.in-Ok.ensures (eq-eqb _ _ c.if-code-eq0.true)

pub returns-else-code-eq0 : goal.returns-else-code-eq0
returns-else-code-eq0 c =
    c.error_areas.ensures
    ∙ areas_error _ c.args.s.now _ c.in_ok-code.ensures c.in-Ok.ensures (ne_eqb _ _ c.if-code-eq0.false)
