-- `frame::response::judge` meets its contract: it goes by what `response_tag` said.
-- Assumes nothing.
use mathlib.Core.Path.{◌∙◌}
use Rattle.frame.specs.Header.{read_response_tag}
use Rattle.frame.specs.Response.{judge_response}
use Rattle.base.proofs.Answers.{passed_on}
use Rattle.base.proofs.Checks.{goes_on, stops}
use Rattle.frame.proofs.response.judge.Goals as goal

pub returns-in_err-response_tag : goal.returns-in_err-response_tag
unfolding judge_response
returns-in_err-response_tag c = passed_on _ _ _ c.from_residual.ensures.1 ∙ stops (read_response_tag _ c.args.s.now) _ c.in_err-response_tag.ensures

pub returns : goal.returns
unfolding judge_response
returns c = c.rc.ensures ∙ goes_on (read_response_tag _ c.args.s.now) _ c.in_ok-response_tag.ensures
