-- `frame::response::cast_prefix_range` meets its contract: it goes by what `frame_prefix` said, and by what is judged of so many bytes.
-- Assumes nothing.
use mathlib.Core.Path.{sym, ◌∙◌, ap}
use lib.ListN.{take}
use lib.Seq.{length-take-le}
use Rattle.frame.specs.Header.{frame_prefix}
use Rattle.frame.specs.Response.{judge_response, cast_response_prefix}
use Rattle.base.specs.Parts.{up_to}
use Rattle.base.proofs.Answers.{passed_on}
use Rattle.base.proofs.Checks.{goes_on, stops}
use Rattle.frame.proofs.Headers.{prefix_fits}
use Rattle.frame.proofs.response.cast_prefix_range.Goals as goal

pub slice_bounds-judge-end : goal.slice_bounds-judge-end
slice_bounds-judge-end c = sym (length-take-le _ _ (prefix_fits c.args.s.now c.in_ok-to.ensures).2)

pub returns-in_err-to : goal.returns-in_err-to
unfolding cast_response_prefix
returns-in_err-to c = passed_on _ _ _ c.from_residual.ensures.1 ∙ ap up_to (stops (frame_prefix c.args.s.now) _ c.in_err-to.ensures)

pub returns-in_err-judge : goal.returns-in_err-judge
unfolding cast_response_prefix
returns-in_err-judge c =
    let s = c.args.s.now in
    passed_on _ _ _ c.from_residual-in_err-judge.ensures.1 ∙ ap up_to
    (stops (judge_response _ (take c.in_ok-to.to s)) _ c.in_err-judge.ensures
    ∙ goes_on (frame_prefix s) _ c.in_ok-to.ensures)

pub returns : goal.returns
unfolding cast_response_prefix
returns c =
    let s = c.args.s.now in
    ap up_to
    (goes_on (judge_response _ (take c.in_ok-to.to s)) _ c.in_ok-judge.ensures
    ∙ goes_on (frame_prefix s) _ c.in_ok-to.ensures)
