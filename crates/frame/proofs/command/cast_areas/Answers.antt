-- `frame::command::cast_areas` meets its contract: it goes by what `frame_whole` said.
-- Assumes nothing.
use mathlib.Core.Path.{◌∙◌}
use Rattle.frame.specs.Header.{frame_whole}
use Rattle.frame.specs.Command.{cast_command}
use Rattle.base.proofs.Answers.{passed_on}
use Rattle.base.proofs.Checks.{goes_on, stops}
use Rattle.frame.proofs.command.cast_areas.Goals as goal

pub returns-in_err-frame_whole : goal.returns-in_err-frame_whole
unfolding cast_command
returns-in_err-frame_whole c = passed_on _ _ _ c.from_residual.ensures.1 ∙ stops (frame_whole c.args.s.now) _ c.in_err-frame_whole.ensures

pub returns : goal.returns
unfolding cast_command
returns c = c.judge.ensures ∙ goes_on (frame_whole c.args.s.now) _ c.in_ok-frame_whole.ensures
