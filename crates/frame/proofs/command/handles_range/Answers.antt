-- `frame::command::handles_range` meets its contract: it goes by what `handles_end` said.
-- Assumes nothing.
use mathlib.Core.Path.{◌∙◌}
use Rattle.frame.specs.Command.{command_handles, handles_range}
use Rattle.base.proofs.Answers.{passed_on}
use Rattle.base.proofs.Checks.{goes_on, stops}
use Rattle.frame.proofs.command.handles_range.Goals as goal

pub returns-in_err-to : goal.returns-in_err-to
unfolding handles_range
returns-in_err-to c = passed_on _ _ _ c.from_residual.ensures.1 ∙ stops (command_handles _ c.args.s.now) _ c.in_err-to.ensures

pub returns : goal.returns
unfolding handles_range
returns c = goes_on (command_handles _ c.args.s.now) _ c.in_ok-to.ensures
