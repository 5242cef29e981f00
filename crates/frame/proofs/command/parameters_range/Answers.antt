-- `frame::command::parameters_range` meets its contract: it goes by what `areas` said.
-- Assumes nothing.
use mathlib.Core.Path.{◌∙◌}
use Rattle.frame.specs.Command.{command_areas, parameters_range}
use Rattle.base.proofs.Answers.{passed_on}
use Rattle.base.proofs.Checks.{goes_on, stops}
use Rattle.frame.proofs.command.parameters_range.Goals as goal

pub returns-in_err-a : goal.returns-in_err-a
unfolding parameters_range
returns-in_err-a c = passed_on _ _ _ c.from_residual.ensures.1 ∙ stops (command_areas _ c.args.s.now) _ c.in_err-a.ensures

pub returns : goal.returns
unfolding parameters_range
returns c = goes_on (command_areas _ c.args.s.now) _ c.in_ok-a.ensures
