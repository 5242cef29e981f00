-- `frame::command::judge` meets its contract: it goes by what `command_tag` and `handles_end` said; a tag of the two is known.
-- Assumes nothing.
use mathlib.Core.Path.{◌∙◌}
use Rattle.frame.specs.Header.{read_command_tag}
use Rattle.frame.specs.Command.{command_handles, command_areas, judge_command}
use Rattle.base.proofs.Answers.{passed_on}
use Rattle.base.proofs.Checks.{goes_on, stops}
use Rattle.frame.proofs.Divisions.{judged_sized}
use Rattle.frame.proofs.command.judge.Goals as goal

pub returns-in_err-tag : goal.returns-in_err-tag
unfolding judge_command
returns-in_err-tag c = passed_on _ _ _ c.from_residual.ensures.1 ∙ stops (read_command_tag c.args.s.now) _ c.in_err-tag.ensures

pub returns-in_err-handles : goal.returns-in_err-handles
unfolding judge_command command_areas
returns-in_err-handles c =
    let s = c.args.s.now in
    passed_on _ _ _ c.from_residual-in_err-handles.ensures.1 ∙ stops (command_handles _ s) _ c.in_err-handles.ensures
    ∙ goes_on (read_command_tag s) _ c.in_ok-tag.ensures

pub returns : goal.returns
returns c =
    let s = c.args.s.now in
    c.sized_area.ensures
    ∙ judged_sized _ s c.in_ok-tag.ensures c.in_ok-handles.ensures
