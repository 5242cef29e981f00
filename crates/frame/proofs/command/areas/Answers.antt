-- `frame::command::areas` meets its contract: it goes by what `handles_end` said, and by the tag.
-- Assumes nothing.
use mathlib.Core.Path.{ap, sym, ◌∙◌}
use Rattle.base.specs.Said.{refuses}
use Rattle.frame.specs.Command.{command_handles, command_areas}
use Rattle.base.proofs.Answers.{passed_on}
use Rattle.base.proofs.Checks.{stops}
use Rattle.frame.proofs.Divisions.{command_header, areas_tag_refused, areas_sized}
use Rattle.frame.proofs.command.areas.Goals as goal

pub tag_of-tag-requires : goal.tag_of-tag-requires
tag_of-tag-requires c = (command_header _ c.args.s.now c.in_ok-handles.ensures).0

pub returns-in_err-handles : goal.returns-in_err-handles
unfolding command_areas
returns-in_err-handles c = passed_on _ _ _ c.from_residual.ensures.1 ∙ stops (command_handles _ c.args.s.now) _ c.in_err-handles.ensures

pub returns-then-tag_known : goal.returns-then-tag_known
returns-then-tag_known c =
    let s = c.args.s.now in
    let handles = c.in_ok-handles.ensures in
    let ten = (command_header _ s handles).0 in
    c.sized_area.ensures
    ∙ areas_sized _ s handles c.tag_of-tag.ensures (sym c.tag_known.ensures ∙ c.if-tag_known.true)

pub returns-else-tag_known : goal.returns-else-tag_known
returns-else-tag_known c =
    let s = c.args.s.now in
    let handles = c.in_ok-handles.ensures in
    let ten = (command_header _ s handles).0 in
    ap refuses c.refused.ensures
    ∙ areas_tag_refused _ s handles c.tag_of-tag.ensures (sym c.tag_known.ensures ∙ c.if-tag_known.false)
