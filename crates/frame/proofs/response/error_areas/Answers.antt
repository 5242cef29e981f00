-- `frame::response::error_areas` meets its contract: the tag decides, and then the length.
-- Assumes nothing.
use mathlib.Core.Path.{ap, sym, ◌∙◌}
use Rattle.base.specs.Said.{refuses}
use Rattle.frame.proofs.Divisions.{error_tag_lem, error_long, error_read}
use Rattle.frame.proofs.response.error_areas.Goals as goal

pub returns-then-s-gt-HEADER_SIZE : goal.returns-then-s-gt-HEADER_SIZE
returns-then-s-gt-HEADER_SIZE c =
    let s = c.args.s.now in
    error_long _ s c.tag_of-tag.ensures (sym c.is_error_tag.ensures ∙ c.if-is_error_tag.true) c.if-s-gt-HEADER_SIZE.true

pub returns-else-s-gt-HEADER_SIZE : goal.returns-else-s-gt-HEADER_SIZE
returns-else-s-gt-HEADER_SIZE c =
    let s = c.args.s.now in
    error_read _ s c.tag_of-tag.ensures (sym c.is_error_tag.ensures ∙ c.if-is_error_tag.true) c.if-s-gt-HEADER_SIZE.false

pub returns-else-is_error_tag : goal.returns-else-is_error_tag
returns-else-is_error_tag c =
    let s = c.args.s.now in
    ap refuses c.refused.ensures ∙ error_tag_lem _ s c.tag_of-tag.ensures (sym c.is_error_tag.ensures ∙ c.if-is_error_tag.false)
