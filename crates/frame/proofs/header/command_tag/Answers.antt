-- `frame::header::command_tag` meets its contract: the header is read byte by byte, and a tag that is none of the two is refused.
-- Assumes nothing.
use mathlib.Core.Path.{ap, sym, ◌∙◌}
use Rattle.base.specs.Said.{refuses}
use Rattle.frame.specs.Header.{is_of_two, read_command_tag}
use Rattle.frame.proofs.Headers.{short_header, tag_read, tag_refused}
use Rattle.frame.proofs.header.command_tag.Goals as goal

pub returns-then-s-lt-HEADER_SIZE : goal.returns-then-s-lt-HEADER_SIZE
unfolding read_command_tag
returns-then-s-lt-HEADER_SIZE c = ap refuses c.short.ensures ∙ short_header c.args.s.now _ c.if-s-lt-HEADER_SIZE.true

pub returns-then-is_of_two : goal.returns-then-is_of_two
unfolding read_command_tag
returns-then-is_of_two c =
    let s = c.args.s.now in
    let ten = c.if-s-lt-HEADER_SIZE.false in
    tag_read s _ is_of_two c.tag_of-tag.ensures ten (sym c.is_of_two.ensures ∙ c.if-is_of_two.true)

pub returns-else-is_of_two : goal.returns-else-is_of_two
unfolding read_command_tag
returns-else-is_of_two c =
    let s = c.args.s.now in
    let ten = c.if-s-lt-HEADER_SIZE.false in
    ap refuses c.refused.ensures ∙ tag_refused s _ is_of_two c.tag_of-tag.ensures ten (sym c.is_of_two.ensures ∙ c.if-is_of_two.false)
