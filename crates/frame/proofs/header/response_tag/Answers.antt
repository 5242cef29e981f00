-- `frame::header::response_tag` meets its contract: the header is read byte by byte, and a tag that these rules have not is refused.
-- Assumes nothing.
use mathlib.Core.Path.{ap, sym, ◌∙◌}
use Rattle.base.specs.Said.{refuses}
use Rattle.frame.specs.Header.{is_response_tag, read_response_tag}
use Rattle.frame.specs.Rules.{book_of}
use Rattle.frame.proofs.Headers.{short_header, tag_read, tag_refused}
use Rattle.frame.proofs.header.response_tag.Goals as goal

pub returns-then-s-lt-HEADER_SIZE : goal.returns-then-s-lt-HEADER_SIZE
unfolding read_response_tag
returns-then-s-lt-HEADER_SIZE c = ap refuses c.short.ensures ∙ short_header c.args.s.now _ c.if-s-lt-HEADER_SIZE.true

pub returns-then-is_response_tag : goal.returns-then-is_response_tag
unfolding read_response_tag
returns-then-is_response_tag c =
    let s = c.args.s.now in
    let rules = c.args.rules in
    let ten = c.if-s-lt-HEADER_SIZE.false in
    tag_read s _ (is_response_tag (book_of rules)) c.tag_of-tag.ensures ten (sym c.is_response_tag.ensures ∙ c.if-is_response_tag.true)

pub returns-else-is_response_tag : goal.returns-else-is_response_tag
unfolding read_response_tag
returns-else-is_response_tag c =
    let s = c.args.s.now in
    let rules = c.args.rules in
    let ten = c.if-s-lt-HEADER_SIZE.false in
    ap refuses c.refused.ensures ∙ tag_refused s _ (is_response_tag (book_of rules)) c.tag_of-tag.ensures ten (sym c.is_response_tag.ensures ∙ c.if-is_response_tag.false)
