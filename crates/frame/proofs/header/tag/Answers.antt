-- `frame::header::tag` meets its contract: the header is read byte by byte, and a tag outside the list is refused.
-- Assumes nothing.
use mathlib.Core.Path.{ap, sym, ◌∙◌}
use Rattle.base.specs.Members.{is_in}
use Rattle.base.specs.Said.{refuses}
use Rattle.table.specs.Tags.{tags}
use Rattle.frame.specs.Header.{read_tag}
use Rattle.frame.proofs.Headers.{short_header, tag_read, tag_refused}
use Rattle.frame.proofs.header.tag.Goals as goal

pub returns-then-s-lt-HEADER_SIZE : goal.returns-then-s-lt-HEADER_SIZE
unfolding read_tag
returns-then-s-lt-HEADER_SIZE c = ap refuses c.short.ensures ∙ short_header c.args.s.now _ c.if-s-lt-HEADER_SIZE.true

pub returns-then-tag_known : goal.returns-then-tag_known
unfolding read_tag
returns-then-tag_known c =
    let s = c.args.s.now in
    let ten = c.if-s-lt-HEADER_SIZE.false in
    tag_read s _ (λ tag. is_in tag tags) c.tag_of-tag.ensures ten (sym c.tag_known.ensures ∙ c.if-tag_known.true)

pub returns-else-tag_known : goal.returns-else-tag_known
unfolding read_tag
returns-else-tag_known c =
    let s = c.args.s.now in
    let ten = c.if-s-lt-HEADER_SIZE.false in
    ap refuses c.refused.ensures ∙ tag_refused s _ (λ tag. is_in tag tags) c.tag_of-tag.ensures ten (sym c.tag_known.ensures ∙ c.if-tag_known.false)
