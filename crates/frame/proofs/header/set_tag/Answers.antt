-- `frame::header::set_tag` meets its contract: a tag outside the list is refused and changes nothing, and another is written as a field.
-- Assumes nothing.
use mathlib.Core.Path.{ap, sym, ◌∙◌}
use Rattle.base.specs.Said.{refuses}
use Rattle.frame.specs.Header.{set_tag}
use Rattle.frame.proofs.Headers.{short_header, refused_set, set_by, tag_set, tag_not_set}
use Rattle.frame.proofs.header.set_tag.Goals as goal

pub returns-then-s-lt-HEADER_SIZE-clause-answer : goal.returns-then-s-lt-HEADER_SIZE-clause-answer
unfolding set_tag
returns-then-s-lt-HEADER_SIZE-clause-answer c =
    let s = c.args.s.now in
    (refused_set s (ap refuses c.short.ensures ∙ short_header s _ c.if-s-lt-HEADER_SIZE.true)).0

pub returns-then-s-lt-HEADER_SIZE-clause-bytes : goal.returns-then-s-lt-HEADER_SIZE-clause-bytes
unfolding set_tag
returns-then-s-lt-HEADER_SIZE-clause-bytes c =
    let s = c.args.s.now in
    (refused_set s (ap refuses c.short.ensures ∙ short_header s _ c.if-s-lt-HEADER_SIZE.true)).1

pub returns-then-tag_known-clause-answer : goal.returns-then-tag_known-clause-answer
returns-then-tag_known-clause-answer c =
    let s = c.args.s.now in
    let by = set_by s (tag_set s _ c.if-s-lt-HEADER_SIZE.false (sym c.tag_known.ensures ∙ c.if-tag_known.true)) in
    c.write_u16.ensures.answer ∙ by.0

pub returns-then-tag_known-clause-bytes : goal.returns-then-tag_known-clause-bytes
returns-then-tag_known-clause-bytes c =
    let s = c.args.s.now in
    let by = set_by s (tag_set s _ c.if-s-lt-HEADER_SIZE.false (sym c.tag_known.ensures ∙ c.if-tag_known.true)) in
    c.write_u16.ensures.bytes ∙ by.1

pub returns-else-tag_known-clause-answer : goal.returns-else-tag_known-clause-answer
returns-else-tag_known-clause-answer c =
    let s = c.args.s.now in
    (refused_set s (ap refuses c.refused.ensures ∙ tag_not_set s _ c.if-s-lt-HEADER_SIZE.false (sym c.tag_known.ensures ∙ c.if-tag_known.false))).0

pub returns-else-tag_known-clause-bytes : goal.returns-else-tag_known-clause-bytes
returns-else-tag_known-clause-bytes c =
    let s = c.args.s.now in
    (refused_set s (ap refuses c.refused.ensures ∙ tag_not_set s _ c.if-s-lt-HEADER_SIZE.false (sym c.tag_known.ensures ∙ c.if-tag_known.false))).1
