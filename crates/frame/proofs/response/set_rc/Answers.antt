-- `frame::response::set_rc` meets its contract: a code that does not read under the tag that stands there is refused and changes nothing,
-- and another is written as a field.
-- Assumes nothing.
use mathlib.Core.Path.{ap, sym, ◌∙◌}
use Rattle.base.specs.Said.{refuses}
use Rattle.frame.specs.Header.{set_rc}
use Rattle.frame.specs.Rules.{book_of}
use Rattle.frame.proofs.Headers.{short_header, refused_set, set_by, rc_set, rc_not_set}
use Rattle.frame.proofs.response.set_rc.Goals as goal

pub returns-then-s-lt-HEADER_SIZE-clause-answer : goal.returns-then-s-lt-HEADER_SIZE-clause-answer
unfolding set_rc
returns-then-s-lt-HEADER_SIZE-clause-answer c =
    let s = c.args.s.now in
    (refused_set s (ap refuses c.short.ensures ∙ short_header s _ c.if-s-lt-HEADER_SIZE.true)).0

pub returns-then-s-lt-HEADER_SIZE-clause-bytes : goal.returns-then-s-lt-HEADER_SIZE-clause-bytes
unfolding set_rc
returns-then-s-lt-HEADER_SIZE-clause-bytes c =
    let s = c.args.s.now in
    (refused_set s (ap refuses c.short.ensures ∙ short_header s _ c.if-s-lt-HEADER_SIZE.true)).1

pub returns-then-reads-clause-answer : goal.returns-then-reads-clause-answer
returns-then-reads-clause-answer c =
    let s = c.args.s.now in
    let ten = c.if-s-lt-HEADER_SIZE.false in
    let by = set_by s (rc_set s _ ten (book_of c.args.rules) _ c.tag_of.ensures (sym c.reads.ensures ∙ c.if-reads.true)) in
    c.write_u32.ensures.answer ∙ by.0

pub returns-then-reads-clause-bytes : goal.returns-then-reads-clause-bytes
returns-then-reads-clause-bytes c =
    let s = c.args.s.now in
    let ten = c.if-s-lt-HEADER_SIZE.false in
    let by = set_by s (rc_set s _ ten (book_of c.args.rules) _ c.tag_of.ensures (sym c.reads.ensures ∙ c.if-reads.true)) in
    c.write_u32.ensures.bytes ∙ by.1

pub returns-else-reads-clause-answer : goal.returns-else-reads-clause-answer
returns-else-reads-clause-answer c =
    let s = c.args.s.now in
    let ten = c.if-s-lt-HEADER_SIZE.false in
    (refused_set s
    (ap refuses c.refused.ensures
    ∙ rc_not_set s _ ten (book_of c.args.rules) _ c.tag_of.ensures (sym c.reads.ensures ∙ c.if-reads.false))).0

pub returns-else-reads-clause-bytes : goal.returns-else-reads-clause-bytes
returns-else-reads-clause-bytes c =
    let s = c.args.s.now in
    let ten = c.if-s-lt-HEADER_SIZE.false in
    (refused_set s
    (ap refuses c.refused.ensures
    ∙ rc_not_set s _ ten (book_of c.args.rules) _ c.tag_of.ensures (sym c.reads.ensures ∙ c.if-reads.false))).1
