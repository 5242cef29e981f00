-- `frame::response::rc` meets its contract: the header is read byte by byte, and a code that does not read under its tag is refused.
-- Assumes nothing.
use mathlib.Core.Path.{ap, sym, ◌∙◌}
use Rattle.base.specs.Said.{refuses}
use Rattle.frame.specs.Header.{read_rc}
use Rattle.frame.specs.Rules.{book_of}
use Rattle.frame.proofs.Headers.{short_header, rc_read, rc_refused}
use Rattle.frame.proofs.response.rc.Goals as goal

pub returns-then-s-lt-HEADER_SIZE : goal.returns-then-s-lt-HEADER_SIZE
unfolding read_rc
returns-then-s-lt-HEADER_SIZE c = ap refuses c.short.ensures ∙ short_header c.args.s.now _ c.if-s-lt-HEADER_SIZE.true

pub returns-then-reads : goal.returns-then-reads
returns-then-reads c =
    let s = c.args.s.now in
    let ten = c.if-s-lt-HEADER_SIZE.false in
    rc_read s _ (book_of c.args.rules) _ c.code_of.ensures c.tag_of.ensures ten
    (sym c.reads.ensures ∙ c.if-reads.true)

pub returns-else-reads : goal.returns-else-reads
returns-else-reads c =
    let s = c.args.s.now in
    let ten = c.if-s-lt-HEADER_SIZE.false in
    ap refuses c.refused.ensures
    ∙ rc_refused s _ (book_of c.args.rules) _ c.code_of.ensures c.tag_of.ensures ten
    (sym c.reads.ensures ∙ c.if-reads.false)
