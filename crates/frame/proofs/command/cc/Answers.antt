-- `frame::command::cc` meets its contract: the header is read byte by byte, and a code that TpmCc lacks is refused.
-- Assumes nothing.
use mathlib.Core.Path.{ap, sym, ◌∙◌}
use Rattle.base.specs.Said.{refuses}
use Rattle.frame.specs.Header.{read_cc}
use Rattle.frame.proofs.Headers.{short_header, cc_read, cc_refused}
use Rattle.frame.proofs.command.cc.Goals as goal

pub returns-then-s-lt-HEADER_SIZE : goal.returns-then-s-lt-HEADER_SIZE
unfolding read_cc
returns-then-s-lt-HEADER_SIZE c = ap refuses c.short.ensures ∙ short_header c.args.s.now _ c.if-s-lt-HEADER_SIZE.true

pub returns-then-cc_known : goal.returns-then-cc_known
returns-then-cc_known c =
    let s = c.args.s.now in
    let ten = c.if-s-lt-HEADER_SIZE.false in
    cc_read s _ _ c.code_of.ensures ten (sym c.cc_known.ensures ∙ c.if-cc_known.true)

pub returns-else-cc_known : goal.returns-else-cc_known
returns-else-cc_known c =
    let s = c.args.s.now in
    let ten = c.if-s-lt-HEADER_SIZE.false in
    ap refuses c.refused.ensures ∙ cc_refused s _ _ c.code_of.ensures ten (sym c.cc_known.ensures ∙ c.if-cc_known.false)
