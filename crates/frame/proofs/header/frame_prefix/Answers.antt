-- `frame::header::frame_prefix` meets its contract: each return is the case of the definition to which its tests lead.
-- Assumes nothing.
use mathlib.Core.Path.{ap, ◌∙◌}
use Rattle.base.specs.Said.{refuses}
use Rattle.frame.specs.Header.{frame_prefix}
use Rattle.frame.proofs.Headers.{short_header, size_bytes, size_small, size_large, prefix_read}
use Rattle.frame.proofs.header.frame_prefix.Goals as goal

pub returns-then-s-lt-HEADER_SIZE : goal.returns-then-s-lt-HEADER_SIZE
unfolding frame_prefix
returns-then-s-lt-HEADER_SIZE c = ap refuses c.short.ensures ∙ short_header c.args.s.now _ c.if-s-lt-HEADER_SIZE.true

pub returns-then-size-lt-HEADER_SIZE : goal.returns-then-size-lt-HEADER_SIZE
returns-then-size-lt-HEADER_SIZE c =
    let s = c.args.s.now in
    let ten = c.if-s-lt-HEADER_SIZE.false in
    size_small s _ (c.be32-size.ensures ∙ size_bytes s ten) ten c.if-size-lt-HEADER_SIZE.true

pub returns-then-s-size : goal.returns-then-s-size
returns-then-s-size c =
    let s = c.args.s.now in
    let ten = c.if-s-lt-HEADER_SIZE.false in
    size_large s _ (c.be32-size.ensures ∙ size_bytes s ten) ten c.if-size-lt-HEADER_SIZE.false c.if-s-size.true

pub returns : goal.returns
returns c =
    let s = c.args.s.now in
    let ten = c.if-s-lt-HEADER_SIZE.false in
    prefix_read s _ (c.be32-size.ensures ∙ size_bytes s ten) ten c.if-size-lt-HEADER_SIZE.false c.if-s-size.false
