-- `frame::header::size` meets its contract: the header is read byte by byte.
-- Assumes nothing.
use mathlib.Core.Path.{ap, ◌∙◌}
use Rattle.base.specs.Said.{refuses}
use Rattle.frame.specs.Header.{read_size}
use Rattle.frame.proofs.Headers.{short_header, size_bytes, size_read}
use Rattle.frame.proofs.header.size.Goals as goal

pub returns-then-s-lt-HEADER_SIZE : goal.returns-then-s-lt-HEADER_SIZE
unfolding read_size
returns-then-s-lt-HEADER_SIZE c = ap refuses c.short.ensures ∙ short_header c.args.s.now _ c.if-s-lt-HEADER_SIZE.true

pub returns : goal.returns
returns c =
    let s = c.args.s.now in
    let ten = c.if-s-lt-HEADER_SIZE.false in
    size_read s _ (c.be32.ensures ∙ size_bytes s ten) ten
