-- `frame::response::body_range` meets its contract: the ten bytes of the header decide.
-- Assumes nothing.
use mathlib.Core.Path.{ap, ◌∙◌}
use Rattle.base.specs.Said.{refuses}
use Rattle.frame.specs.Response.{body_range}
use Rattle.frame.proofs.Headers.{short_header, has_header}
use Rattle.frame.proofs.response.body_range.Goals as goal

pub returns-then-s-lt-HEADER_SIZE : goal.returns-then-s-lt-HEADER_SIZE
unfolding body_range
returns-then-s-lt-HEADER_SIZE c = ap refuses c.short.ensures ∙ short_header c.args.s.now _ c.if-s-lt-HEADER_SIZE.true

pub returns : goal.returns
unfolding body_range
returns c = has_header c.args.s.now _ c.if-s-lt-HEADER_SIZE.false
