-- `frame::header::tag_of` meets its contract: the tag is read byte by byte.
-- Assumes nothing.
use mathlib.Core.Path.{◌∙◌}
use Rattle.frame.proofs.Headers.{tag_bytes}
use Rattle.frame.proofs.header.tag_of.Goals as goal

pub returns : goal.returns
returns c = c.be16.ensures ∙ tag_bytes c.args.s.now c.requires
