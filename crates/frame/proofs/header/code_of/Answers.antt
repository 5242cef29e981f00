-- `frame::header::code_of` meets its contract: the code is read byte by byte.
-- Assumes nothing.
use mathlib.Core.Path.{◌∙◌}
use Rattle.frame.proofs.Headers.{code_bytes}
use Rattle.frame.proofs.header.code_of.Goals as goal

pub returns : goal.returns
returns c = c.be32.ensures ∙ code_bytes c.args.s.now c.requires
