-- `frame::header::frame_whole` meets its contract: it goes by what `frame_prefix` said.
-- Assumes nothing.
use mathlib.Core.Path.{◌∙◌}
use Rattle.base.proofs.Answers.{passed_on}
use Rattle.frame.proofs.Headers.{trailing, whole_read, whole_refused}
use Rattle.frame.proofs.header.frame_whole.Goals as goal

pub returns-then-n-s : goal.returns-then-n-s
returns-then-n-s c = trailing _ _ c.in_ok-n.ensures c.if-n-s.true

pub returns-in_err-n : goal.returns-in_err-n
returns-in_err-n c = passed_on _ _ _ c.from_residual.ensures.1 ∙ whole_refused _ c.in_err-n.ensures

pub returns : goal.returns
returns c = whole_read _ _ c.in_ok-n.ensures c.if-n-s.false
