-- `frame::areas::sized_area` meets its contract: the size is a field that was read, and the test on what is left decides as the definition does.
-- Assumes nothing.
use mathlib.Core.Path.{◌∙◌}
use Rattle.frame.proofs.Divisions.{sized_plain, size_refused, sized_short, sized_read}
use Rattle.base.proofs.Answers.{passed_on}
use Rattle.frame.proofs.areas.sized_area.Goals as goal

pub returns-then-left-size : goal.returns-then-left-size
returns-then-left-size c = sized_short c.args.area c.args.end c.args.s.now c.args.handles c.if-sessions.true c.in_ok-size.ensures c.if-left-size.true

pub returns-in_err-size : goal.returns-in_err-size
returns-in_err-size c = passed_on _ _ _ c.from_residual.ensures.1 ∙ size_refused c.args.area c.args.end c.args.s.now c.args.handles c.if-sessions.true c.in_err-size.ensures

pub returns-else-left-size : goal.returns-else-left-size
returns-else-left-size c = sized_read c.args.area c.args.end c.args.s.now c.args.handles c.if-sessions.true c.in_ok-size.ensures c.if-left-size.false

pub returns-else-sessions : goal.returns-else-sessions
returns-else-sessions c = sized_plain c.args.area c.args.end c.args.s.now c.args.handles c.if-sessions.false
