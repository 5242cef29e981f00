-- `frame::areas::handle_area` meets its contract: the test on what is left decides as the definition does.
-- Assumes nothing.
use Rattle.frame.proofs.Divisions.{handles_short, handles_read}
use native.Mathlib.Omega.{arith}
use Rattle.frame.proofs.areas.handle_area.Goals as goal

pub returns-then-left-needed : goal.returns-then-left-needed
returns-then-left-needed c = handles_short _ _ c.left-left.ensures c.if-left-needed.true

pub returns : goal.returns
returns c = handles_read _ _ (let left = c.left-left.ensures in omega arith)
