-- `frame::walk::behind_entry` meets its contract: each return is the case of the definition to which its tests lead.
-- Assumes nothing.
use mathlib.Core.Path.{◌∙◌, ap}
use Rattle.base.proofs.Answers.{passed_on}
use Rattle.frame.specs.Answer.{behind_of}
use Rattle.frame.proofs.Walks.{handle_aside, handle_refused, handle_read, no_handle}
use Rattle.frame.proofs.walk.behind_entry.Goals as goal

pub returns-in_err-read_u32 : goal.returns-in_err-read_u32
returns-in_err-read_u32 c =
    passed_on _ _ _ c.from_residual.ensures.1 ∙ rw c.if-command.true (ap behind_of (handle_refused _ 4 _ _ c.in_err-read_u32.ensures))

pub returns-in_ok-read_u32 : goal.returns-in_ok-read_u32
returns-in_ok-read_u32 c =
    rw c.if-command.true (c.behind_signed.ensures
    ∙ handle_aside _ c.in_ok-read_u32.field-0 _ _
    ∙ ap behind_of (handle_read _ 4 _ _ c.in_ok-read_u32.ensures))

pub returns-else-command : goal.returns-else-command
returns-else-command c = rw c.if-command.false (c.behind_signed-else-command.ensures ∙ ap behind_of (no_handle _ _ _))
