-- `frame::response::reads` meets its contract: under the tag of the answer to a bad tag the code is compared with that answer's; under
-- another it reads as it does by itself, and success does.
-- Assumes nothing.
use mathlib.Core.Path.{sym, ◌∙◌}
use Rattle.frame.specs.Rules.{book_of}
use Rattle.frame.proofs.BadTags.{reads_success}
use Rattle.frame.proofs.response.reads.Goals as goal

pub returns-then-rc-eq0 : goal.returns-then-rc-eq0
returns-then-rc-eq0 c =
    let a = c.args in
    sym (reads_success (book_of a.rules) a.tag.0 a.rc.0 (sym c.is_rsp_command.ensures ∙ c.if-is_rsp_command.false) c.if-rc-eq0.true)
