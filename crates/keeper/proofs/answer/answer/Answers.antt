-- `keeper::answer::answer` meets its contract: the refusal of the command, of the response, an error that moves nothing, or what `settle` did.
-- Assumes nothing.
use mathlib.Core.Path.{◌≡◌, ◌∙◌}
use lib.ListN.{length}
use Rattle.base.proofs.Answers.{passed_on}
use Rattle.frame.specs.Parts.{entries_of}
use Rattle.keeper.specs.Keeper.{settling}
use Rattle.keeper.specs.State.{held, settled_in, answered_in}
use Rattle.keeper.proofs.Exchanges.{answers_as, answers_none, answers_idle, command_refused, command_few, response_refused, response_few, response_kept, answered_success, answered_error}
use Rattle.std.proofs.Common.{rules}
use Rattle.keeper.proofs.answer.answer.Goals as goal

pub settle-requires : goal.settle-requires
settle-requires c =
    let a = c.args in
    let first = c.in_ok-asked.ensures in
    let second = c.in_ok-told.ensures in (
      command_few a.revision a.command.now a.response.now first,
      response_few a.revision a.command.now a.response.now first second,
      response_kept a.revision a.command.now a.response.now first second,
    )

pub returns-in_err-asked : goal.returns-in_err-asked
unfolding answered_in
returns-in_err-asked c =
    let a = c.args in
    let s = a.keeper.now in
    let read = command_refused a.revision a.command.now a.response.now c.in_err-asked.ensures (held s) in
    let each = answers_none a.revision a.command.now a.response.now s read in
    record { answer = passed_on _ _ _ c.from_residual.ensures.1 ∙ each.0; sessions = each.1.0; bytes = each.1.1 }

pub returns-in_err-told : goal.returns-in_err-told
unfolding answered_in
returns-in_err-told c =
    let a = c.args in
    let s = a.keeper.now in
    let read = response_refused a.revision a.command.now a.response.now c.in_ok-asked.ensures c.in_err-told.ensures (held s) in
    let each = answers_none a.revision a.command.now a.response.now s read in
    record { answer = passed_on _ _ _ c.from_residual-in_err-told.ensures.1 ∙ each.0; sessions = each.1.0; bytes = each.1.1 }

pub returns-then-told-eq0 : goal.returns-then-told-eq0
unfolding answered_in settled_in
returns-then-told-eq0 c =
    let a = c.args in
    let s = a.keeper.now in
    let all : length s ≡ 4424 = search rules in
    let each = answers_as a.revision a.command.now a.response.now s all
    (settling a.response.now (entries_of c.in_ok-asked.asked.entries) (entries_of c.in_ok-told.told.entries) (held s))
    (answered_success a.revision a.command.now a.response.now c.in_ok-asked.ensures c.in_ok-told.ensures c.if-told-eq0.true (held s))
    c.settle.ensures.answer c.settle.ensures.later in
    record { answer = each.0; sessions = each.1.0; bytes = each.1.1 }

pub returns-else-told-eq0 : goal.returns-else-told-eq0
unfolding answered_in
returns-else-told-eq0 c =
    let a = c.args in
    let s = a.keeper.now in
    let each = answers_idle a.revision a.command.now a.response.now s (answered_error a.revision a.command.now a.response.now c.in_ok-asked.ensures c.in_ok-told.ensures c.if-told-eq0.false (held s)) in
    record { answer = each.0; sessions = each.1.0; bytes = each.1.1 }
