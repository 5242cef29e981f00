-- `marshal::command::judge_command` meets its contract: each return is the case of the definition to which its tests lead.
-- Assumes nothing.
use mathlib.Core.Path.{sym, ◌∙◌, ap}
use Rattle.base.proofs.Answers.{passed_on}
use Rattle.frame.specs.Rules.{book_of}
use Rattle.marshal.specs.Looked.{handed_parts}
use Rattle.marshal.specs.Write.{counted}
use Rattle.marshal.proofs.Judgements.{told, handles_missing, field_missing, all_there}
use Rattle.marshal.proofs.Writers.{wrong_tag, many_sessions, no_row, command_judged}
use Rattle.marshal.proofs.command.judge_command.Goals as goal

pub returns-then-parts-gt-MAX_SESSIONS : goal.returns-then-parts-gt-MAX_SESSIONS
returns-then-parts-gt-MAX_SESSIONS c =
    let a = c.args in
    let h = handed_parts a.parts in
    told c.into-then-parts-gt-MAX_SESSIONS.ensures c.too_many.ensures ∙ ap counted (many_sessions (book_of a.rules) a.tag.0 a.cc.0 h a.room (c.if-tag-tag_for.false ∙ c.tag_for.ensures) c.if-parts-gt-MAX_SESSIONS.true)

pub returns-in_err-row : goal.returns-in_err-row
returns-in_err-row c =
    let a = c.args in
    let h = handed_parts a.parts in
    passed_on _ _ _ c.from_residual.ensures.1 ∙ ap counted (no_row (book_of a.rules) a.tag.0 a.cc.0 h a.room (c.if-tag-tag_for.false ∙ c.tag_for.ensures) c.if-parts-gt-MAX_SESSIONS.false c.in_err-row.ensures)

pub returns-in_err-judge_handles : goal.returns-in_err-judge_handles
returns-in_err-judge_handles c =
    let a = c.args in
    let h = handed_parts a.parts in
    passed_on _ _ _ c.from_residual-in_err-judge_handles.ensures.1
    ∙ handles_missing (book_of a.rules).longest 4 a.tag.0 c.in_ok-row.row.handles h a.room c.in_err-judge_handles.ensures
    ∙ command_judged (book_of a.rules) a.tag.0 a.cc.0 h a.room (c.if-tag-tag_for.false ∙ c.tag_for.ensures) c.if-parts-gt-MAX_SESSIONS.false c.in_ok-row.ensures

pub returns-in_err-look : goal.returns-in_err-look
returns-in_err-look c =
    let a = c.args in
    let h = handed_parts a.parts in
    passed_on _ _ _ c.from_residual-in_err-look.ensures.1
    ∙ field_missing (book_of a.rules).longest 4 a.tag.0 c.in_ok-row.row.handles h a.room c.in_ok-judge_handles.ensures
    (rw c.longest.ensures at c.in_err-look.ensures)
    ∙ command_judged (book_of a.rules) a.tag.0 a.cc.0 h a.room (c.if-tag-tag_for.false ∙ c.tag_for.ensures) c.if-parts-gt-MAX_SESSIONS.false c.in_ok-row.ensures

pub returns : goal.returns
returns c =
    let a = c.args in
    let h = handed_parts a.parts in
    c.judge_total.ensures
    ∙ all_there (book_of a.rules).longest 4 a.tag.0 c.in_ok-row.row.handles h a.room c.in_ok-judge_handles.ensures
    (rw c.longest.ensures at c.in_ok-look.ensures) c.entries_length.ensures.value
    ∙ command_judged (book_of a.rules) a.tag.0 a.cc.0 h a.room (c.if-tag-tag_for.false ∙ c.tag_for.ensures) c.if-parts-gt-MAX_SESSIONS.false c.in_ok-row.ensures

pub returns-then-tag-tag_for : goal.returns-then-tag-tag_for
returns-then-tag-tag_for c =
    let a = c.args in
    let h = handed_parts a.parts in
    told c.into.ensures c.refused.ensures ∙ ap counted (wrong_tag (book_of a.rules) a.tag.0 a.cc.0 h a.room (λ e. c.if-tag-tag_for.true (e ∙ sym c.tag_for.ensures)))
