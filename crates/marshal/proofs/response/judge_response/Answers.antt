-- `marshal::response::judge_response` meets its contract: each return is the case of the definition to which its tests lead.
-- Assumes nothing.
use mathlib.Core.Path.{sym, ◌∙◌, ap}
use Rattle.base.proofs.Answers.{passed_on}
use Rattle.frame.specs.declared.rules.Rules.{Rules}
use Rattle.frame.specs.Rules.{book_of}
use Rattle.marshal.specs.Looked.{handed_parts}
use Rattle.marshal.specs.Handed.{tag_for}
use Rattle.marshal.specs.Mode.{asked, book_for}
use Rattle.marshal.specs.Write.{counted}
use Rattle.marshal.proofs.Judgements.{told, handles_missing, field_missing, all_there}
use Rattle.marshal.proofs.Writers.{many_entries, no_command_lem, success_judged, error_judged, bad_tag_judged}
use Rattle.marshal.proofs.response.judge_response.Goals as goal

pub returns-then-parts-gt-MAX_SESSIONS : goal.returns-then-parts-gt-MAX_SESSIONS
returns-then-parts-gt-MAX_SESSIONS c =
    let a = c.args in
    let h = handed_parts a.parts in
    told c.into.ensures c.too_many.ensures ∙ ap counted (many_entries (book_for a.rules) (asked a.rules) a.cc.0 a.rc.0 h a.room c.if-parts-gt-MAX_SESSIONS.true)

pub returns-then-asks_bad_tag : goal.returns-then-asks_bad_tag
returns-then-asks_bad_tag c =
    let a = c.args in
    let h = handed_parts a.parts in
    c.judge_bad_tag.ensures
    ∙ bad_tag_judged (book_for a.rules) (asked a.rules) a.cc.0 a.rc.0 h a.room c.if-parts-gt-MAX_SESSIONS.false c.in_ok-row.ensures (sym c.asks_bad_tag.ensures ∙ c.if-asks_bad_tag.true)

pub returns-in_err-judge_handles : goal.returns-in_err-judge_handles
returns-in_err-judge_handles c =
    let a = c.args in
    let h = handed_parts a.parts in
    passed_on _ _ _ c.from_residual-in_err-judge_handles.ensures.1
    ∙ handles_missing (book_for a.rules).longest 0 (tag_for a.parts.sessions.now.count) c.in_ok-row.row.responses h a.room c.in_err-judge_handles.ensures
    ∙ success_judged (book_for a.rules) (asked a.rules) a.cc.0 a.rc.0 h a.room c.if-parts-gt-MAX_SESSIONS.false c.in_ok-row.ensures (sym c.asks_bad_tag.ensures ∙ c.if-asks_bad_tag.false) c.if-rc-ne0.false

pub returns-in_err-look : goal.returns-in_err-look
returns-in_err-look c =
    let a = c.args in
    let h = handed_parts a.parts in
    passed_on _ _ _ c.from_residual-in_err-look.ensures.1
    ∙ field_missing (book_for a.rules).longest 0 (tag_for a.parts.sessions.now.count) c.in_ok-row.row.responses h a.room c.in_ok-judge_handles.ensures
    (rw (c.longest.ensures ∙ ap (λ (r : Rules). (book_of r).longest) c.rules_for.ensures) at c.in_err-look.ensures)
    ∙ success_judged (book_for a.rules) (asked a.rules) a.cc.0 a.rc.0 h a.room c.if-parts-gt-MAX_SESSIONS.false c.in_ok-row.ensures (sym c.asks_bad_tag.ensures ∙ c.if-asks_bad_tag.false) c.if-rc-ne0.false

pub returns : goal.returns
returns c =
    let a = c.args in
    let h = handed_parts a.parts in
    (rw c.tag_for.ensures at c.judge_total.ensures)
    ∙ all_there (book_for a.rules).longest 0 (tag_for a.parts.sessions.now.count) c.in_ok-row.row.responses h a.room c.in_ok-judge_handles.ensures
    (rw (c.longest.ensures ∙ ap (λ (r : Rules). (book_of r).longest) c.rules_for.ensures) at c.in_ok-look.ensures) c.entries_length.ensures.value
    ∙ success_judged (book_for a.rules) (asked a.rules) a.cc.0 a.rc.0 h a.room c.if-parts-gt-MAX_SESSIONS.false c.in_ok-row.ensures (sym c.asks_bad_tag.ensures ∙ c.if-asks_bad_tag.false) c.if-rc-ne0.false

pub returns-in_err-row : goal.returns-in_err-row
returns-in_err-row c =
    let a = c.args in
    let h = handed_parts a.parts in
    passed_on _ _ _ c.from_residual.ensures.1 ∙ ap counted (no_command_lem (book_for a.rules) (asked a.rules) a.cc.0 a.rc.0 h a.room c.if-parts-gt-MAX_SESSIONS.false c.in_err-row.ensures)

pub returns-then-rc-ne0 : goal.returns-then-rc-ne0
returns-then-rc-ne0 c =
    let a = c.args in
    let h = handed_parts a.parts in
    c.judge_error.ensures
    ∙ error_judged (book_for a.rules) (asked a.rules) a.cc.0 a.rc.0 h a.room c.if-parts-gt-MAX_SESSIONS.false c.in_ok-row.ensures (sym c.asks_bad_tag.ensures ∙ c.if-asks_bad_tag.false) c.if-rc-ne0.true
