-- What a writer refuses with: one of these numbers, and in no area (document 02, W2), by any rules. It is stated of the definitions, and of what callers are answered.
-- Assumes nothing.
use mathlib.Core.Path.{◌≡◌, refl, sym, ◌∙◌, ap}
use mathlib.Core.Bool.{Bool, beq, true, false, ◌&&◌, ◌||◌}
use mathlib.Core.List.{List, [], ◌∷◌}
use Prim.Native.Nat.{ℕ, ◌+◌, ◌*◌}
use lib.Dec.{eqb, leb, ltb}
use lib.ListN.{length}
use Rattle.std.specs.Prelude.{Result, Err}
use Rattle.base.specs.declared.error.WriteError.{WriteError}
use Rattle.base.specs.Answer.{said_total}
use Rattle.base.specs.Error.{writer_numbered}
use Rattle.base.specs.Members.{is_in}
use Rattle.base.specs.Said.{Why, number_of, Said, given, Only, NoFrame}
use Rattle.base.proofs.Only.{by_gives, by_needs, by_cond, by_then, by_step, by_wider, no_frame}
use Rattle.rc.specs.Code.{read_code}
use Rattle.table.specs.Table.{row_for}
use Rattle.table.specs.declared.row.Row.{Row}
use Rattle.table.proofs.Only.{only_row}
use Rattle.frame.specs.declared.session.Field.{Field}
use Rattle.frame.specs.declared.session.Session.{Session}
use Rattle.frame.specs.Header.{sessions, bad_tag, is_of_two}
use Rattle.frame.specs.Parts.{entries_of}
use Rattle.frame.specs.Rules.{Rulebook, book_of}
use Rattle.frame.proofs.Laws.{Promised}
use Rattle.marshal.specs.Handed.{Handed, tag_for}
use Rattle.marshal.specs.Mode.{asked, book_for}
use Rattle.marshal.specs.Write.{
  field_there,
  sessions_there,
  total_size,
  fitted,
  judged,
  write_command,
  write_success,
  write_bare,
  write_error,
  write_bad_tag,
  write_response,
}
use Rattle.marshal.proofs.command.write.Kinds as command-write-kinds
use Rattle.marshal.proofs.command.write.Reads as command-write-reads
use Rattle.marshal.proofs.response.write.Kinds as response-write-kinds
use Rattle.marshal.proofs.response.write.Reads as response-write-reads

abbrev pub OfWriter : Why → Type 0
OfWriter = NoFrame (1 ∷ 2 ∷ 3 ∷ 4 ∷ 5 ∷ 6 ∷ 7 ∷ 8 ∷ 9 ∷ [])

only_there : (limit len : ℕ) (f : Field) → Only OfWriter (field_there limit len f)
only_there limit len f = by_needs (leb f.size limit) _ (no_frame refl) (by_needs (leb (f.at + f.size) len) _ (no_frame refl) by_gives)

only_sessions : (limit len : ℕ) (es : List Session) → Only OfWriter (sessions_there limit len es)
unfolding sessions_there
only_sessions limit len [] = by_gives
only_sessions limit len (e ∷ es) =
    by_then (by_then (only_there limit len e.nonce) (λ nonce. only_there limit len e.hmac))
    (λ first. only_sessions limit len es)

only_no_row : (rows : List Row) (code : ℕ) → Only OfWriter (row_for rows code)
only_no_row rows code = by_wider (λ why four. record { nowhere = ap (λ (w : Why). w.area) four; number = ap (λ (w : Why). is_in (number_of w) (1 ∷ 2 ∷ 3 ∷ 4 ∷ 5 ∷ 6 ∷ 7 ∷ 8 ∷ 9 ∷ [])) four }) (only_row rows code)

only_fitted : (n room : ℕ) → Only OfWriter (fitted n room)
only_fitted n room = by_needs (leb n room) _ (no_frame refl) by_gives

only_judged : (limit width tag handles : ℕ) (h : Handed) (room : ℕ) → Only OfWriter (judged limit width tag handles h room)
unfolding judged
only_judged limit width tag handles h room =
    by_needs (leb (4 * handles) (length h.handles)) _ (no_frame refl)
    (by_needs (leb (length h.handles) (4 * handles)) _ (no_frame refl)
    (by_then (only_sessions limit (length h.lent) (entries_of h.sessions)) λ there.
    by_needs (leb (total_size width tag h) 4294967295) _ (no_frame refl) (only_fitted (total_size width tag h) room)))

only_bare : (asked : Bool) (code room : ℕ) → Only OfWriter (write_bare asked code room)
only_bare asked code room = by_step _ (only_fitted 10 room)

only_error : (code count room : ℕ) → Only OfWriter (write_error code count room)
unfolding write_error
only_error code count room = by_needs (eqb count 0) _ (no_frame refl) (only_bare false code room)

only_bad_tag : (code count room : ℕ) → Only OfWriter (write_bad_tag code count room)
unfolding write_bad_tag
only_bad_tag code count room =
    by_needs (eqb code 0 || eqb count 0) _ (no_frame refl)
    (by_needs (eqb code bad_tag) _ (no_frame refl) (only_bare true code room))

module _ (book : Rulebook) where
  only_success : (responses : ℕ) (h : Handed) (room : ℕ) → Only OfWriter (write_success book responses h room)
  unfolding write_success
  only_success responses h room = by_step _ (only_judged book.longest 0 (tag_for h.sessions.count) responses h room)

  pub only_command : (tag code : ℕ) (h : Handed) (room : ℕ) → Only OfWriter (write_command book tag code h room)
  unfolding write_command
  only_command tag code h room =
      by_needs (is_of_two tag) _ (no_frame refl)
      (by_needs (beq (eqb tag sessions) (ltb 0 h.sessions.count)) _ (no_frame refl)
      (by_needs (leb h.sessions.count 3) _ (no_frame refl)
      (by_then (only_no_row book.rows code) λ row.
      by_step _ (only_judged book.longest 4 tag row.handles h room))))

  pub only_response : (asked : Bool) (cc code : ℕ) (h : Handed) (room : ℕ) → Only OfWriter (write_response book asked cc code h room)
  unfolding write_response
  only_response asked cc code h room =
      by_needs (leb h.sessions.count 3) _ (no_frame refl)
      (by_then (only_no_row book.rows cc) λ row.
      by_needs (given (read_code code) || (asked && eqb code bad_tag)) _ (no_frame refl)
      (by_cond asked (only_bad_tag code h.sessions.count room)
      (by_cond (eqb code 0) (only_success row.responses h room) (only_error code h.sessions.count room))))

-- ---- what callers are answered

told : {y : Said ℕ} → Only OfWriter y → {x : Result ℕ WriteError} → said_total x ≡ y → (e : WriteError) → x ≡ Err e → OfWriter (writer_numbered e)
told p met e is = p.each (writer_numbered e) (sym met ∙ ap said_total is)

pub command_write : Promised 4 command-write-kinds.ps command-write-kinds.r command-write-reads.Post
    (λ κs a x later. (e : WriteError) → x ≡ Err e → OfWriter (writer_numbered e))
command_write κs a x v met = told (by_step _ (only_command (book_of a.0) a.1.0.0 a.1.1.0.0 _ _)) met.0

pub response_write : Promised 4 response-write-kinds.ps response-write-kinds.r response-write-reads.Post
    (λ κs a x later. (e : WriteError) → x ≡ Err e → OfWriter (writer_numbered e))
response_write κs a x v met = told (by_step _ (only_response (book_for a.0) (asked a.0) a.1.1.0.0 a.1.0.0 _ _)) met.0
