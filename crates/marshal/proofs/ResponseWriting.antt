-- Writing a response to one command and reading it, by any rules: what the writer takes is a passing response whose parts are those
-- handed over; and the parts read from a passing response, written into enough room, give its bytes again, but for success under the
-- sessions tag with no entry, which comes out under the plain tag.
-- Assumes nothing.
use mathlib.Core.Path.{◌≡◌, refl, sym, ◌∙◌, ap, subst}
use mathlib.Core.Bool.{Bool, true, false, cond}
use mathlib.Core.List.{List, [], ◌++◌, append-nil}
use mathlib.Core.Logic.{◌⊎◌, inl, inr}
use Prim.Native.Nat.{ℕ, ◌+◌, ◌-◌, ◌≤◌, ◌<◌}
use native.Mathlib.Omega.{arith}
use borrow.Author.Tests.{eq-eqb, eqb-true, eqb-false}
use lib.Dec.{eqb}
use lib.ListN.{length, length-append}
use Rattle.base.specs.Bytes.{AreBytes, bytes}
use Rattle.base.specs.Parts.{held_at}
use Rattle.base.specs.Said.{gives}
use Rattle.base.proofs.Bytes.{length_bytes}
use Rattle.base.proofs.Checks.{then_gives, gives_injective}
use Rattle.table.specs.Table.{row_for}
use Rattle.table.specs.declared.row.Row.{Row}
use Rattle.frame.specs.declared.response.Response.{Response}
use Rattle.frame.specs.declared.session.Session.{Session}
use Rattle.frame.specs.Answer.{response_by_value}
use Rattle.frame.specs.Command.{Division}
use Rattle.frame.specs.Header.{plain, sessions, rsp_command}
use Rattle.frame.specs.Layout.{Frame, SuccessParts, PlainError, BadTagAnswer, ErrorParts, ResponseParts, layout_entries, layout_body, layout_frame, layout_response}
use Rattle.frame.specs.Parts.{entries_in, response_parts}
use Rattle.frame.specs.Response.{response_areas, read_response}
use Rattle.frame.specs.Rules.{Rulebook}
use Rattle.frame.specs.Walk.{walk, by_value}
use Rattle.frame.proofs.FrameLaws.{of_two, is_of_two_lem, of_the_two, length_frame}
use Rattle.frame.proofs.ResponseLaws.{response_divides}
use Rattle.frame.proofs.Standing.{length_entries}
use Rattle.marshal.specs.Handed.{Handed, tag_for, entries_handed, without_handles, success_frame, error_tag, error_frame}
use Rattle.marshal.specs.Write.{write_response}
use Rattle.marshal.proofs.Frames.{length_success, success_layout, length_body}
use Rattle.marshal.proofs.Parts.{
  OfTypes,
  Stand,
  handed_back,
  whole_sessions,
  whole_without,
  no_handles,
  length_without,
  three_at_most,
  count_is,
  walk_stands,
  no_entries,
  tag_goes,
}
use Rattle.marshal.proofs.Sessions.{entries_none}
use Rattle.marshal.proofs.Writers.{Errs, tag_two, response_passed, passed_success, success_is, error_is, length_error}

-- the frame that is asked for, by its code and by whether the tag of the answer to a bad tag is asked for
abbrev pub response_frame : Bool → ℕ → Handed → Frame
response_frame asked code h = cond asked (error_frame true code) (cond (eqb code 0) (success_frame h) (error_frame false code))

-- a response that was read, as the writer takes it
abbrev pub response_handed : List ℕ → Response → Handed
response_handed s r = handed_back s r.handles r.entries r.parameters

-- the same under the plain tag, without the size before the parameters
abbrev pub shorter : List ℕ → Response → List ℕ
shorter s r = bytes 2 0x8001 ++ (bytes 4 (length s - 4) ++ (bytes 4 0 ++ (held_at r.handles s ++ held_at r.parameters s)))

-- a code that a bare header is written with asks for one
pub frame_errs : (asked : Bool) (code : ℕ) (h : Handed) → Errs asked code → response_frame asked code h ≡ error_frame asked code
frame_errs true code h is = refl
frame_errs false code h errs = rw errs.1 refl

-- and these are the errors of the layout, by rules that have what is asked for
module _ (book : Rulebook) where
  errs_parted : (asked : Bool) (code : ℕ) → (asked ≡ true → book.answers_bad_tag ≡ true) → Errs asked code
      → PlainError (error_frame asked code) ⊎ BadTagAnswer book (error_frame asked code)
  errs_parted true code may is = inr (may refl, refl, is)
  errs_parted false code may errs = inl (refl, errs.0, errs.1)

  pub parted_errs : (asked : Bool) (code : ℕ) → PlainError (error_frame asked code) ⊎ BadTagAnswer book (error_frame asked code) → Errs asked code
  parted_errs true code (inl e) = let is = e.0 in absurd (omega arith)
  parted_errs true code (inr e) = e.2
  parted_errs false code (inl e) = (e.1, e.2)
  parted_errs false code (inr e) = let is = e.1 in absurd (omega arith)

-- the tag that goes with an error says whether it is asked for
errs_asked : (asked : Bool) {tag : ℕ} → eqb tag rsp_command ≡ asked → (tag ≡ plain) ⊎ (tag ≡ rsp_command) → tag ≡ error_tag asked
errs_asked true e is = eqb-true _ rsp_command e
errs_asked false e (inl is) = is
errs_asked false e (inr is) = absurd (eqb-false _ rsp_command e is)

module _ (book : Rulebook) (cc : ℕ) where
  -- ---- what is written passes

  module _ (asked : Bool) (may : asked ≡ true → book.answers_bad_tag ≡ true) (code : ℕ) (h : Handed) (room : ℕ) {t : List ℕ}
      (written : write_response book asked cc code h room ≡ gives t) (types : OfTypes h) (fits : code < 4294967296) where
    pub response_formed : ResponseParts book cc (response_frame asked code h) × (t ≡ layout_response (response_frame asked code h))
    response_formed =
        let p = response_passed book asked cc code h room written in
        let tag = tag_for h.sessions.count in
        elim p.either_kind [
          | inl success ↦
              let small : length t ≤ 4294967295 = success.2.small in
              let parts : SuccessParts book p.row.responses (success_frame h) =
              record {
                success = refl;
                well_formed = record {
                  tag_of_two = of_the_two tag (tag_two tag h.sessions.count refl);
                  code_fits = omega arith;
                  handle_bytes = types.handle_bytes;
                  handle_count = success.2.handle_count;
                  whole_entries = whole_without book.longest (entries_handed h) (whole_sessions book.longest h types success.2.there);
                  three_entries = rw (length_without, length_entries) (three_at_most h.sessions);
                  plain_entries = λ q. ap without_handles (no_entries tag h refl q);
                  parameter_bytes = types.parameter_bytes;
                };
                size_fits = rw (← success.3) (omega arith);
              } in
              rw (success.0, eq-eqb code 0 success.1) (record { row = p.row; has_row = p.has_row; either_kind = inl parts }, success.3)
          | inr error ↦
              let parts : ErrorParts book (error_frame asked code) =
              record {
                either_error = errs_parted book asked code may error.0;
                code_fits = fits;
                no_handles = refl;
                no_entries = refl;
                no_parameters = refl;
              } in
              subst (λ (f : Frame). ResponseParts book cc f × (t ≡ layout_response f)) (sym (frame_errs asked code h error.0))
              (record { row = p.row; has_row = p.has_row; either_kind = inr parts }, error.2)
        ]

    -- and its parts are those handed over
    pub response_reads : (r : Response) × (response_by_value t (read_response book cc t) ≡ gives r) × (response_parts t r ≡ response_frame asked code h)
    response_reads =
        let formed = response_formed in
        rw formed.1 ((response_divides book cc).parts_read (response_frame asked code h) formed.0)

  -- ---- what was read is written again

  module _ (s : List ℕ) (are : AreBytes s) (r : Response) (read : response_by_value s (read_response book cc s) ≡ gives r) where
    abbrev h : Handed
    h = response_handed s r

    -- the tag of the answer to a bad tag is asked for where it was read
    abbrev asks : Bool
    asks = eqb r.tag.0 rsp_command

    formed : ResponseParts book cc (response_parts s r) × (layout_response (response_parts s r) ≡ s)
    formed = (response_divides book cc).again s are r read

    stand : Stand book.longest s r.entries
    unfolding read_response
    stand =
        let division = then_gives (read_response book cc s) _ read in
        let areas = then_gives (response_areas book cc s) _ division.1 in
        let entries = then_gives (walk book.longest 3 0 s areas.0.to) _ areas.2 in
        let same : by_value entries.0 ≡ r.entries =
        ap (λ (d : Division). by_value d.entries) (gives_injective entries.2) ∙ ap (λ (k : Response). k.entries) (gives_injective division.2) in
        subst (Stand book.longest s) same (walk_stands book.longest 0 s areas.0.to s (omega arith) entries.1)

    not_asked : {responses : ℕ} → SuccessParts book responses (response_parts s r) → asks ≡ false
    unfolding response_parts
    not_asked success =
        of_two (λ (tag : ℕ). eqb tag rsp_command ≡ false) refl refl r.tag.0 (is_of_two_lem r.tag.0 success.well_formed.tag_of_two)

    success_again : {responses : ℕ} → SuccessParts book responses (response_parts s r) → (row : Row) → row_for book.rows cc ≡ gives row → responses ≡ row.responses
        → (room : ℕ) → length s ≤ room → r.tag.0 ≡ tag_for r.entries.count → write_response book asks cc r.rc.0 h room ≡ gives s
    unfolding response_parts
    success_again success row found of room enough tag =
        let zero : r.rc.0 ≡ 0 = success.success in
        let same : success_frame h ≡ response_parts s r =
        λ i. record {
          tag = sym tag i;
          code = sym zero i;
          handles = h.handles;
          entries = no_handles book.longest (entries_handed h) success.well_formed.whole_entries i;
          parameters = h.parameters;
        } in
        let layout : layout_response (success_frame h) ≡ s = ap layout_response same ∙ formed.1 in
        let small : length s < 4294967296 = rw formed.1 at success.size_fits in
        sym (success_is book asks cc r.rc.0 h room stand.0 (sym found) (not_asked success) zero)
        ∙ passed_success book asks cc r.rc.0 h room row.responses {n = length s} (record {
          handle_count = rw of at success.well_formed.handle_count;
          there = stand.1;
          total_is = ap length (sym layout) ∙ length_success book.longest h stand.1;
          small = omega arith;
          room_for = enough;
        })
        ∙ ap gives layout

    error_again : (row : Row) → row_for book.rows cc ≡ gives row → ErrorParts book (response_parts s r) → (room : ℕ) → length s ≤ room
        → write_response book asks cc r.rc.0 h room ≡ gives s
    unfolding response_parts
    error_again row found error room enough =
        let none : r.entries.count ≡ 0 = sym (count_is s r.entries stand.0) ∙ ap length error.no_entries in
        let tag : r.tag.0 ≡ error_tag asks =
        errs_asked asks refl (elim error.either_error [ inl e ↦ inl e.0 | inr e ↦ inr e.1 ]) in
        let same : response_parts s r ≡ error_frame asks r.rc.0 =
        λ i. record {
          tag = tag i;
          code = r.rc.0;
          handles = error.no_handles i;
          entries = error.no_entries i;
          parameters = error.no_parameters i;
        } in
        let layout : layout_response (error_frame asks r.rc.0) ≡ s = ap layout_response (sym same) ∙ formed.1 in
        let ten : length s ≡ 10 = ap length (sym layout) ∙ length_error asks r.rc.0 in
        let parted = subst (λ (f : Frame). PlainError f ⊎ BadTagAnswer book f) same error.either_error in
        error_is book asks cc r.rc.0 h room stand.0 (sym found) (parted_errs book asks r.rc.0 parted) none (omega arith)
        ∙ ap gives layout

    -- the parts that were read, written into enough room, give the same bytes ..
    pub response_again : (room : ℕ) → length s ≤ room → (eqb r.tag.0 sessions ≡ true → r.entries.count ≡ 0 → ⊥)
        → write_response book asks cc r.rc.0 h room ≡ gives s
    unfolding response_parts
    response_again room enough some =
        let parts = formed.0 in
        elim parts.either_kind [
          | inl success ↦
              success_again success parts.row parts.has_row refl room enough
              (tag_goes r.tag.0 r.entries.count (is_of_two_lem r.tag.0 success.well_formed.tag_of_two)
              (λ q. sym (count_is s r.entries stand.0) ∙ ap length (success.well_formed.plain_entries q)) some)
          | inr error ↦ error_again parts.row parts.has_row error room enough
        ]

    -- .. but success under the sessions tag with no entry comes out under the plain tag, four bytes shorter

    module _ {responses : ℕ} (success : SuccessParts book responses (response_parts s r)) (tag : r.tag.0 ≡ sessions) (none : r.entries.count ≡ 0) where
      no_entry : layout_entries 0 (entries_handed h) ≡ []
      no_entry = ap (λ (es : List Session). layout_entries 0 (entries_in s es)) (entries_none r.entries none)

      long : length s ≡ 14 + length h.handles + length h.parameters
      unfolding response_parts layout_response
      long =
          let entries : List ℕ = layout_entries 0 (entries_handed h) in
          let empty : length entries ≡ 0 = ap length no_entry in
          let body = length_body r.tag.0 h.handles h.parameters entries in
          let four : ◌≡◌ {A = ℕ} (cond (eqb r.tag.0 sessions) 4 0) 4 = rw tag refl in
          let all = length_frame r.tag.0 r.rc.0 (layout_body r.tag.0 h.handles h.parameters entries) in
          let again : length (layout_frame r.tag.0 r.rc.0 (layout_body r.tag.0 h.handles h.parameters entries)) ≡ length s =
          ap length formed.1 in
          omega arith

      plainly : layout_response (success_frame h) ≡ shorter s r
      plainly =
          let is_plain : tag_for r.entries.count ≡ 0x8001 = rw none refl in
          let sum = long in
          let both = length-append h.handles h.parameters in
          let size : 10 + length (h.handles ++ h.parameters) ≡ length s - 4 = omega arith in
          success_layout h
          ∙ (λ i. layout_frame (is_plain i) 0 (layout_body (is_plain i) h.handles h.parameters (no_entry i)))
          ∙ ap (λ (t : List ℕ). layout_frame 0x8001 0 (h.handles ++ t)) (append-nil h.parameters)
          ∙ ap (λ (n : ℕ). bytes 2 0x8001 ++ (bytes 4 n ++ (bytes 4 0 ++ (h.handles ++ h.parameters)))) size

    pub response_shorter : (room : ℕ) → length s - 4 ≤ room → r.tag.0 ≡ sessions → r.entries.count ≡ 0
        → (write_response book asks cc r.rc.0 h room ≡ gives (shorter s r)) × (length (shorter s r) + 4 ≡ length s)
    unfolding response_parts
    response_shorter room enough tag none =
        let parts = formed.0 in
        elim parts.either_kind [
          | inl success ↦
              let zero : r.rc.0 ≡ 0 = success.success in
              let layout = plainly success tag none in
              let sum = long success tag none in
              let length-shorter : length (shorter s r) ≡ 10 + length h.handles + length h.parameters = simp (length-append, length_bytes) (omega arith) in
              let small : length s < 4294967296 = rw formed.1 at success.size_fits in (
                sym (success_is book asks cc r.rc.0 h room stand.0 (sym parts.has_row) (not_asked success) zero)
                    ∙ passed_success book asks cc r.rc.0 h room parts.row.responses {n = length (shorter s r)} (record {
                      handle_count = success.well_formed.handle_count;
                      there = stand.1;
                      total_is = ap length (sym layout) ∙ length_success book.longest h stand.1;
                      small = omega arith;
                      room_for = omega arith;
                    })
                    ∙ ap gives layout,
                omega arith,
              )
          | inr error ↦ elim error.either_error [ inl e ↦ let other = e.0 in absurd (omega arith) | inr e ↦ let other = e.1 in absurd (omega arith) ]
        ]
