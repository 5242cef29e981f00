-- Which frames the writers take, by any rules: those whose parts are well formed (and a command under the sessions tag has an entry), with
-- as many entries as sessions were counted, each nonce and HMAC within the limit and the lent bytes, and room for the layout. What is taken is laid out.
-- Assumes nothing.
use mathlib.Core.Path.{◌≡◌, refl, sym, ◌∙◌, ap}
use mathlib.Core.Bool.{Bool, true, false, cond, false≢true}
use mathlib.Core.List.{List, []}
use mathlib.Core.Logic.{◌⊎◌, inl, inr}
use Prim.Native.Nat.{ℕ, ◌≤◌, ◌<◌}
use native.Mathlib.Omega.{arith}
use borrow.Author.Tests.{eqb-true, eq-eqb}
use lib.Dec.{eqb}
use lib.ListN.{length}
use Rattle.base.specs.Said.{gives}
use Rattle.frame.specs.Header.{plain, sessions}
use Rattle.frame.specs.Layout.{Frame, CommandParts, ResponseParts, layout_command, layout_response}
use Rattle.frame.specs.Parts.{Kept, EachField, entries_in, entries_of}
use Rattle.frame.specs.Rules.{Rulebook}
use Rattle.frame.proofs.BadTags.{erring}
use Rattle.frame.proofs.FrameLaws.{is_of_two_lem}
use Rattle.marshal.specs.Handed.{Handed, tag_for, entries_handed, command_frame, success_frame, error_tag, error_frame}
use Rattle.marshal.specs.Write.{write_command, write_response}
use Rattle.marshal.proofs.CommandWriting.{command_formed}
use Rattle.marshal.proofs.Frames.{length_command, length_success}
use Rattle.marshal.proofs.Lengths.{there_kept, kept_there}
use Rattle.marshal.proofs.Parts.{OfTypes, count_is, length_without, tag_goes}
use Rattle.marshal.proofs.ResponseWriting.{response_frame, frame_errs, parted_errs, response_formed}
use Rattle.marshal.proofs.Sessions.{entries_none}
use Rattle.marshal.proofs.Writers.{Errs, command_passed, passed_command, response_passed, passed_success, success_is, error_is, length_error}

-- a frame that can be written from what was handed over, with nonces and HMACs of at most so many bytes
pub record Taken (limit : ℕ) (Formed : Frame → Type 0) (layout : Frame → List ℕ) (asked : Frame) (h : Handed) (room : ℕ) : Type 0 where
  pub formed : Formed asked
  pub all_sessions : length asked.entries ≡ h.sessions.count
  pub kept : EachField (Kept limit (length h.lent)) (entries_of h.sessions)
  pub room_for : length (layout asked) ≤ room

module _ (book : Rulebook) where
  -- ---- commands

  -- well-formed parts, but not the sessions tag with no entry
  abbrev pub CommandFormed : Frame → Type 0
  CommandFormed f = CommandParts book f × (f.tag ≡ sessions → f.entries ≡ [] → ⊥)

  module _ (tag code : ℕ) (h : Handed) (room : ℕ) where
    pub command_taken : {t : List ℕ} → write_command book tag code h room ≡ gives t → OfTypes h → code < 4294967296
        → Taken book.longest CommandFormed layout_command (command_frame tag code h) h room
    command_taken written types fits =
        let p = command_passed book tag code h room written in
        let formed = command_formed book tag code h room written types fits in
        let count = count_is h.lent h.sessions p.few in
        record {
          formed = (
            formed.0,
            (λ under none.
                let zero : h.sessions.count ≡ 0 = sym count ∙ ap length none in
                let plainly : tag ≡ tag_for 0 = rw zero at p.tag_is in
                omega arith),
          );
          all_sessions = count;
          kept = there_kept book.longest (length h.lent) (entries_of h.sessions) p.fits.there;
          room_for = rw (← p.layout_is) p.fits.room_for;
        }

    pub taken_command : Taken book.longest CommandFormed layout_command (command_frame tag code h) h room
        → write_command book tag code h room ≡ gives (layout_command (command_frame tag code h))
    taken_command t =
        let parts = t.formed.0 in
        let w = parts.well_formed in
        let there = kept_there book.longest (length h.lent) (entries_of h.sessions) t.kept in
        let small = parts.size_fits in
        passed_command book tag code h room (record {
          tag_is =
              tag_goes tag h.sessions.count (is_of_two_lem tag w.tag_of_two) (λ q. sym t.all_sessions ∙ ap length (w.plain_entries q))
              (λ q none. t.formed.1 (eqb-true tag sessions q) (ap (entries_in h.lent) (entries_none h.sessions none)));
          few = rw t.all_sessions at w.three_entries;
          row = parts.row;
          has_row = parts.has_row;
          fits = record {
            handle_count = w.handle_count;
            there = there;
            total_is = length_command book.longest h there tag code;
            small = omega arith;
            room_for = t.room_for;
          };
          layout_is = refl;
        })

  -- ---- responses to the command of a code

  module _ (asked : Bool) (cc code : ℕ) (h : Handed) (room : ℕ) where
    pub response_taken : (asked ≡ true → book.answers_bad_tag ≡ true) → {t : List ℕ} → write_response book asked cc code h room ≡ gives t → OfTypes h
        → code < 4294967296 → Taken book.longest (ResponseParts book cc) layout_response (response_frame asked code h) h room
    response_taken may {t} written types fits =
        let p = response_passed book asked cc code h room written in
        let formed = response_formed book cc asked may code h room written types fits in
        let room_for : length t ≤ room → length (layout_response (response_frame asked code h)) ≤ room = λ k. rw (← formed.1) k in
        elim p.either_kind [
          | inl success ↦
              let frame : response_frame asked code h ≡ success_frame h = rw (success.0, success.1) refl in
              record {
                formed = formed.0;
                all_sessions =
                    ap (λ (f : Frame). length f.entries) frame ∙ length_without (entries_handed h) ∙ count_is h.lent h.sessions p.few;
                kept = there_kept book.longest (length h.lent) (entries_of h.sessions) success.2.there;
                room_for = room_for success.2.room_for;
              }
          | inr error ↦ record {
            formed = formed.0;
            all_sessions = ap (λ (f : Frame). length f.entries) (frame_errs asked code h error.0) ∙ sym error.1;
            kept = rw (entries_none h.sessions error.1) tt;
            room_for = room_for (let ten : length t ≡ 10 = ap length error.2 ∙ length_error asked code in let most = error.3 in omega arith);
          }
        ]

  -- a bare header is written where it can be
  error_written : (asked : Bool) (cc code : ℕ) (h : Handed) (room : ℕ)
      → Taken book.longest (ResponseParts book cc) layout_response (error_frame asked code) h room → Errs asked code
      → write_response book asked cc code h room ≡ gives (layout_response (error_frame asked code))
  error_written asked cc code h room t errs =
      let none : h.sessions.count ≡ 0 = sym t.all_sessions in
      let ten = length_error asked code in
      let enough = t.room_for in
      error_is book asked cc code h room (omega arith) (sym t.formed.has_row) errs none (omega arith)

  error_taken : (asked : Bool) (cc code : ℕ) (h : Handed) (room : ℕ) → (eqb code 0 ≡ true → asked ≡ true)
      → Taken book.longest (ResponseParts book cc) layout_response (error_frame asked code) h room
      → write_response book asked cc code h room ≡ gives (layout_response (error_frame asked code))
  error_taken asked cc code h room failed t = elim t.formed.either_kind [
    | inl success ↦ absurd (no_success asked (failed (eq-eqb code 0 success.success)) success.well_formed.tag_of_two)
    | inr error ↦ error_written asked cc code h room t (parted_errs book asked code error.either_error)
  ]
    where
      no_success : (b : Bool) → b ≡ true → (error_tag b ≡ plain) ⊎ (error_tag b ≡ sessions) → ⊥
      no_success true e (inl is) = omega arith
      no_success true e (inr is) = omega arith
      no_success false e either = false≢true e

  pub taken_response : (asked : Bool) (cc code : ℕ) (h : Handed) (room : ℕ)
      → Taken book.longest (ResponseParts book cc) layout_response (response_frame asked code h) h room
      → write_response book asked cc code h room ≡ gives (layout_response (response_frame asked code h))
  taken_response true cc code h room t = error_taken true cc code h room (λ zero. refl) t
  taken_response false cc code h room t = by (eqb code 0) refl t
    where
      by : (b : Bool) → eqb code 0 ≡ b
          → Taken book.longest (ResponseParts book cc) layout_response (cond b (success_frame h) (error_frame false code)) h room
          → write_response book false cc code h room ≡ gives (layout_response (cond b (success_frame h) (error_frame false code)))
      by true e t = elim t.formed.either_kind [
        | inl success ↦
            let w = success.well_formed in
            let small = success.size_fits in
            let there = kept_there book.longest (length h.lent) (entries_of h.sessions) t.kept in
            sym (success_is book false cc code h room (rw t.all_sessions at w.three_entries) (sym t.formed.has_row) refl (eqb-true code 0 e))
            ∙ passed_success book false cc code h room t.formed.row.responses {n = length (layout_response (success_frame h))} (record {
              handle_count = w.handle_count;
              there = there;
              total_is = length_success book.longest h there;
              small = omega arith;
              room_for = t.room_for;
            })
        | inr error ↦ absurd (false≢true (sym (erring book (success_frame h) error.either_error).no_success))
      ]
      by false e t = error_taken false cc code h room (λ zero. absurd (false≢true (sym e ∙ zero))) t
