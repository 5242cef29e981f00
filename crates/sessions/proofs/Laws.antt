-- What whoever hands over a slice of records has: more than three are refused by their number and the room stays; at most three are
-- written as the writers by value write them, and so all that is proved of those holds here.
-- Assumes nothing.
use mathlib.Core.Path.{◌≡◌, refl, sym, ◌∙◌, ap}
use mathlib.Core.Bool.{Bool}
use mathlib.Core.List.{List, [], ◌∷◌}
use Prim.Native.Nat.{ℕ, zero, suc, ◌≤◌, ◌<◌}
use native.Mathlib.Omega.{arith}
use borrow.Author.Tests.{lt-ltb, lt-leb}
use lib.ListN.{length}
use seplogic.Ra.Ura.{Ura}
use base.Logic.{SProp}
use prog.Memory.{Memory}
use prog.Routine.{Routine}
use types.Logic.{Logic}
use contract.Monad.{Fun}
use Rattle.std.specs.Prelude.{Result}
use Rattle.base.specs.declared.error.WriteError.{WriteError}
use Rattle.base.specs.Answer.{said_total}
use Rattle.base.specs.Said.{no_area, Said, refuses}
use Rattle.base.proofs.Facts.{PromisedBy, from_two}
use Rattle.frame.specs.Header.{sessions}
use Rattle.frame.specs.Parts.{entries_of}
use Rattle.frame.specs.Rules.{Rulebook, book_of}
use Rattle.frame.specs.Walk.{by_value}
use Rattle.frame.specs.declared.session.Entries.{Entries}
use Rattle.frame.specs.declared.session.Session.{Session}
use Rattle.marshal.specs.Handed.{Handed, handed}
use Rattle.marshal.specs.Mode.{asked, book_for}
use Rattle.marshal.specs.Write.{counted, judged, room_after, write_command, write_response, write_success}
use Rattle.marshal.proofs.Calls.{Refused, is_refused}
use Rattle.marshal.proofs.Laws as by_value_lem
use Rattle.marshal.proofs.Laws.{CommandWrites, ResponseWrites}
use Rattle.sessions.specs.contracts.command.write as command-write-contract
use Rattle.sessions.specs.contracts.response.write as response-write-contract

-- ---- by any rules

module _ (book : Rulebook) (handles lent parameters : List ℕ) (room : ℕ) where
  abbrev with : Entries → Handed
  with e = handed handles e lent parameters

  module _ (ss : List Session) (many : 3 < length ss) where
    -- under the tag of sessions: the other tag, and every other number, is refused by itself before
    pub command_many : (code : ℕ) → write_command book sessions code (with (by_value ss)) room ≡ refuses (no_area (6 ∷ 0 ∷ 3 ∷ length ss ∷ []))
    unfolding write_command
    command_many code = rw (lt-ltb 0 (length ss) (omega arith), lt-leb (length ss) 3 many) refl

    pub response_many : (asks : Bool) (cc code : ℕ) → write_response book asks cc code (with (by_value ss)) room ≡ refuses (no_area (6 ∷ 0 ∷ 3 ∷ length ss ∷ []))
    unfolding write_response
    response_many asks cc code = rw (lt-leb (length ss) 3 many) refl

  -- records by value, of which at most three are counted, are those that are counted
  abbrev three : ℕ → Session → Session → Session → Entries
  three n a b c = record { count = n; first = a; second = b; third = c }

  command_of_lem : (tag code n : ℕ) (a b c : Session) → n ≤ 3 → write_command book tag code (with (three n a b c)) room ≡ write_command book tag code (with (by_value (entries_of (three n a b c)))) room
  unfolding write_command judged
  command_of_lem tag code zero a b c few = refl
  command_of_lem tag code (suc zero) a b c few = refl
  command_of_lem tag code (suc (suc zero)) a b c few = refl
  command_of_lem tag code (suc (suc (suc zero))) a b c few = refl
  command_of_lem tag code (suc (suc (suc (suc n)))) a b c few = absurd (omega arith)

  response_of_lem : (asks : Bool) (cc code n : ℕ) (a b c : Session) → n ≤ 3 → write_response book asks cc code (with (three n a b c)) room ≡ write_response book asks cc code (with (by_value (entries_of (three n a b c)))) room
  unfolding write_response write_success judged
  response_of_lem asks cc code zero a b c few = refl
  response_of_lem asks cc code (suc zero) a b c few = refl
  response_of_lem asks cc code (suc (suc zero)) a b c few = refl
  response_of_lem asks cc code (suc (suc (suc zero))) a b c few = refl
  response_of_lem asks cc code (suc (suc (suc (suc n)))) a b c few = absurd (omega arith)

  module _ (e : Entries) (few : e.count ≤ 3) (ss : List Session) (are : entries_of e ≡ ss) where
    pub command_few : (tag code : ℕ) → write_command book tag code (with (by_value ss)) room ≡ write_command book tag code (with e) room
    command_few tag code = sym (command_of_lem tag code e.count e.first e.second e.third few ∙ ap (λ (l : List Session). write_command book tag code (with (by_value l)) room) are)

    pub response_few : (asks : Bool) (cc code : ℕ) → write_response book asks cc code (with (by_value ss)) room ≡ write_response book asks cc code (with e) room
    response_few asks cc code = sym (response_of_lem asks cc code e.count e.first e.second e.third few ∙ ap (λ (l : List Session). write_response book asks cc code (with (by_value l)) room) are)

-- ---- what callers are answered

-- Of a call with the records ss, whose answer is x, and whose room was old and is then new. `of e` is what the writer by value says to the
-- records e, and Tagged that the tag is the one for sessions, of which a response says nothing.
pub record Takes (of : Entries → Said (List ℕ)) (ss : List Session) (Tagged : Type 0) (old : List ℕ) (x : Result ℕ WriteError) (new : List ℕ) : Type 0 where
  -- more than three are refused by their number, and the room is as it was
  pub many : Tagged → 3 < length ss → Refused old x new (no_area (6 ∷ 0 ∷ 3 ∷ length ss ∷ []))
  -- at most three get the answer and the bytes that they get by value
  pub few : (e : Entries) → e.count ≤ 3 → entries_of e ≡ ss → (said_total x ≡ counted (of e)) × (new ≡ room_after old (of e))

module _ (of : Entries → Said (List ℕ)) (ss : List Session) (Tagged : Type 0) (old : List ℕ) (x : Result ℕ WriteError) (new : List ℕ)
    (answer : said_total x ≡ counted (of (by_value ss))) (bytes : new ≡ room_after old (of (by_value ss))) where
  takes : (Tagged → 3 < length ss → of (by_value ss) ≡ refuses (no_area (6 ∷ 0 ∷ 3 ∷ length ss ∷ [])))
      → ((e : Entries) → e.count ≤ 3 → entries_of e ≡ ss → of (by_value ss) ≡ of e) → Takes of ss Tagged old x new
  takes refused same = record {
    many = λ tagged more. is_refused old x new (of (by_value ss)) answer bytes (refused tagged more);
    few = λ e few are. (answer ∙ ap counted (same e few are), bytes ∙ ap (room_after old) (same e few are));
  }

module _ {M : Type 1} {𝓤 : Ura M} (𝓛 : Logic 𝓤) (mem : Memory → SProp 𝓤) (run : Routine → Fun 𝓤) where
  pub command_write : PromisedBy 𝓤 command-write-contract.ended (command-write-contract.clauses 𝓛 mem run) (λ κs a x at.
      let old : List ℕ = a.1.1.1.1.1.1.1.0.now in
      let new : List ℕ = at.1.1.1.1.1.1.1.0.now in
      let ss : List Session = a.1.1.1.1.0.now in
      let hand : Entries → Handed = λ e. handed a.1.1.1.0.now e a.1.1.1.1.1.0.now a.1.1.1.1.1.1.0.now in
      Takes (λ e. write_command (book_of a.0) a.1.0.0 a.1.1.0.0 (hand e) (length old)) ss (a.1.0.0 ≡ sessions) old x new
      × CommandWrites (book_of a.0) a.1.0.0 a.1.1.0.0 (hand (by_value ss)) old x new)
  command_write κs a g x v =
      let h : List ℕ = a.1.1.1.0.now in
      let ss : List Session = a.1.1.1.1.0.now in
      let l : List ℕ = a.1.1.1.1.1.0.now in
      let p : List ℕ = a.1.1.1.1.1.1.0.now in
      let old : List ℕ = a.1.1.1.1.1.1.1.0.now in
      let new : List ℕ = v.1.1.1.1.1.1.1.0 in
      let of : Entries → Said (List ℕ) = λ e. write_command (book_of a.0) a.1.0.0 a.1.1.0.0 (handed h e l p) (length old) in
      from_two 𝓤 (said_total x ≡ counted (of (by_value ss))) (new ≡ room_after old (of (by_value ss))) (λ answer bytes. (
        takes of ss (a.1.0.0 ≡ sessions) old x new answer bytes
            (λ tag more. ap (λ (t : ℕ). write_command (book_of a.0) t a.1.1.0.0 (handed h (by_value ss) l p) (length old)) tag ∙ command_many (book_of a.0) h l p (length old) ss more a.1.1.0.0)
            (λ e few are. command_few (book_of a.0) h l p (length old) e few ss are a.1.0.0 a.1.1.0.0),
        by_value_lem.command_write (κs.0, (κs.1.1.0, (κs.1.1.1.0, (κs.1.1.1.1.0, tt))))
            (a.0, (a.1.0, (a.1.1.0, (a.1.1.1.0, (by_value ss, (a.1.1.1.1.1.0, (a.1.1.1.1.1.1.0, (a.1.1.1.1.1.1.1.0, tt))))))))
            x (tt, (tt, (tt, (tt, (tt, (tt, (tt, (new, tt)))))))) (answer, bytes),
      ))

  pub response_write : PromisedBy 𝓤 response-write-contract.ended (response-write-contract.clauses 𝓛 mem run) (λ κs a x at.
      let old : List ℕ = a.1.1.1.1.1.1.1.0.now in
      let new : List ℕ = at.1.1.1.1.1.1.1.0.now in
      let ss : List Session = a.1.1.1.1.0.now in
      let hand : Entries → Handed = λ e. handed a.1.1.1.0.now e a.1.1.1.1.1.0.now a.1.1.1.1.1.1.0.now in
      Takes (λ e. write_response (book_for a.0) (asked a.0) a.1.1.0.0 a.1.0.0 (hand e) (length old)) ss (Unit {0}) old x new
      × ResponseWrites (book_for a.0) (asked a.0) a.1.1.0.0 a.1.0.0 (hand (by_value ss)) old x new)
  response_write κs a g x v =
      let h : List ℕ = a.1.1.1.0.now in
      let ss : List Session = a.1.1.1.1.0.now in
      let l : List ℕ = a.1.1.1.1.1.0.now in
      let p : List ℕ = a.1.1.1.1.1.1.0.now in
      let old : List ℕ = a.1.1.1.1.1.1.1.0.now in
      let new : List ℕ = v.1.1.1.1.1.1.1.0 in
      let of : Entries → Said (List ℕ) = λ e. write_response (book_for a.0) (asked a.0) a.1.1.0.0 a.1.0.0 (handed h e l p) (length old) in
      from_two 𝓤 (said_total x ≡ counted (of (by_value ss))) (new ≡ room_after old (of (by_value ss))) (λ answer bytes. (
        takes of ss (Unit {0}) old x new answer bytes
            (λ _ more. response_many (book_for a.0) h l p (length old) ss more (asked a.0) a.1.1.0.0 a.1.0.0)
            (λ e few are. response_few (book_for a.0) h l p (length old) e few ss are (asked a.0) a.1.1.0.0 a.1.0.0),
        by_value_lem.response_write (κs.0, (κs.1.1.0, (κs.1.1.1.0, (κs.1.1.1.1.0, tt))))
            (a.0, (a.1.0, (a.1.1.0, (a.1.1.1.0, (by_value ss, (a.1.1.1.1.1.0, (a.1.1.1.1.1.1.0, (a.1.1.1.1.1.1.1.0, tt))))))))
            x (tt, (tt, (tt, (tt, (tt, (tt, (tt, (new, tt)))))))) (answer, bytes),
      ))
