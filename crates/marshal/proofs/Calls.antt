-- What a caller of a writer is told: the answer, and the room before and later. It is stated once, of any reading of what was
-- written, and holds of both kinds.
-- Assumes nothing.
use mathlib.Core.Path.{◌≡◌, sym, ◌∙◌, ap}
use mathlib.Core.List.{List, ◌++◌}
use mathlib.Core.Logic.{◌↔◌}
use Prim.Native.Nat.{ℕ, ◌≤◌, ◌<◌}
use lib.ListN.{length, take, drop}
use lib.Seq.{drop_at}
use Rattle.std.specs.Prelude.{Result, Ok, Err}
use Rattle.base.specs.declared.error.WriteError.{WriteError}
use Rattle.base.specs.Answer.{said_total}
use Rattle.base.specs.Bytes.{AreBytes}
use Rattle.base.specs.Error.{writer_numbered}
use Rattle.base.specs.Said.{Why, Said, gives, refuses}
use Rattle.base.proofs.Answers.{said_total_injective}
use Rattle.base.proofs.Checks.{gives_injective, refuses_injective, gives≢refuses}
use Rattle.frame.specs.Layout.{Frame}
use Rattle.marshal.specs.Handed.{Handed}
use Rattle.marshal.specs.Write.{counted, room_after}
use Rattle.marshal.proofs.Parts.{OfTypes}
use Rattle.marshal.proofs.Taking.{Taken}
use Rattle.marshal.proofs.Writers.{room_is, room_start, room_refused}

-- the answer is the length of t, t is at the start of the room, and what is behind it stays
abbrev pub Written : List ℕ → Result ℕ WriteError → List ℕ → List ℕ → Type 0
Written room x later t = (x ≡ Ok (length t)) × (later ≡ t ++ drop (length t) room)

-- the call is refused by number, and the room is as it was
abbrev pub Refused : List ℕ → Result ℕ WriteError → List ℕ → Why → Type 0
Refused room x later why = (said_total x ≡ refuses why) × (later ≡ room)

-- A call that was handed h, and so asked for a frame of some code. `From s d` says that what was handed over are the parts that the
-- reading d tells of s, and Bare that they are of a frame that comes out otherwise.
pub record Writes {D : Type 0} (limit : ℕ) (read : List ℕ → Said D) (parts : List ℕ → D → Frame) (layout : Frame → List ℕ) (Formed : Frame → Type 0)
    (From : List ℕ → D → Type 0) (Bare : D → Type 0) (h : Handed) (code : ℕ) (asked : Frame) (room : List ℕ) (x : Result ℕ WriteError) (later : List ℕ) : Type 0 where
  -- an answer tells that the frame can be written, and where it can be it is
  pub taken : (n : ℕ) → x ≡ Ok n → OfTypes h → code < 4294967296 → Taken limit Formed layout asked h (length room)
  pub written : Taken limit Formed layout asked h (length room) → Written room x later (layout asked)
  -- what was written passes, its parts are those asked for, and the bytes behind it stay
  pub reads : (n : ℕ) → x ≡ Ok n → OfTypes h → code < 4294967296
      → (d : D) × (read (take n later) ≡ gives d) × (parts (take n later) d ≡ asked) × (drop n later ≡ drop n room)
  -- the parts of a passing frame, with enough room, give its bytes again
  pub again : (s : List ℕ) → AreBytes s → (d : D) → read s ≡ gives d → From s d → length s ≤ length room → (Bare d → ⊥) → Written room x later s
  -- a refused call leaves the room as it was
  pub leaves : (why : WriteError) → x ≡ Err why → later ≡ room

counted_refuses : (said : Said (List ℕ)) {why : Why} → counted said ≡ refuses why → said ≡ refuses why
counted_refuses (gives t) e = absurd (gives≢refuses e)
counted_refuses (refuses why) e = ap refuses (refuses_injective e)

-- ---- from the contract: the answer and the room later are those of what a definition said

module _ (room : List ℕ) (x : Result ℕ WriteError) (later : List ℕ) (said : Said (List ℕ)) (answer : said_total x ≡ counted said)
    (bytes : later ≡ room_after room said) where
  pub is_written : {t : List ℕ} → said ≡ gives t → Written room x later t
  is_written {t} e =
      let is = room_is room e in
      (said_total_injective x (Ok (length t)) (answer ∙ is.0), bytes ∙ is.1)

  pub is_refused : {why : Why} → said ≡ refuses why → Refused room x later why
  is_refused e = (answer ∙ ap counted e, bytes ∙ ap (room_after room) e)

  pub refused_exactly : (e : WriteError) → (x ≡ Err e) ↔ (said ≡ refuses (writer_numbered e))
  refused_exactly e = ((λ is. counted_refuses said (sym answer ∙ ap said_total is)), (λ no. said_total_injective x (Err e) (is_refused no).0))

  module _ {D : Type 0} (limit : ℕ) (read : List ℕ → Said D) (parts : List ℕ → D → Frame) (layout : Frame → List ℕ) (Formed : Frame → Type 0)
      (From : List ℕ → D → Type 0) (Bare : D → Type 0) (h : Handed) (code : ℕ) (asked : Frame) where
    pub writes : ((t : List ℕ) → said ≡ gives t → OfTypes h → code < 4294967296 → Taken limit Formed layout asked h (length room))
        → (Taken limit Formed layout asked h (length room) → said ≡ gives (layout asked))
        → ((t : List ℕ) → said ≡ gives t → OfTypes h → code < 4294967296 → (d : D) × (read t ≡ gives d) × (parts t d ≡ asked))
        → ((s : List ℕ) → AreBytes s → (d : D) → read s ≡ gives d → From s d → length s ≤ length room → (Bare d → ⊥) → said ≡ gives s)
        → Writes limit read parts layout Formed From Bare h code asked room x later
    writes takes lays passes same =
        let start : (n : ℕ) → x ≡ Ok n → (t : List ℕ) × (said ≡ gives t) × (take n (room_after room said) ≡ t) =
        λ n is. room_start room said (sym answer ∙ ap said_total is) in record {
          taken = λ n is types fits. takes (start n is).0 (start n is).1 types fits;
          written = λ t. is_written (lays t);
          reads = λ n is types fits.
              let t : List ℕ = (start n is).0 in
              let gave : said ≡ gives t = (start n is).1 in
              let first : take n later ≡ t = ap (take n) bytes ∙ (start n is).2 in
              let long : length t ≡ n = gives_injective (sym (ap counted gave) ∙ sym answer ∙ ap said_total is) in
              let d = passes t gave types fits in
              let rest : drop n later ≡ drop n room =
              ap (drop n) (bytes ∙ (room_is room gave).1) ∙ drop_at t _ n long ∙ ap (λ (k : ℕ). drop k room) long in
              (d.0, ap read first ∙ d.1, ap (λ (u : List ℕ). parts u d.0) first ∙ d.2, rest);
          again = λ s are d e from enough some. is_written (same s are d e from enough some);
          leaves = λ why is. bytes ∙ sym (room_refused room said (sym (ap said_total is) ∙ answer));
        }
