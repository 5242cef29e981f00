-- The parts that are handed to a writer, as parts of a frame: they are whole entries, and what was read of a frame can be handed back.
-- Assumes nothing.
use mathlib.Core.Path.{◌≡◌, refl, sym, ◌∙◌, ap}
use mathlib.Core.Bool.{Bool, true, false, false≢true}
use mathlib.Core.List.{List, [], ◌∷◌}
use mathlib.Core.Logic.{◌⊎◌, inl, inr}
use Prim.Native.Nat.{ℕ, zero, suc, ◌≤◌, ◌<◌}
use native.Mathlib.Omega.{arith}
use borrow.Author.Tests.{eqb-true, eqb-false, ne_eqb}
use lib.Dec.{eqb}
use lib.ListN.{length, take}
use lib.Seq.{length-take-le}
use Rattle.base.specs.declared.part.Span.{Span}
use Rattle.base.specs.Bytes.{AreBytes}
use Rattle.base.specs.Parts.{held_at}
use Rattle.base.specs.Said.{gives}
use Rattle.base.proofs.Bytes.{are_bytes_take, are_bytes_drop}
use Rattle.frame.specs.declared.session.Entries.{Entries}
use Rattle.frame.specs.declared.session.Session.{Session}
use Rattle.frame.specs.Header.{plain, sessions, is_of_two}
use Rattle.frame.specs.Layout.{Entry, WholeEntries}
use Rattle.frame.specs.Parts.{Kept, EachField, entries_in, entries_of}
use Rattle.frame.specs.Walk.{walk, by_value}
use Rattle.frame.proofs.Divisions.{entries_of_lem}
use Rattle.frame.proofs.FrameLaws.{of_the_two}
use Rattle.frame.proofs.Standing.{length_entries}
use Rattle.frame.proofs.WalkLaws.{each_field, walk_few, walk_inside}
use Rattle.marshal.specs.Handed.{Handed, handed, entries_handed, tag_for, without_handles}
use Rattle.marshal.specs.Write.{sessions_there}
use Rattle.marshal.proofs.Frames.{sessions_tag}
use Rattle.marshal.proofs.Lengths.{field_inside, session_fields, length_field, sessions_first, kept_there}
use Rattle.marshal.proofs.Sessions.{entries_none}

-- ---- what the types of the parts say

abbrev pub SessionFits : Session → Type 0
SessionFits e = (e.handle < 4294967296) × (e.nonce.size < 65536) × (e.attributes < 256) × (e.hmac.size < 65536)

-- a handle of 32 bits, lengths of 16 and an attribute of 8 in each of the three sessions, and bytes elsewhere
pub record OfTypes (h : Handed) : Type 0 where
  pub handle_bytes : AreBytes h.handles
  pub lent_bytes : AreBytes h.lent
  pub parameter_bytes : AreBytes h.parameters
  pub first_fits : SessionFits h.sessions.first
  pub second_fits : SessionFits h.sessions.second
  pub third_fits : SessionFits h.sessions.third

abbrev AllFit : List Session → Type 0
AllFit [] = Unit {0}
AllFit (e ∷ es) = SessionFits e × AllFit es

fit_take : (n : ℕ) (es : List Session) → AllFit es → AllFit (take n es)
fit_take zero es f = tt
fit_take (suc n) [] f = tt
fit_take (suc n) (e ∷ es) f = (f.0, fit_take n es f.1)

-- ---- the entries are whole

module _ (limit : ℕ) (lent : List ℕ) (b : AreBytes lent) where
  entries_whole : (es : List Session) → AllFit es → sessions_there limit (length lent) es ≡ gives tt → WholeEntries limit 4 (entries_in lent es)
  entries_whole [] f h = tt
  entries_whole (e ∷ es) f h =
      let both = sessions_first limit lent e es h in
      let fields = session_fields limit lent e both.0 in
      let nonce = length_field limit lent e.nonce fields.0 in
      let hmac = length_field limit lent e.hmac fields.1 in
      let few = (field_inside limit (length lent) e.nonce fields.0).0 in
      let less = (field_inside limit (length lent) e.hmac fields.1).0 in (
        (
          f.0.0,
          (are_bytes_take e.nonce.size _ (are_bytes_drop e.nonce.at lent b), rw nonce f.0.1, rw nonce few),
          f.0.2,
          (are_bytes_take e.hmac.size _ (are_bytes_drop e.hmac.at lent b), rw hmac f.0.3, rw hmac less),
        ),
        entries_whole es f.1 both.1,
      )

pub whole_sessions : (limit : ℕ) (h : Handed) → OfTypes h → sessions_there limit (length h.lent) (entries_of h.sessions) ≡ gives tt
    → WholeEntries limit 4 (entries_in h.lent (entries_of h.sessions))
whole_sessions limit h t there =
    entries_whole limit h.lent t.lent_bytes (entries_of h.sessions)
    (fit_take h.sessions.count _ (t.first_fits, (t.second_fits, (t.third_fits, tt)))) there

-- the same in a response, where they have no handle
pub whole_without : (limit : ℕ) (es : List Entry) → WholeEntries limit 4 es → WholeEntries limit 0 (without_handles es)
whole_without limit [] w = tt
whole_without limit (e ∷ es) w = ((omega arith, w.0.1, w.0.2, w.0.3), whole_without limit es w.1)

-- and entries that are whole in a response have none
pub no_handles : (limit : ℕ) (es : List Entry) → WholeEntries limit 0 es → without_handles es ≡ es
no_handles limit [] w = refl
no_handles limit (e ∷ es) w =
    let none : 0 ≡ e.handle = zero_below e.handle w.0.0 in
    λ i. record { handle = none i; nonce = e.nonce; attributes = e.attributes; hmac = e.hmac } ∷ no_handles limit es w.1 i
  where
    zero_below : (n : ℕ) → n < 1 → 0 ≡ n
    zero_below n h = omega arith

pub length_without : (es : List Entry) → length (without_handles es) ≡ length es
length_without [] = refl
length_without (e ∷ es) = ap suc (length_without es)

pub three_at_most : (es : Entries) → length (entries_of es) ≤ 3
three_at_most es = few es.count (es.first ∷ es.second ∷ es.third ∷ [])
  where
    few : (n : ℕ) (l : List Session) → length (take n l) ≤ length l
    few zero l = omega arith
    few (suc n) [] = omega arith
    few (suc n) (e ∷ l) = let rest = few n l in omega arith

-- ---- what was read of a frame

-- what was read of some bytes, as a writer takes it: positions are those read, and the lent bytes are the frame itself
abbrev pub handed_back : List ℕ → Span → Entries → Span → Handed
handed_back s handles entries parameters = handed (held_at handles s) entries s (held_at parameters s)

-- sessions by value that a writer can take out of some bytes
abbrev pub Stand : ℕ → List ℕ → Entries → Type 0
Stand limit s es = (es.count ≤ 3) × (sessions_there limit (length s) (entries_of es) ≡ gives tt)

pub count_is : (s : List ℕ) (es : Entries) → es.count ≤ 3 → length (entries_in s (entries_of es)) ≡ es.count
count_is s es few = length_entries s (entries_of es) ∙ length-take-le es.count (es.first ∷ es.second ∷ es.third ∷ []) few

-- what a walk tells stands within the bytes that it walked over
pub walk_stands : (limit width : ℕ) (area : List ℕ) (place : ℕ) {es : List Session} (s : List ℕ) → length area ≤ length s
    → walk limit 3 width area place ≡ gives es → Stand limit s (by_value es)
walk_stands limit width area place {es} s h e =
    let few = walk_few limit 3 width area place e in
    let kept : EachField (Kept limit (length s)) es =
    each_field (λ f k. let end = k.1 in (k.0, omega arith)) es (walk_inside limit 3 width area place e) in
    (few, rw (entries_of_lem es few) (kept_there limit (length s) es kept))

-- ---- the tag that goes with them

-- no entries where the tag that goes with the sessions is not the sessions tag
pub no_entries : (tag : ℕ) (h : Handed) → tag ≡ tag_for h.sessions.count → eqb tag sessions ≡ false → entries_handed h ≡ []
no_entries tag h is plainly = by (eqb h.sessions.count 0) refl
  where
    by : (b : Bool) → eqb h.sessions.count 0 ≡ b → entries_handed h ≡ []
    by true e = ap (entries_in h.lent) (entries_none h.sessions (eqb-true h.sessions.count 0 e))
    by false e = absurd (false≢true (sym plainly ∙ sessions_tag is (eqb-false h.sessions.count 0 e)))

-- the tag of a frame goes with its entries, but for the sessions tag with none
pub tag_goes : (tag count : ℕ) → is_of_two tag ≡ true → (eqb tag sessions ≡ false → count ≡ 0) → (eqb tag sessions ≡ true → count ≡ 0 → ⊥)
    → tag ≡ tag_for count
tag_goes tag count two none some = by (of_the_two tag two)
  where
    by : (tag ≡ plain) ⊎ (tag ≡ sessions) → tag ≡ tag_for count
    by (inl p) = let zero : count ≡ 0 = none (rw p refl) in rw zero p
    by (inr p) = rw (ne_eqb count 0 (some (rw p refl))) p
