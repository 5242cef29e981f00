-- The walk over the entries of an authorization area passes exactly on the layout of whole entries, no more of them than may come, that
-- fills what is left; and what it tells are these entries.
-- Assumes nothing.
use mathlib.Core.Path.{◌≡◌, refl, sym, ◌∙◌}
use mathlib.Core.List.{List, [], ◌∷◌}
use Prim.Native.Nat.{ℕ, zero, suc, ◌+◌, ◌≤◌}
use native.Mathlib.Omega.{arith}
use borrow.Author.Tests.{le-leb, lt-leb}
use lib.ListN.{length, take, length-append}
use Rattle.base.specs.Bytes.{AreBytes}
use Rattle.base.specs.Said.{gives, done}
use Rattle.base.proofs.Checks.{done_gives}
use Rattle.base.proofs.Places.{At, at_moved, at_first, at_second, at_both, read_within}
use Rattle.frame.specs.declared.session.Field.{Field}
use Rattle.frame.specs.declared.session.Session.{Session}
use Rattle.frame.specs.Layout.{Entry, layout_entry, layout_entries, WholeEntries}
use Rattle.frame.specs.Parts.{entry_in, entries_in, NoLonger, Kept, EachField}
use Rattle.frame.specs.Walk.{walk, behind}
use Rattle.frame.proofs.Passes.{Passes, ended, passed, passes}
use Rattle.frame.proofs.EntryLaws.{length_entry, entry_starts, entry_inside, entry_by, entry_sound, entry_complete}

-- nothing is left: no entry
pub walk_end : (limit k width : ℕ) (s : List ℕ) (place : ℕ) → length s ≤ place → walk limit k width s place ≡ gives []
unfolding walk
walk_end limit zero width s place h = simp (le-leb (length s) place h)
walk_end limit (suc k) width s place h = simp (le-leb (length s) place h)

-- no more entries than may come
few : {limit width : ℕ} {s : List ℕ} {k place : ℕ} {es : List Session} → Passes limit width s k place es → length es ≤ k
few (ended end) = omega arith
few (passed read more) = let rest = few more in omega arith

pub walk_few : (limit k width : ℕ) (s : List ℕ) (place : ℕ) {es : List Session} → walk limit k width s place ≡ gives es → length es ≤ k
walk_few limit k width s place e = few (passes limit k width s place e)

-- what the walk passes is the layout of whole entries, and fills what is left
module _ (limit width : ℕ) (s : List ℕ) (b : AreBytes s) where
  sound : {k place : ℕ} {es : List Session} → place ≤ length s → Passes limit width s k place es
      → At s place (layout_entries width (entries_in s es))
      × (place + length (layout_entries width (entries_in s es)) ≡ length s)
      × WholeEntries limit width (entries_in s es)
  sound h (ended end) = (record { inside = omega arith; there = refl }, omega arith, tt)
  sound h (passed {place = place} {e = e} {es = es} read more) =
      let one = entry_sound limit width s place b h read in
      let ends = one.ends in
      let inside = one.there.inside in
      let rest = sound (omega arith) more in
      let fills = rest.1 in (
        at_both one.there (at_moved (sym ends) rest.0),
        rw (length-append (layout_entry width (entry_in s e)) (layout_entries width (entries_in s es))) (omega arith),
        (one.whole, rest.2),
      )

pub walk_sound : (limit k width : ℕ) (s : List ℕ) (place : ℕ) {es : List Session} → AreBytes s → place ≤ length s
    → walk limit k width s place ≡ gives es
    → At s place (layout_entries width (entries_in s es))
    × (place + length (layout_entries width (entries_in s es)) ≡ length s)
    × WholeEntries limit width (entries_in s es)
walk_sound limit k width s place b h e = sound limit width s b h (passes limit k width s place e)

-- the layout of whole entries is passed, and they are what is read
pub walk_complete : (limit k width : ℕ) (s : List ℕ) (place : ℕ) (es : List Entry) → WholeEntries limit width es → length es ≤ k
    → At s place (layout_entries width es) → place + length (layout_entries width es) ≡ length s
    → (ds : List Session) × (walk limit k width s place ≡ gives ds) × (entries_in s ds ≡ es)
unfolding walk
walk_complete limit k width s place [] w h a f = ([], walk_end limit k width s place (omega arith), refl)
walk_complete limit zero width s place (x ∷ es) w h a f = absurd (omega arith)
walk_complete limit (suc k) width s place (x ∷ es) w h a f =
    let first = layout_entry width x in
    let others = layout_entries width es in
    let one = entry_complete limit width s place x w.0 (at_first first others a) in
    let long = length-append first others in
    let wide = length_entry width x in
    let ends = one.3 in
    let rest = walk_complete limit k width s (behind one.0) es w.1 (omega arith) (at_moved ends (at_second first others a)) (omega arith) in (
      one.0 ∷ rest.0,
      rw (lt-leb (length s) place (omega arith), one.1, rest.1),
      (λ i. one.2 i ∷ rest.2 i),
    )

-- entries that were read in the first n bytes are the same in all of them
within : (limit width n : ℕ) (s : List ℕ) {k place : ℕ} {es : List Session} → Passes limit width (take n s) k place es → entries_in (take n s) es ≡ entries_in s es
within limit width n s (ended end) = refl
within limit width n s (passed {place = place} {e = e} read more) =
    let inside = entry_inside limit width (take n s) place read in
    let nonce = read_within n s e.nonce.at e.nonce.size inside.0.1 in
    let hmac = read_within n s e.hmac.at e.hmac.size inside.1.1 in
    λ i. record { handle = e.handle; nonce = nonce i; attributes = e.attributes; hmac = hmac i } ∷ within limit width n s more i

pub walk_within : (limit k width n : ℕ) (s : List ℕ) (place : ℕ) {es : List Session} → place ≤ length (take n s)
    → walk limit k width (take n s) place ≡ gives es → entries_in (take n s) es ≡ entries_in s es
walk_within limit k width n s place h e = within limit width n s (passes limit k width (take n s) place e)

-- ---- what the limit does

pub each_field : {P Q : Field → Type 0} → ((f : Field) → P f → Q f) → (es : List Session) → EachField P es → EachField Q es
each_field by [] k = tt
each_field by (e ∷ es) k = ((by e.nonce k.0.0, by e.hmac k.0.1), each_field by es k.1)

-- every nonce and HMAC that a walk tells is within the limit, and stands within the bytes
inside : {limit width : ℕ} {s : List ℕ} {k place : ℕ} {es : List Session} → Passes limit width s k place es → EachField (Kept limit (length s)) es
inside (ended end) = tt
inside {limit} {width} {s = s} (passed {place = place} read more) = (entry_inside limit width s place read, inside more)

pub walk_inside : (limit k width : ℕ) (s : List ℕ) (place : ℕ) {es : List Session} → walk limit k width s place ≡ gives es
    → EachField (Kept limit (length s)) es
walk_inside limit k width s place e = inside (passes limit k width s place e)

-- by another limit, that all of them are within, the walk tells the same
by_other : (limit other width : ℕ) (s : List ℕ) {k place : ℕ} {es : List Session} → Passes limit width s k place es → EachField (NoLonger other) es
    → walk other k width s place ≡ gives es
unfolding walk
by_other limit other width s {k} {place} (ended end) few = walk_end other k width s place end
by_other limit other width s (passed {k = k} {place = place} read more) few =
    rw (
      lt-leb (length s) place (entry_starts limit width s place read),
      entry_by limit width s place other read few.0.0 few.0.1,
      by_other limit other width s more few.1,
    )

pub walk_by : (limit other k width : ℕ) (s : List ℕ) (place : ℕ) {es : List Session} → walk limit k width s place ≡ gives es
    → EachField (NoLonger other) es → walk other k width s place ≡ gives es
walk_by limit other k width s place e few = by_other limit other width s (passes limit k width s place e) few

-- so what passes by a limit is the same by a looser one
pub walk_looser : (limit other k width : ℕ) (s : List ℕ) (place : ℕ) {es : List Session} → limit ≤ other → walk limit k width s place ≡ gives es
    → walk other k width s place ≡ gives es
walk_looser limit other k width s place {es} more e =
    walk_by limit other k width s place e (each_field (λ f kept. let few = kept.0 in omega arith) es (walk_inside limit k width s place e))

pub walk_same : (limit other k width : ℕ) (s : List ℕ) (place : ℕ) → limit ≤ other → done (walk limit k width s place) ≡ gives tt
    → walk other k width s place ≡ walk limit k width s place
walk_same limit other k width s place more e =
    let told = done_gives (walk limit k width s place) (sym e) in
    walk_looser limit other k width s place more (sym told.1) ∙ told.1
