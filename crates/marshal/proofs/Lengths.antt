-- How many bytes entries and frames take, and where the sessions' bytes are.
-- Assumes nothing.
use mathlib.Core.Path.{◌≡◌, refl, ◌∙◌}
use mathlib.Core.List.{List, [], ◌∷◌}
use Prim.Native.Nat.{ℕ, ◌+◌, ◌≤◌}
use native.Mathlib.Omega.{arith}
use borrow.Author.Tests.{le-leb, leb-true}
use lib.Dec.{leb}
use lib.ListN.{length, length-append}
use Rattle.base.specs.Said.{gives}
use Rattle.base.proofs.Checks.{needs_gives, then_gives}
use Rattle.base.proofs.Places.{length_read}
use Rattle.frame.specs.declared.session.Field.{Field}
use Rattle.frame.specs.declared.session.Session.{Session}
use Rattle.frame.specs.Layout.{layout_entry, layout_entries}
use Rattle.frame.specs.Parts.{field_in, Kept, EachField, entry_in, entries_in}
use Rattle.frame.proofs.EntryLaws.{length_entry}
use Rattle.frame.proofs.WalkLaws.{each_field}
use Rattle.marshal.specs.Write.{field_there, session_there, sessions_there, entry_length, entries_length}

module _ (limit : ℕ) where
  -- the check of a field says just that it is kept
  pub field_inside : (len : ℕ) (f : Field) → field_there limit len f ≡ gives tt → Kept limit len f
  field_inside len f e =
      let few = needs_gives (leb f.size limit) _ _ e in
      let there = needs_gives (leb (f.at + f.size) len) _ _ few.1 in
      (leb-true f.size limit few.0, leb-true (f.at + f.size) len there.0)

  pub inside_field : (len : ℕ) (f : Field) → Kept limit len f → field_there limit len f ≡ gives tt
  inside_field len f kept = rw (le-leb f.size limit kept.0, le-leb (f.at + f.size) len kept.1) refl

module _ (limit : ℕ) (lent : List ℕ) where
  pub length_field : (f : Field) → field_there limit (length lent) f ≡ gives tt → length (field_in lent f) ≡ f.size
  length_field f e = length_read lent f.at f.size (field_inside limit (length lent) f e).1

  pub session_fields : (e : Session) → session_there limit (length lent) e ≡ gives tt
      → (field_there limit (length lent) e.nonce ≡ gives tt) × (field_there limit (length lent) e.hmac ≡ gives tt)
  session_fields e h = let nonce = then_gives (field_there limit (length lent) e.nonce) _ h in (nonce.1, nonce.2)

  pub length_session : (width : ℕ) (e : Session) → session_there limit (length lent) e ≡ gives tt
      → length (layout_entry width (entry_in lent e)) ≡ entry_length width e
  length_session width e h =
      let both = session_fields e h in
      let nonce = length_field e.nonce both.0 in
      let hmac = length_field e.hmac both.1 in
      length_entry width (entry_in lent e) ∙ omega arith

  pub sessions_first : (e : Session) (es : List Session) → sessions_there limit (length lent) (e ∷ es) ≡ gives tt
      → (session_there limit (length lent) e ≡ gives tt) × (sessions_there limit (length lent) es ≡ gives tt)
  unfolding sessions_there
  sessions_first e es h = let first = then_gives (session_there limit (length lent) e) _ h in (first.1, first.2)

  pub length_sessions : (width : ℕ) (es : List Session) → sessions_there limit (length lent) es ≡ gives tt
      → length (layout_entries width (entries_in lent es)) ≡ entries_length width es
  length_sessions width [] h = refl
  length_sessions width (e ∷ es) h =
      let both = sessions_first e es h in
      length-append (layout_entry width (entry_in lent e)) (layout_entries width (entries_in lent es))
      ∙ (λ i. length_session width e both.0 i + length_sessions width es both.1 i)

-- ---- the check of the sessions says just that all their fields are kept

module _ (limit len : ℕ) where
  pub there_kept : (es : List Session) → sessions_there limit len es ≡ gives tt → EachField (Kept limit len) es
  unfolding sessions_there
  there_kept [] e = tt
  there_kept (x ∷ es) e =
      let first = then_gives (session_there limit len x) _ e in
      let nonce = then_gives (field_there limit len x.nonce) _ first.1 in
      ((field_inside limit len x.nonce nonce.1, field_inside limit len x.hmac nonce.2), there_kept es first.2)

  pub kept_there : (es : List Session) → EachField (Kept limit len) es → sessions_there limit len es ≡ gives tt
  unfolding sessions_there
  kept_there [] k = refl
  kept_there (x ∷ es) k =
      rw (inside_field limit len x.nonce k.0.0, inside_field limit len x.hmac k.0.1) (kept_there es k.1)

-- and so what is there by a limit is there by a looser one
pub there_looser : (limit other len : ℕ) (es : List Session) → limit ≤ other → sessions_there limit len es ≡ gives tt → sessions_there other len es ≡ gives tt
there_looser limit other len es more e =
    kept_there other len es (each_field (λ f kept. let few = kept.0 in (omega arith, kept.1)) es (there_kept limit len es e))
