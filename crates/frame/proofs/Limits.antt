-- Two limits on nonces and HMACs: a reading by the tighter one answers as by the looser one, refusals included, or refuses a field above it.
-- And the Rust's, which is none.
-- Assumes nothing.
use mathlib.Core.Path.{◌≡◌, refl, sym, ◌∙◌, ap}
use mathlib.Core.Bool.{Bool, true, false, cond}
use mathlib.Core.List.{List, [], ◌∷◌}
use mathlib.Core.Logic.{◌⊎◌, inl, inr}
use Prim.Native.Nat.{ℕ, zero, suc, ◌+◌, ◌≤◌, ◌<◌}
use native.Mathlib.Omega.{arith}
use borrow.Author.Tests.{le-leb, leb-true, leb-false}
use lib.Dec.{leb}
use lib.ListN.{length}
use Rattle.base.specs.declared.error.Area.TheVariants.{Authorization}
use Rattle.base.specs.Bytes.{AreBytes}
use Rattle.base.specs.Field.{read_field}
use Rattle.base.proofs.Checks.{within_gives}
use Rattle.base.specs.Said.{in_area, within, Said, gives, refuses, needs, then}
use Rattle.frame.specs.Rules.{unlimited}
use Rattle.frame.specs.Walk.{read_tpm2b, read_signed, read_entry, walk, behind}
use Rattle.frame.proofs.EntryLaws.{field_sound}
use Rattle.frame.proofs.Walks.{field_there_lem}

-- a field above the limit is refused where its length stands
abbrev pub TooLong : {A : Type 0} → ℕ → Said A → Type 0
TooLong limit said = (place : ℕ) × (size : ℕ) × (limit < size) × (said ≡ refuses (in_area Authorization (8 ∷ place ∷ limit ∷ size ∷ [])))

module _ (limit other : ℕ) (looser : limit ≤ other) where
  abbrev pub Alike : {A : Type 0} → Said A → Said A → Type 0
  Alike x y = (x ≡ y) ⊎ TooLong limit x

  -- steps that go on alike
  pub then_alike : {A B : Type 0} (x : Said A) (f g : A → Said B) → ((a : A) → Alike (f a) (g a)) → Alike (then x f) (then x g)
  then_alike (gives a) f g h = h a
  then_alike (refuses why) f g h = inl refl

  pub both_alike : {A B : Type 0} (x y : Said A) (f g : A → Said B) → Alike x y → ((a : A) → Alike (f a) (g a)) → Alike (then x f) (then y g)
  both_alike x y f g (inl e) h = rw (← e) (then_alike x f g h)
  both_alike x y f g (inr (place, size, long, e)) h = inr (place, size, long, rw e refl)

  cond_alike : {A : Type 0} (b : Bool) (x : Said A) {y z : Said A} → Alike y z → Alike (cond b x y) (cond b x z)
  cond_alike true x e = inl refl
  cond_alike false x e = e

  tpm2b_alike : (s : List ℕ) (place : ℕ) → Alike (read_tpm2b limit s place) (read_tpm2b other s place)
  unfolding read_tpm2b
  tpm2b_alike s place = then_alike (within Authorization (read_field 2 place s)) _ _ λ size. by size (leb size limit) refl _
    where
      by : (size : ℕ) (b : Bool) → leb size limit ≡ b → (rest : Said ℕ)
          → Alike (needs b (in_area Authorization (8 ∷ place ∷ limit ∷ size ∷ [])) rest) (needs (leb size other) (in_area Authorization (8 ∷ place ∷ other ∷ size ∷ [])) rest)
      by size true e rest = let few = leb-true size limit e in inl (rw (le-leb size other (omega arith)) refl)
      by size false e rest = inr (place, size, leb-false size limit e, refl)

  signed_alike : (handle : ℕ) (s : List ℕ) (place : ℕ) → Alike (read_signed limit handle s place) (read_signed other handle s place)
  unfolding read_signed
  signed_alike handle s place =
      both_alike (read_tpm2b limit s place) (read_tpm2b other s place) _ _ (tpm2b_alike s place) λ nonce.
      then_alike (within Authorization (read_field 1 (place + 2 + nonce) s)) _ _ λ attributes.
      both_alike (read_tpm2b limit s (place + 2 + nonce + 1)) (read_tpm2b other s (place + 2 + nonce + 1)) _ _
      (tpm2b_alike s (place + 2 + nonce + 1)) λ hmac. inl refl

  entry_alike : (width : ℕ) (s : List ℕ) (place : ℕ) → Alike (read_entry limit width s place) (read_entry other width s place)
  unfolding read_entry
  entry_alike width s place = then_alike (within Authorization (read_field width place s)) _ _ λ handle. signed_alike handle s (place + width)

  pub walk_alike : (k width : ℕ) (s : List ℕ) (place : ℕ) → Alike (walk limit k width s place) (walk other k width s place)
  unfolding walk
  walk_alike zero width s place = inl refl
  walk_alike (suc k) width s place =
      cond_alike (leb (length s) place) (gives [])
      (both_alike (read_entry limit width s place) (read_entry other width s place) _ _ (entry_alike width s place) λ e.
      both_alike (walk limit k width s (behind e)) (walk other k width s (behind e)) _ _ (walk_alike k width s (behind e)) λ es. inl refl)

-- ---- the Rust's limit is none: by every looser one bytes are read the same

pub same_then : {A B : Type 0} (x : Said A) (f g : A → Said B) → ((a : A) → x ≡ gives a → f a ≡ g a) → then x f ≡ then x g
same_then (gives a) f g h = h a refl
same_then (refuses why) f g h = refl

pub both_same : {A B : Type 0} (x y : Said A) (f g : A → Said B) → x ≡ y → ((a : A) → f a ≡ g a) → then x f ≡ then y g
both_same x y f g e h = ap (λ z. then z f) e ∙ same_then y f g (λ a read. h a)

module _ (other : ℕ) (looser : unlimited ≤ other) (s : List ℕ) (b : AreBytes s) where
  tpm2b_same : (place : ℕ) → read_tpm2b unlimited s place ≡ read_tpm2b other s place
  unfolding read_tpm2b
  tpm2b_same place =
      same_then (within Authorization (read_field 2 place s)) _ _ λ size read.
      let there = field_there_lem Authorization 2 place s (omega arith) (sym read) in
      let small = (field_sound 2 s place b (omega arith) (within_gives Authorization (read_field 2 place s) read)).1 in
      rw (le-leb size unlimited (omega arith), le-leb size other (omega arith)) refl

  signed_same : (handle place : ℕ) → read_signed unlimited handle s place ≡ read_signed other handle s place
  unfolding read_signed
  signed_same handle place =
      both_same (read_tpm2b unlimited s place) (read_tpm2b other s place) _ _ (tpm2b_same place) λ nonce.
      both_same (within Authorization (read_field 1 (place + 2 + nonce) s)) (within Authorization (read_field 1 (place + 2 + nonce) s)) _ _ refl λ attributes.
      both_same (read_tpm2b unlimited s (place + 2 + nonce + 1)) (read_tpm2b other s (place + 2 + nonce + 1)) _ _
      (tpm2b_same (place + 2 + nonce + 1)) λ hmac. refl

  entry_same : (width place : ℕ) → read_entry unlimited width s place ≡ read_entry other width s place
  unfolding read_entry
  entry_same width place =
      both_same (within Authorization (read_field width place s)) (within Authorization (read_field width place s)) _ _ refl λ handle. signed_same handle (place + width)

  pub walk_unlimited : (k width place : ℕ) → walk unlimited k width s place ≡ walk other k width s place
  unfolding walk
  walk_unlimited zero width place = refl
  walk_unlimited (suc k) width place =
      ap (cond (leb (length s) place) (gives []))
      (both_same (read_entry unlimited width s place) (read_entry other width s place) _ _ (entry_same width place) λ e.
      both_same (walk unlimited k width s (behind e)) (walk other k width s (behind e)) _ _ (walk_unlimited k width (behind e)) λ es. refl)
