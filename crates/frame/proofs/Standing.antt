-- Numbers and parts of a frame that stand at a place: what stands there is read there, and what is read there stands there.
-- Assumes nothing.
use mathlib.Core.Path.{◌≡◌, refl, sym, ◌∙◌, ap}
use mathlib.Core.List.{List, [], ◌∷◌, ◌++◌}
use Prim.Native.Nat.{ℕ, suc, ◌+◌, ◌-◌, ◌^◌, ◌≤◌, ◌<◌}
use native.Mathlib.Omega.{arith}
use borrow.Author.Tests.{le-leb}
use lib.ListN.{length, length-take, take, drop}
use Rattle.base.specs.Bytes.{AreBytes, number, bytes}
use Rattle.base.proofs.Bytes.{length_bytes, number_bytes}
use Rattle.base.proofs.Places.{At, at_first, at_second, at_both, at_read, length_read, read_within}
use Rattle.frame.specs.declared.session.Session.{Session}
use Rattle.frame.specs.Parts.{between, entries_in}
use Rattle.frame.proofs.EntryLaws.{field_sound}

-- ---- numbers at a place

module _ (s : List ℕ) where
  -- a number that stands at a place is read there, and what is read stands there
  pub number_at : (w place n : ℕ) → n < 256 ^ w → At s place (bytes w n) → number (take w (drop place s)) ≡ n
  number_at w place n h a =
      ap (λ (k : ℕ). number (take k (drop place s))) (sym (length_bytes w n)) ∙ ap number a.there ∙ number_bytes w n h

  pub bytes_at : (w place : ℕ) → AreBytes s → place + w ≤ length s
      → At s place (bytes w (number (take w (drop place s)))) × (number (take w (drop place s)) < 256 ^ w)
  bytes_at w place p h = field_sound w s place p (omega arith) (simp (le-leb w (length s - place) (omega arith)))

-- ---- bytes one behind the other, by the length of the first

module _ {s : List ℕ} {place : ℕ} (n : ℕ) where
  pub at_join : {x y : List ℕ} → length x ≡ n → At s place x → At s (place + n) y → At s place (x ++ y)
  at_join e a b = at_both a (rw e b)

  pub at_split : (x y : List ℕ) → length x ≡ n → At s place (x ++ y) → At s place x × At s (place + n) y
  at_split x y e a = (at_first x y a, rw e at (at_second x y a))

-- ---- parts between two places

-- what stands between two places is what is read there, and the other way round
pub between_at : {s x : List ℕ} {from : ℕ} (to : ℕ) → At s from x → from + length x ≡ to → between from to s ≡ x
between_at {s} {x} {from} to a e =
    let long : to - from ≡ length x = omega arith in
    rw long a.there

pub at_between : (s : List ℕ) (from to : ℕ) → from ≤ to → to ≤ length s
    → At s from (between from to s) × (from + length (between from to s) ≡ to)
at_between s from to h k =
    let inside : from + (to - from) ≤ length s = omega arith in
    let long = length_read s from (to - from) inside in
    (at_read s from (to - from) inside, omega arith)

-- what stands within the first n bytes stands in all of them, and the other way round
pub at_within : (n : ℕ) (s : List ℕ) {x : List ℕ} {place : ℕ} → At (take n s) place x → At s place x
at_within n s {x} {place} a =
    let inside = a.inside in
    let short = length-take n s in
    record { inside = omega arith; there = sym (read_within n s place (length x) inside) ∙ a.there }

pub at_inside : (n : ℕ) (s : List ℕ) {x : List ℕ} {place : ℕ} → place + length x ≤ length (take n s) → At s place x → At (take n s) place x
at_inside n s {x} {place} h a = record { inside = h; there = read_within n s place (length x) h ∙ a.there }

-- as many entries as were told
pub length_entries : (s : List ℕ) (es : List Session) → length (entries_in s es) ≡ length es
length_entries s [] = refl
length_entries s (e ∷ es) = ap suc (length_entries s es)
