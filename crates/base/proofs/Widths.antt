-- What every width of field shares: each law is over the width w, and the proofs of the functions cite it.
-- Assumes nothing.
use mathlib.Core.Path.{◌≡◌, refl, sym, ◌∙◌, ap}
use mathlib.Core.List.{List, [], ◌∷◌}
use Prim.Native.Nat.{ℕ, ◌+◌, ◌-◌, ◌≤◌, ◌<◌}
use native.Mathlib.Omega.{arith}
use borrow.Author.Tests.{le-leb, leb-true, lt-leb}
use lib.Dec.{leb}
use lib.ListN.{length, take, drop}
use lib.Seq.{take_at}
use Rattle.base.specs.declared.error.Area.{Area}
use Rattle.base.specs.Bytes.{number, bytes}
use Rattle.base.specs.Said.{after, done, in_area, gives, refuses, within}
use Rattle.base.specs.Field.{read_bytes, read_field, write_field, laid, write_bytes}
use Rattle.base.proofs.Bytes.{length_bytes}
use Rattle.base.proofs.Checks.{done_gives, gives_injective, needs_gives, within_gives}
use Rattle.base.proofs.Lists.{span, take_drop_span}

module _ (w place : ℕ) (s : List ℕ) where
  pub read_short : (area : Area) (left : ℕ) → left ≡ length s - place → left < w → refuses (in_area area (1 ∷ place ∷ w ∷ left ∷ [])) ≡ within area (read_field w place s)
  read_short area left e h = simp (lt-leb w (length s - place) (omega arith)) (ap (λ (k : ℕ). refuses (in_area area (1 ∷ place ∷ w ∷ k ∷ []))) e)

  pub read_whole : (area : Area) → w ≤ length s - place → gives (number (span s place w)) ≡ within area (read_field w place s)
  read_whole area h = simp (le-leb w (length s - place) h) (ap (λ (t : List ℕ). gives (number t)) (sym (take_drop_span w place s h)))

  -- the number of the bytes that were read
  pub read_number : (area : Area) (t : List ℕ) (n : ℕ) → (t ≡ span s place w → n ≡ number (span s place w))
      → gives t ≡ within area (read_bytes w place s) → gives n ≡ within area (read_field w place s)
  read_number area t n e p =
      let read = needs_gives (leb w (length s - place)) _ (gives (take w (drop place s))) (within_gives area (read_bytes w place s) (sym p)) in
      let there : w ≤ length s - place = leb-true w (length s - place) read.0 in
      let is : t ≡ span s place w = sym (gives_injective read.1) ∙ take_drop_span w place s there in
      ap gives (e is) ∙ read_whole area there

  pub write_number : (n : ℕ) (t : List ℕ) → t ≡ bytes w n → write_bytes place t s ≡ write_field w place n s
  write_number n t e = ap (λ (u : List ℕ). write_bytes place u s) e ∙ rw length_bytes refl

-- bytes whose writing was not refused are there
pub written : (place : ℕ) (t s : List ℕ) {later : List ℕ} → gives tt ≡ done (write_bytes place t s) → later ≡ after s (write_bytes place t s) → later ≡ laid place t s
written place t s e l =
    let wrote = done_gives (write_bytes place t s) e in
    let is = needs_gives (leb (length t) (length s - place)) _ (gives (laid place t s)) (sym wrote.1) in
    l ∙ ap (after s) (sym wrote.1) ∙ sym (gives_injective is.1)

-- where there is room for them, they are put there
pub bytes_put : (place : ℕ) (t s : List ℕ) {later : List ℕ} → length t ≤ length s - place → later ≡ after s (write_bytes place t s) → later ≡ laid place t s
bytes_put place t s h e = rw (le-leb (length t) (length s - place) h) at e

-- bytes that were put at the start of others are found there
pub through : (t s : List ℕ) {later : List ℕ} → later ≡ laid 0 t s → take (length t) later ≡ t
through t s e = ap (take (length t)) e ∙ take_at t (drop (0 + length t) s) (length t) refl
