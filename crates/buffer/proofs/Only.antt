-- What a call on a TPM2B or on a fixed buffer is refused by, whatever the capacity and the bytes: 1, 2, 8 or 9, in no area (document 02, W2), so never 7 (W7).
-- Assumes nothing.
use mathlib.Core.Path.{refl}
use mathlib.Core.List.{List, [], ◌∷◌}
use Prim.Native.Nat.{ℕ, ◌-◌}
use lib.Dec.{leb}
use lib.ListN.{length}
use Rattle.base.specs.Said.{Why, Said, Only, NoFrame}
use Rattle.base.proofs.Only.{by_gives, by_needs, by_then, by_step, no_frame}
use Rattle.buffer.specs.Fixed.{Buffer, judged, grown, extended, wire_length, emitted, equal, unmarshalled}
use Rattle.buffer.specs.View.{read_size, prefix, whole, data_range, is_empty}

abbrev pub OfBuffer : Why → Type 0
OfBuffer = NoFrame (1 ∷ 2 ∷ 8 ∷ 9 ∷ [])

-- ---- the view

module _ (s : List ℕ) where
  pub only_size : Only OfBuffer (read_size s)
  unfolding read_size
  only_size = by_needs (leb 2 (length s)) _ (no_frame refl) by_gives

  pub only_data : Only OfBuffer (data_range s)
  unfolding data_range
  only_data = by_step _ only_size

  pub only_empty : Only OfBuffer (is_empty s)
  unfolding is_empty
  only_empty = by_step _ only_size

  module _ (capacity : ℕ) where
    pub only_prefix : Only OfBuffer (prefix capacity s)
    unfolding prefix
    only_prefix =
        by_then only_size λ size.
        by_needs (leb size capacity) _ (no_frame refl)
        (by_needs (leb size (length s - 2)) _ (no_frame refl) by_gives)

    pub only_whole : Only OfBuffer (whole capacity s)
    unfolding whole
    only_whole = by_then only_prefix (λ n. by_needs (leb (length s) n) _ (no_frame refl) by_gives)

    pub only_unmarshalled : Only OfBuffer (unmarshalled capacity s)
    unfolding unmarshalled
    only_unmarshalled = by_step _ only_prefix

-- ---- the fixed buffer

module _ (capacity : ℕ) where
  by_judged : {A : Type 0} (size : ℕ) {rest : Said A} → Only OfBuffer rest → Only OfBuffer (judged capacity size rest)
  by_judged size p = by_needs (leb size capacity) _ (no_frame refl) p

  pub only_grown : (size count : ℕ) → Only OfBuffer (grown capacity size count)
  unfolding grown
  only_grown size count = by_judged size (by_needs (leb count (capacity - size)) _ (no_frame refl) by_gives)

  pub only_extended : (given : List ℕ) (b : Buffer) → Only OfBuffer (extended capacity given b)
  unfolding extended
  only_extended given b = by_step _ (only_grown b.size (length given))

  pub only_wire_length : (size : ℕ) → Only OfBuffer (wire_length capacity size)
  unfolding wire_length
  only_wire_length size = by_judged size by_gives

  -- the bytes held, and the TPM2B of them
  pub only_emitted : (size : ℕ) (t lent : List ℕ) → Only OfBuffer (emitted capacity size t lent)
  unfolding emitted
  only_emitted size t lent = by_judged size (by_needs (leb (length t) (length lent)) _ (no_frame refl) by_gives)

  pub only_equal : (a b : Buffer) → Only OfBuffer (equal capacity a b)
  unfolding equal
  only_equal a b = by_judged a.size (by_judged b.size by_gives)
