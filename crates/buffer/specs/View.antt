-- The TPM2B view (document 01, "Buffers"; Part 1, TPM2B).
-- Assumes nothing: these are definitions.
use Rattle.std.specs.Prelude.{ℕ, ◌+◌, ◌-◌, Bool, List, [], ◌∷◌, eqb, leb, length, take}
use Rattle.base.specs.Answer.{Part}
use Rattle.base.specs.Bytes.{number}
use Rattle.base.specs.Said.{no_area, Said, gives, needs, then}

-- the size field
abbrev pub size_of : List ℕ → ℕ
size_of s = number (take 2 s)

unfoldable pub read_size : List ℕ → Said ℕ
read_size s = needs (leb 2 (length s)) (no_area (1 ∷ 0 ∷ 2 ∷ length s ∷ [])) (gives (size_of s))

-- the bytes that a TPM2B at the start takes: its length field and its data
unfoldable pub prefix : ℕ → List ℕ → Said ℕ
prefix capacity s =
    then (read_size s) λ size.
    needs (leb size capacity) (no_area (8 ∷ 0 ∷ capacity ∷ size ∷ []))
    (needs (leb size (length s - 2)) (no_area (1 ∷ 2 ∷ size ∷ (length s - 2) ∷ []))
    (gives (2 + size)))

-- a whole read leaves nothing behind it
unfoldable pub whole : ℕ → List ℕ → Said ℕ
whole capacity s = then (prefix capacity s) λ n. needs (leb (length s) n) (no_area (2 ∷ n ∷ (length s - n) ∷ [])) (gives n)

-- the data is all bytes behind the length field, whatever that says
unfoldable pub data_range : List ℕ → Said Part
data_range s = then (read_size s) λ size. gives (record { from = 2; to = length s })

unfoldable pub is_empty : List ℕ → Said Bool
is_empty s = then (read_size s) λ size. gives (eqb size 0)
