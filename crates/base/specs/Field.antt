-- Reading and writing a number of w bytes at a place, and writing bytes: what is answered, and what the bytes are later. The refusals are those of
-- document 01 at a place: 1(place,w,left) for a read, 9(place,w,left) for a write, left counted from the place, 0 if none, in no area.
-- Assumes nothing: these are definitions.
use Rattle.std.specs.Prelude.{ℕ, ◌+◌, ◌-◌, List, [], ◌∷◌, ◌++◌, length, take, drop, leb}
use Rattle.base.specs.Bytes.{number, bytes}
use Rattle.base.specs.Said.{Said, gives, needs, no_area}

-- the bytes of a field
abbrev pub read_bytes : ℕ → ℕ → List ℕ → Said (List ℕ)
read_bytes w place s =
    needs (leb w (length s - place))
    (no_area (1 ∷ place ∷ w ∷ (length s - place) ∷ []))
    (gives (take w (drop place s)))

abbrev pub read_field : ℕ → ℕ → List ℕ → Said ℕ
read_field w place s =
    needs (leb w (length s - place)) (no_area (1 ∷ place ∷ w ∷ (length s - place) ∷ []))
    (gives (number (take w (drop place s))))

abbrev pub write_field : ℕ → ℕ → ℕ → List ℕ → Said (List ℕ)
write_field w place n s =
    needs (leb w (length s - place)) (no_area (9 ∷ place ∷ w ∷ (length s - place) ∷ []))
    (gives (take place s ++ (bytes w n ++ drop (place + w) s)))

-- some bytes at a place of others, which stay around it
abbrev pub laid : ℕ → List ℕ → List ℕ → List ℕ
laid place t s = take place s ++ (t ++ drop (place + length t) s)

abbrev pub write_bytes : ℕ → List ℕ → List ℕ → Said (List ℕ)
write_bytes place t s =
    needs (leb (length t) (length s - place)) (no_area (9 ∷ place ∷ length t ∷ (length s - place) ∷ []))
    (gives (laid place t s))
