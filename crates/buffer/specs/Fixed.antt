-- The fixed buffer (document 01, "Buffers"): a size and the room that the bytes held stand at the start of. Over any capacity.
-- Assumes nothing: these are definitions.
use Rattle.std.specs.Prelude.{ℕ, ◌+◌, ◌-◌, Bool, true, false, ◌&&◌, List, [], ◌∷◌, ◌++◌, eqb, leb, length, take, drop, replicate}
use Rattle.base.specs.Said.{no_area, Said, gives, after, needs, then}
use Rattle.base.specs.Tpm2b.{tpm2b}
use Rattle.buffer.specs.View.{prefix}

pub record Buffer : Type 0 where
  pub size : ℕ
  pub room : List ℕ

abbrev pub buffer : ℕ → List ℕ → Buffer
buffer size room = record { size = size; room = room }

-- the bytes held
abbrev pub held : Buffer → List ℕ
held b = take b.size b.room

-- a new buffer is empty, and its room is zeros
abbrev pub new : ℕ → Buffer
new capacity = record { size = 0; room = replicate capacity 0 }

-- every call first judges the record
abbrev pub judged : {A : Type 0} → ℕ → ℕ → Said A → Said A
judged capacity size rest = needs (leb size capacity) (no_area (8 ∷ 0 ∷ capacity ∷ size ∷ [])) rest

-- the size after so many bytes more
unfoldable pub grown : ℕ → ℕ → ℕ → Said ℕ
grown capacity size count =
    judged capacity size
    (needs (leb count (capacity - size)) (no_area (9 ∷ size ∷ count ∷ (capacity - size) ∷ []))
    (gives (size + count)))

-- the buffer with the bytes given behind those held; what stands behind them stays
abbrev pub put : List ℕ → Buffer → ℕ → Buffer
put given b n = record { size = n; room = take b.size b.room ++ (given ++ drop n b.room) }

unfoldable pub extended : ℕ → List ℕ → Buffer → Said Buffer
extended capacity given b = then (grown capacity b.size (length given)) λ n. gives (put given b n)

-- of a call on a record whose room is lent: the size that it answers, and the room later, as it was where refused
abbrev pub size_said : Said Buffer → Said ℕ
size_said said = then said λ b. gives b.size

abbrev pub room_after : List ℕ → Said Buffer → List ℕ
room_after old said = after old (then said λ b. gives b.room)

-- the bytes that a TPM2B takes
unfoldable pub wire_length : ℕ → ℕ → Said ℕ
wire_length capacity size = judged capacity size (gives (2 + size))

-- some bytes at the start of lent room, the rest of which stays
abbrev pub over : List ℕ → List ℕ → List ℕ
over t lent = t ++ drop (length t) lent

-- the bytes t of a record of that size, written to lent room
unfoldable pub emitted : ℕ → ℕ → List ℕ → List ℕ → Said (List ℕ)
emitted capacity size t lent =
    judged capacity size
    (needs (leb (length t) (length lent)) (no_area (9 ∷ 0 ∷ length t ∷ length lent ∷ []))
    (gives (over t lent)))

abbrev pub copied : ℕ → Buffer → List ℕ → Said (List ℕ)
copied capacity b lent = emitted capacity b.size (held b) lent

-- a buffer goes out as the TPM2B of the bytes held
abbrev pub wire : Buffer → List ℕ
wire b = tpm2b (held b)

abbrev pub marshalled : ℕ → Buffer → List ℕ → Said (List ℕ)
marshalled capacity b lent = emitted capacity b.size (wire b) lent

-- a call that writes answers how much it wrote
abbrev pub count : {A : Type 0} → ℕ → Said A → Said ℕ
count n said = then said λ t. gives n

-- equality is of the bytes held
abbrev pub same_bytes : List ℕ → List ℕ → Bool
same_bytes [] [] = true
same_bytes [] (y ∷ t) = false
same_bytes (x ∷ s) [] = false
same_bytes (x ∷ s) (y ∷ t) = eqb x y && same_bytes s t

unfoldable pub equal : ℕ → Buffer → Buffer → Said Bool
equal capacity a b = judged capacity a.size (judged capacity b.size (gives (same_bytes (held a) (held b))))

-- the buffer of the TPM2B at the start of some bytes, read as the view reads it
unfoldable pub unmarshalled : ℕ → List ℕ → Said Buffer
unmarshalled capacity s = then (prefix capacity s) λ n. gives (put (take (n - 2) (drop 2 s)) (new capacity) (n - 2))
