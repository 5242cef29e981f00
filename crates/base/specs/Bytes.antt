-- A number and the bytes that stand for it on the bus (Part 1, data layout: numbers are big-endian).
-- Assumes nothing: these are definitions.
use Rattle.std.specs.Prelude.{ℕ, zero, suc, ◌+◌, ◌*◌, ◌/◌, ◌%◌, ◌^◌, ◌<◌, List, [], ◌∷◌, length}

-- a list of bytes: each is below 256
abbrev pub AreBytes : List ℕ → Type 0
AreBytes [] = Unit {0}
AreBytes (b ∷ s) = (b < 256) × AreBytes s

-- the number that bytes stand for, the first byte weighing most
unfoldable pub number : List ℕ → ℕ
number [] = 0
number (b ∷ s) = b * 256 ^ length s + number s

-- the w bytes that stand for a number below 256 ^ w
unfoldable pub bytes : ℕ → ℕ → List ℕ
bytes zero n = []
bytes (suc w) n = (n / 256 ^ w) % 256 ∷ bytes w n
