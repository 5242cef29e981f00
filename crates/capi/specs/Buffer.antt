-- What goes out of a fixed buffer: its size as a number, and its room into the room that was lent.
-- Assumes nothing: these are definitions.
use Rattle.std.specs.Prelude.{ℕ, ◌-◌, List, [], ◌∷◌}
use Rattle.buffer.specs.Fixed.{Buffer}

abbrev pub size_alone : Buffer → List ℕ
size_alone b = b.size ∷ []

-- of a TPM2B that took n bytes, the size and n
abbrev pub size_and_wire : ℕ → List ℕ
size_and_wire n = (n - 2) ∷ n ∷ []
