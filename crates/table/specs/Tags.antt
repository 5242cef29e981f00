-- The tags of Part 2's TPM_ST, as the crate's TpmSt has them.
-- Assumes nothing: these are definitions.
use Rattle.std.specs.Prelude.{ℕ, List, [], ◌∷◌}

unfoldable pub tags : List ℕ
tags =
    0xc4 ∷ 0x8000 ∷ 0x8001 ∷ 0x8002 ∷ 0x8014 ∷ 0x8015 ∷ 0x8016 ∷ 0x8017 ∷ 0x8018 ∷ 0x8019 ∷ 0x801a ∷ 0x801c ∷
    0x8021 ∷ 0x8022 ∷ 0x8023 ∷ 0x8024 ∷ 0x8025 ∷ []
