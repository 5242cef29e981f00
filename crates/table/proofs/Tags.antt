-- The tags as bits, which no function's proof goes by: from 0x8000 on a bit can tell each tag that TpmSt has.
-- Assumes nothing.
use mathlib.Core.Path.{◌≡◌}
use mathlib.Core.Bool.{Bool, true, beq}
use Prim.Native.Nat.{ℕ, ◌+◌, ◌-◌, ◌/◌, ◌%◌, ◌^◌, ◌≤◌, ◌<◌}
use native.Mathlib.Omega.{arith}
use lib.Dec.{eqb}
use Rattle.base.specs.Members.{is_in}
use Rattle.base.proofs.Tables.{below, at_below, agree}
use Rattle.table.specs.Tags.{tags}

abbrev bit_at : ℕ → ℕ → Bool
bit_at bits k = eqb (bits / 2 ^ k % 2) 1

abbrev are_tags : ℕ → ℕ → Bool
are_tags bits k = beq (bit_at bits k) (is_in (0x8000 + k) tags)

-- bits that agree with the tags at every place tell of each tag there whether TpmSt has it
pub bit_known : (bits tag : ℕ) → 0x8000 ≤ tag → tag < 0x8040 → below (are_tags bits) 64 ≡ true → bit_at bits (tag - 0x8000) ≡ is_in tag tags
bit_known bits tag h l e =
    let place : 0x8000 + (tag - 0x8000) ≡ tag = omega arith in
    rw place at (agree (bit_at bits (tag - 0x8000)) (is_in (0x8000 + (tag - 0x8000)) tags)
    (at_below (are_tags bits) 64 e (tag - 0x8000) (omega arith)))
