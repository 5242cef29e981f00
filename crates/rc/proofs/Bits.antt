-- A mask of one bit: what a value and the mask share is that bit.
-- Assumes nothing.
use mathlib.Core.Path.{◌≡◌, sym, ◌∙◌, ap, subst}
use Prim.Native.Nat.{ℕ, ◌+◌, ◌-◌, ◌*◌, ◌/◌, ◌%◌, ◌^◌}
use native.Mathlib.Omega.{arith}
use lib.Bits.{bit_and}
use Rattle.std.proofs.lemmas.Nat.{pow-add}
use Rattle.std.proofs.lemmas.Nat.Bits.{and_high}
use Rattle.std.proofs.lemmas.Grind.{low_zeros}

at_bit : (value k : ℕ) → bit_and value (2 ^ k) ≡ value / 2 ^ k % 2 * 2 ^ k
at_bit value k =
    let one : 2 ^ (1 + k) - 2 ^ k ≡ 2 ^ k = omega (arith, pow-add 2 1 k) in
    ap (bit_and value) (sym one) ∙ and_high value 1 k

pub masked : (value mask : ℕ) → mask ≡ 2 ^ low_zeros 128 mask → bit_and value mask ≡ value / mask % 2 * mask
masked value mask e = subst (λ (m : ℕ). bit_and value m ≡ value / m % 2 * m) (sym e) (at_bit value (low_zeros 128 mask))
