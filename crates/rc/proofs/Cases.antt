-- The cases of the reading of a code, each from the tests that lead to it.
-- Assumes nothing.
use mathlib.Core.Path.{◌≡◌}
use mathlib.Core.Bool.{true}
use Prim.Native.Nat.{ℕ, ◌+◌, ◌-◌, ◌/◌, ◌%◌, ◌≤◌, ◌<◌}
use native.Mathlib.Omega.{arith}
use borrow.Author.Tests.{lt-ltb, le-ltb, eq-eqb, ne_eqb}
use Rattle.base.specs.Said.{gives}
use Rattle.rc.specs.declared.code.Code.TheVariants.{Fmt1, Parameter, Handle, Session}
use Rattle.rc.specs.Known.{is_known}
use Rattle.rc.specs.Code.{bit, base, read_index, read_fmt1, read_code}

module _ (value : ℕ) where
  pub format_one : bit 128 value ≡ true → read_fmt1 value ≡ read_code value
  unfolding read_code
  format_one t = simp t

  pub fmt1_open : value < 4096 → is_known (128 + value % 64) ≡ true
      → read_fmt1 value ≡ read_index value (128 + value % 64) (bit 64 value) (value / 256 % 16)
  unfolding read_fmt1
  fmt1_open h k = simp (lt-ltb value 4096 h, k)

  module _ (b n : ℕ) where
    pub parameter : value / 64 % 2 ≡ 1 → (n ≡ 0 → ⊥) → gives (Parameter (base b) n) ≡ read_index value b (bit 64 value) n
    unfolding read_index
    parameter t z = simp (eq-eqb (value / 64 % 2) 1 t, lt-ltb 0 n (omega arith))

    pub no_index : (value / 64 % 2 ≡ 1 → ⊥) → n ≡ 0 → gives (Fmt1 (base b)) ≡ read_index value b (bit 64 value) n
    unfolding read_index
    no_index t z = simp (ne_eqb (value / 64 % 2) 1 t, eq-eqb n 0 z)

    pub handle : (value / 64 % 2 ≡ 1 → ⊥) → (n ≡ 0 → ⊥) → n < 8 → gives (Handle (base b) n) ≡ read_index value b (bit 64 value) n
    unfolding read_index
    handle t z h = simp (ne_eqb (value / 64 % 2) 1 t, ne_eqb n 0 z, lt-ltb n 8 h)

    pub session : (value / 64 % 2 ≡ 1 → ⊥) → (n ≡ 0 → ⊥) → 8 ≤ n → gives (Session (base b) (n - 8)) ≡ read_index value b (bit 64 value) n
    unfolding read_index
    session t z h = simp (ne_eqb (value / 64 % 2) 1 t, ne_eqb n 0 z, le-ltb n 8 h)
