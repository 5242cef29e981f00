-- The known codes as bits in 37 words: the bit of each code below 2,368 says whether the code is known, and no known code stands above.
-- One test is computed over the words, and one over the list of known codes.
-- Assumes nothing.
use mathlib.Core.Path.{◌≡◌, refl}
use mathlib.Core.Bool.{Bool, true, false, beq}
use mathlib.Core.List.{List, [], ◌∷◌}
use Prim.Native.Nat.{ℕ, ◌/◌, ◌%◌, ◌^◌, ◌≤◌, ◌<◌}
use native.Mathlib.Omega.{arith}
use borrow.Author.Tests.{ltb-true}
use lib.Dec.{eqb, ltb}
use lib.ListN.{get_or}
use Rattle.base.proofs.Tables.{below, at_below, every, at_member, agree}
use Rattle.rc.specs.Known.{known_codes, is_known}

abbrev words : List ℕ
words =
    0x0000_0000_4000_0001 ∷ 0 ∷ 0x0003_03ff_bde5_ffbe ∷ 0 ∷ 0x0003_e1f3_0200_080b ∷ 0x0000_0000_007f_1ffc ∷ 0 ∷ 0 ∷ 0 ∷ 0 ∷ 0 ∷ 0 ∷
    0 ∷ 0 ∷ 0 ∷ 0 ∷ 0 ∷ 0 ∷ 0 ∷ 0 ∷ 0 ∷ 0 ∷ 0 ∷ 0 ∷
    0 ∷ 0 ∷ 0 ∷ 0 ∷ 0 ∷ 0 ∷ 0 ∷ 0 ∷ 0 ∷ 0 ∷ 0 ∷ 0 ∷
    0x0000_000f_7f7f_07fe ∷ []

abbrev pub bit_at : ℕ → Bool
bit_at code = eqb (get_or words (code / 64) 0 / 2 ^ (code % 64) % 2) 1

every_bit : below (λ (code : ℕ). beq (bit_at code) (is_known code)) 2368 ≡ true
unfolding is_known known_codes
every_bit = refl

pub bit_known : (code : ℕ) → code < 2368 → bit_at code ≡ is_known code
bit_known code h = agree (bit_at code) (is_known code) (at_below (λ (k : ℕ). beq (bit_at k) (is_known k)) 2368 every_bit code h)

every_code : every (λ (code : ℕ). ltb code 2368) known_codes ≡ true
unfolding known_codes
every_code = refl

pub known_below : (code : ℕ) → is_known code ≡ true → code < 2368
unfolding is_known
known_below code e = ltb-true code 2368 (at_member (λ (k : ℕ). ltb k 2368) known_codes every_code code e)

pub not_known : (code : ℕ) → 2368 ≤ code → false ≡ is_known code
not_known code h = by (is_known code) refl
  where
    by : (t : Bool) → is_known code ≡ t → false ≡ t
    by true e = absurd (let low = known_below code e in omega arith)
    by false e = refl
