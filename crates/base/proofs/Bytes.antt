-- The laws between a number and its bytes, at every width: each is the other's inverse.
-- Assumes nothing.
use mathlib.Core.Path.{◌≡◌, refl, sym, ◌∙◌, ap}
use mathlib.Core.List.{List, [], ◌∷◌, ◌++◌}
use Prim.Native.Nat.{ℕ, zero, suc, ◌+◌, ◌*◌, ◌/◌, ◌%◌, ◌^◌, ◌<◌}
use native.Mathlib.Nat.{pow-suc, pow-succ', mod-eq_of_lt, mod-lt, mul_assoc, mul-add-div_right, mul-add-mod_self_right}
use native.Mathlib.Omega.{arith}
use lib.Arith.{digits_lt, digits_div, mod-mul}
use lib.ListN.{length, get_or, take, drop}
use mir.Syntax.{w16, w32}
use Rattle.std.specs.Int.{from_be_bytes, to_be_bytes}
use Rattle.base.specs.Bytes.{AreBytes, number, bytes}

-- ---- lists of bytes

pub are_bytes : (s : List ℕ) → ((i : ℕ) → get_or s i 0 < 256) → AreBytes s
are_bytes [] h = tt
are_bytes (b ∷ s) h = (h 0, are_bytes s (λ i. h (suc i)))

pub are_bytes_append : (s t : List ℕ) → AreBytes s → AreBytes t → AreBytes (s ++ t)
are_bytes_append [] t p q = q
are_bytes_append (b ∷ s) t p q = (p.0, are_bytes_append s t p.1 q)

pub are_bytes_take : (n : ℕ) (s : List ℕ) → AreBytes s → AreBytes (take n s)
are_bytes_take zero s p = tt
are_bytes_take (suc n) [] p = tt
are_bytes_take (suc n) (b ∷ s) p = (p.0, are_bytes_take n s p.1)

pub are_bytes_drop : (n : ℕ) (s : List ℕ) → AreBytes s → AreBytes (drop n s)
are_bytes_drop zero s p = p
are_bytes_drop (suc n) [] p = tt
are_bytes_drop (suc n) (b ∷ s) p = are_bytes_drop n s p.1

-- ---- a number of w bytes

pow_pos : (w : ℕ) → zero < 256 ^ w
pow_pos zero = omega arith
pow_pos (suc w) = rw pow-suc (let h = pow_pos w in omega arith)

pub length_bytes : (w n : ℕ) → length (bytes w n) ≡ w
unfolding bytes
length_bytes zero n = refl
length_bytes (suc w) n = ap suc (length_bytes w n)

pub bytes_are_bytes : (w n : ℕ) → AreBytes (bytes w n)
unfolding bytes
bytes_are_bytes zero n = tt
bytes_are_bytes (suc w) n = (mod-lt (n / 256 ^ w) (omega arith), bytes_are_bytes w n)

-- w bytes hold a number modulo 256 ^ w
number_mod : (w n : ℕ) → number (bytes w n) ≡ n % 256 ^ w
unfolding number bytes
number_mod zero n = omega arith
number_mod (suc w) n =
    let step : (n / 256 ^ w) % 256 * 256 ^ length (bytes w n) + number (bytes w n) ≡ n % 256 ^ suc w =
    rw (length_bytes, number_mod w n, pow-succ') (sym (mod-mul n (omega arith) (pow_pos w))) in
    step

pub number_bytes : (w n : ℕ) → n < 256 ^ w → number (bytes w n) ≡ n
number_bytes w n h = number_mod w n ∙ mod-eq_of_lt h

-- ---- the number of some bytes

pub number_lt : (s : List ℕ) → AreBytes s → number s < 256 ^ length s
unfolding number
number_lt [] p = omega arith
number_lt (b ∷ s) p = rw pow-succ' (digits_lt p.0 (number_lt s p.1))

-- what stands above w bytes does not show in them
bytes_above : (w q n : ℕ) → bytes w (q * 256 ^ w + n) ≡ bytes w n
unfolding bytes
bytes_above zero q n = refl
bytes_above (suc w) q n =
    let same : q * 256 ^ suc w + n ≡ (q * 256) * 256 ^ w + n = rw (pow-succ', mul_assoc) in
    let digit : ((q * 256) * 256 ^ w + n) / 256 ^ w % 256 ≡ n / 256 ^ w % 256 =
    rw (mul-add-div_right (pow_pos w) (q * 256) n) (mul-add-mod_self_right q 256 (n / 256 ^ w)) in
    ap (bytes (suc w)) same ∙ (λ i. digit i ∷ bytes_above w (q * 256) n i)

pub bytes_number : (s : List ℕ) → AreBytes s → bytes (length s) (number s) ≡ s
unfolding number bytes
bytes_number [] p = refl
bytes_number (b ∷ s) p =
    let k : ℕ = length s in
    let digit : (b * 256 ^ k + number s) / 256 ^ k % 256 ≡ b = rw (digits_div b (number_lt s p.1)) (mod-eq_of_lt p.0) in
    λ i. digit i ∷ (bytes_above k b (number s) ∙ bytes_number s p.1) i

-- the widths of the code, digit by digit
pub one_byte : (n : ℕ) → n < 256 → n ∷ [] ≡ bytes 1 n
unfolding bytes
one_byte n h =
    let p : n ≡ (n / 1) % 256 = omega arith in
    λ i. p i ∷ []

pub four_bytes : (n : ℕ) → n < 4294967296 → n / 16777216 ∷ n / 65536 % 256 ∷ n / 256 % 256 ∷ n % 256 ∷ [] ≡ bytes 4 n
unfolding bytes
four_bytes n h =
    let p : n / 16777216 ≡ (n / 16777216) % 256 = omega arith in
    let q : n % 256 ≡ (n / 1) % 256 = omega arith in
    λ i. p i ∷ n / 65536 % 256 ∷ n / 256 % 256 ∷ q i ∷ []

-- the library's words for the same
pub two_big_endian : (n : ℕ) → to_be_bytes w16 n ≡ bytes 2 n
unfolding bytes
two_big_endian n =
    let q : n % 256 ≡ (n / 1) % 256 = omega arith in
    λ i. n / 256 % 256 ∷ q i ∷ []

pub four_big_endian : (n : ℕ) → to_be_bytes w32 n ≡ bytes 4 n
unfolding bytes
four_big_endian n =
    let q : n % 256 ≡ (n / 1) % 256 = omega arith in
    λ i. n / 16777216 % 256 ∷ n / 65536 % 256 ∷ n / 256 % 256 ∷ q i ∷ []

pub two_number : (a b : ℕ) → from_be_bytes w16 (a ∷ b ∷ []) ≡ number (a ∷ b ∷ [])
unfolding number
two_number a b = omega arith

pub four_number : (a b c d : ℕ) → from_be_bytes w32 (a ∷ b ∷ c ∷ d ∷ []) ≡ number (a ∷ b ∷ c ∷ d ∷ [])
unfolding number
four_number a b c d = omega arith
