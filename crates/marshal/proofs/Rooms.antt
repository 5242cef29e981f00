-- Bytes laid at a place of others, one behind the other: how a frame is put together in lent room.
-- Assumes nothing.
use mathlib.Core.Path.{◌≡◌, refl, sym, ◌∙◌, ap}
use mathlib.Core.List.{List, [], ◌∷◌, ◌++◌, append_assoc}
use Prim.Native.Nat.{ℕ, ◌+◌, ◌≤◌, ◌<◌}
use native.Mathlib.Nat.{zero-add}
use native.Mathlib.Numerals.{add-one}
use native.Mathlib.Omega.{arith}
use lib.ListN.{length, take, drop, set, length-append}
use lib.Seq.{take_at, drop-drop, length-take-le, drop-append-add, set_split}
use mir.Syntax.{w16, w32}
use Rattle.std.specs.Int.{to_be_bytes}
use Rattle.base.specs.Bytes.{bytes}
use Rattle.base.specs.Field.{laid}
use Rattle.base.proofs.Bytes.{two_big_endian, four_big_endian}
use Rattle.base.proofs.Laid.{length_laid}
use Rattle.marshal.specs.Laid.{Puts}

-- what is laid behind what was laid is laid with it
pub laid_next : (place : ℕ) (x y s : List ℕ) {later : ℕ} → later ≡ place + length x → place + length x + length y ≤ length s
    → laid later y (laid place x s) ≡ laid place (x ++ y) s
laid_next place x y s {later} e h =
    let front : List ℕ = take place s ++ x in
    let behind : List ℕ = drop (place + length x) s in
    let long : length front ≡ later = length-append (take place s) x ∙ ap (λ (n : ℕ). n + length x) (length-take-le place s (omega arith)) ∙ sym e in
    let whole : place + length x + length y ≡ place + length (x ++ y) = rw length-append (omega arith) in
    let joined : laid place x s ≡ front ++ behind = sym (append_assoc (take place s) x behind) in
    let first : take later (front ++ behind) ≡ front = take_at front behind later long in
    let last : drop (later + length y) (front ++ behind) ≡ drop (place + length (x ++ y)) s =
    ap (λ (n : ℕ). drop (n + length y) (front ++ behind)) (sym long)
    ∙ drop-append-add front behind (length y)
    ∙ drop-drop (length y) (place + length x) s
    ∙ ap (λ (n : ℕ). drop n s) whole in
    rw joined
    ((λ i. first i ++ (y ++ last i))
    ∙ append_assoc (take place s) x (y ++ drop (place + length (x ++ y)) s)
    ∙ ap (λ (t : List ℕ). take place s ++ t) (sym (append_assoc x y (drop (place + length (x ++ y)) s))))

-- at the start it is the bytes and what is behind them
pub laid_start : (t s : List ℕ) → laid 0 t s ≡ t ++ drop (length t) s
laid_start t s = ap (λ (n : ℕ). t ++ drop n s) (zero-add (length t))

-- ---- one put and the next

-- a number of 16 or of 32 bits, and one byte
pub puts_two : (n : ℕ) {t : List ℕ} → t ≡ to_be_bytes w16 n → {place next : ℕ} {s later : List ℕ} → Puts place t s next later → Puts place (bytes 2 n) s next later
puts_two n is p = rw (is ∙ two_big_endian n) at p

pub puts_four : (n : ℕ) {t : List ℕ} → t ≡ to_be_bytes w32 n → {place next : ℕ} {s later : List ℕ} → Puts place t s next later → Puts place (bytes 4 n) s next later
puts_four n is p = rw (is ∙ four_big_endian n) at p

pub puts_byte : (place b : ℕ) (s : List ℕ) → place < length s → Puts place (b ∷ []) s (place + 1) (set s place b)
puts_byte place b s h = record { next_is = refl; later_is = rw add-one (set_split s place b h) }

module _ (place : ℕ) (x y s : List ℕ) (fits : place + length (x ++ y) ≤ length s) where
  pub room_first : place + length x ≤ length s
  room_first = let both = length-append x y in omega arith

  -- behind what was put there is room for the rest
  pub room_next : {next : ℕ} {later : List ℕ} → Puts place x s next later → next + length y ≤ length later
  room_next {next} {later} p =
      let long : length later ≡ length s = ap length p.later_is ∙ length_laid place x s room_first in
      let both = length-append x y in
      omega arith

  pub puts_next : {next end : ℕ} {later last : List ℕ} → Puts place x s next later → Puts next y later end last → Puts place (x ++ y) s end last
  puts_next {next} {end} {later} {last} p q =
      let both = length-append x y in record {
        next_is = omega arith;
        later_is = q.later_is ∙ ap (laid next y) p.later_is ∙ laid_next place x y s p.next_is (omega arith);
      }
