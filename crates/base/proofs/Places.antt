-- Bytes that stand at a place of others: put together and taken apart, so that a layout can be read piece by piece.
-- Assumes nothing.
use mathlib.Core.Path.{◌≡◌, refl, subst, sym, ◌∙◌, ap}
use mathlib.Core.List.{List, ◌++◌, append_assoc}
use Prim.Native.Nat.{ℕ, ◌+◌, ◌-◌, ◌≤◌}
use native.Mathlib.Omega.{arith}
use lib.ListN.{length, take, drop, length-append, length-drop, take-append-drop}
use lib.Seq.{take_at, drop_at, drop-drop, length-take-le, take-length, take-append-le, drop-append-le}

-- x stands at a place of s
pub record At (s : List ℕ) (place : ℕ) (x : List ℕ) : Type 0 where
  pub inside : place + length x ≤ length s
  pub there : take (length x) (drop place s) ≡ x

pub at_moved : {s x : List ℕ} {place later : ℕ} → place ≡ later → At s place x → At s later x
at_moved {s} {x} e a = subst (λ (p : ℕ). At s p x) e a

module _ {s : List ℕ} {place : ℕ} where
  -- from the place on it is followed by what stands behind it, and so it can be told
  pub at_from : {x : List ℕ} → At s place x → drop place s ≡ x ++ drop (place + length x) s
  at_from {x} a = sym (take-append-drop (length x) (drop place s)) ∙ (λ i. a.there i ++ drop-drop (length x) place s i)

  pub at_by : (x t : List ℕ) → place ≤ length s → drop place s ≡ x ++ t → At s place x
  at_by x t h e =
      let long : length s - place ≡ length x + length t = sym (length-drop place s) ∙ ap length e ∙ length-append x t in
      record { inside = omega arith; there = ap (take (length x)) e ∙ take_at x t (length x) refl }

module _ {s : List ℕ} {place : ℕ} where
  pub at_first : (x y : List ℕ) → At s place (x ++ y) → At s place x
  at_first x y a =
      let inside = a.inside in
      let t = drop (place + length (x ++ y)) s in
      at_by x (y ++ t) (omega arith) (at_from a ∙ append_assoc x y t)

  pub at_second : (x y : List ℕ) → At s place (x ++ y) → At s (place + length x) y
  at_second x y a =
      let t = drop (place + length (x ++ y)) s in
      let inside : place + (length x + length y) ≤ length s = rw (← length-append x y) a.inside in
      at_by y t (omega arith)
      (sym (drop-drop (length x) place s)
      ∙ ap (drop (length x)) (at_from a ∙ append_assoc x y t)
      ∙ drop_at x (y ++ t) (length x) refl)

  pub at_both : {x y : List ℕ} → At s place x → At s (place + length x) y → At s place (x ++ y)
  at_both {x} {y} a b =
      let inside = a.inside in
      let t = drop (place + length x + length y) s in
      at_by (x ++ y) t (omega arith)
      (at_from a ∙ ap (λ (u : List ℕ). x ++ u) (at_from b) ∙ sym (append_assoc x y t))

-- what is read at a place is as long as was asked for, and stands there
module _ (s : List ℕ) (place n : ℕ) (h : place + n ≤ length s) where
  pub length_read : length (take n (drop place s)) ≡ n
  length_read = length-take-le n (drop place s) (rw length-drop (omega arith))

  pub at_read : At s place (take n (drop place s))
  at_read = record { inside = rw length_read h; there = ap (λ (k : ℕ). take k (drop place s)) length_read }

-- what is read inside the first n bytes is the same in all of them
pub read_within : (n : ℕ) (s : List ℕ) (place m : ℕ) → place + m ≤ length (take n s) → take m (drop place (take n s)) ≡ take m (drop place s)
read_within n s place m h =
    let few : m ≤ length (drop place (take n s)) = rw length-drop (omega arith) in
    sym (take-append-le m (drop place (take n s)) (drop n s) few)
    ∙ ap (take m) (sym (drop-append-le place (take n s) (drop n s) (omega arith)))
    ∙ ap (λ (t : List ℕ). take m (drop place t)) (take-append-drop n s)

-- all of s stands at its start, and what stands there and is as long is s
pub at_all : (s : List ℕ) → At s 0 s
at_all s = record { inside = omega arith; there = take-length s }

pub at_whole : {s x : List ℕ} → At s 0 x → length x ≡ length s → x ≡ s
at_whole {s} {x} a e = sym a.there ∙ ap (λ (n : ℕ). take n s) e ∙ take-length s
