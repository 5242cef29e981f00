-- What is known of lists and numbers alone and is used by the crates above.
-- Assumes nothing.
use mathlib.Core.Path.{◌≡◌, refl, ◌∙◌, ap}
use mathlib.Core.List.{List, [], ◌∷◌, ◌++◌, append_assoc}
use Prim.Native.Nat.{ℕ, zero, suc, ◌+◌, ◌-◌, ◌≤◌}
use native.Mathlib.Nat.{le_of_eq}
use native.Mathlib.Omega.{arith}
use lib.ListN.{length, get_or, take, drop, length-drop}
use lib.Seq.{drop-cons, sets, sets-eq, take_all}

-- the w elements from a place on, one by one
abbrev pub span : List ℕ → ℕ → ℕ → List ℕ
span s place zero = []
span s place (suc w) = get_or s place 0 ∷ span s (suc place) w

pub take_drop_span : (w place : ℕ) (s : List ℕ) → w ≤ length s - place → take w (drop place s) ≡ span s place w
take_drop_span zero place s h = refl
take_drop_span (suc w) place s h =
    rw (drop-cons s place 0 (omega arith)) (ap (λ (t : List ℕ). get_or s place 0 ∷ t) (take_drop_span w (suc place) s (omega arith)))

-- a run of stores from a place on leaves what is before it, what was stored, and what is behind it
pub stored : (s : List ℕ) (place : ℕ) (v : List ℕ) → length v ≤ length s - place → place ≤ length s
    → sets s place v ≡ take place s ++ (v ++ drop (place + length v) s)
stored s place v h k = sets-eq v s place (omega arith) ∙ append_assoc (take place s) v (drop (place + length v) s)

-- all that stands from a place on
pub take_rest : (n : ℕ) (s : List ℕ) → take (length s - n) (drop n s) ≡ drop n s
take_rest n s = take_all (length s - n) (drop n s) (le_of_eq (length-drop n s))
