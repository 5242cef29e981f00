-- A rule of a constant table is one test that antt computes over the whole table, and these laws turn it into the rule
-- at each number and at each member; and what is left for the last arm of a `match` on a number.
-- Assumes nothing.
use mathlib.Core.Path.{◌≡◌, refl, sym, ◌∙◌, ap}
use mathlib.Core.Bool.{Bool, true, false, ◌&&◌, beq, and-eq-true_iff, false≢true}
use mathlib.Core.List.{List, [], ◌∷◌}
use Prim.Native.Nat.{ℕ, zero, suc, ◌+◌, ◌-◌, ◌≤◌, ◌<◌, zero-le}
use native.Mathlib.Numerals.{add-one}
use native.Mathlib.Nat.{not-suc-le-zero}
use native.Mathlib.Omega.{arith}
use borrow.Author.Count.{below_more}
use borrow.Author.Tests.{eqb-true}
use lib.Dec.{eqb}
use Rattle.base.specs.Members.{is_in}

-- the test passes at every number below n
abbrev pub below : (ℕ → Bool) → ℕ → Bool
below f zero = true
below f (suc n) = f n && below f n

pub at_below : (f : ℕ → Bool) (n : ℕ) → below f n ≡ true → (k : ℕ) → k < n → f k ≡ true
at_below f zero e k h = absurd (not-suc-le-zero h)
at_below f (suc n) e k h =
    let both = (and-eq-true_iff (f n) (below f n)).0 e in
    below_more (λ (m : ℕ). f m ≡ true) n (at_below f n both.1) both.0 k (rw add-one h)

-- the test passes at every member
abbrev pub every : (ℕ → Bool) → List ℕ → Bool
every f [] = true
every f (x ∷ xs) = f x && every f xs

pub at_member : (f : ℕ → Bool) (xs : List ℕ) → every f xs ≡ true → (k : ℕ) → is_in k xs ≡ true → f k ≡ true
at_member f [] e k h = absurd (false≢true h)
at_member f (x ∷ xs) e k h =
    let both = (and-eq-true_iff (f x) (every f xs)).0 e in
    step (eqb k x) refl both.0 (at_member f xs both.1 k)
  where
    step : (t : Bool) → eqb k x ≡ t → f x ≡ true → (is_in k xs ≡ true → f k ≡ true) → f k ≡ true
    step true q here there = rw (eqb-true k x q) here
    step false q here there = there (rw q at h)

-- two tests that agree are one
pub agree : (a b : Bool) → beq a b ≡ true → a ≡ b
agree true true e = refl
agree true false e = sym e
agree false true e = e
agree false false e = refl

-- two tests that agree at every number of a stretch, from one to before another
pub on_stretch : (f g : ℕ → Bool) (from to : ℕ) → below (λ (k : ℕ). beq (f (from + k)) (g (from + k))) (to - from) ≡ true
    → (k : ℕ) → from ≤ k → k < to → f k ≡ g k
on_stretch f g from to e k low high =
    let here : from + (k - from) ≡ k = omega arith in
    ap f (sym here)
    ∙ agree (f (from + (k - from))) (g (from + (k - from)))
    (at_below (λ (m : ℕ). beq (f (from + m)) (g (from + m))) (to - from) e (k - from) (omega arith))
    ∙ ap g here

-- what the last arm of a `match` on a number knows where the arms before it have the numbers below k: n is none of them ..
abbrev pub NoneBelow : ℕ → ℕ → Type 0
NoneBelow zero n = Unit {0}
NoneBelow (suc k) n = NoneBelow k n × (n ≡ k → ⊥)

-- .. so it is k or more
pub none_below : (k n : ℕ) → NoneBelow k n → k ≤ n
none_below zero n none = zero-le
none_below (suc k) n none =
    let others = none_below k n none.0 in
    let other = none.1 in
    omega arith
