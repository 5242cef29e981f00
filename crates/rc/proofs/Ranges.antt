-- What ranges say of a code, over any ranges. A rule over a stretch of codes is one test that antt computes over the whole stretch.
-- Assumes nothing.
use mathlib.Core.Path.{◌≡◌, refl, sym, ◌∙◌}
use mathlib.Core.Bool.{Bool, true, false, ◌&&◌, beq, and-eq-true_iff, false≢true}
use mathlib.Core.List.{List, [], ◌∷◌}
use mathlib.Core.Logic.{◌⊎◌, inl, inr}
use Prim.Native.Nat.{ℕ, ◌+◌, ◌-◌, ◌≤◌, ◌<◌}
use native.Mathlib.Omega.{arith}
use borrow.Author.Tests.{eqb-true, leb-true, ltb-true}
use lib.Dec.{eqb, leb, ltb}
use types.Run.{OneOf}
use Rattle.base.specs.Members.{is_in}
use Rattle.base.proofs.Tables.{below, every, on_stretch}
use Rattle.rc.specs.Known.{Ranges, in_some}

-- what the ranges of a group say of every code of a stretch
pub says : (ranges : Ranges) (t : Bool) (from to : ℕ) → below (λ (k : ℕ). beq t (in_some (from + k) ranges)) (to - from) ≡ true
    → (code : ℕ) → from ≤ code → code < to → t ≡ in_some code ranges
says ranges t = on_stretch (λ (c : ℕ). t) (λ (c : ℕ). in_some c ranges)

-- ---- where ranges lie

-- whether all ranges lie from one code to before another
abbrev pub inside : ℕ → ℕ → Ranges → Bool
inside from to [] = true
inside from to (range ∷ more) = (leb from range.0 && ltb range.1 to) && inside from to more

-- .. so does each code that they have
pub in_some_lem : (from to : ℕ) (ranges : Ranges) → inside from to ranges ≡ true → (code : ℕ) → in_some code ranges ≡ true → (from ≤ code) × (code < to)
in_some_lem from to [] e code h = absurd (false≢true h)
in_some_lem from to (range ∷ more) e code h =
    let both = (and-eq-true_iff (leb from range.0 && ltb range.1 to) (inside from to more)).0 e in
    let here = (and-eq-true_iff (leb from range.0) (ltb range.1 to)).0 both.0 in
    by (leb range.0 code && leb code range.1) refl (leb-true from range.0 here.0) (ltb-true range.1 to here.1)
    (in_some_lem from to more both.1 code)
  where
    by : (t : Bool) → (leb range.0 code && leb code range.1) ≡ t → from ≤ range.0 → range.1 < to
        → (in_some code more ≡ true → (from ≤ code) × (code < to)) → (from ≤ code) × (code < to)
    by true p low high rest =
        let held = (and-eq-true_iff (leb range.0 code) (leb code range.1)).0 p in
        let first = leb-true range.0 code held.0 in
        let last = leb-true code range.1 held.1 in
        (omega arith, omega arith)
    by false p low high rest = rest (rw p at h)

-- no range reaches what lies behind all of them
pub behind : (to : ℕ) (ranges : Ranges) → inside 0 to ranges ≡ true → (code : ℕ) → to ≤ code → false ≡ in_some code ranges
behind to ranges e code h = by (in_some code ranges) refl
  where
    by : (t : Bool) → in_some code ranges ≡ t → false ≡ t
    by true p = absurd (let low = (in_some_lem 0 to ranges e code p).1 in omega arith)
    by false p = refl

-- ---- single codes, which a `match` tells by keys

-- a code that is one of the keys, each of which the ranges have
pub has_key : (ranges : Ranges) (keys : List ℕ) → every (λ (k : ℕ). in_some k ranges) keys ≡ true → (code : ℕ) → OneOf keys code → true ≡ in_some code ranges
has_key ranges [] e code h = elim h [ ]
has_key ranges (k ∷ []) e code h = rw h (sym ((and-eq-true_iff (in_some k ranges) true).0 e).0)
has_key ranges (k ∷ next ∷ more) e code (inl h) = rw h (sym ((and-eq-true_iff (in_some k ranges) _).0 e).0)
has_key ranges (k ∷ next ∷ more) e code (inr h) = has_key ranges (next ∷ more) ((and-eq-true_iff (in_some k ranges) _).0 e).1 code h

key_of : (keys : List ℕ) (code : ℕ) → is_in code keys ≡ true → OneOf keys code
key_of [] code h = absurd (false≢true h)
key_of (k ∷ []) code h = by (eqb code k) refl
  where
    by : (t : Bool) → eqb code k ≡ t → code ≡ k
    by true e = eqb-true code k e
    by false e = absurd (false≢true (rw e at h))
key_of (k ∷ next ∷ more) code h = by (eqb code k) refl (key_of (next ∷ more) code)
  where
    by : (t : Bool) → eqb code k ≡ t → (is_in code (next ∷ more) ≡ true → OneOf (next ∷ more) code) → (code ≡ k) ⊎ OneOf (next ∷ more) code
    by true e later = inl (eqb-true code k e)
    by false e later = inr (later (rw e at h))

-- a code that is none of them, on a stretch where the ranges have no other
pub no_key : (ranges : Ranges) (keys : List ℕ) (from to : ℕ)
    → below (λ (k : ℕ). beq (in_some (from + k) ranges) (is_in (from + k) keys)) (to - from) ≡ true
    → (code : ℕ) → from ≤ code → code < to → (OneOf keys code → ⊥) → false ≡ in_some code ranges
no_key ranges keys from to e code low high other =
    by (is_in code keys) refl ∙ sym (on_stretch (λ (c : ℕ). in_some c ranges) (λ (c : ℕ). is_in c keys) from to e code low high)
  where
    by : (t : Bool) → is_in code keys ≡ t → false ≡ is_in code keys
    by true h = absurd (other (key_of keys code h))
    by false h = sym h
