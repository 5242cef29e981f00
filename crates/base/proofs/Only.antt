-- What kinds of refusals an answer has, through each way in which an order of checks is put together: so which numbers it never has (document 02,
-- W7), and which it has in which area (W2).
-- Assumes nothing.
use mathlib.Core.Path.{◌≡◌, refl, sym, subst}
use mathlib.Core.Bool.{Bool, true, false, beq, cond}
use mathlib.Core.List.{List, [], ◌∷◌}
use Prim.Native.Nat.{ℕ, ◌-◌}
use borrow.Author.Tests.{eqb-false}
use lib.Dec.{eqb, leb}
use lib.ListN.{length}
use Rattle.base.specs.declared.error.Area.{Area}
use Rattle.base.specs.declared.error.Area.TheVariants.{None}
use Rattle.base.specs.Field.{read_field, write_field}
use Rattle.base.specs.Members.{is_in}
use Rattle.base.specs.Said.{Why, in_area, no_area, number_of, Said, gives, refuses, Only, other_than, Never, NoFrame, needs, then, within, done}
use Rattle.base.proofs.Checks.{gives≢refuses, refuses_injective}
use Rattle.base.proofs.Tables.{every, at_member, agree}

module _ {A : Type 0} {kind : Why → Type 0} where
  pub by_gives : {a : A} → Only kind (gives a)
  by_gives = record { each = λ why e. absurd (gives≢refuses e) }

  pub by_refuses : (why : Why) → kind why → Only {A = A} kind (refuses why)
  by_refuses why k = record { each = λ other e. subst kind (refuses_injective e) k }

module _ {A : Type 0} {kind : Why → Type 0} where
  -- a check: the refusal where it fails, what follows where it holds
  pub by_check : (t : Bool) (why : Why) {rest : Said A} → (t ≡ false → kind why) → (t ≡ true → Only kind rest) → Only kind (needs t why rest)
  by_check true why k p = p refl
  by_check false why k p = by_refuses why (k refl)

  pub by_needs : (t : Bool) (why : Why) {rest : Said A} → kind why → Only kind rest → Only kind (needs t why rest)
  by_needs t why k p = by_check t why (λ h. k) (λ h. p)

  pub by_cond : (t : Bool) {x y : Said A} → Only kind x → Only kind y → Only kind (cond t x y)
  by_cond true p q = p
  by_cond false p q = q

  pub by_done : {s : Said A} → Only kind s → Only kind (done s)
  by_done {s} p = by s p
    where
      by : (s : Said A) → Only kind s → Only kind (done s)
      by (gives a) p = by_gives
      by (refuses why) p = by_refuses why (p.each why refl)

  -- a step, and what follows where it gives
  pub by_step_to : {B : Type 0} {s : Said A} {f : A → Said B} → Only kind s → ((a : A) → s ≡ gives a → Only kind (f a)) → Only kind (then s f)
  by_step_to {B} {s} {f} p q = by s refl p
    where
      by : (r : Said A) → s ≡ r → Only kind r → Only kind (then r f)
      by (gives a) e p = q a e
      by (refuses why) e p = by_refuses why (p.each why refl)

  pub by_then : {B : Type 0} {s : Said A} {f : A → Said B} → Only kind s → ((a : A) → Only kind (f a)) → Only kind (then s f)
  by_then p q = by_step_to p (λ a e. q a)

  -- one step, and something made of what it gives
  pub by_step : {B : Type 0} {s : Said A} (f : A → B) → Only kind s → Only kind (then s (λ a. gives (f a)))
  by_step f p = by_then p (λ a. by_gives)

  -- a step without a frame, in an area
  pub by_within : {s : Said A} (area : Area) → Only (λ why. kind (in_area area why.numbers)) s → Only kind (within area s)
  by_within {s} area p = by s p
    where
      by : (s : Said A) → Only (λ why. kind (in_area area why.numbers)) s → Only kind (within area s)
      by (gives a) p = by_gives
      by (refuses why) p = by_refuses (in_area area why.numbers) (p.each why refl)

  -- a wider kind
  pub by_wider : {other : Why → Type 0} {s : Said A} → ((why : Why) → other why → kind why) → Only other s → Only kind s
  by_wider wide p = record { each = λ why e. wide why (p.each why e) }

-- ---- calls without a frame

pub no_frame : {numbers rest : List ℕ} {n : ℕ} → is_in n numbers ≡ true → NoFrame numbers (no_area (n ∷ rest))
no_frame is = record { nowhere = refl; number = is }

-- such a refusal has no other number
pub frameless : {numbers : List ℕ} (k : ℕ) → every (λ n. beq (eqb n k) false) numbers ≡ true → (why : Why) → NoFrame numbers why → other_than k why
frameless {numbers} k all why p = agree _ _ (at_member (λ n. beq (eqb n k) false) numbers all (number_of why) p.number)

module _ {A : Type 0} {numbers : List ℕ} {s : Said A} where
  -- never by another number
  pub by_no_other : (k : ℕ) → every (λ n. beq (eqb n k) false) numbers ≡ true → Only (NoFrame numbers) s → Never k s
  by_no_other k all = by_wider (frameless k all)

-- such a step, taken in no area, is that step
pub nowhere : {A : Type 0} {numbers : List ℕ} {s : Said A} → Only (NoFrame numbers) s → within None s ≡ s
nowhere {A} {numbers} {s} p = by s p
  where
    by : (s : Said A) → Only (NoFrame numbers) s → within None s ≡ s
    by (gives a) p = refl
    by (refuses why) p = λ i. refuses (in_area (sym (p.each why refl).nowhere i) why.numbers)

-- no refusal has a number that an answer never has
pub not_by : {A : Type 0} {s : Said A} {why : Why} {n : ℕ} → Never n s → s ≡ refuses why → number_of why ≡ n → ⊥
not_by {A} {s} {why} {n} p e = eqb-false (number_of why) n (p.each why e)

-- ---- fields

module _ (place : ℕ) (s : List ℕ) where
  module _ {kind : Why → Type 0} where
    pub only_read : (w : ℕ) → (leb w (length s - place) ≡ false → kind (no_area (1 ∷ place ∷ w ∷ (length s - place) ∷ []))) → Only kind (read_field w place s)
    only_read w k = by_check (leb w (length s - place)) _ k (λ h. by_gives)

    pub only_written : (w n : ℕ) → (leb w (length s - place) ≡ false → kind (no_area (9 ∷ place ∷ w ∷ (length s - place) ∷ [])))
        → Only kind (write_field w place n s)
    only_written w n k = by_check (leb w (length s - place)) _ k (λ h. by_gives)
