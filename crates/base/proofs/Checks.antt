-- An order of checks that gives an answer has passed each check: how a definition made of needs, cond and then is taken apart.
-- Assumes nothing.
use mathlib.Core.Path.{◌≡◌, refl, subst, sym, ap}
use mathlib.Core.Bool.{Bool, true, false, cond, false≢true}
use mathlib.Core.Logic.{◌⊎◌, inl, inr}
use Rattle.base.specs.declared.error.Area.{Area}
use Rattle.base.specs.Said.{Why, Said, gives, refuses, needs, then, within, done}

abbrev is_given : {A : Type 0} → Said A → Type 0
is_given (gives a) = Unit {0}
is_given (refuses why) = ⊥

pub gives≢refuses : {A : Type 0} {a : A} {why : Why} → gives a ≡ refuses why → ⊥
gives≢refuses e = subst is_given e tt

pub gives_injective : {A : Type 0} {a b : A} → gives a ≡ gives b → a ≡ b
gives_injective e = cc

pub refuses_injective : {A : Type 0} {s t : Why} → ◌≡◌ {A = Said A} (refuses s) (refuses t) → s ≡ t
refuses_injective e = cc

module _ {A : Type 0} where
  pub needs_gives : (t : Bool) (why : Why) (rest : Said A) {a : A} → needs t why rest ≡ gives a → (t ≡ true) × (rest ≡ gives a)
  needs_gives true why rest e = (refl, e)
  needs_gives false why rest e = absurd (gives≢refuses (sym e))

  pub cond_gives : (t : Bool) (x y : Said A) {a : A} → cond t x y ≡ gives a
      → ((t ≡ true) × (x ≡ gives a)) ⊎ ((t ≡ false) × (y ≡ gives a))
  cond_gives true x y e = inl (refl, e)
  cond_gives false x y e = inr (refl, e)

  pub then_gives : {B : Type 0} (s : Said A) (f : A → Said B) {b : B} → then s f ≡ gives b → (a : A) × (s ≡ gives a) × (f a ≡ gives b)
  then_gives (gives a) f e = (a, refl, e)
  then_gives (refuses why) f e = absurd (gives≢refuses (sym e))

  pub within_gives : (area : Area) (s : Said A) {a : A} → within area s ≡ gives a → s ≡ gives a
  within_gives area (gives a) e = e
  within_gives area (refuses why) e = absurd (gives≢refuses (sym e))

  pub then_within : {B : Type 0} (area : Area) (s : Said A) (f : A → Said B) {b : B} → then (within area s) f ≡ gives b
      → (a : A) × (s ≡ gives a) × (f a ≡ gives b)
  then_within area (gives a) f e = (a, refl, e)
  then_within area (refuses why) f e = absurd (gives≢refuses (sym e))

  -- the other way: a check that passes goes on, and one that fails refuses; so does a step
  pub passes : (t : Bool) (why : Why) (rest : Said A) → t ≡ true → rest ≡ needs t why rest
  passes true why rest e = refl
  passes false why rest e = absurd (false≢true e)

  pub fails : (t : Bool) (why : Why) (rest : Said A) → t ≡ false → refuses why ≡ needs t why rest
  fails true why rest e = absurd (false≢true (sym e))
  fails false why rest e = refl

  module _ {B : Type 0} (s : Said A) (f : A → Said B) where
    pub goes_on : {a : A} → gives a ≡ s → f a ≡ then s f
    goes_on e = ap (λ (t : Said A). then t f) e

    pub stops : {why : Why} → refuses why ≡ s → refuses why ≡ then s f
    stops e = ap (λ (t : Said A). then t f) e

  -- the answer of a call that was done, and of one that was refused
  pub done_gives : (s : Said A) → gives tt ≡ done s → (a : A) × (gives a ≡ s)
  done_gives (gives a) e = (a, refl)
  done_gives (refuses why) e = absurd (gives≢refuses e)

  pub done_refuses : (s : Said A) {why : Why} → refuses why ≡ done s → refuses why ≡ s
  done_refuses (gives a) e = absurd (gives≢refuses (sym e))
  done_refuses (refuses why) e = ap refuses (refuses_injective e)
