-- What follows from the facts that clauses say, in any model: for functions whose contract the toolchain does not read off their signature.
-- Assumes nothing.
use seplogic.Ra.Ura.{Ura}
use base.Logic.{ent, sep, id⊢, fst∗, snd∗}
use contract.Lifetimes.{Lfts}
use contract.Monad.{fact, fact_i, fact_use}
use denote.Triple.Clauses.{Ended, Clauses, AtExit, Lasts, at_exit}
use denote.Triple.Entry.{Args, Res}

module _ {M : Type 1} (𝓤 : Ura M) where
  pub from_one : (p : Type 0) {φ : Type 0} → (p → φ) → ent 𝓤 (fact 𝓤 p) (fact 𝓤 φ)
  from_one p {φ} says = fact_use 𝓤 p (id⊢ 𝓤 (fact 𝓤 p)) (λ x. fact_i 𝓤 φ _ (says x))

  pub from_two : (p q : Type 0) {φ : Type 0} → (p → q → φ) → ent 𝓤 (sep 𝓤 (fact 𝓤 p) (fact 𝓤 q)) (fact 𝓤 φ)
  from_two p q {φ} says =
      fact_use 𝓤 p (fst∗ 𝓤 (fact 𝓤 p) (fact 𝓤 q)) (λ x. fact_use 𝓤 q (snd∗ 𝓤 (fact 𝓤 p) (fact 𝓤 q)) (λ y. fact_i 𝓤 φ _ (says x y)))

  pub both : (p q : Type 0) → ent 𝓤 (sep 𝓤 (fact 𝓤 p) (fact 𝓤 q)) (fact 𝓤 (p × q))
  both p q = from_two p q (λ x y. (x, y))

  -- whatever arguments, result and later state of what was lent meet a function's clauses, the claim holds of them
  abbrev pub PromisedBy : (T : Ended) → Clauses 𝓤 T
      → ((κs : Lfts T.signature.lifetimes) → Args T.signature κs → Res T.signature κs → AtExit T κs → Type 0) → Type 1
  PromisedBy T clauses Claim =
      (κs : Lfts T.signature.lifetimes) (a : Args T.signature κs) (g : (clauses κs a).ghost) (x : Res T.signature κs) (v : Lasts T κs a) →
      ent 𝓤 ((clauses κs a).ensures g x (at_exit T κs a v)) (fact 𝓤 (Claim κs a x (at_exit T κs a v)))
