-- How a walk over entries that passes has gone (WalkLaws.antt has what follows of it).
-- Assumes nothing.
use mathlib.Core.Path.{◌≡◌, subst}
use mathlib.Core.List.{List, [], ◌∷◌}
use mathlib.Core.Logic.{inl, inr}
use Prim.Native.Nat.{ℕ, zero, suc, ◌≤◌}
use borrow.Author.Tests.{leb-true}
use lib.Dec.{leb}
use lib.ListN.{length}
use Rattle.base.specs.Said.{gives}
use Rattle.base.proofs.Checks.{needs_gives, then_gives, cond_gives, gives_injective}
use Rattle.frame.specs.declared.session.Session.{Session}
use Rattle.frame.specs.Walk.{read_entry, walk, behind}

-- how a walk that passes has gone: nothing was left, or an entry was read and the walk went on behind it
pub data Passes (limit width : ℕ) (s : List ℕ) : ℕ → ℕ → List Session → Type 0 where
  ended : {k place : ℕ} → length s ≤ place → Passes limit width s k place []
  passed : {k place : ℕ} {e : Session} {es : List Session} → read_entry limit width s place ≡ gives e → Passes limit width s k (behind e) es
      → Passes limit width s (suc k) place (e ∷ es)

pub passes : (limit k width : ℕ) (s : List ℕ) (place : ℕ) {es : List Session} → walk limit k width s place ≡ gives es → Passes limit width s k place es
unfolding walk
passes limit zero width s place e =
    let end = needs_gives (leb (length s) place) _ _ e in
    subst (Passes limit width s zero place) (gives_injective end.1) (ended (leb-true (length s) place end.0))
passes limit (suc k) width s place e = elim (cond_gives (leb (length s) place) _ _ e) [
  | inl end ↦ subst (Passes limit width s (suc k) place) (gives_injective end.1) (ended (leb-true (length s) place end.0))
  | inr more ↦
      let one = then_gives (read_entry limit width s place) _ more.1 in
      let rest = then_gives (walk limit k width s (behind one.0)) _ one.2 in
      subst (Passes limit width s (suc k) place) (gives_injective rest.2) (passed one.1 (passes limit k width s (behind one.0) rest.1))
]
