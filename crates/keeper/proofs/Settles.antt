-- The cases of an answer behind its two frames, for the entries by value: what is judged of them, and what is stored.
-- Assumes nothing.
use mathlib.Core.Path.{◌≡◌, refl, sym, ◌∙◌, ap}
use mathlib.Core.Bool.{Bool, true, false, ◌||◌}
use mathlib.Core.List.{List, [], ◌∷◌}
use Prim.Native.Nat.{ℕ, zero, suc, ◌≤◌, ◌<◌}
use native.Mathlib.Omega.{arith}
use borrow.Author.Tests.{eq-eqb, ne_eqb, ltb-true}
use lib.Dec.{ltb}
use lib.ListN.{length, take}
use lib.Seq.{length-take-le}
use Rattle.base.specs.Said.{Why, Said, gives, refuses, done, after}
use Rattle.frame.specs.declared.session.Entries.{Entries}
use Rattle.frame.specs.declared.session.Field.{Field}
use Rattle.frame.specs.declared.session.Session.{Session}
use Rattle.frame.specs.Parts.{Kept, EachField, entries_of, field_in}
use Rattle.keeper.specs.Keeper.{Open, handle_repeated, counts_differ, repeated, moves, settling}
use Rattle.keeper.specs.State.{held, renewed_at, moved_in, settled_in, same_place}
use Rattle.keeper.proofs.Calls.{place_inside}
use Rattle.keeper.proofs.Moves.{place_if, field_short, repeated_three, moved_three, moves_three}
use Rattle.keeper.proofs.Places.{count_most}

-- ---- the entries that are there

module _ (P : Field → Type 0) (a b c : Session) where
  each_of : (n : ℕ) → EachField P (take n (a ∷ b ∷ c ∷ [])) → (0 < n → P a.nonce) × (1 < n → P b.nonce) × (2 < n → P c.nonce)
  each_of zero e = (λ h. absurd (omega arith), λ h. absurd (omega arith), λ h. absurd (omega arith))
  each_of (suc zero) e = (λ h. e.0.0, λ h. absurd (omega arith), λ h. absurd (omega arith))
  each_of (suc (suc zero)) e = (λ h. e.0.0, λ h. e.1.0.0, λ h. absurd (omega arith))
  each_of (suc (suc (suc n))) e = (λ h. e.0.0, λ h. e.1.0.0, λ h. e.1.1.0.0)

pub each_there : (P : Field → Type 0) (es : Entries) → EachField P (entries_of es)
    → (0 < es.count → P es.first.nonce) × (1 < es.count → P es.second.nonce) × (2 < es.count → P es.third.nonce)
each_there P es e = each_of P es.first es.second es.third es.count e

pub count_of : (es : Entries) → es.count ≤ 3 → length (entries_of es) ≡ es.count
count_of es h = length-take-le es.count (es.first ∷ es.second ∷ es.third ∷ []) h

-- a place that is found is one of the 64, and is found for an entry that is there
place_if_most : (s : List ℕ) (there : Bool) (e : Session) → place_if s there e ≤ 64
place_if_most s true e = let most = count_most s in let inside = place_inside s e.handle in omega arith
place_if_most s false e = omega arith

place_if_there : (s : List ℕ) (n m : ℕ) (e : Session) → 0 < place_if s (ltb n m) e → n < m
place_if_there s n m e h = by (ltb n m) refl h
  where
    by : (b : Bool) → ltb n m ≡ b → 0 < place_if s b e → n < m
    by true t h = ltb-true n m t
    by false t h = absurd (omega arith)

-- what is asked of a move
abbrev Ready : ℕ → List ℕ → Field → Type 0
Ready p bytes f = (p ≤ 64) × (0 < p → Kept 64 (length bytes) f)

module _ (s : List ℕ) (command response : Entries) (bytes : List ℕ) (alike : command.count ≡ response.count)
    (each : EachField (Kept 64 (length bytes)) (entries_of response)) where
  ready : (k : ℕ) (e : Session) (f : Field) → (k < response.count → Kept 64 (length bytes) f) → {p : ℕ} → p ≡ place_if s (ltb k command.count) e → Ready p bytes f
  ready k e f kept found = (
    rw found (place_if_most s (ltb k command.count) e),
    (λ h. kept (let there = place_if_there s k command.count e (rw found at h) in omega arith)),
  )

  pub ready_first : {p : ℕ} → p ≡ place_if s (ltb 0 command.count) command.first → Ready p bytes response.first.nonce
  ready_first = ready 0 command.first response.first.nonce (each_there (Kept 64 (length bytes)) response each).0

  pub ready_second : {p : ℕ} → p ≡ place_if s (ltb 1 command.count) command.second → Ready p bytes response.second.nonce
  ready_second = ready 1 command.second response.second.nonce (each_there (Kept 64 (length bytes)) response each).1

  pub ready_third : {p : ℕ} → p ≡ place_if s (ltb 2 command.count) command.third → Ready p bytes response.third.nonce
  ready_third = ready 2 command.third response.third.nonce (each_there (Kept 64 (length bytes)) response each).2

-- ---- the cases

module _ (s : List ℕ) (all : length s ≡ 4424) (command response : Entries) (bytes : List ℕ) (few : command.count ≤ 3) (short : response.count ≤ 3)
    {p q r : ℕ} (first : p ≡ place_if s (ltb 0 command.count) command.first) (second : q ≡ place_if s (ltb 1 command.count) command.second)
    (third : r ≡ place_if s (ltb 2 command.count) command.third) {twice : Bool} (said : twice ≡ (same_place p q || (same_place p r || same_place q r))) where
  abbrev judged : Said (List Open)
  judged = settling bytes (entries_of command) (entries_of response) (held s)

  is_repeated : twice ≡ repeated (entries_of command) (held s)
  is_repeated =
      said ∙ (λ k. same_place (first k) (second k) || (same_place (first k) (third k) || same_place (second k) (third k)))
      ∙ sym (repeated_three s command.first command.second command.third command.count few)

  -- what is refused leaves the bytes as they were
  left_alone : {why : Why} → refuses why ≡ judged
      → (refuses why ≡ done judged) × (s ≡ after s (settled_in bytes (entries_of command) (entries_of response) s))
  unfolding settled_in
  left_alone e = rw (← e) (refl, refl)

  pub settled_twice : twice ≡ true
      → (refuses handle_repeated ≡ done judged) × (s ≡ after s (settled_in bytes (entries_of command) (entries_of response) s))
  unfolding settling
  settled_twice e = left_alone (rw (← is_repeated, e) refl)

  module _ (once : twice ≡ false) where
    pub settled_differ : (command.count ≡ response.count → ⊥)
        → (refuses counts_differ ≡ done judged) × (s ≡ after s (settled_in bytes (entries_of command) (entries_of response) s))
    unfolding settling
    settled_differ other =
        left_alone (rw (← is_repeated, once, count_of command few, count_of response short, ne_eqb command.count response.count other) refl)

    module _ (alike : command.count ≡ response.count) (each : EachField (Kept 64 (length bytes)) (entries_of response)) where
      settled_given : gives (moves bytes (entries_of command) (entries_of response)) ≡ judged
      unfolding settling
      settled_given = rw (← is_repeated, once, count_of command few, count_of response short, eq-eqb command.count response.count alike) refl

      -- one behind the other
      abbrev pub stored : List ℕ
      stored = renewed_at r (field_in bytes response.third.nonce) (renewed_at q (field_in bytes response.second.nonce) (renewed_at p (field_in bytes response.first.nonce) s))

      all_stored : stored ≡ moved_in (moves bytes (entries_of command) (entries_of response)) s
      all_stored =
          let there = each_there (Kept 64 (length bytes)) response each in
          (λ k. renewed_at (third k) (field_in bytes response.third.nonce) (renewed_at (second k) (field_in bytes response.second.nonce) (renewed_at (first k) (field_in bytes response.first.nonce) s)))
          ∙ moved_three s command.first command.second command.third all
          (field_in bytes response.first.nonce) (field_in bytes response.second.nonce) (field_in bytes response.third.nonce) command.count few (
            (λ h. field_short bytes response.first.nonce (there.0 (omega arith)).0),
            (λ h. field_short bytes response.second.nonce (there.1 (omega arith)).0),
            (λ h. field_short bytes response.third.nonce (there.2 (omega arith)).0),
          )
          ∙ ap (λ (ms : List Open). moved_in ms s)
          (sym (moves_three bytes command.first command.second command.third response.first response.second response.third command.count few)
          ∙ ap (λ (n : ℕ). moves bytes (entries_of command) (take n (response.first ∷ response.second ∷ response.third ∷ []))) alike)

      pub settled_all : {later : List ℕ} → later ≡ stored
          → (gives tt ≡ done judged) × (later ≡ after s (settled_in bytes (entries_of command) (entries_of response) s))
      unfolding settled_in
      settled_all e = rw (← settled_given) (refl, e ∙ all_stored)
