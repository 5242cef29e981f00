-- The moves of an answer: what they leave of the bytes is what they leave of the sessions; and the three entries by value, one by one.
-- Assumes nothing.
use mathlib.Core.Path.{◌≡◌, refl, sym, ◌∙◌, ap}
use mathlib.Core.Bool.{Bool, true, false, ◌&&◌, ◌||◌, cond, and-false}
use mathlib.Core.List.{List, [], ◌∷◌}
use Prim.Native.Nat.{ℕ, zero, suc, ◌≤◌, ◌<◌}
use native.Mathlib.Omega.{arith}
use borrow.Author.Tests.{eqb-true, eqb-false, eq-eqb, ne_eqb, lt-ltb}
use lib.Dec.{eqb, ltb}
use lib.ListN.{length, take, drop, length-take}
use Rattle.frame.specs.declared.session.Field.{Field}
use Rattle.frame.specs.declared.session.Session.{Session}
use Rattle.frame.specs.Parts.{field_in}
use Rattle.std.specs.Bool.{then_some}
use Rattle.keeper.specs.Keeper.{Open, session, is_open, is_named, repeated, replace, moves, moved}
use Rattle.keeper.specs.State.{count_of, below, held, place_below, place_of, place_named, renewed, renewed_at, moved_in, same_place}
use Rattle.keeper.proofs.Calls.{is_open_lem, is_not_open, place_inside}
use Rattle.keeper.proofs.Found.{place_has, replace_found, replace_not_found}
use Rattle.keeper.proofs.Places.{count_most, length_renewed, count_renewed, handle_renewed, nonce_given, nonce_renewed}

-- ---- a nonce at the place that is found

module _ (s : List ℕ) (all : length s ≡ 4424) (nonce : List ℕ) (few : length nonce ≤ 64) where
  -- all handles stay where they are
  below_renewed : (i : ℕ) → i < 64 → (handle n : ℕ) → n ≤ 64 → place_below (renewed i nonce s) handle n ≡ place_below s handle n
  unfolding place_below
  below_renewed i h handle zero l = refl
  below_renewed i h handle (suc n) l =
      λ k. cond (eqb (handle_renewed s all i h nonce few n (omega arith) k) handle) (suc n) (below_renewed i h handle n (omega arith) k)

  pub place_renewed : (p : ℕ) → p ≤ 64 → (handle : ℕ) → place_of (renewed_at p nonce s) handle ≡ place_of s handle
  unfolding place_of
  place_renewed zero l handle = refl
  place_renewed (suc i) l handle =
      ap (place_below (renewed i nonce s) handle) (count_renewed s all i (omega arith) nonce few)
      ∙ below_renewed i (omega arith) handle (count_of s) (count_most s)

  pub length_renewed_at : (p : ℕ) → p ≤ 64 → length (renewed_at p nonce s) ≡ 4424
  length_renewed_at zero l = all
  length_renewed_at (suc i) l = length_renewed s all i (omega arith) nonce few

  -- the session that is found has it, and no other changes
  pub held_renewed : (handle : ℕ) → held (renewed_at (place_of s handle) nonce s) ≡ replace handle (session handle nonce) (held s)
  unfolding held place_of
  held_renewed handle = by (place_of s handle) refl
    where
      by : (p : ℕ) → place_of s handle ≡ p → held (renewed_at p nonce s) ≡ replace handle (session handle nonce) (held s)
      by zero e = sym (replace_not_found s handle (session handle nonce) (count_of s) e)
      by (suc i) e =
          let most = count_most s in
          let inside = place_inside s handle in
          let h : i < 64 = omega arith in
          ap (below (renewed i nonce s)) (count_renewed s all i h nonce few)
          ∙ replace_found s (renewed i nonce s) handle i (session handle nonce)
          (λ k. session ((handle_renewed s all i h nonce few i h ∙ place_has s handle (count_of s) i e) k) (nonce_given s all i h nonce few k))
          (λ j l n. λ k. session (handle_renewed s all i h nonce few j l k) (nonce_renewed s all i h nonce few j l n k))
          (count_of s) most e

-- ---- the nonce of an entry of the answer

module _ (response : List ℕ) (f : Field) where
  pub field_short : f.size ≤ 64 → length (field_in response f) ≤ 64
  field_short few = let long = length-take f.size (drop f.at response) in rw long (omega arith)

-- ---- several

-- nonces for which there is room
abbrev pub Short : List Open → Type 0
Short [] = Unit {0}
Short (m ∷ ms) = (length m.nonce ≤ 64) × Short ms

pub held_moved : (ms : List Open) → Short ms → (s : List ℕ) → length s ≡ 4424 → (held (moved_in ms s) ≡ moved ms (held s)) × (length (moved_in ms s) ≡ 4424)
unfolding moved_in moved
held_moved [] short s all = (refl, all)
held_moved (m ∷ ms) short s all =
    let most = count_most s in
    let inside = place_inside s m.handle in
    let rest = held_moved ms short.1 (renewed_at (place_of s m.handle) m.nonce s) (length_renewed_at s all m.nonce short.0 (place_of s m.handle) (omega arith)) in
    (rest.0 ∙ ap (moved ms) (held_renewed s all m.nonce short.0 m.handle), rest.1)

-- ---- one place is one handle

module _ (s : List ℕ) (one other : ℕ) where
  found_alike : (i : ℕ) → place_of s one ≡ suc i → (b : Bool) → eqb other one ≡ b → eqb (suc i) (place_of s other) ≡ b
  unfolding place_of
  found_alike i e true t = eq-eqb (suc i) (place_of s other) (sym e ∙ ap (place_of s) (sym (eqb-true other one t)))
  found_alike i e false t =
      ne_eqb (suc i) (place_of s other)
      (λ q. eqb-false other one t (sym (place_has s other (count_of s) i (sym q)) ∙ place_has s one (count_of s) i e))

  pub same_place_lem : same_place (place_of s one) (place_of s other) ≡ (is_open one (held s) && eqb other one)
  same_place_lem = by (place_of s one) refl
    where
      by : (p : ℕ) → place_of s one ≡ p → same_place p (place_of s other) ≡ (is_open one (held s) && eqb other one)
      by zero e = rw (is_not_open s one (sym e)) refl
      by (suc i) e = rw (is_open_lem s one refl (rw e (omega arith)), lt-ltb 0 (suc i) (omega arith)) (found_alike i e (eqb other one) refl)

-- ---- three entries, of which so many are there

-- the place of an entry that is there, and none
abbrev pub place_if : List ℕ → Bool → Session → ℕ
place_if s there e = place_named s (then_some there e.handle)

nowhere : (p : ℕ) → same_place p 0 ≡ false
nowhere zero = refl
nowhere (suc p) = rw (ne_eqb (suc p) 0 (λ e. omega arith)) (and-false (ltb 0 (suc p)))

-- of three truths
either : (a x y b z c : Bool) → ((a && (x || (y || false))) || ((b && (z || false)) || ((c && false) || false))) ≡ ((a && x) || ((a && y) || (b && z)))
either true true y b z c = refl
either true false true b z c = refl
either true false false true true c = refl
either true false false true false true = refl
either true false false true false false = refl
either true false false false z true = refl
either true false false false z false = refl
either false x y true true c = refl
either false x y true false true = refl
either false x y true false false = refl
either false x y false z true = refl
either false x y false z false = refl

either_of_two : (a x b : Bool) → ((a && (x || false)) || ((b && false) || false)) ≡ ((a && x) || (false || false))
either_of_two true true b = refl
either_of_two true false true = refl
either_of_two true false false = refl
either_of_two false x true = refl
either_of_two false x false = refl

no_other : (a : Bool) → ((a && false) || false) ≡ false
no_other true = refl
no_other false = refl

module _ (s : List ℕ) (a b c : Session) where
  pub repeated_three : (n : ℕ) → n ≤ 3 → repeated (take n (a ∷ b ∷ c ∷ [])) (held s)
      ≡ (same_place (place_if s (ltb 0 n) a) (place_if s (ltb 1 n) b)
      || (same_place (place_if s (ltb 0 n) a) (place_if s (ltb 2 n) c) || same_place (place_if s (ltb 1 n) b) (place_if s (ltb 2 n) c)))
  unfolding repeated is_named
  repeated_three zero h = refl
  repeated_three (suc zero) h = no_other (is_open a.handle (held s)) ∙ rw (nowhere (place_of s a.handle)) refl
  repeated_three (suc (suc zero)) h =
      either_of_two (is_open a.handle (held s)) (eqb b.handle a.handle) (is_open b.handle (held s))
      ∙ (λ k. sym (same_place_lem s a.handle b.handle) k || (sym (nowhere (place_of s a.handle)) k || sym (nowhere (place_of s b.handle)) k))
  repeated_three (suc (suc (suc zero))) h =
      either (is_open a.handle (held s)) (eqb b.handle a.handle) (eqb c.handle a.handle) (is_open b.handle (held s)) (eqb c.handle b.handle) (is_open c.handle (held s))
      ∙ (λ k. sym (same_place_lem s a.handle b.handle) k || (sym (same_place_lem s a.handle c.handle) k || sym (same_place_lem s b.handle c.handle) k))
  repeated_three (suc (suc (suc (suc n)))) h = absurd (omega arith)

  -- what is stored one behind the other is what the moves say, since no handle changes its place
  module _ (all : length s ≡ 4424) (x y z : List ℕ) where
    abbrev stored : ℕ → List ℕ
    stored n = renewed_at (place_if s (ltb 2 n) c) z (renewed_at (place_if s (ltb 1 n) b) y (renewed_at (place_if s (ltb 0 n) a) x s))

    abbrev pub Room : ℕ → Type 0
    Room n = (0 < n → length x ≤ 64) × (1 < n → length y ≤ 64) × (2 < n → length z ≤ 64)

    pub moved_three : (n : ℕ) → n ≤ 3 → Room n
        → stored n ≡ moved_in (take n (session a.handle x ∷ session b.handle y ∷ session c.handle z ∷ [])) s
    unfolding moved_in
    moved_three zero h room = refl
    moved_three (suc zero) h room = refl
    moved_three (suc (suc zero)) h room =
        let few = room.0 (omega arith) in
        let most = count_most s in
        let inside = place_inside s a.handle in
        let one : List ℕ = renewed_at (place_of s a.handle) x s in
        ap (λ (p : ℕ). renewed_at p y one) (sym (place_renewed s all x few (place_of s a.handle) (omega arith) b.handle))
    moved_three (suc (suc (suc zero))) h room =
        let few = room.0 (omega arith) in
        let short = room.1 (omega arith) in
        let most = count_most s in
        let inside = place_inside s a.handle in
        let beside = place_inside s b.handle in
        let one : List ℕ = renewed_at (place_of s a.handle) x s in
        let long = length_renewed_at s all x few (place_of s a.handle) (omega arith) in
        let first = place_renewed s all x few (place_of s a.handle) (omega arith) in
        let two : List ℕ = renewed_at (place_of s b.handle) y one in
        let second : place_of s c.handle ≡ place_of two c.handle =
        sym (place_renewed one long y short (place_of s b.handle) (omega arith) c.handle ∙ first c.handle) in
        ap (λ (p : ℕ). renewed_at p z two) second
        ∙ ap (λ (t : List ℕ). renewed_at (place_of t c.handle) z t) (ap (λ (p : ℕ). renewed_at p y one) (sym (first b.handle)))
    moved_three (suc (suc (suc (suc n)))) h room = absurd (omega arith)

-- the moves of three entries and three, by value
pub moves_three : (response : List ℕ) (a b c x y z : Session) (n : ℕ) → n ≤ 3
    → moves response (take n (a ∷ b ∷ c ∷ [])) (take n (x ∷ y ∷ z ∷ []))
    ≡ take n (session a.handle (field_in response x.nonce) ∷ session b.handle (field_in response y.nonce) ∷ session c.handle (field_in response z.nonce) ∷ [])
unfolding moves
moves_three response a b c x y z zero h = refl
moves_three response a b c x y z (suc zero) h = refl
moves_three response a b c x y z (suc (suc zero)) h = refl
moves_three response a b c x y z (suc (suc (suc zero))) h = refl
moves_three response a b c x y z (suc (suc (suc (suc n)))) h = absurd (omega arith)
