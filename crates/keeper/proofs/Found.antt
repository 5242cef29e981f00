-- The open sessions of some bytes, and the place of a handle among them: what the list says of a handle, the place that is found says too.
-- Assumes nothing.
use mathlib.Core.Path.{◌≡◌, refl, sym, ◌∙◌, ap}
use mathlib.Core.Bool.{Bool, true, false, cond}
use mathlib.Core.List.{List, ◌∷◌}
use Prim.Native.Nat.{ℕ, zero, suc, ◌+◌, ◌-◌, ◌≤◌, ◌<◌}
use native.Mathlib.Omega.{arith}
use borrow.Author.Tests.{eqb-true, eq-eqb, ne_eqb, ltb-true, ltb-false}
use lib.Dec.{eqb, ltb}
use lib.ListN.{length}
use Rattle.base.specs.Said.{gives, refuses, given}
use Rattle.keeper.specs.Keeper.{Open, not_open, is_open, asked, replace, without}
use Rattle.keeper.specs.State.{count_of, handle_at, nonce_at, open_at, below, held, place_below}
use Rattle.keeper.proofs.Sessions.{open_answers}

pub length_below : (s : List ℕ) (n : ℕ) → length (below s n) ≡ n
unfolding below
length_below s zero = refl
length_below s (suc n) = ap suc (length_below s n)

pub length_held : (s : List ℕ) → length (held s) ≡ count_of s
unfolding held
length_held s = length_below s (count_of s)

-- places that stand for the same sessions
pub below_same : (s later : List ℕ) (n : ℕ) → ((j : ℕ) → j < n → open_at later j ≡ open_at s j) → below later n ≡ below s n
unfolding below
below_same s later zero same = refl
below_same s later (suc n) same = λ k. same n (omega arith) k ∷ below_same s later n (λ j l. same j (omega arith)) k

-- ---- the place of a handle

module _ (s : List ℕ) (handle : ℕ) where
  pub place_most : (n : ℕ) → place_below s handle n ≤ n
  unfolding place_below
  place_most zero = omega arith
  place_most (suc n) = by (eqb (handle_at s n) handle) (place_most n)
    where
      by : (b : Bool) → place_below s handle n ≤ n → cond b (suc n) (place_below s handle n) ≤ suc n
      by true h = omega arith
      by false h = omega arith

  -- one more place has the handle or not
  pub place_hit : (n : ℕ) → 0 < n → handle_at s (n - 1) ≡ handle → place_below s handle n ≡ suc (n - 1)
  unfolding place_below
  place_hit zero h e = absurd (omega arith)
  place_hit (suc n) h e =
      let one : suc n - 1 ≡ n = omega arith in
      simp (eq-eqb (handle_at s n) handle (ap (handle_at s) (sym one) ∙ e)) (omega arith)

  pub place_miss : (n : ℕ) → 0 < n → (handle_at s (n - 1) ≡ handle → ⊥) → place_below s handle n ≡ place_below s handle (n - 1)
  unfolding place_below
  place_miss zero h e = absurd (omega arith)
  place_miss (suc n) h e =
      let one : suc n - 1 ≡ n = omega arith in
      simp (ne_eqb (handle_at s n) handle (λ q. e (ap (handle_at s) one ∙ q))) (ap (place_below s handle) (sym one))

  -- the places of a group, one by one
  pub none_more : (from i : ℕ) → ((k : ℕ) → k ≤ i → place_below s handle (from + k) ≡ place_below s handle from) → (handle_at s (from + i) ≡ handle → ⊥)
      → (k : ℕ) → k ≤ i + 1 → place_below s handle (from + k) ≡ place_below s handle from
  none_more from i none other k h = by (ltb i k) refl
    where
      by : (b : Bool) → ltb i k ≡ b → place_below s handle (from + k) ≡ place_below s handle from
      by true e =
          let above = ltb-true i k e in
          let last : from + k - 1 ≡ from + i = omega arith in
          place_miss (from + k) (omega arith) (λ q. other (ap (handle_at s) (sym last) ∙ q)) ∙ ap (place_below s handle) last ∙ none i (omega arith)
      by false e = let few = ltb-false i k e in none k (omega arith)

  pub group_passed : (from to : ℕ) → from ≤ to → to ≤ from + 8
      → ((k : ℕ) → k ≤ 8 → place_below s handle (from + k) ≡ place_below s handle from) → place_below s handle to ≡ place_below s handle from
  group_passed from to h k none =
      let there : from + (to - from) ≡ to = omega arith in
      ap (place_below s handle) (sym there) ∙ none (to - from) (omega arith)

  pub nothing_below : (n : ℕ) → n ≡ 0 → place_below s handle n ≡ 0
  unfolding place_below
  nothing_below n e = ap (place_below s handle) e

  -- it has the handle
  pub place_has : (n i : ℕ) → place_below s handle n ≡ suc i → handle_at s i ≡ handle
  unfolding place_below
  place_has zero i e = absurd (omega arith)
  place_has (suc n) i e = by (eqb (handle_at s n) handle) refl e (place_has n i)
    where
      by : (b : Bool) → eqb (handle_at s n) handle ≡ b → cond b (suc n) (place_below s handle n) ≡ suc i
          → (place_below s handle n ≡ suc i → handle_at s i ≡ handle) → handle_at s i ≡ handle
      by true t e rest = let last : n ≡ i = omega arith in rw (← last) (eqb-true (handle_at s n) handle t)
      by false t e rest = rest e

  -- where one is found, the nonce of the handle is the one there
  pub asked_found : (n i : ℕ) → place_below s handle n ≡ suc i → asked handle (below s n) ≡ gives (nonce_at s i)
  unfolding place_below below asked
  asked_found zero i e = absurd (omega arith)
  asked_found (suc n) i e = by (eqb (handle_at s n) handle) e (asked_found n i)
    where
      by : (b : Bool) → cond b (suc n) (place_below s handle n) ≡ suc i
          → (place_below s handle n ≡ suc i → asked handle (below s n) ≡ gives (nonce_at s i))
          → cond b (gives (nonce_at s n)) (asked handle (below s n)) ≡ gives (nonce_at s i)
      by true e rest = let last : n ≡ i = omega arith in rw last refl
      by false e rest = rest e

  pub asked_not_found : (n : ℕ) → place_below s handle n ≡ 0 → asked handle (below s n) ≡ refuses not_open
  unfolding place_below below asked
  asked_not_found zero e = refl
  asked_not_found (suc n) e = by (eqb (handle_at s n) handle) e (asked_not_found n)
    where
      by : (b : Bool) → cond b (suc n) (place_below s handle n) ≡ 0
          → (place_below s handle n ≡ 0 → asked handle (below s n) ≡ refuses not_open)
          → cond b (gives (nonce_at s n)) (asked handle (below s n)) ≡ refuses not_open
      by true e rest = absurd (omega arith)
      by false e rest = rest e

  -- so the handle is open exactly where one is found
  pub open_found : (n i : ℕ) → place_below s handle n ≡ suc i → is_open handle (below s n) ≡ true
  open_found n i e = open_answers handle (below s n) ∙ ap given (asked_found n i e)

  pub open_not_found : (n : ℕ) → place_below s handle n ≡ 0 → is_open handle (below s n) ≡ false
  open_not_found n e = open_answers handle (below s n) ∙ ap given (asked_not_found n e)

  -- a handle that is not found has no place to be replaced at
  pub replace_not_found : (y : Open) (n : ℕ) → place_below s handle n ≡ 0 → replace handle y (below s n) ≡ below s n
  unfolding place_below below replace
  replace_not_found y zero e = refl
  replace_not_found y (suc n) e = by (eqb (handle_at s n) handle) e (replace_not_found y n)
    where
      by : (b : Bool) → cond b (suc n) (place_below s handle n) ≡ 0
          → (place_below s handle n ≡ 0 → replace handle y (below s n) ≡ below s n)
          → cond b (y ∷ below s n) (open_at s n ∷ replace handle y (below s n)) ≡ open_at s n ∷ below s n
      by true e rest = absurd (omega arith)
      by false e rest = ap (λ (xs : List Open). open_at s n ∷ xs) (rest e)

-- ---- another session at the place that is found

module _ (s later : List ℕ) (handle i : ℕ) (y : Open) (here : open_at later i ≡ y)
    (others : (j : ℕ) → j < 64 → (j ≡ i → ⊥) → open_at later j ≡ open_at s j) where
  pub replace_found : (n : ℕ) → n ≤ 64 → place_below s handle n ≡ suc i → below later n ≡ replace handle y (below s n)
  unfolding place_below below replace
  replace_found zero h e = absurd (omega arith)
  replace_found (suc n) h e = by (eqb (handle_at s n) handle) e (replace_found n (omega arith))
    where
      by : (b : Bool) → cond b (suc n) (place_below s handle n) ≡ suc i
          → (place_below s handle n ≡ suc i → below later n ≡ replace handle y (below s n))
          → open_at later n ∷ below later n ≡ cond b (y ∷ below s n) (open_at s n ∷ replace handle y (below s n))
      by true e rest =
          let last : n ≡ i = omega arith in
          λ k. (ap (open_at later) last ∙ here) k ∷ below_same s later n (λ j l. others j (omega arith) (λ q. omega arith)) k
      by false e rest =
          let inside = place_most s handle n in
          λ k. others n (omega arith) (λ q. omega arith) k ∷ rest e k

  -- the session of the last place at the place that is found
  pub without_found : (n : ℕ) → n < 64 → y ≡ open_at s n → place_below s handle (suc n) ≡ suc i → below later n ≡ without handle (below s (suc n))
  unfolding place_below below without
  without_found n h last e = by (eqb (handle_at s n) handle) e
    where
      by : (b : Bool) → cond b (suc n) (place_below s handle n) ≡ suc i → below later n ≡ cond b (below s n) (replace handle (open_at s n) (below s n))
      by true e =
          let at : n ≡ i = omega arith in
          below_same s later n (λ j l. others j (omega arith) (λ q. omega arith))
      by false e = replace_found n (omega arith) e ∙ ap (λ (x : Open). replace handle x (below s n)) last
