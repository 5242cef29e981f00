-- The cases of opening, closing and asking, from the tests that lead to them: what is answered, which sessions are open later, and what the
-- bytes are.
-- Assumes nothing.
use mathlib.Core.Path.{◌≡◌, refl, sym, ◌∙◌, ap}
use mathlib.Core.Bool.{true, false}
use mathlib.Core.List.{List, [], ◌∷◌}
use Prim.Native.Nat.{ℕ, suc, ◌+◌, ◌-◌, ◌≤◌, ◌<◌}
use native.Mathlib.Omega.{arith}
use borrow.Author.Tests.{le-leb, lt-leb, lt-ltb, le-ltb}
use lib.ListN.{length, set, take, drop, length-set}
use Rattle.std.specs.Prelude.{Option, Some, None}
use Rattle.std.specs.Option.{is_some}
use Rattle.base.specs.Answer.{Part}
use Rattle.base.specs.Said.{Why, no_area, Said, gives, refuses, then, done, after}
use Rattle.keeper.specs.Keeper.{Open, session, already_open, all_open, not_open, is_open, asked, without, opened, closed}
use Rattle.keeper.specs.State.{nonce_place, count_of, handle_at, size_at, nonce_at, open_at, counted, below, held, place_below, place_of, put, shifted, nonce_range, asked_in, bytes_of}
use Rattle.keeper.proofs.Found.{length_held, below_same, place_most, open_found, open_not_found, asked_found, asked_not_found, without_found}
use Rattle.keeper.proofs.Places.{count_most, size_most, length_nonce, length_put, open_put, other_put, open_counted, count_counted}

-- ---- what a call says of the sessions, it says of the bytes

-- said of the sessions, and laid down in the bytes: the answer, the sessions later, the bytes later
abbrev pub Does : {A : Type 0} → Said (Unit {0}) → List ℕ → List ℕ → Said (List Open) → Said A → (A → List ℕ) → Type 0
Does answer s later sessions step bytes =
    (answer ≡ done sessions) × ((held later ≡ after (held s) sessions) × (later ≡ after s (then step λ a. gives (bytes a))))

module _ (s : List ℕ) where
  -- a refused call leaves all as it was
  pub refused : (said : Said (List Open)) (b : List ℕ) {why : Why} → refuses why ≡ said → Does (refuses why) s s said said (λ xs. b)
  refused said b e = rw (← e) (refl, (refl, refl))

  pub accepted : (said : Said (List Open)) (later : List ℕ) {xs : List Open} → gives xs ≡ said → held later ≡ xs → Does (gives tt) s later said said (λ xs. later)
  accepted said later e is = rw (← e) (refl, (is, refl))

-- ---- the place that is found

module _ (s : List ℕ) (handle : ℕ) where
  pub is_open_lem : {p : ℕ} → p ≡ place_of s handle → 0 < p → is_open handle (held s) ≡ true
  unfolding held place_of
  is_open_lem {p} at h = let one : p ≡ suc (p - 1) = omega arith in open_found s handle (count_of s) (p - 1) (sym at ∙ one)

  pub is_not_open : 0 ≡ place_of s handle → is_open handle (held s) ≡ false
  unfolding held place_of
  is_not_open none = open_not_found s handle (count_of s) (sym none)

  pub open_where : (found : Option ℕ) → counted found ≡ place_of s handle → is_open handle (held s) ≡ is_some found
  open_where (Some i) at = is_open_lem at (omega arith)
  open_where None at = is_not_open at

  -- it is within those that are open
  pub place_inside : place_of s handle ≤ count_of s
  unfolding place_of
  place_inside = place_most s handle (count_of s)

  -- ---- opening

  module _ (nonce : List ℕ) where
    pub opened_already : is_open handle (held s) ≡ true → refuses already_open ≡ opened handle nonce (held s)
    unfolding opened
    opened_already is = simp is

    module _ (free : is_open handle (held s) ≡ false) where
      pub opened_long : 64 < length nonce → refuses (no_area (8 ∷ 0 ∷ 64 ∷ length nonce ∷ [])) ≡ opened handle nonce (held s)
      unfolding opened
      opened_long h = simp (free, lt-leb (length nonce) 64 h)

      module _ (few : length nonce ≤ 64) {n : ℕ} (count : n ≡ count_of s) where
        pub opened_full : 64 ≤ n → refuses all_open ≡ opened handle nonce (held s)
        unfolding opened
        opened_full h = simp (free, le-leb (length nonce) 64 few, le-ltb (length (held s)) 64 (rw (length_held s, ← count) h))

        pub opened_given : n < 64 → gives (session handle nonce ∷ held s) ≡ opened handle nonce (held s)
        unfolding opened
        opened_given h = simp (free, le-leb (length nonce) 64 few, lt-ltb (length (held s)) 64 (rw (length_held s, ← count) h))

  -- ---- closing

  pub closed_not : 0 ≡ place_of s handle → refuses not_open ≡ closed handle (held s)
  unfolding closed
  closed_not none = simp (is_not_open none)

  pub closed_given : {i : ℕ} → suc i ≡ place_of s handle → gives (without handle (held s)) ≡ closed handle (held s)
  unfolding closed
  closed_given at = simp (is_open_lem at (omega arith))

  -- ---- asking

  pub asked_not : 0 ≡ place_of s handle → (bytes_of (refuses not_open) s ≡ asked handle (held s)) × (refuses not_open ≡ asked_in handle s)
  unfolding held place_of asked_in
  asked_not none = (sym (asked_not_found s handle (count_of s) (sym none)), ap (nonce_range s) none)

  abbrev range : ℕ → ℕ → Said Part
  range i n = gives (record { from = nonce_place i; to = nonce_place i + n })

  pub asked_there : {i : ℕ} → suc i ≡ place_of s handle → {n : ℕ} → n ≡ size_at s i → (bytes_of (range i n) s ≡ asked handle (held s)) × (range i n ≡ asked_in handle s)
  unfolding held place_of asked_in nonce_at
  asked_there {i} at {n} size =
      let long : nonce_place i + n - nonce_place i ≡ size_at s i = omega arith in (
        ap (λ (k : ℕ). gives (take k (drop (nonce_place i) s))) long ∙ sym (asked_found s handle (count_of s) i (sym at)),
        ap (range i) size ∙ ap (nonce_range s) at,
      )

-- ---- the sessions of the bytes that are left

module _ (s : List ℕ) (all : length s ≡ 4424) where
  pub held_opened : (handle : ℕ) → handle < 4294967296 → (nonce : List ℕ) → length nonce ≤ 64 → count_of s < 64
      → held (set (put (count_of s) handle nonce s) 0 (count_of s + 1)) ≡ session handle nonce ∷ held s
  unfolding held below
  held_opened handle fits nonce few room =
      let n : ℕ = count_of s in
      let new : List ℕ = put n handle nonce s in
      let long = length_put s all n room handle nonce few in
      let more : n + 1 ≡ suc n = omega arith in
      ap (below (set new 0 (n + 1))) (count_counted new long (n + 1) (omega arith) ∙ more)
      ∙ (λ k. (open_counted new (n + 1) n ∙ open_put s all n room handle nonce few fits) k
      ∷ below_same s (set new 0 (n + 1)) n (λ j l. open_counted new (n + 1) j ∙ other_put s all n room handle nonce few j (omega arith) (λ q. omega arith)) k)

  pub length_opened : (handle : ℕ) (nonce : List ℕ) → length nonce ≤ 64 → count_of s < 64 → length (set (put (count_of s) handle nonce s) 0 (count_of s + 1)) ≡ 4424
  length_opened handle nonce few room =
      length-set (put (count_of s) handle nonce s) 0 (count_of s + 1) ∙ length_put s all (count_of s) room handle nonce few

  module _ (handle : ℕ) (h : 0 < place_of s handle) where
    last_few : length (nonce_at s (count_of s - 1)) ≤ 64
    last_few =
        let most = count_most s in
        rw (length_nonce s all (count_of s - 1) (let some = place_inside s handle in omega arith)) (size_most s (count_of s - 1))

    pub length_closed : length (set (shifted (count_of s - 1) (place_of s handle - 1) s) 0 (count_of s - 1)) ≡ 4424
    length_closed =
        let most = count_most s in
        let some = place_inside s handle in
        length-set (shifted (count_of s - 1) (place_of s handle - 1) s) 0 (count_of s - 1)
        ∙ length_put s all (place_of s handle - 1) (omega arith) (handle_at s (count_of s - 1)) (nonce_at s (count_of s - 1)) last_few

    pub held_closed : handle_at s (count_of s - 1) < 4294967296
        → held (set (shifted (count_of s - 1) (place_of s handle - 1) s) 0 (count_of s - 1)) ≡ without handle (held s)
    unfolding held place_of
    held_closed fits =
        let most = count_most s in
        let some = place_inside s handle in
        let n : ℕ = count_of s - 1 in
        let i : ℕ = place_of s handle - 1 in
        let inside : i < 64 = omega arith in
        let new : List ℕ = shifted n i s in
        let long = length_put s all i inside (handle_at s n) (nonce_at s n) last_few in
        let all-open : count_of s ≡ suc n = omega arith in
        let found : place_of s handle ≡ suc i = omega arith in
        ap (below (set new 0 n)) (count_counted new long n (omega arith))
        ∙ without_found s (set new 0 n) handle i (open_at s n) (open_counted new n i ∙ open_put s all i inside (handle_at s n) (nonce_at s n) last_few fits)
        (λ j l q. open_counted new n j ∙ other_put s all i inside (handle_at s n) (nonce_at s n) last_few j l q)
        n (omega arith) refl (ap (place_below s handle) (sym all-open) ∙ found)
        ∙ ap (λ (k : ℕ). without handle (below s k)) (sym all-open)
