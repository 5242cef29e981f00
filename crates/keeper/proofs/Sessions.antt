-- The list of open sessions: what a call leaves of it, told by what is then answered for each handle.
-- Assumes nothing.
use mathlib.Core.Path.{◌≡◌, refl, sym, ◌∙◌, ap}
use mathlib.Core.Bool.{Bool, true, false, ◌||◌, cond, false≢true}
use mathlib.Core.List.{List, [], ◌∷◌}
use Prim.Native.Nat.{ℕ, suc, ◌-◌, ◌<◌}
use native.Mathlib.Omega.{arith}
use borrow.Author.Tests.{eqb-true, eqb-false, eq-eqb, ne_eqb}
use lib.Dec.{eqb}
use lib.ListN.{length}
use Rattle.base.specs.Said.{Said, gives, refuses, then, given}
use Rattle.keeper.specs.Keeper.{Open, session, not_open, is_open, asked, replace, without, moved}
use Rattle.keeper.specs.History.{last_of}

-- of two truths of which neither holds
pub neither : (a b : Bool) → (a || b) ≡ false → (a ≡ false) × (b ≡ false)
neither true b e = absurd (false≢true (sym e))
neither false b e = (refl, e)

-- a session is open exactly when there is an answer for it
pub open_answers : (handle : ℕ) (xs : List Open) → is_open handle xs ≡ given (asked handle xs)
unfolding is_open asked
open_answers handle [] = refl
open_answers handle (x ∷ xs) = by (eqb x.handle handle) (open_answers handle xs)
  where
    by : (b : Bool) → is_open handle xs ≡ given (asked handle xs) → (b || is_open handle xs) ≡ given (cond b (gives x.nonce) (asked handle xs))
    by true e = refl
    by false e = e

pub not_open_lem : (handle : ℕ) (xs : List Open) → is_open handle xs ≡ false → asked handle xs ≡ refuses not_open
unfolding is_open asked
not_open_lem handle [] e = refl
not_open_lem handle (x ∷ xs) e = by (eqb x.handle handle) e (not_open_lem handle xs)
  where
    by : (b : Bool) → (b || is_open handle xs) ≡ false → (is_open handle xs ≡ false → asked handle xs ≡ refuses not_open)
        → cond b (gives x.nonce) (asked handle xs) ≡ refuses not_open
    by true e rest = absurd (false≢true (sym e))
    by false e rest = rest e

-- ---- no handle twice, and each of 32 bits

abbrev pub Distinct : List Open → Type 0
Distinct [] = Unit {0}
Distinct (x ∷ xs) = (is_open x.handle xs ≡ false) × Distinct xs

abbrev pub Fit : List Open → Type 0
Fit [] = Unit {0}
Fit (x ∷ xs) = (x.handle < 4294967296) × Fit xs

pub fit_replace : (handle : ℕ) (y : Open) → y.handle < 4294967296 → (xs : List Open) → Fit xs → Fit (replace handle y xs)
unfolding replace
fit_replace handle y h [] fit = tt
fit_replace handle y h (x ∷ xs) fit = by (eqb x.handle handle) (fit_replace handle y h xs fit.1)
  where
    by : (b : Bool) → Fit (replace handle y xs) → Fit (cond b (y ∷ xs) (x ∷ replace handle y xs))
    by true rest = (h, fit.1)
    by false rest = (fit.0, rest)

pub length_replace : (handle : ℕ) (y : Open) (xs : List Open) → length (replace handle y xs) ≡ length xs
unfolding replace
length_replace handle y [] = refl
length_replace handle y (x ∷ xs) = by (eqb x.handle handle) (length_replace handle y xs)
  where
    by : (b : Bool) → length (replace handle y xs) ≡ length xs → length (cond b (y ∷ xs) (x ∷ replace handle y xs)) ≡ length (x ∷ xs)
    by true e = refl
    by false e = ap suc e

-- ---- another nonce for a handle

-- what is answered after it
abbrev renewed_for : ℕ → List ℕ → ℕ → Said (List ℕ) → Said (List ℕ)
renewed_for handle nonce other before = cond (eqb handle other) (then before λ old. gives nonce) before

module _ (handle : ℕ) (nonce : List ℕ) where
  asked_renewed_at : (other : ℕ) (x : Open) (rest later : Said (List ℕ)) → later ≡ renewed_for handle nonce other rest
      → (b : Bool) → eqb x.handle handle ≡ b
      → cond b (cond (eqb handle other) (gives nonce) rest) (cond (eqb x.handle other) (gives x.nonce) later)
      ≡ renewed_for handle nonce other (cond (eqb x.handle other) (gives x.nonce) rest)
  asked_renewed_at other x rest later e true same = by (eqb handle other) refl
    where
      by : (d : Bool) → eqb handle other ≡ d → cond d (gives nonce) rest ≡ cond d (then (cond (eqb x.handle other) (gives x.nonce) rest) λ old. gives nonce) (cond (eqb x.handle other) (gives x.nonce) rest)
      by true t = rw (eqb-true x.handle handle same, t) refl
      by false t = rw (eqb-true x.handle handle same, t) refl
  asked_renewed_at other x rest later e false apart = by (eqb x.handle other) refl
    where
      by : (d : Bool) → eqb x.handle other ≡ d → cond d (gives x.nonce) later ≡ renewed_for handle nonce other (cond d (gives x.nonce) rest)
      by true t = rw (ne_eqb handle other (λ q. eqb-false x.handle handle apart (eqb-true x.handle other t ∙ sym q))) refl
      by false t = e

  pub asked_renewed : (other : ℕ) (xs : List Open) → asked other (replace handle (session handle nonce) xs) ≡ renewed_for handle nonce other (asked other xs)
  unfolding asked replace
  asked_renewed other [] = by (eqb handle other)
    where
      by : (b : Bool) → refuses not_open ≡ cond b (then (refuses not_open) λ (old : List ℕ). gives nonce) (refuses not_open)
      by true = refl
      by false = refl
  asked_renewed other (x ∷ xs) =
      by (eqb x.handle handle) ∙ asked_renewed_at other x (asked other xs) (asked other (replace handle (session handle nonce) xs)) (asked_renewed other xs) (eqb x.handle handle) refl
    where
      by : (b : Bool) → asked other (cond b (session handle nonce ∷ xs) (x ∷ replace handle (session handle nonce) xs))
          ≡ cond b (cond (eqb handle other) (gives nonce) (asked other xs)) (cond (eqb x.handle other) (gives x.nonce) (asked other (replace handle (session handle nonce) xs)))
      by true = refl
      by false = refl

  -- the same sessions stay open
  pub open_renewed : (other : ℕ) (xs : List Open) → is_open other (replace handle (session handle nonce) xs) ≡ is_open other xs
  open_renewed other xs =
      open_answers other (replace handle (session handle nonce) xs) ∙ ap given (asked_renewed other xs) ∙ by (eqb handle other) (asked other xs)
      ∙ sym (open_answers other xs)
    where
      by : (b : Bool) (said : Said (List ℕ)) → given (cond b (then said λ old. gives nonce) said) ≡ given said
      by true (gives old) = refl
      by true (refuses why) = refl
      by false said = refl

  pub distinct_renewed : (xs : List Open) → Distinct xs → Distinct (replace handle (session handle nonce) xs)
  unfolding replace
  distinct_renewed [] one = tt
  distinct_renewed (x ∷ xs) one = by (eqb x.handle handle) refl (distinct_renewed xs one.1)
    where
      by : (b : Bool) → eqb x.handle handle ≡ b → Distinct (replace handle (session handle nonce) xs)
          → Distinct (cond b (session handle nonce ∷ xs) (x ∷ replace handle (session handle nonce) xs))
      by true t rest = (rw (← eqb-true x.handle handle t) one.0, one.1)
      by false t rest = (open_renewed x.handle xs ∙ one.0, rest)

-- ---- the moves of an answer

-- a session that is open has the nonce that they give it last
pub asked_moved : (other : ℕ) (ms xs : List Open) → asked other (moved ms xs) ≡ then (asked other xs) λ old. gives (last_of other ms old)
unfolding moved last_of
asked_moved other [] xs = by (asked other xs)
  where
    by : (said : Said (List ℕ)) → said ≡ then said λ old. gives old
    by (gives old) = refl
    by (refuses why) = refl
asked_moved other (m ∷ ms) xs =
    asked_moved other ms (replace m.handle m xs) ∙ ap (λ (said : Said (List ℕ)). then said λ old. gives (last_of other ms old)) (asked_renewed m.handle m.nonce other xs)
    ∙ by (eqb m.handle other) (asked other xs)
  where
    by : (b : Bool) (said : Said (List ℕ)) → then (cond b (then said λ old. gives m.nonce) said) (λ old. gives (last_of other ms old))
        ≡ then said λ old. gives (last_of other ms (cond b m.nonce old))
    by true (gives old) = refl
    by true (refuses why) = refl
    by false (gives old) = refl
    by false (refuses why) = refl

pub distinct_moved : (ms xs : List Open) → Distinct xs → Distinct (moved ms xs)
unfolding moved
distinct_moved [] xs one = one
distinct_moved (m ∷ ms) xs one = distinct_moved ms (replace m.handle m xs) (distinct_renewed m.handle m.nonce xs one)

pub length_moved : (ms xs : List Open) → length (moved ms xs) ≡ length xs
unfolding moved
length_moved [] xs = refl
length_moved (m ∷ ms) xs = length_moved ms (replace m.handle m xs) ∙ length_replace m.handle m xs

-- a handle that has more than 32 bits is not open, and so is passed by
fit_own : (handle : ℕ) (nonce : List ℕ) (xs : List Open) → Fit xs → Fit (replace handle (session handle nonce) xs)
unfolding replace
fit_own handle nonce [] fit = tt
fit_own handle nonce (x ∷ xs) fit = by (eqb x.handle handle) refl (fit_own handle nonce xs fit.1)
  where
    by : (b : Bool) → eqb x.handle handle ≡ b → Fit (replace handle (session handle nonce) xs)
        → Fit (cond b (session handle nonce ∷ xs) (x ∷ replace handle (session handle nonce) xs))
    by true t rest = (rw (← eqb-true x.handle handle t) fit.0, fit.1)
    by false t rest = (fit.0, rest)

pub fit_moved : (ms xs : List Open) → Fit xs → Fit (moved ms xs)
unfolding moved
fit_moved [] xs fit = fit
fit_moved (m ∷ ms) xs fit = fit_moved ms (replace m.handle m xs) (fit_own m.handle m.nonce xs fit)

-- ---- another session in the place of one that is closed

-- what is answered after it
abbrev traded_for : ℕ → Open → ℕ → Said (List ℕ) → Said (List ℕ)
traded_for handle y other before = cond (eqb y.handle other) (gives y.nonce) (cond (eqb handle other) (refuses not_open) before)

module _ (handle : ℕ) (y : Open) (apart : y.handle ≡ handle → ⊥) where
  pub asked_traded : (other : ℕ) (xs : List Open) → Distinct xs → is_open y.handle xs ≡ false → is_open handle xs ≡ true
      → asked other (replace handle y xs) ≡ traded_for handle y other (asked other xs)
  unfolding asked replace is_open
  asked_traded other [] one new old = absurd (false≢true old)
  asked_traded other (x ∷ xs) one new old = by (eqb x.handle handle) refl (eqb y.handle other) refl (asked_traded other xs one.1)
    where
      -- the head is another handle
      there : eqb x.handle handle ≡ false → (is_open y.handle xs ≡ false → is_open handle xs ≡ true → asked other (replace handle y xs) ≡ traded_for handle y other (asked other xs))
          → (d : Bool) → eqb x.handle other ≡ d
          → cond d (gives x.nonce) (asked other (replace handle y xs)) ≡ traded_for handle y other (cond d (gives x.nonce) (asked other xs))
      there t rest true e =
          let own : eqb y.handle other ≡ false = ne_eqb y.handle other (λ q. false≢true (sym (neither (eqb x.handle y.handle) (is_open y.handle xs) new).0 ∙ eq-eqb x.handle y.handle (eqb-true x.handle other e ∙ sym q))) in
          let gone : eqb handle other ≡ false = ne_eqb handle other (λ q. eqb-false x.handle handle t (eqb-true x.handle other e ∙ sym q)) in
          rw (own, gone) refl
      there t rest false e = rest (neither (eqb x.handle y.handle) (is_open y.handle xs) new).1 (rw t at old)

      -- the head is the one that is closed, and there is no other
      here : eqb x.handle handle ≡ true → (d : Bool) → eqb handle other ≡ d
          → asked other xs ≡ cond d (refuses not_open) (cond (eqb x.handle other) (gives x.nonce) (asked other xs))
      here t true e = rw (← eqb-true handle other e, ← eqb-true x.handle handle t) (not_open_lem x.handle xs one.0)
      here t false e = rw (eqb-true x.handle handle t, e) refl

      by : (b : Bool) → eqb x.handle handle ≡ b → (c : Bool) → eqb y.handle other ≡ c
          → (is_open y.handle xs ≡ false → is_open handle xs ≡ true → asked other (replace handle y xs) ≡ traded_for handle y other (asked other xs))
          → asked other (cond b (y ∷ xs) (x ∷ replace handle y xs)) ≡ traded_for handle y other (cond (eqb x.handle other) (gives x.nonce) (asked other xs))
      by true t c f rest = ap (cond (eqb y.handle other) (gives y.nonce)) (here t (eqb handle other) refl)
      by false t c f rest = there t rest (eqb x.handle other) refl

  open_traded : (other : ℕ) (xs : List Open) → Distinct xs → is_open y.handle xs ≡ false → is_open handle xs ≡ true
      → eqb y.handle other ≡ false → is_open other xs ≡ false → is_open other (replace handle y xs) ≡ false
  open_traded other xs one new old own closed =
      open_answers other (replace handle y xs) ∙ ap given (asked_traded other xs one new old)
      ∙ rw (own, not_open_lem other xs closed) (by (eqb handle other))
    where
      none : Said (List ℕ)
      none = refuses not_open

      by : (b : Bool) → given (cond b none none) ≡ false
      by true = refl
      by false = refl

  pub distinct_traded : (xs : List Open) → Distinct xs → is_open y.handle xs ≡ false → is_open handle xs ≡ true → Distinct (replace handle y xs)
  unfolding replace is_open
  distinct_traded [] one new old = tt
  distinct_traded (x ∷ xs) one new old = by (eqb x.handle handle) refl (distinct_traded xs one.1)
    where
      by : (b : Bool) → eqb x.handle handle ≡ b → (is_open y.handle xs ≡ false → is_open handle xs ≡ true → Distinct (replace handle y xs))
          → Distinct (cond b (y ∷ xs) (x ∷ replace handle y xs))
      by true t rest = ((neither (eqb x.handle y.handle) (is_open y.handle xs) new).1, one.1)
      by false t rest =
          let fresh = (neither (eqb x.handle y.handle) (is_open y.handle xs) new).1 in
          let there : is_open handle xs ≡ true = rw t at old in
          let own = ne_eqb y.handle x.handle (λ q. eqb-false x.handle y.handle (neither (eqb x.handle y.handle) (is_open y.handle xs) new).0 (sym q)) in
          (open_traded x.handle xs one.1 fresh there own one.0, rest fresh there)

-- ---- closing

module _ (handle : ℕ) where
  pub asked_without : (other : ℕ) (xs : List Open) → Distinct xs → is_open handle xs ≡ true
      → asked other (without handle xs) ≡ cond (eqb handle other) (refuses not_open) (asked other xs)
  unfolding asked without is_open
  asked_without other [] one old = absurd (false≢true old)
  asked_without other (x ∷ xs) one old = by (eqb x.handle handle) refl
    where
      -- the newest is closed
      newest : eqb x.handle handle ≡ true → (d : Bool) → eqb handle other ≡ d
          → asked other xs ≡ cond d (refuses not_open) (cond (eqb x.handle other) (gives x.nonce) (asked other xs))
      newest t true e = rw (← eqb-true handle other e, ← eqb-true x.handle handle t) (not_open_lem x.handle xs one.0)
      newest t false e = rw (eqb-true x.handle handle t, e) refl

      -- the newest takes the place of the one that is closed
      moves_in : eqb x.handle handle ≡ false → (d : Bool) → eqb x.handle other ≡ d
          → cond d (gives x.nonce) (cond (eqb handle other) (refuses not_open) (asked other xs))
          ≡ cond (eqb handle other) (refuses not_open) (cond d (gives x.nonce) (asked other xs))
      moves_in t true e = rw (ne_eqb handle other (λ q. eqb-false x.handle handle t (eqb-true x.handle other e ∙ sym q))) refl
      moves_in t false e = refl

      by : (b : Bool) → eqb x.handle handle ≡ b
          → asked other (cond b xs (replace handle x xs)) ≡ cond (eqb handle other) (refuses not_open) (cond (eqb x.handle other) (gives x.nonce) (asked other xs))
      by true t = newest t (eqb handle other) refl
      by false t =
          asked_traded handle x (eqb-false x.handle handle t) other xs one.1 one.0 (rw t at old) ∙ moves_in t (eqb x.handle other) refl

  pub distinct_without : (xs : List Open) → Distinct xs → is_open handle xs ≡ true → Distinct (without handle xs)
  unfolding without is_open
  distinct_without [] one old = tt
  distinct_without (x ∷ xs) one old = by (eqb x.handle handle) refl
    where
      by : (b : Bool) → eqb x.handle handle ≡ b → Distinct (cond b xs (replace handle x xs))
      by true t = one.1
      by false t = distinct_traded handle x (eqb-false x.handle handle t) xs one.1 one.0 (rw t at old)

  pub fit_without : (xs : List Open) → Fit xs → Fit (without handle xs)
  unfolding without
  fit_without [] fit = tt
  fit_without (x ∷ xs) fit = by (eqb x.handle handle)
    where
      by : (b : Bool) → Fit (cond b xs (replace handle x xs))
      by true = fit.1
      by false = fit_replace handle x fit.0 xs fit.1

  pub length_without : (xs : List Open) → is_open handle xs ≡ true → length (without handle xs) ≡ length xs - 1
  unfolding without is_open
  length_without [] old = absurd (false≢true old)
  length_without (x ∷ xs) old = by (eqb x.handle handle)
    where
      by : (b : Bool) → length (cond b xs (replace handle x xs)) ≡ suc (length xs) - 1
      by true = omega arith
      by false = length_replace handle x xs ∙ omega arith

-- a handle that is not open is passed by
pub passed_by : (handle : ℕ) (y : Open) (xs : List Open) → is_open handle xs ≡ false → replace handle y xs ≡ xs
unfolding replace is_open
passed_by handle y [] e = refl
passed_by handle y (x ∷ xs) e =
    rw (neither (eqb x.handle handle) (is_open handle xs) e).0
    (ap (λ (rest : List Open). x ∷ rest) (passed_by handle y xs (neither (eqb x.handle handle) (is_open handle xs) e).1))
