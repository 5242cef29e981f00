-- The theorem of the keeper, over every run of calls from a new keeper: what is answered for a handle is what the history tells of it.
-- Assumes nothing.
use mathlib.Core.Path.{◌≡◌, refl, sym, ◌∙◌, ap}
use mathlib.Core.Bool.{Bool, true, false, not, cond, false≢true}
use mathlib.Core.List.{List, [], ◌∷◌}
use Prim.Native.Nat.{ℕ, zero, suc, ◌+◌, ◌-◌, ◌≤◌, ◌<◌}
use native.Mathlib.Omega.{arith}
use borrow.Author.Tests.{leb-true, ltb-true, not-true}
use lib.Dec.{eqb, leb, ltb}
use lib.ListN.{length, set, replicate, length-replicate}
use Rattle.base.specs.Said.{Said, gives, refuses, then, given, after}
use Rattle.base.proofs.Checks.{needs_gives, gives_injective}
use Rattle.table.specs.declared.revision.Revision.{Revision}
use Rattle.keeper.specs.Keeper.{Open, session, not_open, is_open, asked, opened, closed, exchange, moving, moved, answered}
use Rattle.keeper.specs.State.{count_of, handle_at, below, held, place_of, put, shifted, opened_in, closed_in, moved_in, answered_in}
use Rattle.keeper.specs.History.{Call, opening, answering, closing, asking, counting, silently, says, leaves, Event, Fits, Ran, fresh, next, moves_of, last_of, changed, told, recount}
use Rattle.keeper.proofs.Calls.{is_not_open, place_inside, held_opened, length_opened, held_closed, length_closed}
use Rattle.keeper.proofs.Exchanges.{moving_told}
use Rattle.keeper.proofs.Found.{length_held}
use Rattle.keeper.proofs.Moves.{held_moved}
use Rattle.keeper.proofs.Sessions.{Distinct, Fit, asked_moved, distinct_moved, fit_moved, length_moved, asked_without, distinct_without, fit_without, length_without}

-- ---- the bytes that a run gives

pub record Sound (s : List ℕ) : Type 0 where
  pub all : length s ≡ 4424
  pub one : Distinct (held s)
  pub fit : Fit (held s)

-- what holds of a call: the bytes stay such, and what is answered for each handle is as it was, or as the call says
abbrev Steps : List ℕ → Call → Type 0
Steps s call =
    Sound (leaves call s)
    × ((handle : ℕ) → asked handle (held (leaves call s)) ≡ cond (given (says call (held s))) (changed handle call (asked handle (held s))) (asked handle (held s)))

-- ---- opening

pub opened_tests : (handle : ℕ) (nonce : List ℕ) (xs later : List Open) → opened handle nonce xs ≡ gives later
    → (is_open handle xs ≡ false) × (length nonce ≤ 64) × (length xs < 64) × (session handle nonce ∷ xs ≡ later)
unfolding opened
opened_tests handle nonce xs later e =
    let first = needs_gives (not (is_open handle xs)) _ _ e in
    let second = needs_gives (leb (length nonce) 64) _ _ first.1 in
    let third = needs_gives (ltb (length xs) 64) _ _ second.1 in (
      not-true (is_open handle xs) first.0,
      leb-true (length nonce) 64 second.0,
      ltb-true (length xs) 64 third.0,
      gives_injective third.1,
    )

closed_test : (handle : ℕ) (xs later : List Open) → closed handle xs ≡ gives later → is_open handle xs ≡ true
unfolding closed
closed_test handle xs later e = (needs_gives (is_open handle xs) _ _ e).0

opens : (s : List ℕ) → Sound s → (handle : ℕ) → handle < 4294967296 → (nonce : List ℕ) → Steps s (opening handle nonce)
unfolding opened_in asked
opens s sound handle fits nonce = by (opened handle nonce (held s)) refl
  where
    by : (said : Said (List Open)) → opened handle nonce (held s) ≡ said
        → Sound (after s (then said λ xs. gives (set (put (count_of s) handle nonce s) 0 (count_of s + 1))))
        × ((other : ℕ) → asked other (held (after s (then said λ xs. gives (set (put (count_of s) handle nonce s) 0 (count_of s + 1)))))
        ≡ cond (given (silently said)) (cond (eqb handle other) (gives nonce) (asked other (held s))) (asked other (held s)))
    by (gives xs) e =
        let test = opened_tests handle nonce (held s) xs e in
        let room : count_of s < 64 = rw (← length_held s) test.2 in
        let is = held_opened s sound.all handle fits nonce test.1 room in (
          record {
            all = length_opened s sound.all handle nonce test.1 room;
            one = rw is (test.0, sound.one);
            fit = rw is (fits, sound.fit);
          },
          λ other. ap (asked other) is,
        )
    by (refuses why) e = (sound, λ other. refl)

-- ---- closing

-- a handle that is open has a place
has_place : (s : List ℕ) (handle : ℕ) → is_open handle (held s) ≡ true → 0 < place_of s handle
has_place s handle was = by (place_of s handle) refl
  where
    by : (p : ℕ) → place_of s handle ≡ p → 0 < p
    by zero e = absurd (false≢true (sym (is_not_open s handle (sym e)) ∙ was))
    by (suc i) e = omega arith

-- the last place is one of the sessions
fit_last : (s : List ℕ) (n : ℕ) → count_of s ≡ suc n → Fit (held s) → handle_at s n < 4294967296
unfolding held below
fit_last s n e fit = let all : Fit (below s (suc n)) = rw e at fit in all.0

closes : (s : List ℕ) → Sound s → (handle : ℕ) → Steps s (closing handle)
unfolding closed_in
closes s sound handle = by (closed handle (held s)) refl
  where
    by : (said : Said (List Open)) → closed handle (held s) ≡ said
        → Sound (after s (then said λ xs. gives (set (shifted (count_of s - 1) (place_of s handle - 1) s) 0 (count_of s - 1))))
        × ((other : ℕ) → asked other (held (after s (then said λ xs. gives (set (shifted (count_of s - 1) (place_of s handle - 1) s) 0 (count_of s - 1)))))
        ≡ cond (given (silently said)) (cond (eqb handle other) (refuses not_open) (asked other (held s))) (asked other (held s)))
    by (gives xs) e =
        let was = closed_test handle (held s) xs e in
        let place = has_place s handle was in
        let inside = place_inside s handle in
        let more : count_of s ≡ suc (count_of s - 1) = omega arith in
        let is = held_closed s sound.all handle place (fit_last s (count_of s - 1) more sound.fit) in (
          record {
            all = length_closed s sound.all handle place;
            one = rw is (distinct_without handle (held s) sound.one was);
            fit = rw is (fit_without handle (held s) sound.fit);
          },
          λ other. ap (asked other) is ∙ asked_without handle other (held s) sound.one was,
        )
    by (refuses why) e = (sound, λ other. refl)

-- ---- an answer

answers : (s : List ℕ) → Sound s → (table : Revision) (command response : List ℕ) → Steps s (answering table command response)
unfolding answered_in answered
answers s sound table command response = by (moving table command response (held s)) refl
  where
    by : (said : Said (List Open)) → moving table command response (held s) ≡ said
        → Sound (after s (then said λ ms. gives (moved_in ms s)))
        × ((other : ℕ) → asked other (held (after s (then said λ ms. gives (moved_in ms s))))
        ≡ cond (given (silently (then said λ ms. gives (moved ms (held s)))))
        (then (asked other (held s)) λ nonce. gives (last_of other (moves_of response (exchange table command response)) nonce)) (asked other (held s)))
    by (gives ms) e =
        let made = moving_told table command response (held s) ms e in
        let is = held_moved ms made.1 s sound.all in (
          record {
            all = is.1;
            one = rw is.0 (distinct_moved ms (held s) sound.one);
            fit = rw is.0 (fit_moved ms (held s) sound.fit);
          },
          λ other.
              ap (asked other) is.0 ∙ asked_moved other ms (held s)
              ∙ ap (λ (these : List Open). then (asked other (held s)) λ nonce. gives (last_of other these nonce)) made.0,
        )
    by (refuses why) e = (sound, λ other. refl)

-- ---- every call, and every run

either_way : {A : Type 0} (b : Bool) (x : A) → x ≡ cond b x x
either_way true x = refl
either_way false x = refl

steps : (s : List ℕ) → Sound s → (call : Call) → Fits call → Steps s call
steps s sound (opening handle nonce) fits = opens s sound handle fits nonce
steps s sound (answering table command response) fits = answers s sound table command response
steps s sound (closing handle) fits = closes s sound handle
steps s sound (asking handle) fits = (sound, λ other. either_way (given (asked handle (held s))) (asked other (held s)))
steps s sound counting fits = (sound, λ other. refl)

pub none_held : held (replicate 4424 0) ≡ []
unfolding held below count_of
none_held = refl

sound_fresh : Sound (replicate 4424 0)
sound_fresh = record { all = length-replicate {A = ℕ} 4424 0; one = rw none_held tt; fit = rw none_held tt }

pub ran_sound : (past : List Event) (s : List ℕ) → Ran past s → Sound s
ran_sound [] s fresh = sound_fresh
ran_sound (e ∷ past) s (next {s = before} ran call fits) = (steps before (ran_sound past before ran) call fits).0

-- the nonce that is answered for a handle is the one that the history tells, and none is where it tells none
pub kept_told : (past : List Event) (s : List ℕ) → Ran past s → (handle : ℕ) → asked handle (held s) ≡ told handle past
unfolding told asked
kept_told [] s fresh handle = ap (asked handle) none_held
kept_told (e ∷ past) s (next {s = before} ran call fits) handle =
    (steps before (ran_sound past before ran) call fits).1 handle
    ∙ ap (λ (said : Said (List ℕ)). cond (given (says call (held before))) (changed handle call said) said) (kept_told past before ran handle)

-- ---- how many are open

module _ (s : List ℕ) (sound : Sound s) where
  pub length_after : (call : Call) → Fits call → length (held (leaves call s)) ≡ cond (given (says call (held s))) (recount call (length (held s))) (length (held s))
  unfolding opened_in closed_in answered_in answered
  length_after (opening handle nonce) fits = by (opened handle nonce (held s)) refl
    where
      by : (said : Said (List Open)) → opened handle nonce (held s) ≡ said
          → length (held (after s (then said λ xs. gives (set (put (count_of s) handle nonce s) 0 (count_of s + 1)))))
          ≡ cond (given (silently said)) (suc (length (held s))) (length (held s))
      by (gives xs) e =
          let test = opened_tests handle nonce (held s) xs e in
          let room : count_of s < 64 = rw (← length_held s) test.2 in
          ap length (held_opened s sound.all handle fits nonce test.1 room)
      by (refuses why) e = refl
  length_after (answering table command response) fits = by (moving table command response (held s)) refl
    where
      by : (said : Said (List Open)) → moving table command response (held s) ≡ said
          → length (held (after s (then said λ ms. gives (moved_in ms s))))
          ≡ cond (given (silently (then said λ ms. gives (moved ms (held s))))) (length (held s)) (length (held s))
      by (gives ms) e =
          let made = moving_told table command response (held s) ms e in
          ap length (held_moved ms made.1 s sound.all).0 ∙ length_moved ms (held s)
      by (refuses why) e = refl
  length_after (closing handle) fits = by (closed handle (held s)) refl
    where
      by : (said : Said (List Open)) → closed handle (held s) ≡ said
          → length (held (after s (then said λ xs. gives (set (shifted (count_of s - 1) (place_of s handle - 1) s) 0 (count_of s - 1)))))
          ≡ cond (given (silently said)) (length (held s) - 1) (length (held s))
      by (gives xs) e =
          let was = closed_test handle (held s) xs e in
          let place = has_place s handle was in
          let inside = place_inside s handle in
          let more : count_of s ≡ suc (count_of s - 1) = omega arith in
          ap length (held_closed s sound.all handle place (fit_last s (count_of s - 1) more sound.fit)) ∙ length_without handle (held s) was
      by (refuses why) e = refl
  length_after (asking handle) fits = either_way (given (asked handle (held s))) (length (held s))
  length_after counting fits = refl
