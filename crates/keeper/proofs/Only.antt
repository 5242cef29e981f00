-- What a call on a keeper is refused by, whatever the frames and the state: a frame's own refusal, in the area that it has, or a number of the keeper's, or 8, in none
-- (document 02, W2). So none is refused by 7 (W7).
-- Assumes nothing.
use mathlib.Core.Path.{refl}
use mathlib.Core.Bool.{not}
use mathlib.Core.List.{List, [], ◌∷◌}
use mathlib.Core.Logic.{◌⊎◌, inl, inr, ⊎_elim}
use Prim.Native.Nat.{ℕ, zero, suc}
use lib.Dec.{eqb, leb, ltb}
use lib.ListN.{length}
use Rattle.base.specs.Said.{Why, Only, Never, NoFrame}
use Rattle.base.proofs.Only.{by_gives, by_refuses, by_needs, by_cond, by_then, by_step, by_wider, no_frame, by_no_other, frameless}
use Rattle.frame.specs.declared.session.Session.{Session}
use Rattle.frame.specs.Header.{code_of}
use Rattle.frame.specs.Where.{OfCommand, OfResponse}
use Rattle.frame.proofs.Never.{of_table, in_commands, in_responses}
use Rattle.frame.proofs.Where.{only_command, only_response}
use Rattle.table.specs.declared.revision.Revision.{Revision}
use Rattle.keeper.specs.Keeper.{Open, is_open, opened, closed, standard, exchange, repeated, settling, moving, answered}
use Rattle.keeper.specs.State.{place_of, nonce_range, asked_in}

-- ---- a session

pub only_opened : (handle : ℕ) (nonce : List ℕ) (xs : List Open) → Only (NoFrame (8 ∷ 15 ∷ 16 ∷ [])) (opened handle nonce xs)
unfolding opened
only_opened handle nonce xs =
    by_needs (not (is_open handle xs)) _ (no_frame refl)
    (by_needs (leb (length nonce) 64) _ (no_frame refl)
    (by_needs (ltb (length xs) 64) _ (no_frame refl) by_gives))

pub only_closed : (handle : ℕ) (xs : List Open) → Only (NoFrame (17 ∷ [])) (closed handle xs)
unfolding closed
only_closed handle xs = by_needs (is_open handle xs) _ (no_frame refl) by_gives

pub only_asked : (handle : ℕ) (s : List ℕ) → Only (NoFrame (17 ∷ [])) (asked_in handle s)
unfolding asked_in
only_asked handle s = by (place_of s handle)
  where
    by : (place : ℕ) → Only (NoFrame (17 ∷ [])) (nonce_range s place)
    by zero = by_refuses _ (no_frame refl)
    by (suc i) = by_gives

-- ---- an answer: the command's refusal, the response's, or one of two

abbrev pub OfAnswer : Revision → List ℕ → List ℕ → Why → Type 0
OfAnswer table command response why = OfCommand (standard table) command why ⊎ (OfResponse (standard table) (code_of command) response why ⊎ NoFrame (13 ∷ 14 ∷ []) why)

only_settled : (response : List ℕ) (named given : List Session) (xs : List Open) → Only (NoFrame (13 ∷ 14 ∷ [])) (settling response named given xs)
unfolding settling
only_settled response named given xs =
    by_needs (not (repeated named xs)) _ (no_frame refl)
    (by_needs (eqb (length named) (length given)) _ (no_frame refl) by_gives)

pub only_answered : (table : Revision) (command response : List ℕ) (xs : List Open) → Only (OfAnswer table command response) (answered table command response xs)
unfolding answered moving exchange
only_answered table command response xs =
    by_step _
    (by_then
    (by_then (by_wider (λ why. inl) (only_command (standard table) command)) λ c.
    by_step _ (by_wider (λ why p. inr (inl p)) (only_response (standard table) response (code_of command))))
    λ e.
    by_cond e.success (by_wider (λ why p. inr (inr p)) (only_settled response e.named e.given xs)) by_gives)

-- ---- never 7

pub never_opened : (handle : ℕ) (nonce : List ℕ) (xs : List Open) → Never 7 (opened handle nonce xs)
never_opened handle nonce xs = by_no_other 7 refl (only_opened handle nonce xs)

pub never_closed : (handle : ℕ) (xs : List Open) → Never 7 (closed handle xs)
never_closed handle xs = by_no_other 7 refl (only_closed handle xs)

pub never_asked : (handle : ℕ) (s : List ℕ) → Never 7 (asked_in handle s)
never_asked handle s = by_no_other 7 refl (only_asked handle s)

pub never_answered : (table : Revision) (command response : List ℕ) (xs : List Open) → Never 7 (answered table command response xs)
never_answered table command response xs =
    by_wider (λ why. ⊎_elim (of_table in_commands why) (⊎_elim (of_table in_responses why) (frameless 7 refl why))) (only_answered table command response xs)
