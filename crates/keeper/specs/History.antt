-- Runs of calls, and what the history of a run, its calls with their answers, tells of a session (document 02, W8). A history has the last call first.
-- Assumes nothing: these are definitions.
use Rattle.std.specs.Prelude.{ℕ, suc, ◌-◌, ◌<◌, Bool, false, cond, List, [], ◌∷◌, eqb, length, replicate}
use Rattle.base.specs.Said.{Said, gives, refuses, then, given, after}
use Rattle.table.specs.declared.revision.Revision.{Revision}
use Rattle.keeper.specs.Keeper.{Open, not_open, is_open, asked, opened, closed, Exchange, exchange, moves, answered}
use Rattle.keeper.specs.State.{held, opened_in, closed_in, answered_in}

pub data Call : Type 0 where
  opening : ℕ → List ℕ → Call
  answering : Revision → List ℕ → List ℕ → Call
  closing : ℕ → Call
  asking : ℕ → Call
  counting : Call

-- ---- what a call says, and what the keeper's bytes are after it

abbrev pub silently : {A : Type 0} → Said A → Said (List ℕ)
silently said = then said λ a. gives []

abbrev pub says : Call → List Open → Said (List ℕ)
says (opening handle nonce) xs = silently (opened handle nonce xs)
says (answering table command response) xs = silently (answered table command response xs)
says (closing handle) xs = silently (closed handle xs)
says (asking handle) xs = asked handle xs
says counting xs = gives (length xs ∷ [])

abbrev pub leaves : Call → List ℕ → List ℕ
leaves (opening handle nonce) s = after s (opened_in handle nonce s)
leaves (answering table command response) s = after s (answered_in table command response s)
leaves (closing handle) s = after s (closed_in handle s)
leaves (asking handle) s = s
leaves counting s = s

-- ---- runs

pub record Event : Type 0 where
  pub call : Call
  pub said : Said (List ℕ)

abbrev pub event : Call → Said (List ℕ) → Event
event call said = record { call = call; said = said }

-- a handle that is opened has 32 bits
abbrev pub Fits : Call → Type 0
Fits (opening handle nonce) = handle < 4294967296
Fits (answering table command response) = Unit {0}
Fits (closing handle) = Unit {0}
Fits (asking handle) = Unit {0}
Fits counting = Unit {0}

-- a run from a new keeper, by its history and the bytes that it ends with
pub data Ran : List Event → List ℕ → Type 0 where
  fresh : Ran [] (replicate 4424 0)
  next : {past : List Event} {s : List ℕ} → Ran past s → (call : Call) → Fits call → Ran (event call (says call (held s)) ∷ past) (leaves call s)

-- ---- what a history tells of a session: its last nonce, or that it is not open

-- the entries of a success answer that passes, to a command that passes, position by position
abbrev pub moves_of : List ℕ → Said Exchange → List Open
moves_of response (gives e) = cond e.success (moves response e.named e.given) []
moves_of response (refuses why) = []

-- the nonce that they give a handle, or the one before where they do not name it
unfoldable pub last_of : ℕ → List Open → List ℕ → List ℕ
last_of handle [] before = before
last_of handle (m ∷ ms) before = last_of handle ms (cond (eqb m.handle handle) m.nonce before)

-- after a call that was accepted
abbrev pub changed : ℕ → Call → Said (List ℕ) → Said (List ℕ)
changed handle (opening other nonce) before = cond (eqb other handle) (gives nonce) before
changed handle (answering table command response) before =
    then before λ nonce. gives (last_of handle (moves_of response (exchange table command response)) nonce)
changed handle (closing other) before = cond (eqb other handle) (refuses not_open) before
changed handle (asking other) before = before
changed handle counting before = before

unfoldable pub told : ℕ → List Event → Said (List ℕ)
told handle [] = refuses not_open
told handle (e ∷ past) = cond (given e.said) (changed handle e.call (told handle past)) (told handle past)

-- how many sessions it tells to be open
abbrev pub recount : Call → ℕ → ℕ
recount (opening handle nonce) n = suc n
recount (answering table command response) n = n
recount (closing handle) n = n - 1
recount (asking handle) n = n
recount counting n = n

unfoldable pub open_told : List Event → ℕ
open_told [] = 0
open_told (e ∷ past) = cond (given e.said) (recount e.call (open_told past)) (open_told past)

-- whether a call names a handle: of an answer, whether it is among the sessions that are to move
abbrev pub names : ℕ → Call → Bool
names handle (opening other nonce) = eqb other handle
names handle (answering table command response) = is_open handle (moves_of response (exchange table command response))
names handle (closing other) = eqb other handle
names handle (asking other) = false
names handle counting = false
