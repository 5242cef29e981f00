-- The nonce keeper (document 02, W8) as a plain list: the open sessions, each with its last nonce, and what each call answers and leaves of it.
-- Assumes nothing: these are definitions.
use Rattle.std.specs.Prelude.{ℕ, Bool, false, not, ◌&&◌, ◌||◌, cond, List, [], ◌∷◌, eqb, leb, ltb, length}
use Rattle.base.specs.Said.{Why, no_area, Said, gives, refuses, needs, then}
use Rattle.table.specs.declared.revision.Revision.{Revision}
use Rattle.frame.specs.declared.rules.Reading.TheVariants as reading
use Rattle.frame.specs.declared.session.Session.{Session}
use Rattle.frame.specs.Command.{read_command}
use Rattle.frame.specs.Header.{code_of}
use Rattle.frame.specs.Parts.{field_in}
use Rattle.frame.specs.Response.{read_response}
use Rattle.frame.specs.Rules.{Rulebook, book_of}

-- a session's handle, and a nonce of it
pub record Open : Type 0 where
  pub handle : ℕ
  pub nonce : List ℕ

abbrev pub session : ℕ → List ℕ → Open
session handle nonce = record { handle = handle; nonce = nonce }

-- the refusals that have no fields
abbrev pub handle_repeated : Why
handle_repeated = no_area (13 ∷ [])

abbrev pub counts_differ : Why
counts_differ = no_area (14 ∷ [])

abbrev pub already_open : Why
already_open = no_area (15 ∷ [])

abbrev pub all_open : Why
all_open = no_area (16 ∷ [])

abbrev pub not_open : Why
not_open = no_area (17 ∷ [])

-- ---- one session of those that are open, the newest first

unfoldable pub is_open : ℕ → List Open → Bool
is_open handle [] = false
is_open handle (x ∷ xs) = eqb x.handle handle || is_open handle xs

-- its nonce
unfoldable pub asked : ℕ → List Open → Said (List ℕ)
asked handle [] = refuses not_open
asked handle (x ∷ xs) = cond (eqb x.handle handle) (gives x.nonce) (asked handle xs)

-- another in its place; where it is not open, nothing changes
unfoldable pub replace : ℕ → Open → List Open → List Open
replace handle y [] = []
replace handle y (x ∷ xs) = cond (eqb x.handle handle) (y ∷ xs) (x ∷ replace handle y xs)

-- all but it: the newest takes its place
unfoldable pub without : ℕ → List Open → List Open
without handle [] = []
without handle (x ∷ xs) = cond (eqb x.handle handle) xs (replace handle x xs)

-- ---- opening and closing

unfoldable pub opened : ℕ → List ℕ → List Open → Said (List Open)
opened handle nonce xs =
    needs (not (is_open handle xs)) already_open
    (needs (leb (length nonce) 64) (no_area (8 ∷ 0 ∷ 64 ∷ length nonce ∷ []))
    (needs (ltb (length xs) 64) all_open
    (gives (session handle nonce ∷ xs))))

unfoldable pub closed : ℕ → List Open → Said (List Open)
closed handle xs = needs (is_open handle xs) not_open (gives (without handle xs))

-- ---- an answer, with the command that it answers

-- by the standard reading, at the table that is named (W10)
abbrev pub standard : Revision → Rulebook
standard table = book_of (record { reading = reading.Standard; revision = table })

-- what both frames tell, where they pass: whether it is success, and the entries of the command and of the answer
pub record Exchange : Type 0 where
  pub success : Bool
  pub named : List Session
  pub given : List Session

unfoldable pub exchange : Revision → List ℕ → List ℕ → Said Exchange
exchange table command response =
    then (read_command (standard table) command) λ c.
    then (read_response (standard table) (code_of command) response) λ r.
    gives (record { success = eqb (code_of response) 0; named = c.entries; given = r.entries })

-- whether a handle stands in some entries; whether an open one stands there twice
unfoldable pub is_named : ℕ → List Session → Bool
is_named handle [] = false
is_named handle (e ∷ es) = eqb e.handle handle || is_named handle es

unfoldable pub repeated : List Session → List Open → Bool
repeated [] xs = false
repeated (e ∷ es) xs = (is_open e.handle xs && is_named e.handle es) || repeated es xs

-- each handle of the command, with the nonce at the same position of the answer
unfoldable pub moves : List ℕ → List Session → List Session → List Open
moves response [] given = []
moves response (e ∷ es) [] = []
moves response (e ∷ es) (f ∷ fs) = session e.handle (field_in response f.nonce) ∷ moves response es fs

-- what is judged of the entries of a success answer and of its command, behind both frames
unfoldable pub settling : List ℕ → List Session → List Session → List Open → Said (List Open)
settling response named given xs =
    needs (not (repeated named xs)) handle_repeated
    (needs (eqb (length named) (length given)) counts_differ
    (gives (moves response named given)))

-- the moves of an answer that is accepted: an error has none
unfoldable pub moving : Revision → List ℕ → List ℕ → List Open → Said (List Open)
moving table command response xs =
    then (exchange table command response) λ e.
    cond e.success (settling response e.named e.given xs) (gives [])

-- a session that is not open is passed by
unfoldable pub moved : List Open → List Open → List Open
moved [] xs = xs
moved (m ∷ ms) xs = moved ms (replace m.handle m xs)

unfoldable pub answered : Revision → List ℕ → List ℕ → List Open → Said (List Open)
answered table command response xs = then (moving table command response xs) λ ms. gives (moved ms xs)
