-- The keeper's bytes: the open sessions that they stand for, and what they are after each call. Byte 0 is how many places are open. Of each of 64
-- places the handle stands from byte 8 on, its last byte first, the size of the nonce from byte 264 on, and the nonce from byte 328 on, 64
-- bytes for each. Every byte string stands for some sessions: a count or a size above 64 counts as 64.
-- Assumes nothing: these are definitions.
use Rattle.std.specs.Prelude.{ℕ, zero, suc, ◌+◌, ◌-◌, ◌*◌, ◌/◌, ◌%◌, Bool, ◌&&◌, cond, List, [], ◌∷◌, Option, Some, None, eqb, ltb, length, get_or, set, take, drop}
use Rattle.base.specs.Answer.{Part}
use Rattle.base.specs.Bytes.{number}
use Rattle.base.specs.Field.{laid}
use Rattle.base.specs.Said.{Said, gives, refuses, then}
use Rattle.frame.specs.declared.session.Session.{Session}
use Rattle.table.specs.declared.revision.Revision.{Revision}
use Rattle.keeper.specs.Keeper.{Open, session, not_open, opened, closed, settling, moving}

abbrev pub handle_place : ℕ → ℕ
handle_place i = 8 + 4 * i

abbrev pub size_place : ℕ → ℕ
size_place i = 264 + i

abbrev pub nonce_place : ℕ → ℕ
nonce_place i = 328 + 64 * i

-- ---- what they stand for

abbrev pub capped : ℕ → ℕ
capped n = cond (ltb n 64) n 64

unfoldable pub count_of : List ℕ → ℕ
count_of s = capped (get_or s 0 0)

unfoldable pub handle_at : List ℕ → ℕ → ℕ
handle_at s i = number (get_or s (handle_place i + 3) 0 ∷ get_or s (handle_place i + 2) 0 ∷ get_or s (handle_place i + 1) 0 ∷ get_or s (handle_place i) 0 ∷ [])

unfoldable pub size_at : List ℕ → ℕ → ℕ
size_at s i = capped (get_or s (size_place i) 0)

unfoldable pub nonce_at : List ℕ → ℕ → List ℕ
nonce_at s i = take (size_at s i) (drop (nonce_place i) s)

abbrev pub open_at : List ℕ → ℕ → Open
open_at s i = session (handle_at s i) (nonce_at s i)

-- the sessions of the first n places, the last place first
unfoldable pub below : List ℕ → ℕ → List Open
below s zero = []
below s (suc n) = open_at s n ∷ below s n

unfoldable pub held : List ℕ → List Open
held s = below s (count_of s)

-- the place of a handle, counted from 1: the last of the first n that has it, 0 where none has it
unfoldable pub place_below : List ℕ → ℕ → ℕ → ℕ
place_below s handle zero = 0
place_below s handle (suc n) = cond (eqb (handle_at s n) handle) (suc n) (place_below s handle n)

unfoldable pub place_of : List ℕ → ℕ → ℕ
place_of s handle = place_below s handle (count_of s)

-- a place that was looked for, counted so: that of a number where none was found, which is 0 where all places were looked at
abbrev pub counted_or : ℕ → Option ℕ → ℕ
counted_or n None = n
counted_or n (Some i) = suc i

abbrev pub counted : Option ℕ → ℕ
counted = counted_or 0

-- the place of the handle of an entry that is there
abbrev pub place_named : List ℕ → Option ℕ → ℕ
place_named s None = 0
place_named s (Some handle) = place_of s handle

-- ---- what they are later

-- a place with another handle, with another nonce, with both, and with the session of another place
unfoldable pub labelled : ℕ → ℕ → List ℕ → List ℕ
labelled i handle s =
    set (set (set (set s (handle_place i) (handle % 256)) (handle_place i + 1) (handle / 256 % 256)) (handle_place i + 2) (handle / 65536 % 256))
    (handle_place i + 3) (handle / 16777216)

unfoldable pub renewed : ℕ → List ℕ → List ℕ → List ℕ
renewed i nonce s = laid (nonce_place i) nonce (set s (size_place i) (length nonce))

abbrev pub put : ℕ → ℕ → List ℕ → List ℕ → List ℕ
put i handle nonce s = renewed i nonce (labelled i handle s)

abbrev pub shifted : ℕ → ℕ → List ℕ → List ℕ
shifted from to s = put to (handle_at s from) (nonce_at s from) s

-- one more, and one less: the last place's session goes to the place that is freed
unfoldable pub opened_in : ℕ → List ℕ → List ℕ → Said (List ℕ)
opened_in handle nonce s =
    then (opened handle nonce (held s)) λ xs.
    gives (set (put (count_of s) handle nonce s) 0 (count_of s + 1))

unfoldable pub closed_in : ℕ → List ℕ → Said (List ℕ)
closed_in handle s =
    then (closed handle (held s)) λ xs.
    gives (set (shifted (count_of s - 1) (place_of s handle - 1) s) 0 (count_of s - 1))

-- a nonce for the place that was found
abbrev pub renewed_at : ℕ → List ℕ → List ℕ → List ℕ
renewed_at zero nonce s = s
renewed_at (suc i) nonce s = renewed i nonce s

unfoldable pub moved_in : List Open → List ℕ → List ℕ
moved_in [] s = s
moved_in (m ∷ ms) s = moved_in ms (renewed_at (place_of s m.handle) m.nonce s)

-- of the entries of a success answer and of its command; and of both frames
unfoldable pub settled_in : List ℕ → List Session → List Session → List ℕ → Said (List ℕ)
settled_in response named given s =
    then (settling response named given (held s)) λ ms.
    gives (moved_in ms s)

unfoldable pub answered_in : Revision → List ℕ → List ℕ → List ℕ → Said (List ℕ)
answered_in table command response s =
    then (moving table command response (held s)) λ ms.
    gives (moved_in ms s)

-- a place that is found for two entries is one session named twice
abbrev pub same_place : ℕ → ℕ → Bool
same_place p q = ltb 0 p && eqb p q

-- ---- where a nonce stands

abbrev pub nonce_range : List ℕ → ℕ → Said Part
nonce_range s zero = refuses not_open
nonce_range s (suc i) = gives (record { from = nonce_place i; to = nonce_place i + size_at s i })

unfoldable pub asked_in : ℕ → List ℕ → Said Part
asked_in handle s = nonce_range s (place_of s handle)

abbrev pub bytes_of : Said Part → List ℕ → Said (List ℕ)
bytes_of range s = then range λ p. gives (take (p.to - p.from) (drop p.from s))
