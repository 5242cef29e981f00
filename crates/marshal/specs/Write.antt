-- The writers (document 01, "Order of checks", from "Command writer" on; document 02, W5 and W6), over any rules. Each gives the bytes of the frame.
-- Assumes nothing: these are definitions.
use Rattle.std.specs.Prelude.{ℕ, ◌+◌, ◌-◌, ◌*◌, ◌≤◌, ◌≡◌, Bool, true, false, ◌&&◌, ◌||◌, cond, List, [], ◌∷◌, ◌++◌, eqb, leb, ltb, length, drop}
use Rattle.std.specs.Bool.{beq}
use Rattle.base.specs.Said.{no_area, Said, gives, needs, then, given, after}
use Rattle.rc.specs.Code.{read_code}
use Rattle.table.specs.Table.{row_for}
use Rattle.frame.specs.declared.session.Field.{Field}
use Rattle.frame.specs.declared.session.Session.{Session}
use Rattle.frame.specs.Header.{sessions, bad_tag, is_of_two}
use Rattle.frame.specs.Layout.{layout_command, layout_response}
use Rattle.frame.specs.Parts.{entries_of}
use Rattle.frame.specs.Rules.{Rulebook, unlimited}
use Rattle.marshal.specs.Handed.{Handed, tag_for, command_frame, success_frame, error_frame}

-- a number, or the largest of 64 bits where it is above that
abbrev pub capped : ℕ → ℕ
capped n = cond (leb n 18446744073709551615) n 18446744073709551615

-- a nonce or HMAC that is within a limit, and whose position plus length stays within so many lent bytes
abbrev pub field_there : ℕ → ℕ → Field → Said (Unit {0})
field_there limit len f =
    needs (leb f.size limit) (no_area (8 ∷ 0 ∷ limit ∷ f.size ∷ []))
    (needs (leb (f.at + f.size) len) (no_area (1 ∷ f.at ∷ f.size ∷ (len - f.at) ∷ []))
    (gives tt))

-- for nonces and HMACs of at most so many bytes
module _ (limit : ℕ) where
  -- of each session in order, the nonce before the HMAC
  abbrev pub session_there : ℕ → Session → Said (Unit {0})
  session_there len e = then (field_there limit len e.nonce) λ nonce. field_there limit len e.hmac

  unfoldable pub sessions_there : ℕ → List Session → Said (Unit {0})
  sessions_there len [] = gives tt
  sessions_there len (e ∷ es) = then (session_there len e) λ first. sessions_there len es

-- the bytes that an entry takes: a handle of so many bytes, two lengths, the nonce, the attribute byte and the HMAC
abbrev pub entry_length : ℕ → Session → ℕ
entry_length width e = width + 5 + e.nonce.size + e.hmac.size

abbrev pub entries_length : ℕ → List Session → ℕ
entries_length width [] = 0
entries_length width (e ∷ es) = entry_length width e + entries_length width es

-- "Total size is 10 + handles + 4 under 0x8002 + entries + parameters"
abbrev pub total_size : ℕ → ℕ → Handed → ℕ
total_size width tag h =
    10 + length h.handles + cond (eqb tag sessions) 4 0 + entries_length width (entries_of h.sessions) + length h.parameters

-- the total, where there is room for it
abbrev pub fitted : ℕ → ℕ → Said ℕ
fitted total room = needs (leb total room) (no_area (9 ∷ 0 ∷ total ∷ room ∷ [])) (gives total)

-- from the handles on, for nonces and HMACs of at most so many bytes, entries with handles of so many bytes and a row of so many handles:
-- the total
unfoldable pub judged : ℕ → ℕ → ℕ → ℕ → Handed → ℕ → Said ℕ
judged limit width tag handles h room =
    needs (leb (4 * handles) (length h.handles)) (no_area (1 ∷ 0 ∷ (4 * handles) ∷ length h.handles ∷ []))
    (needs (leb (length h.handles) (4 * handles)) (no_area (2 ∷ (4 * handles) ∷ (length h.handles - 4 * handles) ∷ []))
    (then (sessions_there limit (length h.lent) (entries_of h.sessions)) λ there.
    needs (leb (total_size width tag h) 4294967295) (no_area (7 ∷ 0 ∷ capped (total_size width tag h) ∷ []))
    (fitted (total_size width tag h) room)))

-- a bare header
abbrev pub write_bare : Bool → ℕ → ℕ → Said (List ℕ)
write_bare asked code room = then (fitted 10 room) λ total. gives (layout_response (error_frame asked code))

-- any other code, with so many sessions; all else is ignored
unfoldable pub write_error : ℕ → ℕ → ℕ → Said (List ℕ)
write_error code count room = needs (eqb count 0) (no_area (3 ∷ 0 ∷ sessions ∷ [])) (write_bare false code room)

-- with the tag of the answer to a bad tag asked for: no other code is written under it
unfoldable pub write_bad_tag : ℕ → ℕ → ℕ → Said (List ℕ)
write_bad_tag code count room =
    needs (eqb code 0 || eqb count 0) (no_area (3 ∷ 0 ∷ sessions ∷ []))
    (needs (eqb code bad_tag) (no_area (5 ∷ 0 ∷ code ∷ []))
    (write_bare true code room))

module _ (book : Rulebook) where
  -- success, in a row of so many response handles
  unfoldable pub write_success : ℕ → Handed → ℕ → Said (List ℕ)
  write_success responses h room =
      then (judged book.longest 0 (tag_for h.sessions.count) responses h room) λ total.
      gives (layout_response (success_frame h))

  unfoldable pub write_command : ℕ → ℕ → Handed → ℕ → Said (List ℕ)
  write_command tag code h room =
      needs (is_of_two tag) (no_area (3 ∷ 0 ∷ tag ∷ []))
      (needs (beq (eqb tag sessions) (ltb 0 h.sessions.count)) (no_area (3 ∷ 0 ∷ tag ∷ []))
      (needs (leb h.sessions.count 3) (no_area (6 ∷ 0 ∷ 3 ∷ h.sessions.count ∷ []))
      (then (row_for book.rows code) λ row.
      then (judged book.longest 4 tag row.handles h room) λ total.
      gives (layout_command (command_frame tag code h)))))

  -- a response of some code to the command of the code cc, with the tag of the answer to a bad tag asked for or not
  unfoldable pub write_response : Bool → ℕ → ℕ → Handed → ℕ → Said (List ℕ)
  write_response asked cc code h room =
      needs (leb h.sessions.count 3) (no_area (6 ∷ 0 ∷ 3 ∷ h.sessions.count ∷ []))
      (then (row_for book.rows cc) λ row.
      needs (given (read_code code) || (asked && eqb code bad_tag)) (no_area (5 ∷ 0 ∷ code ∷ []))
      (cond asked (write_bad_tag code h.sessions.count room)
      (cond (eqb code 0) (write_success row.responses h room) (write_error code h.sessions.count room))))

-- ---- what a writer answers, and what the lent room is later

abbrev pub counted : Said (List ℕ) → Said ℕ
counted said = then said λ t. gives (length t)

-- the frame at the start; what is behind it stays, and a refused call changes nothing
abbrev pub room_after : List ℕ → Said (List ℕ) → List ℕ
room_after room said = after room (then said λ t. gives (t ++ drop (length t) room))

-- what was judged of a frame that is laid out: a sum that fits its field and the room, and session bytes that are there
pub record Ready (width tag : ℕ) (h : Handed) (total room : ℕ) : Type 0 where
  pub tag_is : tag ≡ tag_for h.sessions.count
  pub there : sessions_there unlimited (length h.lent) (entries_of h.sessions) ≡ gives tt
  pub total_is : total ≡ total_size width tag h
  pub small : total ≤ 4294967295
  pub room_for : total ≤ room
