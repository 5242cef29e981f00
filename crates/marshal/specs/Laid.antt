-- Bytes laid at a place of lent room: what the functions that write promise.
-- Assumes nothing: these are definitions.
use Rattle.std.specs.Prelude.{ℕ, ◌+◌, ◌≤◌, List, ◌∷◌, ◌++◌, ◌≡◌, length}
use Rattle.base.specs.Field.{laid}
use Rattle.base.specs.Tpm2b.{tpm2b}
use Rattle.frame.specs.Layout.{Entry}
use Rattle.marshal.specs.declared.put.Cursor.{Cursor}

-- a call that puts t at a place of s, which is then as later, and answers the place behind it
pub record Puts (place : ℕ) (t s : List ℕ) (next : ℕ) (later : List ℕ) : Type 0 where
  pub next_is : next ≡ place + length t
  pub later_is : later ≡ laid place t s

-- the same of cursors, and the room that it asks for
abbrev pub Put : List ℕ → Cursor → Cursor → Type 0
Put t old new = Puts old.at t old.room.now new.at new.room.now

abbrev pub RoomFor : List ℕ → Cursor → Type 0
RoomFor t c = c.at + length t ≤ length c.room.now

-- an entry behind its handle
abbrev pub layout_signed : Entry → List ℕ
layout_signed e = tpm2b e.nonce ++ (e.attributes ∷ tpm2b e.hmac)
