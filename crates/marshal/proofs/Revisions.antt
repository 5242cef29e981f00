-- Two tables (document 02, W10), in any reading: where a code stands in both with equal counts, every write of a command with that code, and of
-- a response to that command, is the same under both. So for what callers are answered by two tables that they can name.
-- Assumes nothing.
use mathlib.Core.Path.{◌≡◌, refl, sym, ◌∙◌, ap}
use mathlib.Core.Bool.{Bool}
use mathlib.Core.List.{List}
use Prim.Native.Nat.{ℕ}
use lib.ListN.{length}
use Rattle.std.specs.Prelude.{Ok}
use Rattle.base.specs.Answer.{said_total}
use Rattle.base.specs.Said.{gives}
use Rattle.table.specs.declared.revision.Revision.{Revision}
use Rattle.table.specs.declared.row.Row.{Row}
use Rattle.table.specs.Dispatch.{table_of}
use Rattle.table.specs.Table.{row_for, Alike}
use Rattle.table.proofs.Revisions.{same_row}
use Rattle.frame.specs.declared.rules.Reading.{Reading}
use Rattle.frame.specs.Rules.{book_at, book_of}
use Rattle.frame.proofs.Laws.{Promised}
use Rattle.marshal.specs.Handed.{Handed, handed}
use Rattle.marshal.specs.Mode.{asked, book_for, reading_of}
use Rattle.marshal.specs.Write.{counted, room_after, write_command, write_success, write_response}
use Rattle.marshal.proofs.Writers.{room_start, command_passed, response_passed}
use Rattle.marshal.proofs.command.write.Kinds as command-write-kinds
use Rattle.marshal.proofs.command.write.Reads as command-write-reads
use Rattle.marshal.proofs.response.write.Kinds as response-write-kinds
use Rattle.marshal.proofs.response.write.Reads as response-write-reads

module _ (rows others : List Row) (known knows : List ℕ) (by : Reading) (code : ℕ) (same : Alike rows others code) (h : Handed) (room : ℕ) where
  pub same_command : (tag : ℕ) → write_command (book_at rows known by) tag code h room ≡ write_command (book_at others knows by) tag code h room
  unfolding write_command
  same_command tag = rw (same_row same) refl

  pub same_response : (asks : Bool) (rc : ℕ) → write_response (book_at rows known by) asks code rc h room ≡ write_response (book_at others knows by) asks code rc h room
  unfolding write_success write_response
  same_response asks rc = rw (same_row same) refl

-- ---- what callers are answered

pub command_write : Promised 4 command-write-kinds.ps command-write-kinds.r command-write-reads.Post
    (λ κs a x later. (other : Revision) → Alike (table_of a.0.revision) (table_of other) a.1.1.0.0
    → let book = book_of (record { reading = a.0.reading; revision = other }) in
    let room = a.1.1.1.1.1.1.1.0.now in
    let h : Handed = handed a.1.1.1.0.now a.1.1.1.1.0 a.1.1.1.1.1.0.now a.1.1.1.1.1.1.0.now in
    (said_total x ≡ counted (write_command book a.1.0.0 a.1.1.0.0 h (length room)))
    × (later.1.1.1.1.1.1.1.0.now ≡ room_after room (write_command book a.1.0.0 a.1.1.0.0 h (length room))))
command_write κs a x v met other same =
    let written = same_command (table_of a.0.revision) (table_of other) _ _ a.0.reading a.1.1.0.0 same _ _ a.1.0.0 in
    (met.0 ∙ ap counted written, met.1 ∙ ap (room_after a.1.1.1.1.1.1.1.0.now) written)

pub response_write : Promised 4 response-write-kinds.ps response-write-kinds.r response-write-reads.Post
    (λ κs a x later. (other : Revision) → Alike (table_of a.0.revision) (table_of other) a.1.1.0.0
    → let book = book_for (record { mode = a.0.mode; revision = other }) in
    let room = a.1.1.1.1.1.1.1.0.now in
    let h : Handed = handed a.1.1.1.0.now a.1.1.1.1.0 a.1.1.1.1.1.0.now a.1.1.1.1.1.1.0.now in
    (said_total x ≡ counted (write_response book (asked a.0) a.1.1.0.0 a.1.0.0 h (length room)))
    × (later.1.1.1.1.1.1.1.0.now ≡ room_after room (write_response book (asked a.0) a.1.1.0.0 a.1.0.0 h (length room))))
response_write κs a x v met other same =
    let room = a.1.1.1.1.1.1.1.0.now in
    let h : Handed = handed a.1.1.1.0.now a.1.1.1.1.0 a.1.1.1.1.1.0.now a.1.1.1.1.1.1.0.now in
    let written = same_response (table_of a.0.revision) (table_of other) _ _ (reading_of a.0.mode) a.1.1.0.0 same h (length room) (asked a.0) a.1.0.0 in
    (met.0 ∙ ap counted written, met.1 ∙ ap (room_after a.1.1.1.1.1.1.1.0.now) written)

-- ---- what is written at a table is of that table: its code, of a response its command's, has a row there

pub command_write_row : Promised 4 command-write-kinds.ps command-write-kinds.r command-write-reads.Post
    (λ κs a x later. (n : ℕ) → x ≡ Ok n → (row : Row) × (row_for (table_of a.0.revision) a.1.1.0.0 ≡ gives row))
command_write_row κs a x v met n is =
    let room = a.1.1.1.1.1.1.1.0.now in
    let h : Handed = handed a.1.1.1.0.now a.1.1.1.1.0 a.1.1.1.1.1.0.now a.1.1.1.1.1.1.0.now in
    let written = room_start room (write_command (book_of a.0) a.1.0.0 a.1.1.0.0 h (length room)) (sym met.0 ∙ ap said_total is) in
    let passed = command_passed (book_of a.0) a.1.0.0 a.1.1.0.0 h (length room) written.1 in
    (passed.row, passed.has_row)

pub response_write_row : Promised 4 response-write-kinds.ps response-write-kinds.r response-write-reads.Post
    (λ κs a x later. (n : ℕ) → x ≡ Ok n → (row : Row) × (row_for (table_of a.0.revision) a.1.1.0.0 ≡ gives row))
response_write_row κs a x v met n is =
    let room = a.1.1.1.1.1.1.1.0.now in
    let h : Handed = handed a.1.1.1.0.now a.1.1.1.1.0 a.1.1.1.1.1.0.now a.1.1.1.1.1.1.0.now in
    let written = room_start room (write_response (book_for a.0) (asked a.0) a.1.1.0.0 a.1.0.0 h (length room)) (sym met.0 ∙ ap said_total is) in
    let passed = response_passed (book_for a.0) (asked a.0) a.1.1.0.0 a.1.0.0 h (length room) written.1 in
    (passed.row, passed.has_row)
