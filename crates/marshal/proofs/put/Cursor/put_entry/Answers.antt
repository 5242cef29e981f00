-- `marshal::put::Cursor::put_entry` meets its contract: in a command a handle of four bytes is put first, in a response one of none.
-- Assumes nothing.
use Rattle.base.specs.Bytes.{bytes}
use Rattle.frame.specs.Parts.{entry_in}
use Rattle.marshal.specs.Laid.{layout_signed}
use Rattle.marshal.proofs.Rooms.{room_next, puts_next, puts_four}
use Rattle.marshal.proofs.Steps.{field_room}
use Rattle.marshal.proofs.put.Cursor.put_entry.Goals as goal

pub put-requires : goal.put-requires
put-requires c =
    let a = c.args in
    let x = entry_in a.lent.now a.e in
    rw c.to_be_bytes.ensures (field_room 4 a.self.now.at x.handle (layout_signed x) a.self.now.room.now (rw c.if-command.true at c.requires.e_in_bounds))

pub put_signed-requires-clause-e_in_bounds : goal.put_signed-requires-clause-e_in_bounds
put_signed-requires-clause-e_in_bounds c =
    let a = c.args in
    let x = entry_in a.lent.now a.e in
    room_next a.self.now.at (bytes 4 x.handle) (layout_signed x) a.self.now.room.now (rw c.if-command.true at c.requires.e_in_bounds) (puts_four a.e.handle c.to_be_bytes.ensures c.put.ensures.puts)

pub returns-then-command-clause-puts : goal.returns-then-command-clause-puts
returns-then-command-clause-puts c =
    let a = c.args in
    let x = entry_in a.lent.now a.e in
    rw c.if-command.true
    (puts_next a.self.now.at (bytes 4 x.handle) (layout_signed x) a.self.now.room.now (rw c.if-command.true at c.requires.e_in_bounds) (puts_four a.e.handle c.to_be_bytes.ensures c.put.ensures.puts) c.put_signed.ensures.puts)

pub returns-clause-puts : goal.returns-clause-puts
unfolding bytes
returns-clause-puts c = rw c.if-command.false c.put_signed-2.ensures.puts
