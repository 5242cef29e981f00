-- `marshal::put::Cursor::put_tpm2b` meets its contract: the field stands in the lent bytes, and its length and its bytes are put one behind the other.
-- Assumes nothing.
use lib.ListN.{length}
use Rattle.frame.specs.Parts.{field_in}
use Rattle.marshal.proofs.Rooms.{puts_two}
use Rattle.marshal.proofs.Steps.{field_room, data_room, tpm2b_put}
use Rattle.marshal.proofs.put.Cursor.put_tpm2b.Goals as goal

pub put-requires : goal.put-requires
put-requires c =
    let a = c.args in
    rw c.to_be_bytes.ensures (field_room 2 a.self.now.at (length (field_in a.lent.now a.f)) (field_in a.lent.now a.f) a.self.now.room.now c.requires.f_in_bounds)

pub put-requires-2 : goal.put-requires-2
put-requires-2 c =
    let a = c.args in
    data_room a.lent.now a.f c.requires.f_value a.self.now.at a.self.now.room.now c.requires.f_in_bounds (puts_two a.f.size c.to_be_bytes.ensures c.put.ensures.puts)

pub returns-clause-puts : goal.returns-clause-puts
returns-clause-puts c =
    let a = c.args in
    tpm2b_put a.lent.now a.f c.requires.f_value a.self.now.at a.self.now.room.now c.requires.f_in_bounds (puts_two a.f.size c.to_be_bytes.ensures c.put.ensures.puts) c.put-2.ensures.puts
