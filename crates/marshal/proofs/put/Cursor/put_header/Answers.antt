-- `marshal::put::Cursor::put_header` meets its contract: tag, size and code are put one behind the other.
-- Assumes nothing.
use Rattle.marshal.proofs.Rooms.{puts_two, puts_four}
use Rattle.marshal.proofs.Steps.{header_put}
use Rattle.marshal.proofs.put.Cursor.put_header.Goals as goal

pub returns-clause-puts : goal.returns-clause-puts
returns-clause-puts c =
    let a = c.args in
    header_put a.self.now.at a.tag a.total a.code a.self.now.room.now c.requires (puts_two a.tag c.to_be_bytes.ensures c.put.ensures.puts) (puts_four a.total c.to_be_bytes-2.ensures c.put-2.ensures.puts) (puts_four a.code c.to_be_bytes-3.ensures c.put-3.ensures.puts)
