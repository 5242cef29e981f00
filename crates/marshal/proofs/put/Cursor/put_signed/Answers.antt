-- `marshal::put::Cursor::put_signed` meets its contract: nonce, attribute byte and HMAC are put one behind the other.
-- Assumes nothing.
use Rattle.frame.specs.Parts.{entry_in}
use Rattle.marshal.proofs.Steps.{signed_put}
use Rattle.marshal.proofs.put.Cursor.put_signed.Goals as goal

pub returns-clause-puts : goal.returns-clause-puts
returns-clause-puts c =
    let a = c.args in
    signed_put (entry_in a.lent.now a.e) a.self.now.at a.self.now.room.now c.requires.e_in_bounds c.put_tpm2b.ensures.puts c.put_tpm2b-2.ensures.puts
