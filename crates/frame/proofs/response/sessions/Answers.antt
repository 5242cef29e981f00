-- `frame::response::sessions` meets its contract: it goes by what `divide` said, and the entries that passed are read again; the code is read
-- byte by byte.
-- Assumes nothing.
use Rattle.frame.proofs.Divisions.{response_told, signed_read}
use Rattle.frame.proofs.response.sessions.Goals as goal

pub code_of-requires : goal.code_of-requires
code_of-requires c = (response_told c.args.rules _ _ c.in_ok-a.ensures).header_there

pub entries-requires : goal.entries-requires
entries-requires c = (response_told c.args.rules _ _ c.in_ok-a.ensures).pass

pub returns : goal.returns
returns c =
    let s = c.args.s.now in
    let known = response_told c.args.rules _ _ c.in_ok-a.ensures in
    let read = known.again c.entries.ensures in
    signed_read s _ read.2 c.code_of.ensures read.1
