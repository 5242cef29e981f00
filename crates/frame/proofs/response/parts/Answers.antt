-- `frame::response::parts` meets its contract: it goes by what `divide` said, and the entries that passed are read again; tag and code are read
-- byte by byte.
-- Assumes nothing.
use Rattle.frame.specs.Answer.{response_of}
use Rattle.frame.proofs.Divisions.{response_told, by_value_lem}
use Rattle.frame.proofs.response.parts.Goals as goal

pub tag_of-requires : goal.tag_of-requires
tag_of-requires c = (response_told c.args.rules _ _ c.in_ok-a.ensures).header_there

pub code_of-requires : goal.code_of-requires
code_of-requires c = (response_told c.args.rules _ _ c.in_ok-a.ensures).header_there

pub entries-requires : goal.entries-requires
entries-requires c = (response_told c.args.rules _ _ c.in_ok-a.ensures).pass

pub returns : goal.returns
returns c =
    let s = c.args.s.now in
    let known = response_told c.args.rules _ _ c.in_ok-a.ensures in
    let read = known.again c.entries.ensures in
    by_value_lem response_of s _ read.2 c.tag_of.ensures c.code_of.ensures read.1
