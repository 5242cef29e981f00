-- `marshal::command::write` meets its contract: what was judged is written, and a refusal leaves the room alone.
-- Assumes nothing.
use lib.ListN.{length}
use Rattle.frame.specs.Rules.{book_of}
use Rattle.frame.proofs.Divisions.{longest_below}
use Rattle.marshal.specs.Handed.{handed}
use Rattle.marshal.proofs.Writers.{command_ready, room_written}
use Rattle.marshal.proofs.command.write.Goals as goal

pub lay_command-requires : goal.lay_command-requires
lay_command-requires c =
    let a = c.args in
    let h = handed a.handles.now a.sessions a.lent.now a.parameters.now in
    (command_ready (book_of a.rules) a.tag.0 a.cc.0 h (length a.room.now) (longest_below a.rules.reading) c.in_ok-total.ensures).0

pub returns-clause-bytes : goal.returns-clause-bytes
returns-clause-bytes c =
    let a = c.args in
    let h = handed a.handles.now a.sessions a.lent.now a.parameters.now in
    let said = c.in_ok-total.ensures in
    room_written a.room.now (command_ready (book_of a.rules) a.tag.0 a.cc.0 h (length a.room.now) (longest_below a.rules.reading) said).1 c.lay_command.ensures
