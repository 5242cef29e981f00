-- `frame::command::sessions` meets its contract: it goes by what `divide` said, and the entries that passed are read again; the code is read
-- byte by byte.
-- Assumes nothing.
use mathlib.Core.Path.{sym}
use lib.Seq.{length-take-le}
use Rattle.frame.proofs.Divisions.{command_told, signed_read, cast_fits}
use Rattle.frame.proofs.command.sessions.Goals as goal

pub code_of-requires : goal.code_of-requires
code_of-requires c = (command_told c.args.rules _ c.in_ok-a.ensures).header_there

pub slice_bounds-entries-end : goal.slice_bounds-entries-end
slice_bounds-entries-end c = sym (length-take-le _ _ (cast_fits _ _ (command_told c.args.rules _ c.in_ok-a.ensures).found).4)

pub entries-requires : goal.entries-requires
entries-requires c = (command_told c.args.rules _ c.in_ok-a.ensures).pass

pub returns : goal.returns
returns c =
    let s = c.args.s.now in
    let known = command_told c.args.rules _ c.in_ok-a.ensures in
    let read = known.again c.entries.ensures in
    signed_read s _ read.2 c.code_of.ensures read.1
