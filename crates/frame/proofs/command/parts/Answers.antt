-- `frame::command::parts` meets its contract: it goes by what `divide` said, and the entries that passed are read again; tag and code are read
-- byte by byte.
-- Assumes nothing.
use mathlib.Core.Path.{sym}
use lib.Seq.{length-take-le}
use Rattle.frame.specs.Answer.{command_of}
use Rattle.frame.proofs.Divisions.{command_told, by_value_lem, cast_fits}
use Rattle.frame.proofs.command.parts.Goals as goal

pub tag_of-requires : goal.tag_of-requires
tag_of-requires c = (command_told c.args.rules _ c.in_ok-handles.ensures).header_there

pub code_of-requires : goal.code_of-requires
code_of-requires c = (command_told c.args.rules _ c.in_ok-handles.ensures).header_there

pub slice_bounds-entries-end : goal.slice_bounds-entries-end
slice_bounds-entries-end c = sym (length-take-le _ _ (cast_fits _ _ (command_told c.args.rules _ c.in_ok-handles.ensures).found).4)

pub entries-requires : goal.entries-requires
entries-requires c = (command_told c.args.rules _ c.in_ok-handles.ensures).pass

pub returns : goal.returns
returns c =
    let s = c.args.s.now in
    let known = command_told c.args.rules _ c.in_ok-handles.ensures in
    let read = known.again c.entries.ensures in
    by_value_lem command_of s _ read.2 c.tag_of.ensures c.code_of.ensures read.1
