-- `marshal::command::lay_command` meets its contract: what was judged leaves room for each part, and the parts are put one behind the other.
-- Assumes nothing.
use mathlib.Core.List.{[]}
use mathlib.Core.Path.{◌≡◌}
use native.Mathlib.Omega.{arith}
use Rattle.frame.specs.Layout.{layout_command, layout_entries}
use Rattle.marshal.specs.Looked.{handed_parts}
use Rattle.marshal.specs.Handed.{entries_handed}
use Rattle.marshal.proofs.Frames.{command_whole, no_entry_bytes, plain_tag, sessions_tag, handles_room, plain_room, plain_put, sizes, size_is, size_room, sized_room, last_room, sized_put}
use Rattle.marshal.proofs.Rooms.{puts_four}
use Rattle.std.proofs.Common.{rules}
use Rattle.marshal.proofs.command.lay_command.Goals as goal

pub put-requires : goal.put-requires
put-requires c =
    let a = c.args in
    let h = handed_parts a.parts in
    let e = layout_entries 4 (entries_handed h) in
    handles_room a.tag.0 a.cc.0 a.total a.parts.handles.now e a.parts.parameters.now a.room.now (command_whole a.tag.0 h c.requires) c.requires.room_for c.put_header.ensures.puts

pub put-requires-then-parts-eq0 : goal.put-requires-then-parts-eq0
put-requires-then-parts-eq0 c =
    let a = c.args in
    let h = handed_parts a.parts in
    let e = layout_entries 4 (entries_handed h) in
    let none : e ≡ [] = no_entry_bytes 4 h c.if-parts-eq0.true in
    rw none at (plain_room a.tag.0 a.cc.0 a.total a.parts.handles.now e a.parts.parameters.now a.room.now (command_whole a.tag.0 h c.requires) c.requires.room_for c.put_header.ensures.puts c.put.ensures.puts (plain_tag c.requires.tag_is c.if-parts-eq0.true))

pub returns-then-parts-eq0 : goal.returns-then-parts-eq0
unfolding layout_command
returns-then-parts-eq0 c =
    let a = c.args in
    let h = handed_parts a.parts in
    let e = layout_entries 4 (entries_handed h) in
    let none : e ≡ [] = no_entry_bytes 4 h c.if-parts-eq0.true in
    let whole = plain_put a.tag.0 a.cc.0 a.total a.parts.handles.now e a.parts.parameters.now a.room.now (command_whole a.tag.0 h c.requires) c.requires.room_for c.put_header.ensures.puts c.put.ensures.puts (plain_tag c.requires.tag_is c.if-parts-eq0.true) {end = c.put-then-parts-eq0.new.self.at} {last = c.put-then-parts-eq0.new.self.room.now} (rw none c.put-then-parts-eq0.ensures.puts) in
    search rules

pub overflow_add-size : goal.overflow_add-size
overflow_add-size c =
    let a = c.args in
    let h = handed_parts a.parts in
    let e = layout_entries 4 (entries_handed h) in
    let signed = sessions_tag c.requires.tag_is c.if-parts-eq0.false in
    let sum = sizes a.tag.0 a.cc.0 a.total a.parts.handles.now e a.parts.parameters.now a.room.now (command_whole a.tag.0 h c.requires) c.requires.room_for c.put_header.ensures.puts c.put.ensures.puts signed in
    omega arith

pub overflow_add-size-2 : goal.overflow_add-size-2
overflow_add-size-2 c =
    let a = c.args in
    let h = handed_parts a.parts in
    let e = layout_entries 4 (entries_handed h) in
    let signed = sessions_tag c.requires.tag_is c.if-parts-eq0.false in
    let sum = sizes a.tag.0 a.cc.0 a.total a.parts.handles.now e a.parts.parameters.now a.room.now (command_whole a.tag.0 h c.requires) c.requires.room_for c.put_header.ensures.puts c.put.ensures.puts signed in
    omega arith

pub overflow_sub-size : goal.overflow_sub-size
overflow_sub-size c =
    let a = c.args in
    let h = handed_parts a.parts in
    let e = layout_entries 4 (entries_handed h) in
    let signed = sessions_tag c.requires.tag_is c.if-parts-eq0.false in
    let sum = sizes a.tag.0 a.cc.0 a.total a.parts.handles.now e a.parts.parameters.now a.room.now (command_whole a.tag.0 h c.requires) c.requires.room_for c.put_header.ensures.puts c.put.ensures.puts signed in
    omega arith

pub put-requires-2 : goal.put-requires-2
put-requires-2 c =
    let a = c.args in
    let h = handed_parts a.parts in
    let e = layout_entries 4 (entries_handed h) in
    rw c.to_be_bytes.ensures (size_room a.tag.0 a.cc.0 a.total a.parts.handles.now e a.parts.parameters.now a.room.now (command_whole a.tag.0 h c.requires) c.requires.room_for c.put_header.ensures.puts c.put.ensures.puts (sessions_tag c.requires.tag_is c.if-parts-eq0.false))

pub put_entries-requires-clause-es_in_bounds : goal.put_entries-requires-clause-es_in_bounds
put_entries-requires-clause-es_in_bounds c =
    let a = c.args in
    let h = handed_parts a.parts in
    let e = layout_entries 4 (entries_handed h) in
    let signed = sessions_tag c.requires.tag_is c.if-parts-eq0.false in
    let is = size_is a.tag.0 a.cc.0 a.total a.parts.handles.now e a.parts.parameters.now a.room.now (command_whole a.tag.0 h c.requires) c.requires.room_for c.put_header.ensures.puts c.put.ensures.puts signed in
    let told = rw is at (puts_four _ c.to_be_bytes.ensures c.put-2.ensures.puts) in
    sized_room a.tag.0 a.cc.0 a.total a.parts.handles.now e a.parts.parameters.now a.room.now (command_whole a.tag.0 h c.requires) c.requires.room_for c.put_header.ensures.puts c.put.ensures.puts signed told

pub put-requires-3 : goal.put-requires-3
put-requires-3 c =
    let a = c.args in
    let h = handed_parts a.parts in
    let e = layout_entries 4 (entries_handed h) in
    let signed = sessions_tag c.requires.tag_is c.if-parts-eq0.false in
    let is = size_is a.tag.0 a.cc.0 a.total a.parts.handles.now e a.parts.parameters.now a.room.now (command_whole a.tag.0 h c.requires) c.requires.room_for c.put_header.ensures.puts c.put.ensures.puts signed in
    let told = rw is at (puts_four _ c.to_be_bytes.ensures c.put-2.ensures.puts) in
    last_room a.tag.0 a.cc.0 a.total a.parts.handles.now e a.parts.parameters.now a.room.now (command_whole a.tag.0 h c.requires) c.requires.room_for c.put_header.ensures.puts c.put.ensures.puts signed told c.put_entries.ensures.puts

pub returns : goal.returns
unfolding layout_command
returns c =
    let a = c.args in
    let h = handed_parts a.parts in
    let e = layout_entries 4 (entries_handed h) in
    let signed = sessions_tag c.requires.tag_is c.if-parts-eq0.false in
    let is = size_is a.tag.0 a.cc.0 a.total a.parts.handles.now e a.parts.parameters.now a.room.now (command_whole a.tag.0 h c.requires) c.requires.room_for c.put_header.ensures.puts c.put.ensures.puts signed in
    let told = rw is at (puts_four _ c.to_be_bytes.ensures c.put-2.ensures.puts) in
    let whole = sized_put a.tag.0 a.cc.0 a.total a.parts.handles.now e a.parts.parameters.now a.room.now (command_whole a.tag.0 h c.requires) c.requires.room_for c.put_header.ensures.puts c.put.ensures.puts signed told c.put_entries.ensures.puts c.put-3.ensures.puts in
    search rules
