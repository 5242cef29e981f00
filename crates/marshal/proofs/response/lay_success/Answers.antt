-- `marshal::response::lay_success` meets its contract: what was judged leaves room for each part, and the parts are put one behind the other.
-- Assumes nothing.
use mathlib.Core.List.{[], append-nil}
use mathlib.Core.Path.{◌≡◌}
use Rattle.frame.specs.Layout.{layout_entries}
use Rattle.marshal.specs.Looked.{handed_parts}
use Rattle.marshal.specs.Handed.{entries_handed, tag_for}
use Rattle.marshal.proofs.Frames.{success_whole, no_entry_bytes, success_layout, plain_tag, sessions_tag, handles_room, plain_room, plain_put, size_room, sized_room, last_room, sized_put}
use Rattle.marshal.proofs.Rooms.{puts_four}
use Rattle.std.proofs.Common.{rules}
use Rattle.marshal.proofs.response.lay_success.Goals as goal

pub put-requires : goal.put-requires
put-requires c =
    let a = c.args in
    let h = handed_parts a.parts in
    let e = layout_entries 0 (entries_handed h) in
    let tag = tag_for a.parts.sessions.now.count in
    handles_room tag 0 a.total a.parts.handles.now a.parts.parameters.now e a.room.now (success_whole tag h c.requires) c.requires.room_for (rw c.tag_for.ensures at c.put_header.ensures.puts)

pub put-requires-then-parts-eq0 : goal.put-requires-then-parts-eq0
put-requires-then-parts-eq0 c =
    let a = c.args in
    let h = handed_parts a.parts in
    let e = layout_entries 0 (entries_handed h) in
    let tag = tag_for a.parts.sessions.now.count in
    let none : e ≡ [] = no_entry_bytes 0 h c.if-parts-eq0.true in
    rw (none, append-nil) at (plain_room tag 0 a.total a.parts.handles.now a.parts.parameters.now e a.room.now (success_whole tag h c.requires) c.requires.room_for (rw c.tag_for.ensures at c.put_header.ensures.puts) c.put.ensures.puts (plain_tag c.requires.tag_is c.if-parts-eq0.true))

pub returns-then-parts-eq0 : goal.returns-then-parts-eq0
returns-then-parts-eq0 c =
    let a = c.args in
    let h = handed_parts a.parts in
    let e = layout_entries 0 (entries_handed h) in
    let tag = tag_for a.parts.sessions.now.count in
    let none : e ≡ [] = no_entry_bytes 0 h c.if-parts-eq0.true in
    let whole = plain_put tag 0 a.total a.parts.handles.now a.parts.parameters.now e a.room.now (success_whole tag h c.requires) c.requires.room_for (rw c.tag_for.ensures at c.put_header.ensures.puts) c.put.ensures.puts (plain_tag c.requires.tag_is c.if-parts-eq0.true) {end = c.put-then-parts-eq0.new.self.at} {last = c.put-then-parts-eq0.new.self.room.now} (rw (none, append-nil) c.put-then-parts-eq0.ensures.puts) in
    rw (success_layout h) (search rules)

pub put-requires-2 : goal.put-requires-2
put-requires-2 c =
    let a = c.args in
    let h = handed_parts a.parts in
    let e = layout_entries 0 (entries_handed h) in
    let tag = tag_for a.parts.sessions.now.count in
    rw c.to_be_bytes.ensures (size_room tag 0 a.total a.parts.handles.now a.parts.parameters.now e a.room.now (success_whole tag h c.requires) c.requires.room_for (rw c.tag_for.ensures at c.put_header.ensures.puts) c.put.ensures.puts (sessions_tag c.requires.tag_is c.if-parts-eq0.false))

pub put-requires-3 : goal.put-requires-3
put-requires-3 c =
    let a = c.args in
    let h = handed_parts a.parts in
    let e = layout_entries 0 (entries_handed h) in
    let tag = tag_for a.parts.sessions.now.count in
    sized_room tag 0 a.total a.parts.handles.now a.parts.parameters.now e a.room.now (success_whole tag h c.requires) c.requires.room_for (rw c.tag_for.ensures at c.put_header.ensures.puts) c.put.ensures.puts (sessions_tag c.requires.tag_is c.if-parts-eq0.false) (puts_four _ c.to_be_bytes.ensures c.put-2.ensures.puts)

pub put_entries-requires-clause-es_in_bounds : goal.put_entries-requires-clause-es_in_bounds
put_entries-requires-clause-es_in_bounds c =
    let a = c.args in
    let h = handed_parts a.parts in
    let e = layout_entries 0 (entries_handed h) in
    let tag = tag_for a.parts.sessions.now.count in
    last_room tag 0 a.total a.parts.handles.now a.parts.parameters.now e a.room.now (success_whole tag h c.requires) c.requires.room_for (rw c.tag_for.ensures at c.put_header.ensures.puts) c.put.ensures.puts (sessions_tag c.requires.tag_is c.if-parts-eq0.false) (puts_four _ c.to_be_bytes.ensures c.put-2.ensures.puts) c.put-3.ensures.puts

pub returns : goal.returns
returns c =
    let a = c.args in
    let h = handed_parts a.parts in
    let e = layout_entries 0 (entries_handed h) in
    let tag = tag_for a.parts.sessions.now.count in
    let whole = sized_put tag 0 a.total a.parts.handles.now a.parts.parameters.now e a.room.now (success_whole tag h c.requires) c.requires.room_for (rw c.tag_for.ensures at c.put_header.ensures.puts) c.put.ensures.puts (sessions_tag c.requires.tag_is c.if-parts-eq0.false) (puts_four _ c.to_be_bytes.ensures c.put-2.ensures.puts) c.put-3.ensures.puts c.put_entries.ensures.puts in
    rw (success_layout h) (search rules)
