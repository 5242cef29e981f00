-- `marshal::response::write` meets its contract: what was judged is written, and a refusal leaves the room alone.
-- Assumes nothing.
use mathlib.Core.List.{List}
use mathlib.Core.Path.{sym, ◌∙◌, ap}
use Prim.Native.Nat.{ℕ}
use lib.ListN.{length}
use Rattle.frame.proofs.Divisions.{longest_below}
use Rattle.marshal.specs.Handed.{handed}
use Rattle.base.specs.Field.{laid}
use Rattle.marshal.specs.Mode.{reading_of, asked, book_for}
use Rattle.marshal.proofs.Frames.{header_of, error_layout}
use Rattle.marshal.proofs.Writers.{success_ready, error_ready, room_written}
use Rattle.std.proofs.Common.{rules}
use Rattle.marshal.proofs.response.write.Goals as goal

pub lay_success-requires : goal.lay_success-requires
lay_success-requires c =
    let a = c.args in
    let h = handed a.handles.now a.sessions a.lent.now a.parameters.now in
    (success_ready (book_for a.rules) (asked a.rules) a.cc.0 a.rc.0 h (length a.room.now) (longest_below (reading_of a.rules.mode)) c.if-rc-eq0.true c.in_ok-total.ensures).0

pub returns-then-rc-eq0-clause-bytes : goal.returns-then-rc-eq0-clause-bytes
returns-then-rc-eq0-clause-bytes c =
    let a = c.args in
    let h = handed a.handles.now a.sessions a.lent.now a.parameters.now in
    let said = c.in_ok-total.ensures in
    room_written a.room.now (success_ready (book_for a.rules) (asked a.rules) a.cc.0 a.rc.0 h (length a.room.now) (longest_below (reading_of a.rules.mode)) c.if-rc-eq0.true said).1 c.lay_success.ensures

pub put_header-requires : goal.put_header-requires
put_header-requires c =
    let a = c.args in
    let h = handed a.handles.now a.sessions a.lent.now a.parameters.now in
    (error_ready (book_for a.rules) (asked a.rules) a.cc.0 a.rc.0 h (length a.room.now) c.if-rc-eq0.false c.in_ok-total.ensures).0

pub returns-else-rc-eq0-clause-bytes : goal.returns-else-rc-eq0-clause-bytes
returns-else-rc-eq0-clause-bytes c =
    let a = c.args in
    let h = handed a.handles.now a.sessions a.lent.now a.parameters.now in
    let said = c.in_ok-total.ensures in
    let put =
    c.put_header.ensures.puts.later_is
    ∙ ap (λ (tag : ℕ). laid 0 (header_of tag 10 a.rc.0) a.room.now) c.error_tag.ensures
    ∙ ap (λ (t : List ℕ). laid 0 t a.room.now) (sym (error_layout (asked a.rules) a.rc.0)) in
    let whole = room_written a.room.now (error_ready (book_for a.rules) (asked a.rules) a.cc.0 a.rc.0 h (length a.room.now) c.if-rc-eq0.false said).1 put in
    search rules
