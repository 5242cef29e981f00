-- `marshal::put::Cursor::put_entries` meets its contract: so many entries as the count says are put one behind the other.
-- Assumes nothing.
use mathlib.Core.List.{[], ◌∷◌}
use lib.ListN.{take}
use Prim.Native.Nat.{◌-◌}
use Rattle.frame.specs.Answer.{handle_width}
use Rattle.frame.specs.Rules.{unlimited}
use Rattle.marshal.proofs.Lengths.{sessions_first}
use Rattle.marshal.proofs.Sessions.{entries_two, entries_first, entries_second, entries_third}
use Rattle.marshal.proofs.Steps.{last_put, entry_room, entries_room, entries_put}
use Rattle.marshal.proofs.put.Cursor.put_entries.Goals as goal

pub put_entry-requires-clause-e_value : goal.put_entry-requires-clause-e_value
put_entry-requires-clause-e_value c =
    let a = c.args in
    let es = a.es in
    let l = a.lent.now in
    let all = entries_first es c.if-es-eq0.false in
    let others = take (es.count - 1) (es.second ∷ es.third ∷ []) in
    (sessions_first unlimited l es.first others (rw all at c.requires.es_value)).0

pub put_entry-requires-clause-e_in_bounds : goal.put_entry-requires-clause-e_in_bounds
put_entry-requires-clause-e_in_bounds c =
    let a = c.args in
    let es = a.es in
    let w = handle_width a.command in
    let l = a.lent.now in
    let all = entries_first es c.if-es-eq0.false in
    let others = take (es.count - 1) (es.second ∷ es.third ∷ []) in
    entry_room w l a.self.now.at a.self.now.room.now es.first others (rw all at c.requires.es_in_bounds)

pub put_entry-requires-2-clause-e_value : goal.put_entry-requires-2-clause-e_value
put_entry-requires-2-clause-e_value c =
    let a = c.args in
    let es = a.es in
    let l = a.lent.now in
    let all = entries_second es c.if-es-eq0.false c.if-es-eq1.false in
    let others = take (es.count - 2) (es.third ∷ []) in
    let there = (sessions_first unlimited l es.first (es.second ∷ others) (rw all at c.requires.es_value)).1 in
    (sessions_first unlimited l es.second others there).0

pub put_entry-requires-2-clause-e_in_bounds : goal.put_entry-requires-2-clause-e_in_bounds
put_entry-requires-2-clause-e_in_bounds c =
    let a = c.args in
    let es = a.es in
    let w = handle_width a.command in
    let l = a.lent.now in
    let all = entries_second es c.if-es-eq0.false c.if-es-eq1.false in
    let others = take (es.count - 2) (es.third ∷ []) in
    let room = entries_room w l a.self.now.at a.self.now.room.now es.first (es.second ∷ others) (rw all at c.requires.es_in_bounds) c.put_entry.ensures.puts in
    entry_room w l _ c.put_entry.new.self.room.now es.second others room

pub returns-then-es-eq2-clause-puts : goal.returns-then-es-eq2-clause-puts
returns-then-es-eq2-clause-puts c =
    let a = c.args in
    let es = a.es in
    let w = handle_width a.command in
    let l = a.lent.now in
    let all = entries_two es c.if-es-eq2.true in
    rw all
    (entries_put w l a.self.now.at a.self.now.room.now es.first (es.second ∷ []) (rw all at c.requires.es_in_bounds) c.put_entry.ensures.puts (last_put w l _ _ es.second c.put_entry-2.ensures.puts))

pub put_entry-requires-3-clause-e_value : goal.put_entry-requires-3-clause-e_value
put_entry-requires-3-clause-e_value c =
    let a = c.args in
    let es = a.es in
    let l = a.lent.now in
    let all = entries_third es c.if-es-eq0.false c.if-es-eq1.false c.if-es-eq2.false in
    let there = (sessions_first unlimited l es.first (es.second ∷ es.third ∷ []) (rw all at c.requires.es_value)).1 in
    let behind = (sessions_first unlimited l es.second (es.third ∷ []) there).1 in
    (sessions_first unlimited l es.third [] behind).0

pub put_entry-requires-3-clause-e_in_bounds : goal.put_entry-requires-3-clause-e_in_bounds
put_entry-requires-3-clause-e_in_bounds c =
    let a = c.args in
    let es = a.es in
    let w = handle_width a.command in
    let l = a.lent.now in
    let all = entries_third es c.if-es-eq0.false c.if-es-eq1.false c.if-es-eq2.false in
    let room = entries_room w l a.self.now.at a.self.now.room.now es.first (es.second ∷ es.third ∷ []) (rw all at c.requires.es_in_bounds) c.put_entry.ensures.puts in
    let rest = entries_room w l _ _ es.second (es.third ∷ []) room c.put_entry-2.ensures.puts in
    entry_room w l _ c.put_entry-2.new.self.room.now es.third [] rest

pub returns-clause-puts : goal.returns-clause-puts
returns-clause-puts c =
    let a = c.args in
    let es = a.es in
    let w = handle_width a.command in
    let l = a.lent.now in
    let all = entries_third es c.if-es-eq0.false c.if-es-eq1.false c.if-es-eq2.false in
    let room = rw all at c.requires.es_in_bounds in
    let first = c.put_entry.ensures.puts in
    let rest = entries_room w l a.self.now.at a.self.now.room.now es.first (es.second ∷ es.third ∷ []) room first in
    rw all
    (entries_put w l a.self.now.at a.self.now.room.now es.first (es.second ∷ es.third ∷ []) room first
    (entries_put w l _ _ es.second (es.third ∷ []) rest c.put_entry-2.ensures.puts (last_put w l _ _ es.third c.put_entry-3.ensures.puts)))
