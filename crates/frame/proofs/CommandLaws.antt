-- A command passes exactly where it is the layout of well-formed parts, over any rules whose known codes hold the rows'; the parts read are those laid out.
-- Assumes nothing.
use mathlib.Core.Path.{◌≡◌, refl, sym, ◌∙◌, ap, subst}
use mathlib.Core.Bool.{true, false}
use mathlib.Core.List.{List, []}
use Prim.Native.Nat.{ℕ, ◌+◌, ◌-◌, ◌*◌, ◌≤◌, ◌<◌}
use native.Mathlib.Nat.{le_refl}
use native.Mathlib.Omega.{arith}
use borrow.Author.Tests.{le-leb}
use lib.Dec.{eqb, leb}
use lib.ListN.{length, take, drop, length-take}
use lib.Seq.{length-take-le}
use Rattle.base.specs.declared.error.Area.TheVariants.{Header, Authorization}
use Rattle.base.specs.Bytes.{AreBytes}
use Rattle.base.specs.Members.{is_in}
use Rattle.base.specs.Parts.{held_at}
use Rattle.base.specs.Said.{gives}
use Rattle.base.proofs.Bytes.{are_bytes_take, are_bytes_drop}
use Rattle.base.proofs.Checks.{needs_gives, then_gives, then_within, gives_injective}
use Rattle.base.proofs.Places.{At}
use Rattle.table.specs.Table.{row_for, IsTable}
use Rattle.table.proofs.Rows.{row_known}
use Rattle.table.specs.Tags.{tags}
use Rattle.table.specs.declared.row.Row.{Row}
use Rattle.frame.specs.declared.areas.Areas.{Areas}
use Rattle.frame.specs.declared.command.Command.{Command}
use Rattle.frame.specs.declared.session.Session.{Session}
use Rattle.frame.specs.Answer.{command_of, frame_of, command_by_value, Signed, signed}
use Rattle.frame.specs.Areas.{sized_area}
use Rattle.frame.specs.Command.{Division, command_handles, command_areas, judge_command, cast_command, read_command, handles_range, auth_range, parameters_range}
use Rattle.frame.specs.Header.{tag_of, size_of, code_of, sessions, is_of_two, read_cc, frame_whole, read_command_tag}
use Rattle.frame.specs.Layout.{Frame, WholeEntries, WellFormed, CommandParts, layout_entries, layout_body, layout_frame, layout_command}
use Rattle.frame.specs.Parts.{ranged, Kept, EachField, entries_in, entries_of, told, command_parts}
use Rattle.frame.specs.Rules.{Rulebook}
use Rattle.frame.specs.Walk.{walk, by_value}
use Rattle.frame.proofs.Divides.{Divides, divides_by_value}
use Rattle.frame.proofs.Divisions.{entries_of_lem, signed_of}
use Rattle.frame.proofs.FrameLaws.{
  code_fits,
  size_fits,
  Framed,
  frame_complete,
  length_frame,
  whole_sound,
  whole_complete,
  tag_sound,
  tag_complete,
  tag_fits,
  Holds,
  handles_sound,
  handles_complete,
  sized_order,
  is_of_two_lem,
  of_the_two,
  plain_places,
  frame_again,
  sized_complete,
  two_tags,
}
use Rattle.frame.proofs.Standing.{between_at, at_between, at_within, at_inside, length_entries}
use Rattle.frame.proofs.WalkLaws.{walk_sound, walk_few, walk_complete, walk_within, walk_end, each_field, walk_inside}

module _ (book : Rulebook) where
  -- the steps of a reading that passed
  record Steps (s : List ℕ) (d : Division) : Type 0 where
    row : Row
    ten : 10 ≤ length s
    size_is : size_of s ≡ length s
    tag_two : is_of_two (tag_of s) ≡ true
    tag_known : is_in (tag_of s) tags ≡ true
    code_known : is_in (code_of s) book.known ≡ true
    has_row : row_for book.rows (code_of s) ≡ gives row
    room : 10 + 4 * row.handles ≤ length s
    sized : sized_area Authorization (eqb (tag_of s) sessions) (10 + 4 * row.handles) s (10 + 4 * row.handles) ≡ gives d.areas
    walked : walk book.longest 3 4 (take d.areas.to s) d.areas.from ≡ gives d.entries

  steps_taken : (s : List ℕ) (d : Division) → read_command book s ≡ gives d → Steps s d
  unfolding read_command cast_command judge_command command_areas command_handles read_cc
  steps_taken s d e =
      let read = then_gives (cast_command book s) _ e in
      let areas : Areas = read.0 in
      let walked = then_gives (walk book.longest 3 4 (take areas.to s) areas.from) _ read.2 in
      let cast = then_gives (frame_whole s) _ read.1 in
      let judged = then_gives (read_command_tag s) _ cast.2 in
      let handled = then_gives (command_handles book s) _ judged.2 in
      let tagged = needs_gives (is_in (tag_of s) tags) _ _ handled.2 in
      let coded = then_gives (read_cc book s) _ handled.1 in
      let header = needs_gives (leb 10 (length s)) _ _ coded.1 in
      let listed = needs_gives (is_in (code_of s) book.known) _ _ header.1 in
      let code : code_of s ≡ coded.0 = gives_injective listed.1 in
      let found = then_within Header (row_for book.rows coded.0) _ coded.2 in
      let whole = whole_sound s cast.1 in
      let handles = handles_sound s found.0.handles whole.0 found.2 in
      subst (Steps s) (gives_injective walked.2)
      (record {
        row = found.0;
        ten = whole.0;
        size_is = whole.1;
        tag_two = tag_sound s judged.1;
        tag_known = tagged.0;
        code_known = listed.0;
        has_row = ap (row_for book.rows) code ∙ found.1;
        room = handles.1;
        sized = ap (λ (h : ℕ). sized_area Authorization (eqb (tag_of s) sessions) h s h) (sym handles.0) ∙ tagged.1;
        walked = walked.1;
      })

  handles_pass : (s : List ℕ) (d : Division) (t : Steps s d) → command_handles book s ≡ gives (10 + 4 * t.row.handles)
  unfolding command_handles read_cc
  handles_pass s d t = rw (le-leb 10 (length s) t.ten, t.code_known, t.has_row) (handles_complete s t.row.handles t.room)

  areas_pass : (s : List ℕ) (d : Division) → Steps s d → command_areas book s ≡ gives d.areas
  unfolding command_areas
  areas_pass s d t = rw (handles_pass s d t, t.tag_known) t.sized

  steps_pass : (s : List ℕ) (d : Division) → Steps s d → read_command book s ≡ gives d
  unfolding read_command cast_command judge_command command_areas command_handles read_cc
  steps_pass s d t =
      rw (whole_complete s t.ten t.size_is, tag_complete s t.ten t.tag_two, le-leb 10 (length s) t.ten)
      (rw (t.code_known, t.has_row, handles_complete s t.row.handles t.room, t.tag_known, t.sized, t.walked) refl)

  -- ---- by value

  -- the parts that a division tells, by the areas that are given back
  abbrev parts : List ℕ → Division → Frame
  parts s d = told s (tag_of s) (code_of s) (frame_of command_of s d).handles (frame_of command_of s d).parameters d.entries

  all_entries : (s : List ℕ) (d : Division) → Steps s d → entries_of (by_value d.entries) ≡ d.entries
  all_entries s d t = entries_of_lem d.entries (walk_few book.longest 3 4 (take d.areas.to s) d.areas.from t.walked)

  parts_told : (s : List ℕ) (d : Division) → read_command book s ≡ gives d → command_parts s (frame_of command_of s d) ≡ parts s d
  unfolding command_parts
  parts_told s d e =
      let c : Command = frame_of command_of s d in
      ap (told s (tag_of s) (code_of s) c.handles c.parameters) (all_entries s d (steps_taken s d e))

  -- ---- a command that passes is the layout of the parts read, and they are well formed

  -- under the plain tag there are no entries
  plain_walk : (s : List ℕ) (d : Division) → Steps s d → eqb (tag_of s) sessions ≡ false → entries_in s d.entries ≡ []
  plain_walk s d t q =
      let h : ℕ = 10 + 4 * t.row.handles in
      let to : ℕ = d.areas.to in
      let room = t.room in
      let ends = plain_places Authorization h h s (rw q at t.sized) in
      let short : length (take to s) ≡ to = length-take-le to s (omega arith) in
      let walked : gives d.entries ≡ gives [] = sym t.walked ∙ walk_end book.longest 3 4 (take to s) d.areas.from (omega arith) in
      ap (entries_in s) (gives_injective walked)

  module _ (s : List ℕ) (p : AreBytes s) (d : Division) (t : Steps s d) where
    places_order : (d.areas.handles ≡ 10 + 4 * t.row.handles)
        × (10 + 4 * t.row.handles ≤ d.areas.from) × (d.areas.from ≤ d.areas.to) × (d.areas.to ≤ length s)
    places_order =
        let h : ℕ = 10 + 4 * t.row.handles in
        sized_order Authorization (eqb (tag_of s) sessions) h h s (le_refl h) t.room t.sized

    -- the entries stand in the sized bytes and fill them
    entries_stand : At s d.areas.from (layout_entries 4 (entries_in s d.entries))
        × (d.areas.from + length (layout_entries 4 (entries_in s d.entries)) ≡ d.areas.to)
        × WholeEntries book.longest 4 (entries_in s d.entries)
    entries_stand =
        let from : ℕ = d.areas.from in
        let to : ℕ = d.areas.to in
        let order = places_order in
        let short : length (take to s) ≡ to = length-take-le to s order.3 in
        let inside : from ≤ length (take to s) = rw short order.2 in
        let within : entries_in (take to s) d.entries ≡ entries_in s d.entries = walk_within book.longest 3 4 to s from inside t.walked in
        let walked = rw within at (walk_sound book.longest 3 4 (take to s) from (are_bytes_take to s p) inside t.walked) in
        (at_within to s walked.0, walked.1 ∙ short, walked.2)

  pub command_sound : (s : List ℕ) → AreBytes s → (d : Division) → read_command book s ≡ gives d
      → CommandParts book (parts s d) × (layout_command (parts s d) ≡ s)
  unfolding layout_command
  command_sound s p d e =
      let t = steps_taken s d e in
      let h : ℕ = 10 + 4 * t.row.handles in
      let to : ℕ = d.areas.to in
      let order = places_order s p d t in
      let stand = entries_stand s p d t in
      let handles = at_between s 10 d.areas.handles (omega arith) (omega arith) in
      let rest = at_between s to (length s) order.3 (le_refl (length s)) in
      let again : layout_command (parts s d) ≡ s =
      frame_again Authorization h h s p t.size_is t.sized (record {
        handles_at = handles.0;
        handles_end = handles.1;
        sized_at = stand.0;
        sized_end = stand.1;
        rest_at = rest.0;
        rest_end = rest.1;
      }) in (
        record {
          row = t.row;
          has_row = t.has_row;
          well_formed = record {
            tag_of_two = of_the_two (tag_of s) t.tag_two;
            code_fits = code_fits s p t.ten;
            handle_bytes = are_bytes_take (d.areas.handles - 10) (drop 10 s) (are_bytes_drop 10 s p);
            handle_count = omega (arith, handles.1);
            whole_entries = stand.2;
            three_entries = rw length_entries (walk_few book.longest 3 4 (take to s) d.areas.from t.walked);
            plain_entries = plain_walk s d t;
            parameter_bytes = are_bytes_take (length s - to) (drop to s) (are_bytes_drop to s p);
          };
          size_fits = rw again (size_fits s p t.ten t.size_is);
        },
        again,
      )

  -- what is given back as the authorization area is the layout of the entries
  pub command_auth : (s : List ℕ) → AreBytes s → (c : Command) → command_by_value s (read_command book s) ≡ gives c
      → held_at c.auth s ≡ layout_entries 4 (command_parts s c).entries
  unfolding command_parts
  command_auth s p c e =
      let read = then_gives (read_command book s) _ e in
      let d : Division = read.0 in
      let t = steps_taken s d read.1 in
      let stand = entries_stand s p d t in
      subst (λ (c : Command). held_at c.auth s ≡ layout_entries 4 (command_parts s c).entries) (gives_injective read.2)
      (between_at d.areas.to stand.0 stand.1 ∙ ap (λ (es : List Session). layout_entries 4 (entries_in s es)) (sym (all_entries s d t)))

  -- a division has at most three entries, and their nonces and HMACs are within the limit and lie within the frame
  pub command_division_fields : (s : List ℕ) (d : Division) → read_command book s ≡ gives d
      → (length d.entries ≤ 3) × EachField (Kept book.longest (length s)) d.entries
  command_division_fields s d e =
      let walked = (steps_taken s d e).walked in
      let short = length-take d.areas.to s in
      let kept = walk_inside book.longest 3 4 (take d.areas.to s) d.areas.from walked in (
        walk_few book.longest 3 4 (take d.areas.to s) d.areas.from walked,
        each_field (λ f k. let end = k.1 in (k.0, omega arith)) d.entries kept,
      )

  -- and so of what is given back
  pub command_fields : (s : List ℕ) (c : Command) → command_by_value s (read_command book s) ≡ gives c
      → EachField (Kept book.longest (length s)) (entries_of c.entries)
  command_fields s c e =
      let read = then_gives (read_command book s) _ e in
      let fields = command_division_fields s read.0 read.1 in
      subst (λ (c : Command). EachField (Kept book.longest (length s)) (entries_of c.entries)) (gives_injective read.2)
      (rw (entries_of_lem read.0.entries fields.0) fields.1)

  -- what is said of a command's sessions is of its division
  pub signed_command : (s : List ℕ) (x : Signed) → signed s (read_command book s) ≡ gives x
      → (d : Division) × (read_command book s ≡ gives d) × (length d.entries ≤ 3) × (x ≡ record { code = code_of s; entries = by_value d.entries })
  signed_command s x e =
      let found = signed_of s (read_command book s) e in
      (found.0, found.1, (command_division_fields s found.0 found.1).0, found.2)

  -- its code has a row, and the row's handles are the area
  pub command_row : (s : List ℕ) (c : Command) → command_by_value s (read_command book s) ≡ gives c
      → (row : Row) × (row_for book.rows c.cc.0 ≡ gives row) × (c.handles.to ≡ 10 + 4 * row.handles)
  command_row s c e =
      let read = then_gives (read_command book s) _ e in
      let d : Division = read.0 in
      let t = steps_taken s d read.1 in
      let same : d.areas.handles ≡ 10 + 4 * t.row.handles =
      (sized_order Authorization (eqb (tag_of s) sessions) (10 + 4 * t.row.handles) (10 + 4 * t.row.handles) s (omega arith) t.room t.sized).0 in
      rw (← gives_injective read.2) (t.row, t.has_row, same)

  -- the three reads of one area give the areas of a passing command
  pub command_ranges : (s : List ℕ) (c : Command) → command_by_value s (read_command book s) ≡ gives c
      → (handles_range book s ≡ gives (ranged c.handles))
      × (auth_range book s ≡ gives (ranged c.auth))
      × (parameters_range book s ≡ gives (ranged c.parameters))
  unfolding handles_range auth_range parameters_range
  command_ranges s c e =
      let read = then_gives (read_command book s) _ e in
      let d : Division = read.0 in
      let t = steps_taken s d read.1 in
      let handles : command_handles book s ≡ gives (10 + 4 * t.row.handles) = handles_pass s d t in
      let areas : command_areas book s ≡ gives d.areas = areas_pass s d t in
      let same : d.areas.handles ≡ 10 + 4 * t.row.handles =
      (sized_order Authorization (eqb (tag_of s) sessions) (10 + 4 * t.row.handles) (10 + 4 * t.row.handles) s (omega arith) t.room t.sized).0 in
      rw (← gives_injective read.2, handles, areas, same) (refl, refl, refl)

  -- ---- the layout of well-formed parts passes, and they are the parts read

  module _ (table : IsTable book.rows book.known) where
    module _ (f : Frame) (row : Row) (found : row_for book.rows f.code ≡ gives row) (w : WellFormed book.longest 4 row.handles f) (s : List ℕ)
        (framed : Framed s f.tag f.code (layout_body f.tag f.handles (layout_entries 4 f.entries) f.parameters)) where
      module _ (areas : Areas) (held : Holds s areas f.handles (layout_entries 4 f.entries) f.parameters)
          (sized : sized_area Authorization (eqb f.tag sessions) (10 + 4 * row.handles) s (10 + 4 * row.handles) ≡ gives areas) where
        -- from where the parts stand to the division
        with_entries : (ds : List Session) → walk book.longest 3 4 (take areas.to s) areas.from ≡ gives ds
            → areas.from ≤ length (take areas.to s) → entries_in (take areas.to s) ds ≡ f.entries
            → (d : Division) × (read_command book s ≡ gives d) × (parts s d ≡ f)
        with_entries ds walked inside same =
            let within : entries_in (take areas.to s) ds ≡ entries_in s ds = walk_within book.longest 3 4 areas.to s areas.from inside walked in
            let d : Division = record { areas = areas; entries = ds } in
            let tag : tag_of s ≡ f.tag = framed.tag_is in
            let code : code_of s ≡ f.code = framed.code_is in (
              d,
              steps_pass s d (record {
                row = row;
                ten = omega arith;
                size_is = framed.size_is;
                tag_two = rw tag (is_of_two_lem f.tag w.tag_of_two);
                tag_known = rw tag (two_tags f.tag (is_of_two_lem f.tag w.tag_of_two));
                code_known = rw code (row_known table f.code found);
                has_row = rw code found;
                room = omega arith;
                sized = rw tag sized;
                walked = walked;
              }),
              (λ i. record {
                tag = tag i;
                code = code i;
                handles = between_at areas.handles held.handles_at held.handles_end i;
                entries = (sym within ∙ same) i;
                parameters = between_at (length s) held.rest_at held.rest_end i;
              }),
            )

        with_areas : (d : Division) × (read_command book s ≡ gives d) × (parts s d ≡ f)
        with_areas =
            let from : ℕ = areas.from in
            let to : ℕ = areas.to in
            let short : length (take to s) ≡ to = length-take-le to s (omega arith) in
            let ends : from + length (layout_entries 4 f.entries) ≡ length (take to s) = held.sized_end ∙ sym short in
            let entries_at = at_inside to s (omega arith) held.sized_at in
            let walked = walk_complete book.longest 3 4 (take to s) from f.entries w.whole_entries w.three_entries entries_at ends in
            with_entries walked.0 walked.1 (omega arith) walked.2

    pub command_complete : (f : Frame) → CommandParts book f
        → (d : Division) × (read_command book (layout_command f) ≡ gives d) × (parts (layout_command f) d ≡ f)
    unfolding layout_command
    command_complete f c =
        let w = c.well_formed in
        let h : ℕ = 10 + 4 * c.row.handles in
        let entries : List ℕ = layout_entries 4 f.entries in
        let body : List ℕ = layout_body f.tag f.handles entries f.parameters in
        let s : List ℕ = layout_frame f.tag f.code body in
        let long : length s ≡ 10 + length body = length_frame f.tag f.code body in
        let small : length s < 4294967296 = c.size_fits in
        let framed = frame_complete f.tag f.code body (tag_fits f.tag (is_of_two_lem f.tag w.tag_of_two)) w.code_fits (omega arith) in
        let count : 10 + length f.handles ≡ h = ap (λ (n : ℕ). 10 + n) w.handle_count in
        let stop : eqb f.tag sessions ≡ false → h + length entries ≡ h = λ q. rw (w.plain_entries q) (omega arith) in
        let sized = sized_complete Authorization (eqb f.tag sessions) h h s f.handles entries f.parameters small count stop framed.body_at framed.body_long in
        with_areas f c.row c.has_row w s framed sized.0 sized.2 sized.1

    -- ---- and so of what is given back by value

    pub command_divides : Divides (λ s. command_by_value s (read_command book s)) command_parts layout_command (CommandParts book)
    command_divides =
        divides_by_value (read_command book) parts layout_command (CommandParts book) (frame_of command_of) command_parts
        parts_told command_sound command_complete
