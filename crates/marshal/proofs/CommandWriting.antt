-- Writing a command and reading it, by any rules: what the writer takes is a passing command whose parts are those handed over; and the
-- parts read from a passing command, written into enough room, give its bytes again, but under the sessions tag with no entry.
-- Assumes nothing.
use mathlib.Core.Path.{◌≡◌, sym, ◌∙◌, ap, subst}
use mathlib.Core.Bool.{true}
use mathlib.Core.List.{List, [], ◌∷◌}
use Prim.Native.Nat.{ℕ, ◌≤◌, ◌<◌}
use native.Mathlib.Omega.{arith}
use lib.Dec.{eqb}
use lib.ListN.{length, length-take, take}
use Rattle.base.specs.Bytes.{AreBytes}
use Rattle.base.specs.Said.{no_area, gives, refuses}
use Rattle.base.proofs.Checks.{then_gives, gives_injective}
use Rattle.table.specs.Table.{IsTable}
use Rattle.frame.specs.declared.command.Command.{Command}
use Rattle.frame.specs.Answer.{command_by_value}
use Rattle.frame.specs.Command.{Division, cast_command, read_command}
use Rattle.frame.specs.Header.{sessions}
use Rattle.frame.specs.Layout.{CommandParts, layout_command}
use Rattle.frame.specs.Parts.{command_parts}
use Rattle.frame.specs.Rules.{Rulebook}
use Rattle.frame.specs.Walk.{walk, by_value}
use Rattle.frame.proofs.CommandLaws.{command_divides}
use Rattle.frame.proofs.FrameLaws.{is_of_two_lem, of_the_two}
use Rattle.frame.proofs.Standing.{length_entries}
use Rattle.marshal.specs.Handed.{Handed, tag_for, command_frame}
use Rattle.marshal.specs.Write.{write_command}
use Rattle.marshal.proofs.Frames.{length_command}
use Rattle.marshal.proofs.Parts.{OfTypes, Stand, handed_back, whole_sessions, three_at_most, count_is, walk_stands, no_entries, tag_goes}
use Rattle.marshal.proofs.Writers.{tag_two, wrong_tag, command_passed, passed_command}

-- a command that was read, as the writer takes it
abbrev pub command_handed : List ℕ → Command → Handed
command_handed s c = handed_back s c.handles c.entries c.parameters

module _ (book : Rulebook) where
  pub command_formed : (tag code : ℕ) (h : Handed) (room : ℕ) {t : List ℕ} → write_command book tag code h room ≡ gives t → OfTypes h → code < 4294967296
      → CommandParts book (command_frame tag code h) × (t ≡ layout_command (command_frame tag code h))
  command_formed tag code h room {t} written types fits =
      let p = command_passed book tag code h room written in (
        record {
          row = p.row;
          has_row = p.has_row;
          well_formed = record {
            tag_of_two = of_the_two tag (tag_two tag h.sessions.count p.tag_is);
            code_fits = fits;
            handle_bytes = types.handle_bytes;
            handle_count = p.fits.handle_count;
            whole_entries = whole_sessions book.longest h types p.fits.there;
            three_entries = rw length_entries (three_at_most h.sessions);
            plain_entries = no_entries tag h p.tag_is;
            parameter_bytes = types.parameter_bytes;
          };
          size_fits = let small : length t ≤ 4294967295 = p.fits.small in rw (← p.layout_is) (omega arith);
        },
        p.layout_is,
      )

  module _ (table : IsTable book.rows book.known) where
    -- ---- what is written passes, and its parts are those handed over

    pub command_reads : (tag code : ℕ) (h : Handed) (room : ℕ) {t : List ℕ} → write_command book tag code h room ≡ gives t → OfTypes h → code < 4294967296
        → (c : Command) × (command_by_value t (read_command book t) ≡ gives c) × (command_parts t c ≡ command_frame tag code h)
    command_reads tag code h room written types fits =
        let formed = command_formed tag code h room written types fits in
        rw formed.1 ((command_divides book table).parts_read (command_frame tag code h) formed.0)

    -- ---- what was read is written again

    module _ (s : List ℕ) (c : Command) (read : command_by_value s (read_command book s) ≡ gives c) where
      stand : Stand book.longest s c.entries
      unfolding read_command
      stand =
          let division = then_gives (read_command book s) _ read in
          let cast = then_gives (cast_command book s) _ division.1 in
          let area = take cast.0.to s in
          let entries = then_gives (walk book.longest 3 4 area cast.0.from) _ cast.2 in
          let short = length-take cast.0.to s in
          let same : by_value entries.0 ≡ c.entries =
          ap (λ (d : Division). by_value d.entries) (gives_injective entries.2) ∙ ap (λ (k : Command). k.entries) (gives_injective division.2) in
          subst (Stand book.longest s) same (walk_stands book.longest 4 area cast.0.from s (omega arith) entries.1)

      -- the parts that were read, written into enough room, give the same bytes ..
      pub command_again : AreBytes s → (room : ℕ) → length s ≤ room → (eqb c.tag.0 sessions ≡ true → c.entries.count ≡ 0 → ⊥)
          → write_command book c.tag.0 c.cc.0 (command_handed s c) room ≡ gives s
      unfolding command_parts
      command_again are room enough some =
          let formed : CommandParts book (command_parts s c) × (layout_command (command_parts s c) ≡ s) =
          (command_divides book table).again s are c read in
          let parts = formed.0 in
          let h = command_handed s c in
          let small : length s < 4294967296 = rw formed.1 at parts.size_fits in
          passed_command book c.tag.0 c.cc.0 h room (record {
            tag_is =
                tag_goes c.tag.0 c.entries.count (is_of_two_lem c.tag.0 parts.well_formed.tag_of_two)
                (λ q. sym (count_is s c.entries stand.0) ∙ ap length (parts.well_formed.plain_entries q)) some;
            few = stand.0;
            row = parts.row;
            has_row = parts.has_row;
            fits = record {
              handle_count = parts.well_formed.handle_count;
              there = stand.1;
              total_is = ap length (sym formed.1) ∙ length_command book.longest h stand.1 c.tag.0 c.cc.0;
              small = omega arith;
              room_for = enough;
            };
            layout_is = sym formed.1;
          })

  -- .. but under the sessions tag with no entry the command is refused with InvalidTag
  pub command_empty : (s : List ℕ) (c : Command) (room : ℕ) → c.tag.0 ≡ sessions → c.entries.count ≡ 0
      → write_command book c.tag.0 c.cc.0 (command_handed s c) room ≡ refuses (no_area (3 ∷ 0 ∷ 0x8002 ∷ []))
  command_empty s c room tag none =
      sym (wrong_tag book c.tag.0 c.cc.0 (command_handed s c) room (λ e. let other : c.tag.0 ≡ tag_for 0 = rw none at e in omega arith))
      ∙ ap (λ (n : ℕ). refuses (no_area (3 ∷ 0 ∷ n ∷ []))) tag
