-- Two tables (document 02, W10), in any reading. Where a code stands in both with equal counts, every reading of a command with that
-- code, every reading of a response to that command, and setting that code is the same under both; what is read of a response without
-- its command, and its code set, is the same under any two. So for what callers are answered by two tables that they can name. And by any table,
-- the code that a setter has set is the code that is read.
-- Assumes nothing.
use mathlib.Core.Path.{◌≡◌, refl, sym, ◌∙◌, ap}
use mathlib.Core.Bool.{Bool, true, false}
use mathlib.Core.List.{List, [], ◌∷◌, ◌++◌}
use Prim.Native.Nat.{ℕ, ◌+◌, ◌-◌, ◌*◌, ◌≤◌, ◌<◌}
use native.Mathlib.Omega.{arith}
use borrow.Author.Tests.{leb-true}
use lib.Dec.{leb}
use lib.ListN.{length, take, drop}
use lib.Seq.{length-take-le}
use Rattle.std.specs.Prelude.{Ok}
use Rattle.base.specs.Answer.{said_command_code, said, said_range}
use Rattle.base.specs.Bytes.{bytes, number}
use Rattle.base.specs.Members.{is_in}
use Rattle.base.specs.Parts.{up_to}
use Rattle.base.specs.declared.error.Area.TheVariants.{Header}
use Rattle.base.specs.Field.{laid}
use Rattle.base.specs.Said.{in_area, Said, gives, refuses, after, done, given, within}
use Rattle.base.proofs.Bytes.{length_bytes, number_bytes}
use Rattle.base.proofs.Checks.{gives≢refuses, needs_gives, then_gives, gives_injective, within_gives}
use Rattle.base.proofs.Laid.{laid_there, length_laid}
use Rattle.base.proofs.Places.{read_within}
use Rattle.table.specs.declared.revision.Revision.{Revision}
use Rattle.table.specs.declared.row.Row.{Row}
use Rattle.table.specs.declared.revision.Revision.TheVariants as revision
use Rattle.table.specs.Dispatch.{table_of, codes_of}
use Rattle.table.specs.Table.{row_for, IsTable, Alike}
use Rattle.table.specs.Tags.{tags}
use Rattle.table.proofs.Revisions.{same_row, stands_alike, from_138}
use Rattle.table.proofs.Rows.{row_given, row_known}
use Rattle.table.proofs.Table.{is_table}
use Rattle.frame.specs.declared.command.Command.{Command}
use Rattle.frame.specs.declared.rules.Reading.{Reading}
use Rattle.frame.specs.declared.rules.Reading.TheVariants as reading
use Rattle.frame.specs.declared.rules.Rules.{Rules}
use Rattle.frame.specs.Answer.{command_by_value, response_by_value, said_command_sessions, said_response_sessions, signed, whole}
use Rattle.frame.specs.Areas.{handle_area, sized_area}
use Rattle.frame.specs.Command.{command_handles, command_areas, judge_command, cast_command, cast_command_prefix, read_command, handles_range, auth_range, parameters_range}
use Rattle.frame.specs.Header.{tag_of, size_of, code_of, read_cc, read_rc, set_cc, set_rc, frame_prefix, frame_whole, read_command_tag, read_response_tag}
use Rattle.frame.specs.Response.{judge_response, cast_response, cast_response_prefix, error_areas, response_areas, read_response}
use Rattle.frame.specs.Rules.{Rulebook, book_at, book_of}
use Rattle.frame.proofs.CommandLaws.{command_row}
use Rattle.frame.proofs.Headers.{prefix_fits}
use Rattle.frame.proofs.Laws.{Promised}
use Rattle.frame.proofs.Limits.{same_then}
use Rattle.frame.proofs.ResponseLaws.{response_row}
use Rattle.frame.proofs.command.cc.Kinds as command-cc-kinds
use Rattle.frame.proofs.command.cc.Reads as command-cc-reads
use Rattle.frame.proofs.command.set_cc.Kinds as command-set-cc-kinds
use Rattle.frame.proofs.command.set_cc.Reads as command-set-cc-reads
use Rattle.frame.proofs.command.handles_range.Kinds as command-handles-range-kinds
use Rattle.frame.proofs.command.handles_range.Reads as command-handles-range-reads
use Rattle.frame.proofs.command.auth_area_range.Kinds as command-auth-area-range-kinds
use Rattle.frame.proofs.command.auth_area_range.Reads as command-auth-area-range-reads
use Rattle.frame.proofs.command.parameters_range.Kinds as command-parameters-range-kinds
use Rattle.frame.proofs.command.parameters_range.Reads as command-parameters-range-reads
use Rattle.frame.proofs.command.cast_range.Kinds as command-cast-range-kinds
use Rattle.frame.proofs.command.cast_range.Reads as command-cast-range-reads
use Rattle.frame.proofs.command.cast_prefix_range.Kinds as command-cast-prefix-range-kinds
use Rattle.frame.proofs.command.cast_prefix_range.Reads as command-cast-prefix-range-reads
use Rattle.frame.proofs.command.validate.Kinds as command-validate-kinds
use Rattle.frame.proofs.command.validate.Reads as command-validate-reads
use Rattle.frame.proofs.command.parts.Kinds as command-parts-kinds
use Rattle.frame.proofs.command.parts.Reads as command-parts-reads
use Rattle.frame.proofs.command.sessions.Kinds as command-sessions-kinds
use Rattle.frame.proofs.command.sessions.Reads as command-sessions-reads
use Rattle.frame.proofs.response.validate.Kinds as response-validate-kinds
use Rattle.frame.proofs.response.validate.Reads as response-validate-reads
use Rattle.frame.proofs.response.parts.Kinds as response-parts-kinds
use Rattle.frame.proofs.response.parts.Reads as response-parts-reads
use Rattle.frame.proofs.response.sessions.Kinds as response-sessions-kinds
use Rattle.frame.proofs.response.sessions.Reads as response-sessions-reads

-- the code of a frame at the start of bytes is theirs
code_of_start : (n : ℕ) (s : List ℕ) → 10 ≤ n → n ≤ length s → code_of (take n s) ≡ code_of s
unfolding code_of
code_of_start n s ten inside = ap number (read_within n s 6 4 (rw (length-take-le n s inside) (omega arith)))

module _ {rows others : List Row} {known knows : List ℕ} (table : IsTable rows known) (other : IsTable others knows) (by : Reading) (code : ℕ)
    (same : Alike rows others code) where
  abbrev first : Rulebook
  first = book_at rows known by

  abbrev second : Rulebook
  second = book_at others knows by

  one_row : row_for rows code ≡ row_for others code
  one_row = same_row same

  in_first : is_in code known ≡ true
  in_first = row_known table code same.has_row

  in_second : is_in code knows ≡ true
  in_second = row_known other code same.has_other

  -- ---- commands

  module _ (s : List ℕ) (is : code_of s ≡ code) where
    pub same_cc : read_cc first s ≡ read_cc second s
    unfolding read_cc
    same_cc = rw (is, in_first, in_second) refl

    same_handles : command_handles first s ≡ command_handles second s
    unfolding command_handles read_cc
    same_handles = by_length (leb 10 (length s)) refl
      where
        by_length : (t : Bool) → leb 10 (length s) ≡ t → command_handles first s ≡ command_handles second s
        by_length true e = rw (e, is, in_first, in_second, one_row) refl
        by_length false e = rw e refl

    same_areas : command_areas first s ≡ command_areas second s
    unfolding command_areas
    same_areas = rw same_handles refl

    same_judge : judge_command first s ≡ judge_command second s
    unfolding judge_command
    same_judge = rw same_areas refl

    pub same_cast : cast_command first s ≡ cast_command second s
    unfolding cast_command
    same_cast = rw same_judge refl

    pub same_command : read_command first s ≡ read_command second s
    unfolding read_command
    same_command = rw same_cast refl

    pub same_ranges : (handles_range first s ≡ handles_range second s) × (auth_range first s ≡ auth_range second s) × (parameters_range first s ≡ parameters_range second s)
    unfolding handles_range auth_range parameters_range
    same_ranges = (rw same_handles refl, rw same_areas refl, rw same_areas refl)

  pub same_set_cc : (s : List ℕ) → set_cc first code s ≡ set_cc second code s
  unfolding set_cc
  same_set_cc s = rw one_row refl

  -- the command at the start of bytes
  pub same_prefix : (s : List ℕ) → code_of s ≡ code → cast_command_prefix first s ≡ cast_command_prefix second s
  unfolding cast_command_prefix
  same_prefix s is =
      same_then (frame_prefix s) _ _ λ n read.
      rw (same_judge (take n s) (code_of_start n s (prefix_fits s (sym read)).1 (prefix_fits s (sym read)).2 ∙ is)) refl

  -- ---- responses to the command of that code

  pub same_response : (s : List ℕ) → read_response first code s ≡ read_response second code s
  unfolding read_response response_areas cast_response judge_response read_response_tag read_rc error_areas
  same_response s = rw one_row refl

-- what does not ask for the command is the same by any two tables
module _ (rows others : List Row) (known knows : List ℕ) (by : Reading) (s : List ℕ) where
  pub any_response : (cast_response (book_at rows known by) s ≡ cast_response (book_at others knows by) s)
      × (cast_response_prefix (book_at rows known by) s ≡ cast_response_prefix (book_at others knows by) s)
      × (read_rc (book_at rows known by) s ≡ read_rc (book_at others knows by) s)
      × ((code : ℕ) → set_rc (book_at rows known by) code s ≡ set_rc (book_at others knows by) code s)
  unfolding cast_response cast_response_prefix judge_response read_response_tag read_rc set_rc
  any_response = (refl, refl, refl, λ code. refl)

-- ---- setters, by any table: the code that was set is the code that is read, and it has a row

module _ (book : Rulebook) (table : IsTable book.rows book.known) (code : ℕ) (fits : code < 4294967296) (s : List ℕ) where
  pub set_cc_read : {t : List ℕ} → set_cc book code s ≡ gives t → read_cc book t ≡ gives code
  unfolding set_cc read_cc code_of
  set_cc_read {t} e =
      let header = needs_gives (leb 10 (length s)) _ _ e in
      let found = then_gives (within Header (row_for book.rows code)) _ header.1 in
      let written = needs_gives (leb 4 (length s - 6)) _ _ found.2 in
      let long = leb-true 10 (length s) header.0 in
      let laid-is : laid 6 (bytes 4 code) s ≡ t =
      ap (λ (n : ℕ). take 6 s ++ (bytes 4 code ++ drop (6 + n) s)) (length_bytes 4 code) ∙ gives_injective written.1 in
      let inside : 6 + length (bytes 4 code) ≤ length s = rw (length_bytes 4 code) (omega arith) in
      let ten : leb 10 (length t) ≡ true = rw (← laid-is, length_laid 6 (bytes 4 code) s inside) header.0 in
      let is : code_of t ≡ code =
      rw (← laid-is) (ap (λ (n : ℕ). number (take n (drop 6 (laid 6 (bytes 4 code) s)))) (sym (length_bytes 4 code))
      ∙ ap number (laid_there 6 (bytes 4 code) s inside)
      ∙ number_bytes 4 code fits) in
      rw (ten, is, row_known table code (within_gives Header (row_for book.rows code) found.1)) refl

-- ---- what callers are answered by one of the tables is what is answered by another one in which the code stands with equal counts

abbrev at : Revision → Rules → Rules
at other rules = record { reading = rules.reading; revision = other }

abbrev Stands : Rules → Revision → ℕ → Type 0
Stands rules other code = Alike (table_of rules.revision) (table_of other) code

module _ (rules : Rules) (other : Revision) where
  named_command : (s : List ℕ) → Stands rules other (code_of s) → read_command (book_of rules) s ≡ read_command (book_of (at other rules)) s
  named_command s same = same_command (is_table rules.revision) (is_table other) rules.reading (code_of s) same s refl

  named_response : (code : ℕ) (s : List ℕ) → Stands rules other code → read_response (book_of rules) code s ≡ read_response (book_of (at other rules)) code s
  named_response code s same = same_response (is_table rules.revision) (is_table other) rules.reading code same s

pub command_cc : Promised 1 command-cc-kinds.ps command-cc-kinds.r command-cc-reads.Post
    (λ κs a x later. (other : Revision) → Stands a.0 other (code_of a.1.0.now)
    → said_command_code x ≡ read_cc (book_of (at other a.0)) a.1.0.now)
command_cc κs a x v met other same = met ∙ same_cc (is_table a.0.revision) (is_table other) a.0.reading _ same _ refl

pub command_handles_range : Promised 1 command-handles-range-kinds.ps command-handles-range-kinds.r command-handles-range-reads.Post
    (λ κs a x later. (other : Revision) → Stands a.0 other (code_of a.1.0.now)
    → said_range x ≡ handles_range (book_of (at other a.0)) a.1.0.now)
command_handles_range κs a x v met other same = met ∙ (same_ranges (is_table a.0.revision) (is_table other) a.0.reading _ same _ refl).0

pub command_auth_area_range : Promised 1 command-auth-area-range-kinds.ps command-auth-area-range-kinds.r command-auth-area-range-reads.Post
    (λ κs a x later. (other : Revision) → Stands a.0 other (code_of a.1.0.now)
    → said_range x ≡ auth_range (book_of (at other a.0)) a.1.0.now)
command_auth_area_range κs a x v met other same = met ∙ (same_ranges (is_table a.0.revision) (is_table other) a.0.reading _ same _ refl).1

pub command_parameters_range : Promised 1 command-parameters-range-kinds.ps command-parameters-range-kinds.r command-parameters-range-reads.Post
    (λ κs a x later. (other : Revision) → Stands a.0 other (code_of a.1.0.now)
    → said_range x ≡ parameters_range (book_of (at other a.0)) a.1.0.now)
command_parameters_range κs a x v met other same = met ∙ (same_ranges (is_table a.0.revision) (is_table other) a.0.reading _ same _ refl).2

pub command_cast_range : Promised 1 command-cast-range-kinds.ps command-cast-range-kinds.r command-cast-range-reads.Post
    (λ κs a x later. (other : Revision) → Stands a.0 other (code_of a.1.0.now)
    → said_range x ≡ whole a.1.0.now (cast_command (book_of (at other a.0)) a.1.0.now))
command_cast_range κs a x v met other same = met ∙ ap (whole a.1.0.now) (same_cast (is_table a.0.revision) (is_table other) a.0.reading _ same _ refl)

pub command_cast_prefix_range : Promised 1 command-cast-prefix-range-kinds.ps command-cast-prefix-range-kinds.r command-cast-prefix-range-reads.Post
    (λ κs a x later. (other : Revision) → Stands a.0 other (code_of a.1.0.now)
    → said_range x ≡ up_to (cast_command_prefix (book_of (at other a.0)) a.1.0.now))
command_cast_prefix_range κs a x v met other same = met ∙ ap up_to (same_prefix (is_table a.0.revision) (is_table other) a.0.reading _ same _ refl)

pub command_validate : Promised 1 command-validate-kinds.ps command-validate-kinds.r command-validate-reads.Post
    (λ κs a x later. (other : Revision) → Stands a.0 other (code_of a.1.0.now)
    → said x ≡ done (read_command (book_of (at other a.0)) a.1.0.now))
command_validate κs a x v met other same = met ∙ ap done (named_command a.0 other a.1.0.now same)

pub command_parts_lem : Promised 1 command-parts-kinds.ps command-parts-kinds.r command-parts-reads.Post
    (λ κs a x later. (other : Revision) → Stands a.0 other (code_of a.1.0.now)
    → said x ≡ command_by_value a.1.0.now (read_command (book_of (at other a.0)) a.1.0.now))
command_parts_lem κs a x v met other same = met ∙ ap (command_by_value a.1.0.now) (named_command a.0 other a.1.0.now same)

pub command_sessions : Promised 1 command-sessions-kinds.ps command-sessions-kinds.r command-sessions-reads.Post
    (λ κs a x later. (other : Revision) → Stands a.0 other (code_of a.1.0.now)
    → said_command_sessions x ≡ signed a.1.0.now (read_command (book_of (at other a.0)) a.1.0.now))
command_sessions κs a x v met other same = met ∙ ap (signed a.1.0.now) (named_command a.0 other a.1.0.now same)

pub command_set_cc : Promised 1 command-set-cc-kinds.ps command-set-cc-kinds.r command-set-cc-reads.Post
    (λ κs a x later. (other : Revision) → Stands a.0 other a.1.1.0.0
    → (said x ≡ done (set_cc (book_of (at other a.0)) a.1.1.0.0 a.1.0.now))
    × (later.1.0.now ≡ after a.1.0.now (set_cc (book_of (at other a.0)) a.1.1.0.0 a.1.0.now)))
command_set_cc κs a x v met other same =
    let set = same_set_cc (is_table a.0.revision) (is_table other) a.0.reading _ same a.1.0.now in
    (met.0 ∙ ap done set, met.1 ∙ ap (after a.1.0.now) set)

pub response_validate : Promised 1 response-validate-kinds.ps response-validate-kinds.r response-validate-reads.Post
    (λ κs a x later. (other : Revision) → Stands a.0 other a.1.0.0
    → said x ≡ done (read_response (book_of (at other a.0)) a.1.0.0 a.1.1.0.now))
response_validate κs a x v met other same = met ∙ ap done (named_response a.0 other a.1.0.0 a.1.1.0.now same)

pub response_parts_lem : Promised 1 response-parts-kinds.ps response-parts-kinds.r response-parts-reads.Post
    (λ κs a x later. (other : Revision) → Stands a.0 other a.1.0.0
    → said x ≡ response_by_value a.1.1.0.now (read_response (book_of (at other a.0)) a.1.0.0 a.1.1.0.now))
response_parts_lem κs a x v met other same = met ∙ ap (response_by_value a.1.1.0.now) (named_response a.0 other a.1.0.0 a.1.1.0.now same)

pub response_sessions : Promised 1 response-sessions-kinds.ps response-sessions-kinds.r response-sessions-reads.Post
    (λ κs a x later. (other : Revision) → Stands a.0 other a.1.0.0
    → said_response_sessions x ≡ signed a.1.1.0.now (read_response (book_of (at other a.0)) a.1.0.0 a.1.1.0.now))
response_sessions κs a x v met other same = met ∙ ap (signed a.1.1.0.now) (named_response a.0 other a.1.0.0 a.1.1.0.now same)

-- ---- what callers are answered by a table is of that table: what passes, and a code that is set, has a row in the table that was named, and the handles of a command
-- are as many as it says

made : {A : Type 0} (said : Said A) → done said ≡ gives tt → (a : A) × (said ≡ gives a)
made (gives a) e = (a, refl)
made (refuses why) e = absurd (gives≢refuses (sym e))

abbrev HasRow : Revision → ℕ → Type 0
HasRow by code = (row : Row) × (row_for (table_of by) code ≡ gives row)

pub command_parts_row : Promised 1 command-parts-kinds.ps command-parts-kinds.r command-parts-reads.Post
    (λ κs a x later. (c : Command) → x ≡ Ok c
    → (row : Row) × (row_for (table_of a.0.revision) c.cc.0 ≡ gives row) × (c.handles.to ≡ 10 + 4 * row.handles))
command_parts_row κs a x v met c is = command_row (book_of a.0) a.1.0.now c (sym met ∙ ap said is)

pub response_validate_row : Promised 1 response-validate-kinds.ps response-validate-kinds.r response-validate-reads.Post
    (λ κs a x later. x ≡ Ok tt → HasRow a.0.revision a.1.0.0)
response_validate_row κs a x v met is =
    let read = made (read_response (book_of a.0) a.1.0.0 a.1.1.0.now) (sym met ∙ ap said is) in
    response_row (book_of a.0) a.1.0.0 a.1.1.0.now read.0 read.1

pub command_set_cc_row : Promised 1 command-set-cc-kinds.ps command-set-cc-kinds.r command-set-cc-reads.Post
    (λ κs a x later. x ≡ Ok tt → HasRow a.0.revision a.1.1.0.0)
unfolding set_cc
command_set_cc_row κs a x v met is =
    let code : ℕ = a.1.1.0.0 in
    let s : List ℕ = a.1.0.now in
    let set = made (set_cc (book_of a.0) code s) (sym met.0 ∙ ap said is) in
    let found = then_gives (within Header (row_for (table_of a.0.revision) code)) _ (needs_gives (leb 10 (length s)) _ _ set.1).1 in
    (found.0, within_gives Header (row_for (table_of a.0.revision) code) found.1)

-- ---- more codes may be known than have a row: revision 1.38's rows with the crate's codes are a table too, and by them TPM2_ECC_Encrypt, which is known and
-- has no row, is 4(0,code) in a command, and TPM2_CertifyX509, which is not known, 4(6,code)

wider : IsTable (table_of revision.Lib138) (codes_of revision.Crate)
wider = record {
  rises = (is_table revision.Lib138).rises;
  has_few = (is_table revision.Lib138).has_few;
  holds = λ code here.
      let same = stands_alike (table_of revision.Lib138) (table_of revision.Crate) code here (rw from_138.0 refl) in
      sym (row_given code (table_of revision.Crate)) ∙ ap given same.has_other;
}

abbrev bare : ℕ → List ℕ
bare low = 0x80 ∷ 0x01 ∷ 0 ∷ 0 ∷ 0 ∷ 0x0a ∷ 0 ∷ 0 ∷ 0x01 ∷ low ∷ []

pub known_without_row : (cast_command (book_at (table_of revision.Lib138) (codes_of revision.Crate) reading.Standard) (bare 0x99) ≡ refuses (in_area Header (4 ∷ 0 ∷ 0x199 ∷ [])))
    × (cast_command (book_at (table_of revision.Lib138) (codes_of revision.Crate) reading.Standard) (bare 0x97) ≡ refuses (in_area Header (4 ∷ 6 ∷ 0x197 ∷ [])))
unfolding number table_of tags tag_of size_of code_of read_cc frame_prefix frame_whole read_command_tag handle_area sized_area command_handles command_areas judge_command cast_command
known_without_row = (refl, refl)
