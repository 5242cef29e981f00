-- Which area a refusal names, and where its offset lies: of each step of a reading (Where.antt has it of whole frames).
-- Assumes nothing.
use mathlib.Core.Path.{◌≡◌, refl, sym, ◌∙◌, ap, subst}
use mathlib.Core.Bool.{Bool, true, false, ◌&&◌, ◌||◌, false≢true, and-eq-true_iff}
use mathlib.Core.List.{List, [], ◌∷◌}
use mathlib.Core.Logic.{inl, inr, ⊎_elim}
use Prim.Native.Nat.{ℕ, zero, suc, ◌+◌, ◌-◌, ◌*◌, ◌≤◌}
use native.Mathlib.Omega.{arith}
use borrow.Author.Tests.{eqb-false, leb-true, leb-false, le-leb, ltb-true}
use lib.Dec.{eqb, leb, ltb}
use lib.ListN.{length, take}
use lib.Seq.{length-take-le}
use Rattle.base.specs.declared.error.Area.{Area}
use Rattle.base.specs.declared.error.Area.TheVariants.{None, Header, Handles, Authorization, Parameters}
use Rattle.base.specs.Bytes.{AreBytes}
use Rattle.base.specs.Field.{read_field, write_field}
use Rattle.base.specs.Members.{is_in}
use Rattle.base.specs.Said.{Why, in_area, number_of, offset_of, Said, gives, refuses, within, Only}
use Rattle.base.proofs.Bytes.{are_bytes_take}
use Rattle.base.proofs.Checks.{gives≢refuses, gives_injective, needs_gives, cond_gives, then_gives, then_within, within_gives, stops}
use Rattle.base.proofs.Only.{by_gives, by_check, by_needs, by_cond, by_step_to, by_then, by_step, by_within, by_wider, only_read, only_written}
use Rattle.base.proofs.Tables.{every, at_member}
use Rattle.table.specs.Table.{row_for}
use Rattle.table.specs.Tags.{tags}
use Rattle.table.specs.declared.row.Row.{Row}
use Rattle.table.proofs.Only.{only_row}
use Rattle.frame.specs.declared.areas.Areas.{Areas}
use Rattle.frame.specs.Areas.{handle_area, sized_area}
use Rattle.frame.specs.Command.{command_handles, command_areas, judge_command, cast_command, cast_command_prefix, read_command}
use Rattle.frame.specs.Header.{
  tag_of,
  size_of,
  code_of,
  plain,
  sessions,
  is_rsp_command,
  is_response_tag,
  is_of_two,
  reads,
  header,
  tag_of_those,
  read_tag,
  read_size,
  read_cc,
  read_rc,
  set_tag,
  set_cc,
  set_rc,
  frame_prefix,
  frame_whole,
  read_command_tag,
  read_response_tag,
}
use Rattle.frame.specs.Response.{success_areas, judge_response, cast_response, cast_response_prefix, error_areas, response_areas, body_range}
use Rattle.frame.specs.Rules.{Rulebook}
use Rattle.frame.specs.Walk.{behind, read_tpm2b, read_signed, read_entry, walk}
use Rattle.frame.specs.Where.{header_places, AtHeader, OfHeader, Tabled, command_numbers, command_place, OfCommand, AtStart}
use Rattle.frame.proofs.Divisions.{command_header, areas_fit, handles_fit, response_header}
use Rattle.frame.proofs.EntryLaws.{field_sound, tpm2b_fits, entry_behind, entry_inside}
use Rattle.frame.proofs.FrameLaws.{sized_order}
use Rattle.frame.proofs.Walks.{field_there_lem}

-- ---- the header

module _ {numbers s : List ℕ} where
  -- a number of those, at a place of its own
  in_ten : {number offset : ℕ} {rest : List ℕ} → is_in number numbers ≡ true → is_in offset (header_places number) ≡ true
      → OfHeader numbers s (in_area Header (number ∷ offset ∷ rest))
  in_ten is own = record { in_header = refl; number = is; place = inl own }

  by_header : {A : Type 0} {rest : Said A} → is_in 1 numbers ≡ true → (10 ≤ length s → Only (OfHeader numbers s) rest) → Only (OfHeader numbers s) (header s rest)
  by_header one p = by_check (leb 10 (length s)) _ (λ h. in_ten one refl) (λ h. p (leb-true 10 (length s) h))

  -- what is written within the header is there
  by_written : (place w n : ℕ) → place + w ≤ 10 → 10 ≤ length s → Only (OfHeader numbers s) (write_field w place n s)
  by_written place w n fits ten = only_written place s w n (λ short. absurd (false≢true (sym short ∙ le-leb w (length s - place) (omega arith))))

  -- a missing row
  pub by_row : (rows : List Row) (code : ℕ) → is_in 4 numbers ≡ true → Only (OfHeader numbers s) (within Header (row_for rows code))
  by_row rows code four =
      by_within Header (by_wider (λ why is. subst (λ (w : Why). OfHeader numbers s (in_area Header w.numbers)) (sym is) (in_ten four refl)) (only_row rows code))

-- among more numbers
more_numbers : {xs ys s : List ℕ} {why : Why} → every (λ n. is_in n ys) xs ≡ true → OfHeader xs s why → OfHeader ys s why
more_numbers {xs} {ys} {s} {why} all p = record {
  in_header = p.in_header;
  number = at_member (λ n. is_in n ys) xs all (number_of why) p.number;
  place = p.place;
}

by_tag : (isOne : ℕ → Bool) (s : List ℕ) → Only (OfHeader (1 ∷ 3 ∷ []) s) (tag_of_those isOne s)
by_tag isOne s = by_header refl (λ ten. by_needs (isOne (tag_of s)) _ (in_ten refl refl) by_gives)

module _ (s : List ℕ) where
  pub only_tag : Only (OfHeader (1 ∷ 3 ∷ []) s) (read_tag s)
  unfolding read_tag
  only_tag = by_tag (λ tag. is_in tag tags) s

  pub only_size : Only (OfHeader (1 ∷ []) s) (read_size s)
  unfolding read_size
  only_size = by_header refl (λ ten. by_gives)

  pub only_body : Only (OfHeader (1 ∷ []) s) (body_range s)
  unfolding body_range
  only_body = by_header refl (λ ten. by_gives)

  pub only_set_tag : (tag : ℕ) → Only (OfHeader (1 ∷ 3 ∷ []) s) (set_tag tag s)
  unfolding set_tag
  only_set_tag tag = by_header refl (λ ten. by_needs (is_in tag tags) _ (in_ten refl refl) (by_written 0 2 tag (omega arith) ten))

  pub only_command_tag : Only (OfHeader (1 ∷ 3 ∷ []) s) (read_command_tag s)
  unfolding read_command_tag
  only_command_tag = by_tag is_of_two s

  module _ (book : Rulebook) where
    pub only_response_tag : Only (OfHeader (1 ∷ 3 ∷ []) s) (read_response_tag book s)
    unfolding read_response_tag
    only_response_tag = by_tag (is_response_tag book) s

    pub only_cc : Only (OfHeader (1 ∷ 4 ∷ []) s) (read_cc book s)
    unfolding read_cc
    only_cc = by_header refl (λ ten. by_needs (is_in (code_of s) book.known) _ (in_ten refl refl) by_gives)

    pub only_rc : Only (OfHeader (1 ∷ 5 ∷ []) s) (read_rc book s)
    unfolding read_rc
    only_rc = by_header refl (λ ten. by_needs (reads book (tag_of s) (code_of s)) _ (in_ten refl refl) by_gives)

    module _ (code : ℕ) where
      pub only_set_cc : Only (OfHeader (1 ∷ 4 ∷ []) s) (set_cc book code s)
      unfolding set_cc
      only_set_cc = by_header refl (λ ten. by_then (by_row book.rows code refl) (λ r. by_written 6 4 code (omega arith) ten))

      pub only_set_rc : Only (OfHeader (1 ∷ 5 ∷ []) s) (set_rc book code s)
      unfolding set_rc
      only_set_rc = by_header refl (λ ten. by_needs (reads book (tag_of s) code) _ (in_ten refl refl) (by_written 6 4 code (omega arith) ten))

  -- the envelope: 1 at the end of the bytes, 2 at the end of the frame
  pub only_prefix : Only (OfHeader (1 ∷ []) s) (frame_prefix s)
  unfolding frame_prefix
  only_prefix =
      by_header refl λ ten.
      by_needs (leb 10 (size_of s)) _ (in_ten refl refl)
      (by_check (leb (size_of s) (length s)) _
      (λ few. record { in_header = refl; number = refl; place = inr (inl (refl, refl, leb-false (size_of s) (length s) few)) })
      (λ all. by_gives))

  prefix_size : {n : ℕ} → frame_prefix s ≡ gives n → size_of s ≡ n
  unfolding frame_prefix
  prefix_size e =
      let ten = needs_gives (leb 10 (length s)) _ _ e in
      let small = needs_gives (leb 10 (size_of s)) _ _ ten.1 in
      gives_injective (needs_gives (leb (size_of s) (length s)) _ _ small.1).1

  pub only_whole : Only (OfHeader (1 ∷ 2 ∷ []) s) (frame_whole s)
  unfolding frame_whole
  only_whole =
      by_step_to (by_wider (λ why. more_numbers refl) only_prefix) λ n e.
      by_check (leb (length s) n) _
      (λ more.
      let size = prefix_size e in
      let above = leb-false (length s) n more in
      record { in_header = refl; number = refl; place = inr (inr (refl, sym size, omega arith)) })
      (λ all. by_gives)

-- ---- what commands and responses share, in any table that has it

module _ {table : Area → List ℕ} {place : Area → ℕ → ℕ → Type 0} {longest : ℕ} {s : List ℕ} where
  -- a line of a table other than 8's
  tabled : {area : Area} {number offset : ℕ} {rest : List ℕ} → is_in number (table area) ≡ true → place area number offset → eqb number 8 ≡ false
      → Tabled table place longest s (in_area area (number ∷ offset ∷ rest))
  tabled {area} {number} is at other = record { number = is; at = at; limited = λ b e. absurd (eqb-false number 8 other e) }

  -- the header's lines
  pub of_header : {A : Type 0} {said : Said A} (xs : List ℕ) → every (λ n. is_in n (table Header) && ltb n 8) xs ≡ true
      → ((number offset : ℕ) → AtHeader s number offset → place Header number offset) → Only (OfHeader xs s) said → Only (Tabled table place longest s) said
  of_header xs all at p = by_wider wide p
    where
      wide : (why : Why) → OfHeader xs s why → Tabled table place longest s why
      wide why h =
          let both = (and-eq-true_iff (is_in (number_of why) (table Header)) (ltb (number_of why) 8)).0 (at_member (λ n. is_in n (table Header) && ltb n 8) xs all (number_of why) h.number) in
          let small = ltb-true (number_of why) 8 both.1 in
          record {
            number = rw h.in_header both.0;
            at = rw h.in_header (at (number_of why) (offset_of why) h.place);
            limited = λ b e. absurd (omega arith);
          }

  -- the handles are short at their start
  pub only_handle_area : is_in 1 (table Handles) ≡ true → place Handles 1 10 → (handles : ℕ) → Only (Tabled table place longest s) (handle_area handles s)
  unfolding handle_area
  only_handle_area one at handles = by_needs (leb (4 * handles) (length s - 10)) _ (tabled one at refl) by_gives

  -- the sized bytes are short at their size, or behind it
  module _ (area : Area) (one : is_in 1 (table area) ≡ true) (end h : ℕ) (low : h ≤ length s) (at : (offset : ℕ) → h ≤ offset → offset ≤ length s → place area 1 offset) where
    pub only_sized : (sized : Bool) → Only (Tabled table place longest s) (sized_area area sized end s h)
    unfolding sized_area
    only_sized false = by_gives
    only_sized true =
        by_step_to (by_within area (only_read h s 4 (λ short. tabled one (at h (omega arith) low) refl))) λ size e.
        let there = field_there_lem area 4 h s (omega arith) (sym e) in
        by_needs (leb size (length s - (h + 4))) _ (tabled one (at (h + 4) (omega arith) there) refl) by_gives

  -- the walk over entries that end where t does, from a place on: each refusal stands there or behind it
  module _ (t : List ℕ) (are : AreBytes s → AreBytes t) (from : ℕ) (one : is_in 1 (table Authorization) ≡ true) (six : is_in 6 (table Authorization) ≡ true)
      (eight : is_in 8 (table Authorization) ≡ true) (at : (number offset : ℕ) → from ≤ offset → offset ≤ length t → place Authorization number offset) where
    only_field : (w p : ℕ) → from ≤ p → p ≤ length t → Only (Tabled table place longest s) (within Authorization (read_field w p t))
    only_field w p low high = by_within Authorization (only_read p t w (λ short. tabled one (at 1 p low high) refl))

    only_tpm2b : (p : ℕ) → from ≤ p → p ≤ length t → Only (Tabled table place longest s) (read_tpm2b longest t p)
    unfolding read_tpm2b
    only_tpm2b p low high =
        by_step_to (only_field 2 p low high) λ size e.
        by_check (leb size longest) _
        (λ long.
        let above = leb-false size longest long in
        record {
          number = eight;
          at = at 8 p low high;
          limited = λ b is. let small = (field_sound 2 t p (are b) high (within_gives Authorization (read_field 2 p t) e)).1 in omega arith;
        })
        (λ short. by_needs (leb (2 + size) (length t - p)) _ (tabled one (at 1 p low high) refl) by_gives)

    only_signed : (handle p : ℕ) → from ≤ p → p ≤ length t → Only (Tabled table place longest s) (read_signed longest handle t p)
    unfolding read_signed
    only_signed handle p low high =
        by_step_to (only_tpm2b p low high) λ nonce e.
        let inside = (tpm2b_fits longest t p e).1 in
        by_step_to (only_field 1 (p + 2 + nonce) (omega arith) inside) λ attributes f.
        let there = field_there_lem Authorization 1 (p + 2 + nonce) t (omega arith) (sym f) in
        by_step _ (only_tpm2b (p + 2 + nonce + 1) (omega arith) there)

    only_entry : (width p : ℕ) → from ≤ p → p ≤ length t → Only (Tabled table place longest s) (read_entry longest width t p)
    unfolding read_entry
    only_entry width p low high =
        by_step_to (only_field width p low high) λ handle e.
        let there = leb-true width (length t - p) (needs_gives (leb width (length t - p)) _ _ (within_gives Authorization (read_field width p t) e)).0 in
        only_signed handle (p + width) (omega arith) (omega arith)

    pub only_walk : (k width p : ℕ) → from ≤ p → p ≤ length t → Only (Tabled table place longest s) (walk longest k width t p)
    unfolding walk
    only_walk zero width p low high = by_needs (leb (length t) p) _ (tabled six (at 6 p low high) refl) by_gives
    only_walk (suc k) width p low high =
        by_cond (leb (length t) p) by_gives
        (by_step_to (only_entry width p low high) λ x e.
        let before = entry_behind longest width t p e in
        let ends = (entry_inside longest width t p e).1.1 in
        by_step _ (only_walk k width (behind x) (omega arith) ends))

-- ---- commands

module _ (book : Rulebook) (s : List ℕ) where
  -- before it is known that the areas do not divide
  abbrev early : Area → ℕ → ℕ → Type 0
  early None number offset = ⊥
  early Header number offset = AtHeader s number offset
  early Handles number offset = offset ≡ 10
  early Authorization number offset = (h : ℕ) × (command_handles book s ≡ gives h) × (h ≤ offset) × (offset ≤ length s)
  early Parameters number offset = ⊥

  only_handles : Only (Tabled command_numbers early book.longest s) (command_handles book s)
  unfolding command_handles
  only_handles =
      by_then (of_header (1 ∷ 4 ∷ []) refl (λ number offset at. at) (only_cc s book)) λ code.
      by_then (of_header (4 ∷ []) refl (λ number offset at. at) (by_row book.rows code refl)) λ row.
      only_handle_area refl refl row.handles

  early_areas : Only (Tabled command_numbers early book.longest s) (command_areas book s)
  unfolding command_areas
  early_areas =
      by_step_to only_handles λ h e.
      let fits = command_header book s (sym e) in
      by_needs (is_in (tag_of s) tags) _ (tabled refl (inl refl) refl)
      (only_sized Authorization refl h h fits.2 (λ offset low high. (h, e, low, high)) (eqb (tag_of s) sessions))

  -- so it is known
  later : {why : Why} → command_areas book s ≡ refuses why → (area : Area) (number offset : ℕ) → early area number offset → command_place book s area number offset
  later e None number offset at = at
  later e Header number offset at = at
  later e Handles number offset at = at
  later e Authorization number offset at = record {
    handles = at.0;
    handles_end = at.1;
    behind_handles = at.2;
    inside = at.3;
    before_parameters = λ areas d. absurd (gives≢refuses (sym d ∙ e));
  }
  later e Parameters number offset at = at

  pub only_command_areas : Only (OfCommand book s) (command_areas book s)
  only_command_areas = record {
    each = λ why e.
        let is = early_areas.each why e in
        record { number = is.number; at = later e why.area (number_of why) (offset_of why) is.at; limited = is.limited };
  }

  -- the handles alone are refused where the areas are
  pub only_command_handles : Only (OfCommand book s) (command_handles book s)
  unfolding command_areas
  only_command_handles = record { each = λ why e. only_command_areas.each why (sym (stops (command_handles book s) _ (sym e))) }

  pub only_judge_command : Only (OfCommand book s) (judge_command book s)
  unfolding judge_command
  only_judge_command = by_then (of_header (1 ∷ 3 ∷ []) refl (λ number offset at. at) (only_command_tag s)) (λ tag. only_command_areas)

  pub only_cast_command : Only (OfCommand book s) (cast_command book s)
  unfolding cast_command
  only_cast_command = by_then (of_header (1 ∷ 2 ∷ []) refl (λ number offset at. at) (only_whole s)) (λ n. only_judge_command)

  pub only_command : Only (OfCommand book s) (read_command book s)
  unfolding read_command cast_command judge_command command_areas
  only_command =
      by_step_to only_cast_command λ areas cast.
      let size = then_gives (frame_whole s) _ cast in
      let tag = then_gives (read_command_tag s) _ size.2 in
      let handles = then_gives (command_handles book s) _ tag.2 in
      let fits = areas_fit book s (sym tag.2) in
      let head = command_header book s (sym handles.1) in
      let sized = needs_gives (is_in (tag_of s) tags) _ _ handles.2 in
      let order = sized_order Authorization (eqb (tag_of s) sessions) handles.0 handles.0 s (omega arith) head.2 sized.1 in
      let long : length (take areas.to s) ≡ areas.to = length-take-le areas.to s fits.4 in
      by_step _ (only_walk (take areas.to s) (are_bytes_take areas.to s) areas.from refl refl refl
      (λ number offset low high. record {
        handles = handles.0;
        handles_end = handles.1;
        behind_handles = omega arith;
        inside = omega arith;
        before_parameters = λ other d. let same = ap (λ (a : Areas). a.to) (gives_injective (sym tag.2 ∙ d)) in omega arith;
      })
      3 4 areas.from (omega arith) (omega arith))

pub only_cast_command_prefix : (book : Rulebook) (s : List ℕ) → Only (AtStart (OfCommand book) s) (cast_command_prefix book s)
unfolding cast_command_prefix
only_cast_command_prefix book s =
    by_step_to (by_wider (λ why. inl) (only_prefix s)) λ n e.
    by_step _ (by_wider (λ why p. inr (rw (prefix_size s e) p)) (only_judge_command book (take n s)))

-- ---- responses

module _ (book : Rulebook) (s : List ℕ) where
  -- the header of a response, in the table of any command that it may answer
  pub only_cast_response : Only (OfHeader (1 ∷ 2 ∷ 3 ∷ 5 ∷ []) s) (cast_response book s)
  unfolding cast_response judge_response
  only_cast_response =
      by_then (by_wider (λ why. more_numbers refl) (only_whole s)) λ n.
      by_then (by_wider (λ why. more_numbers refl) (only_response_tag s book)) λ tag.
      by_wider (λ why. more_numbers refl) (only_rc s book)

  pub only_judge_response : Only (OfHeader (1 ∷ 3 ∷ 5 ∷ []) s) (judge_response book s)
  unfolding judge_response
  only_judge_response =
      by_then (by_wider (λ why. more_numbers refl) (only_response_tag s book)) λ tag.
      by_wider (λ why. more_numbers refl) (only_rc s book)

  -- an error: its tag, and what is behind its header
  pub only_error : Only (OfHeader (2 ∷ 3 ∷ []) s) (error_areas book s)
  unfolding error_areas
  only_error =
      by_needs (eqb (tag_of s) plain || is_rsp_command book (tag_of s)) _ (in_ten refl refl)
      (by_needs (leb (length s) 10) _ (in_ten refl refl) by_gives)

  module _ (cc : ℕ) where
    -- the parameters end within the bytes
    pub parameters_end : {areas : Areas} → response_areas book cc s ≡ gives areas → areas.to ≤ length s
    unfolding response_areas success_areas error_areas
    parameters_end {areas} e =
        let cast = then_gives (cast_response book s) _ e in
        let ten = response_header book s (sym cast.1) in
        let found = then_within Header (row_for book.rows cc) _ cast.2 in
        ⊎_elim
        (λ success.
        let handled = then_gives (handle_area found.0.responses s) _ success.1 in
        let fits = handles_fit found.0.responses s ten (sym handled.1) in
        (sized_order Parameters (eqb (tag_of s) sessions) (length s) handled.0 s fits.1 (omega arith) handled.2).3)
        (λ error.
        let tagged = needs_gives (eqb (tag_of s) plain || is_rsp_command book (tag_of s)) _ _ error.1 in
        let to : 10 ≡ areas.to = ap (λ (a : Areas). a.to) (gives_injective (needs_gives (leb (length s) 10) _ _ tagged.1).1) in
        omega arith)
        (cond_gives (eqb cast.0 0) _ _ found.2)

pub only_cast_response_prefix : (book : Rulebook) (s : List ℕ) → Only (AtStart (OfHeader (1 ∷ 3 ∷ 5 ∷ [])) s) (cast_response_prefix book s)
unfolding cast_response_prefix
only_cast_response_prefix book s =
    by_step_to (by_wider (λ why. inl) (only_prefix s)) λ n e.
    by_step _ (by_wider (λ why p. inr (rw (prefix_size s e) p)) (only_judge_response book (take n s)))
