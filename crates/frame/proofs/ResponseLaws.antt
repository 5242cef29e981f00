-- A response to the command of a code passes exactly where it is the layout of well-formed parts, over any rules; the parts read
-- are those laid out. An error response is a bare header, and a success response divides as the code's row says.
-- Assumes nothing.
use mathlib.Core.Path.{◌≡◌, refl, sym, ◌∙◌, ap, subst}
use mathlib.Core.Bool.{Bool, true, false, ◌||◌, cond}
use mathlib.Core.List.{List, []}
use mathlib.Core.Logic.{◌⊎◌, inl, inr}
use Prim.Native.Nat.{ℕ, ◌+◌, ◌-◌, ◌*◌, ◌≤◌, ◌<◌}
use native.Mathlib.Nat.{le_refl}
use native.Mathlib.Omega.{arith}
use borrow.Author.Tests.{le-leb, eqb-true}
use lib.Dec.{eqb, leb}
use lib.ListN.{length, drop, length-append}
use Rattle.base.specs.declared.error.Area.TheVariants.{Header, Parameters}
use Rattle.base.specs.Bytes.{AreBytes, bytes}
use Rattle.base.specs.Parts.{held_at}
use Rattle.base.specs.Said.{gives}
use Rattle.base.proofs.Bytes.{are_bytes_take, are_bytes_drop}
use Rattle.base.proofs.Checks.{needs_gives, then_gives, then_within, cond_gives, gives_injective}
use Rattle.base.proofs.Places.{at_by}
use Rattle.table.specs.Table.{row_for}
use Rattle.table.specs.declared.row.Row.{Row}
use Rattle.frame.specs.declared.areas.Areas.{Areas}
use Rattle.frame.specs.declared.response.Response.{Response}
use Rattle.frame.specs.declared.session.Session.{Session}
use Rattle.frame.specs.Answer.{response_of, frame_of, response_by_value, Signed, signed}
use Rattle.frame.specs.Areas.{handle_area, sized_area}
use Rattle.frame.specs.Command.{Division}
use Rattle.frame.specs.Header.{tag_of, size_of, code_of, sessions, is_rsp_command, reads, is_response_tag, read_rc, frame_whole, read_response_tag}
use Rattle.frame.specs.Layout.{
  Frame,
  WellFormed,
  ErrorParts,
  SuccessParts,
  ResponseParts,
  layout_entries,
  layout_body,
  layout_frame,
  layout_response,
}
use Rattle.frame.specs.Parts.{between, Kept, EachField, entries_in, entries_of, told, response_parts}
use Rattle.frame.specs.Response.{judge_response, cast_response, error_areas, success_areas, response_areas, read_response}
use Rattle.frame.specs.Rules.{Rulebook}
use Rattle.frame.specs.Walk.{walk, by_value}
use Rattle.frame.proofs.BadTags.{success_reads, success_two, error_parted, erring}
use Rattle.frame.proofs.ErrorAreas.{error_taken, error_passes}
use Rattle.frame.proofs.Divides.{Divides, divides_by_value}
use Rattle.frame.proofs.Divisions.{entries_of_lem, signed_of}
use Rattle.frame.proofs.FrameLaws.{
  code_fits,
  size_fits,
  Framed,
  frame_sound,
  frame_complete,
  length_frame,
  whole_sound,
  whole_complete,
  response_tag_sound,
  response_tag_complete,
  tag_fits,
  Holds,
  handles_sound,
  handles_complete,
  sized_order,
  is_of_two_lem,
  of_the_two,
  plain_places,
  frame_again,
  sized_complete,
}
use Rattle.frame.proofs.Standing.{between_at, at_between, length_entries}
use Rattle.frame.proofs.WalkLaws.{walk_sound, walk_few, walk_complete, walk_end, walk_inside}

-- ---- the two kinds

-- an error response is laid out as a bare header
bare_layout : (book : Rulebook) (f : Frame) → ErrorParts book f → layout_response f ≡ layout_frame f.tag f.code []
unfolding layout_response
bare_layout book f e = rw ((erring book f e.either_error).tag_unsized, e.no_handles, e.no_entries, e.no_parameters) refl

-- what is judged of success, and its areas
record Succeeded (responses : ℕ) (s : List ℕ) (areas : Areas) : Type 0 where
  room : 10 + 4 * responses ≤ length s
  sized : sized_area Parameters (eqb (tag_of s) sessions) (length s) s (10 + 4 * responses) ≡ gives areas

success_taken : (responses : ℕ) (s : List ℕ) {areas : Areas} → 10 ≤ length s → success_areas responses s ≡ gives areas → Succeeded responses s areas
unfolding success_areas
success_taken responses s ten e =
    let handled = then_gives (handle_area responses s) _ e in
    let handles = handles_sound s responses ten handled.1 in
    record {
      room = handles.1;
      sized = ap (sized_area Parameters (eqb (tag_of s) sessions) (length s) s) (sym handles.0) ∙ handled.2;
    }

success_passes : (responses : ℕ) (s : List ℕ) {areas : Areas} → Succeeded responses s areas → success_areas responses s ≡ gives areas
unfolding success_areas
success_passes responses s t = rw (handles_complete s responses t.room) t.sized

-- ---- a response to the command of a code

module _ (book : Rulebook) (cc : ℕ) where
  -- the steps of a reading that passed
  record Steps (s : List ℕ) (d : Division) : Type 0 where
    row : Row
    has_row : row_for book.rows cc ≡ gives row
    ten : 10 ≤ length s
    size_is : size_of s ≡ length s
    tag_admitted : is_response_tag book (tag_of s) ≡ true
    code_reads : reads book (tag_of s) (code_of s) ≡ true
    judged : cond (eqb (code_of s) 0) (success_areas row.responses s) (error_areas book s) ≡ gives d.areas
    walked : walk book.longest 3 0 s d.areas.to ≡ gives d.entries

  steps_taken : (s : List ℕ) (d : Division) → read_response book cc s ≡ gives d → Steps s d
  unfolding read_response response_areas cast_response judge_response read_rc
  steps_taken s d e =
      let read = then_gives (response_areas book cc s) _ e in
      let areas : Areas = read.0 in
      let walked = then_gives (walk book.longest 3 0 s areas.to) _ read.2 in
      let cast = then_gives (cast_response book s) _ read.1 in
      let found = then_within Header (row_for book.rows cc) _ cast.2 in
      let whole = then_gives (frame_whole s) _ cast.1 in
      let tagged = then_gives (read_response_tag book s) _ whole.2 in
      let header = needs_gives (leb 10 (length s)) _ _ tagged.2 in
      let coded = needs_gives (reads book (tag_of s) (code_of s)) _ _ header.1 in
      let code : code_of s ≡ cast.0 = gives_injective coded.1 in
      let sized = whole_sound s whole.1 in
      subst (Steps s) (gives_injective walked.2)
      (record {
        row = found.0;
        has_row = found.1;
        ten = sized.0;
        size_is = sized.1;
        tag_admitted = response_tag_sound s book tagged.1;
        code_reads = coded.0;
        judged = ap (λ (c : ℕ). cond (eqb c 0) (success_areas found.0.responses s) (error_areas book s)) code ∙ found.2;
        walked = walked.1;
      })

  steps_pass : (s : List ℕ) (d : Division) → Steps s d → read_response book cc s ≡ gives d
  unfolding read_response response_areas cast_response judge_response read_rc
  steps_pass s d t =
      rw (whole_complete s t.ten t.size_is, response_tag_complete s book t.ten t.tag_admitted, le-leb 10 (length s) t.ten)
      (rw (t.code_reads, t.has_row, t.judged, t.walked) refl)

  -- a response that passes stands under a tag that its rules have
  pub passes_admitted : (s : List ℕ) (d : Division) → read_response book cc s ≡ gives d → is_response_tag book (tag_of s) ≡ true
  passes_admitted s d e = (steps_taken s d e).tag_admitted

  -- ---- by value

  -- the parts that a division tells, by the areas that are given back
  abbrev parts : List ℕ → Division → Frame
  parts s d = told s (tag_of s) (code_of s) (frame_of response_of s d).handles (frame_of response_of s d).parameters d.entries

  all_entries : (s : List ℕ) (d : Division) → Steps s d → entries_of (by_value d.entries) ≡ d.entries
  all_entries s d t = entries_of_lem d.entries (walk_few book.longest 3 0 s d.areas.to t.walked)

  parts_told : (s : List ℕ) (d : Division) → read_response book cc s ≡ gives d → response_parts s (frame_of response_of s d) ≡ parts s d
  unfolding response_parts
  parts_told s d e =
      let r : Response = frame_of response_of s d in
      ap (told s (tag_of s) (code_of s) r.handles r.parameters) (all_entries s d (steps_taken s d e))

  -- ---- a response that passes is the layout of the parts read, and they are well formed

  module _ (s : List ℕ) (p : AreBytes s) (d : Division) (t : Steps s d) where
    error_sound : eqb (code_of s) 0 ≡ false → error_areas book s ≡ gives d.areas → ErrorParts book (parts s d) × (layout_response (parts s d) ≡ s)
    error_sound q e =
        let taken = error_taken book s e in
        let ten = t.ten in
        let bare = taken.1 in
        let to : d.areas.to ≡ 10 = ap (λ (a : Areas). a.to) (sym taken.2) in
        let none : d.entries ≡ [] = gives_injective (sym t.walked ∙ walk_end book.longest 3 0 s d.areas.to (omega arith)) in
        let formed : ErrorParts book (parts s d) =
        record {
          either_error = error_parted book (parts s d) taken.0 t.code_reads q;
          code_fits = code_fits s p t.ten;
          no_handles = ap (λ (a : Areas). between 10 a.handles s) (sym taken.2);
          no_entries = ap (entries_in s) none;
          no_parameters = ap (λ (a : Areas). between a.from a.to s) (sym taken.2);
        } in (
          formed,
          bare_layout book (parts s d) formed
              ∙ frame_sound p (record {
                tag_is = refl;
                code_is = refl;
                size_is = t.size_is;
                body_at = at_by [] (drop 10 s) ten refl;
                body_long = omega arith;
              }),
        )

    success_sound : code_of s ≡ 0 → Succeeded t.row.responses s d.areas
        → SuccessParts book t.row.responses (parts s d) × (layout_response (parts s d) ≡ s)
    unfolding layout_response
    success_sound q taken =
        let h : ℕ = 10 + 4 * t.row.responses in
        let from : ℕ = d.areas.from in
        let to : ℕ = d.areas.to in
        let order = sized_order Parameters (eqb (tag_of s) sessions) (length s) h s taken.room (le_refl (length s)) taken.sized in
        let walked = walk_sound book.longest 3 0 s to p order.3 t.walked in
        let handles = at_between s 10 d.areas.handles (omega arith) (omega arith) in
        let sized = at_between s from to order.2 order.3 in
        let none : eqb (tag_of s) sessions ≡ false → entries_in s d.entries ≡ [] =
        λ plainly.
        let ends = plain_places Parameters (length s) h s (rw plainly at taken.sized) in
        ap (entries_in s) (gives_injective (sym t.walked ∙ walk_end book.longest 3 0 s to (omega arith))) in
        let again : layout_response (parts s d) ≡ s =
        frame_again Parameters (length s) h s p t.size_is taken.sized (record {
          handles_at = handles.0;
          handles_end = handles.1;
          sized_at = sized.0;
          sized_end = sized.1;
          rest_at = walked.0;
          rest_end = walked.1;
        }) in (
          record {
            success = q;
            well_formed = record {
              tag_of_two = of_the_two (tag_of s) (success_two book (tag_of s) t.tag_admitted (ap (reads book (tag_of s)) (sym q) ∙ t.code_reads));
              code_fits = code_fits s p t.ten;
              handle_bytes = are_bytes_take (d.areas.handles - 10) (drop 10 s) (are_bytes_drop 10 s p);
              handle_count = omega (arith, handles.1);
              whole_entries = walked.2;
              three_entries = rw length_entries (walk_few book.longest 3 0 s to t.walked);
              plain_entries = none;
              parameter_bytes = are_bytes_take (to - from) (drop from s) (are_bytes_drop from s p);
            };
            size_fits = rw again (size_fits s p t.ten t.size_is);
          },
          again,
        )

    either_sound : ((eqb (code_of s) 0 ≡ true) × (success_areas t.row.responses s ≡ gives d.areas))
        ⊎ ((eqb (code_of s) 0 ≡ false) × (error_areas book s ≡ gives d.areas))
        → ResponseParts book cc (parts s d) × (layout_response (parts s d) ≡ s)
    either_sound (inl e) =
        let formed = success_sound (eqb-true (code_of s) 0 e.0) (success_taken t.row.responses s t.ten e.1) in
        (record { row = t.row; has_row = t.has_row; either_kind = inl formed.0 }, formed.1)
    either_sound (inr e) =
        let formed = error_sound e.0 e.1 in
        (record { row = t.row; has_row = t.has_row; either_kind = inr formed.0 }, formed.1)

    -- the sized bytes end within the frame
    within : ((eqb (code_of s) 0 ≡ true) × (success_areas t.row.responses s ≡ gives d.areas))
        ⊎ ((eqb (code_of s) 0 ≡ false) × (error_areas book s ≡ gives d.areas))
        → d.areas.to ≤ length s
    within (inl e) =
        let taken = success_taken t.row.responses s t.ten e.1 in
        (sized_order Parameters (eqb (tag_of s) sessions) (length s) (10 + 4 * t.row.responses) s taken.room (le_refl (length s)) taken.sized).3
    within (inr e) =
        let to : d.areas.to ≡ 10 = ap (λ (a : Areas). a.to) (sym (error_taken book s e.1).2) in
        let ten = t.ten in
        omega arith

  -- the command has a row
  pub response_row : (s : List ℕ) (d : Division) → read_response book cc s ≡ gives d → (row : Row) × (row_for book.rows cc ≡ gives row)
  response_row s d e = let t = steps_taken s d e in (t.row, t.has_row)

  -- what is given back as the authorization area is the layout of the entries
  pub response_auth : (s : List ℕ) → AreBytes s → (r : Response) → response_by_value s (read_response book cc s) ≡ gives r
      → held_at r.auth s ≡ layout_entries 0 (response_parts s r).entries
  unfolding response_parts
  response_auth s p r e =
      let read = then_gives (read_response book cc s) _ e in
      let d : Division = read.0 in
      let t = steps_taken s d read.1 in
      let either = cond_gives (eqb (code_of s) 0) (success_areas t.row.responses s) (error_areas book s) t.judged in
      let walked = walk_sound book.longest 3 0 s d.areas.to p (within s p d t either) t.walked in
      subst (λ (r : Response). held_at r.auth s ≡ layout_entries 0 (response_parts s r).entries) (gives_injective read.2)
      (between_at (length s) walked.0 walked.1 ∙ ap (λ (es : List Session). layout_entries 0 (entries_in s es)) (sym (all_entries s d t)))

  -- a division has at most three entries, and their nonces and HMACs are within the limit and lie within the frame
  pub response_division_fields : (s : List ℕ) (d : Division) → read_response book cc s ≡ gives d
      → (length d.entries ≤ 3) × EachField (Kept book.longest (length s)) d.entries
  response_division_fields s d e =
      let walked = (steps_taken s d e).walked in
      (walk_few book.longest 3 0 s d.areas.to walked, walk_inside book.longest 3 0 s d.areas.to walked)

  -- and so of what is given back
  pub response_fields : (s : List ℕ) (r : Response) → response_by_value s (read_response book cc s) ≡ gives r
      → EachField (Kept book.longest (length s)) (entries_of r.entries)
  response_fields s r e =
      let read = then_gives (read_response book cc s) _ e in
      let fields = response_division_fields s read.0 read.1 in
      subst (λ (r : Response). EachField (Kept book.longest (length s)) (entries_of r.entries)) (gives_injective read.2)
      (rw (entries_of_lem read.0.entries fields.0) fields.1)

  -- what is said of a response's sessions is of its division
  pub signed_response : (s : List ℕ) (x : Signed) → signed s (read_response book cc s) ≡ gives x
      → (d : Division) × (read_response book cc s ≡ gives d) × (length d.entries ≤ 3) × (x ≡ record { code = code_of s; entries = by_value d.entries })
  signed_response s x e =
      let found = signed_of s (read_response book cc s) e in
      (found.0, found.1, (response_division_fields s found.0 found.1).0, found.2)

  pub response_sound : (s : List ℕ) → AreBytes s → (d : Division) → read_response book cc s ≡ gives d
      → ResponseParts book cc (parts s d) × (layout_response (parts s d) ≡ s)
  response_sound s p d e =
      let t = steps_taken s d e in
      either_sound s p d t (cond_gives (eqb (code_of s) 0) (success_areas t.row.responses s) (error_areas book s) t.judged)

  -- ---- the layout of well-formed parts passes, and they are the parts read

  module _ (f : Frame) (row : Row) (found : row_for book.rows cc ≡ gives row) (s : List ℕ) where
    module _ (success : f.code ≡ 0) (w : WellFormed book.longest 0 row.responses f)
        (framed : Framed s f.tag f.code (layout_body f.tag f.handles f.parameters (layout_entries 0 f.entries))) where
      -- from where the parts stand to the division
      with_areas : (areas : Areas) → Holds s areas f.handles f.parameters (layout_entries 0 f.entries)
          → sized_area Parameters (eqb f.tag sessions) (length s) s (10 + 4 * row.responses) ≡ gives areas
          → (d : Division) × (read_response book cc s ≡ gives d) × (parts s d ≡ f)
      with_areas areas held sized =
          let tag : tag_of s ≡ f.tag = framed.tag_is in
          let code : code_of s ≡ f.code = framed.code_is in
          let two = is_of_two_lem f.tag w.tag_of_two in
          let walked = walk_complete book.longest 3 0 s areas.to f.entries w.whole_entries w.three_entries held.rest_at held.rest_end in
          let d : Division = record { areas = areas; entries = walked.0 } in (
            d,
            steps_pass s d (record {
              row = row;
              has_row = found;
              ten = omega arith;
              size_is = framed.size_is;
              tag_admitted = rw tag (ap (λ (b : Bool). b || is_rsp_command book f.tag) two);
              code_reads = rw (tag, code, success) (success_reads book f.tag two);
              judged = rw (code, success) (success_passes row.responses s (record { room = omega arith; sized = rw tag sized }));
              walked = walked.1;
            }),
            (λ i. record {
              tag = tag i;
              code = code i;
              handles = between_at areas.handles held.handles_at held.handles_end i;
              entries = walked.2 i;
              parameters = between_at areas.to held.sized_at held.sized_end i;
            }),
          )

      -- under the plain tag the parameters end where the frame does
      plain_end : eqb f.tag sessions ≡ false → 10 + 4 * row.responses + length f.parameters ≡ length s
      plain_end q =
          let size : List ℕ = cond (eqb f.tag sessions) (bytes 4 (length f.parameters)) [] in
          let entries : List ℕ = layout_entries 0 f.entries in
          let all : 10 + (length f.handles + (length size + (length f.parameters + length entries))) ≡ length s = simp length-append at framed.body_long in
          let no_size : length size ≡ 0 = rw q refl in
          let no_entries : length entries ≡ 0 = rw (w.plain_entries q) refl in
          omega arith

      success_complete : length s < 4294967296 → (d : Division) × (read_response book cc s ≡ gives d) × (parts s d ≡ f)
      success_complete small =
          let entries : List ℕ = layout_entries 0 f.entries in
          let count : 10 + length f.handles ≡ 10 + 4 * row.responses = ap (λ (n : ℕ). 10 + n) w.handle_count in
          let sized =
          sized_complete Parameters (eqb f.tag sessions) (length s) (10 + 4 * row.responses) s f.handles f.parameters entries
          small count plain_end framed.body_at framed.body_long in
          with_areas sized.0 sized.2 sized.1

    error_complete : ErrorParts book f → Framed s f.tag f.code [] → (d : Division) × (read_response book cc s ≡ gives d) × (parts s d ≡ f)
    error_complete e framed =
        let tag : tag_of s ≡ f.tag = framed.tag_is in
        let code : code_of s ≡ f.code = framed.code_is in
        let t = erring book f e.either_error in
        let d : Division = record { areas = record { handles = 10; from = 10; to = 10 }; entries = [] } in (
          d,
          steps_pass s d (record {
            row = row;
            has_row = found;
            ten = omega arith;
            size_is = framed.size_is;
            tag_admitted = rw tag t.tag_admitted;
            code_reads = rw (tag, code) t.code_reads;
            judged = rw (code, t.no_success) (error_passes book s (rw tag t.tag_for_error) (omega arith));
            walked = walk_end book.longest 3 0 s 10 (omega arith);
          }),
          (λ i. record {
            tag = tag i;
            code = code i;
            handles = sym e.no_handles i;
            entries = sym e.no_entries i;
            parameters = sym e.no_parameters i;
          }),
        )

  success_laid : (f : Frame) (row : Row) → row_for book.rows cc ≡ gives row → SuccessParts book row.responses f
      → (d : Division) × (read_response book cc (layout_response f) ≡ gives d) × (parts (layout_response f) d ≡ f)
  unfolding layout_response
  success_laid f row found e =
      let w = e.well_formed in
      let body : List ℕ = layout_body f.tag f.handles f.parameters (layout_entries 0 f.entries) in
      let s : List ℕ = layout_frame f.tag f.code body in
      let small : length s < 4294967296 = e.size_fits in
      let long : length s ≡ 10 + length body = length_frame f.tag f.code body in
      let framed = frame_complete f.tag f.code body (tag_fits f.tag (is_of_two_lem f.tag w.tag_of_two)) w.code_fits (omega arith) in
      success_complete f row found s e.success w framed small

  error_laid : (f : Frame) (row : Row) → row_for book.rows cc ≡ gives row → ErrorParts book f
      → (d : Division) × (read_response book cc (layout_response f) ≡ gives d) × (parts (layout_response f) d ≡ f)
  error_laid f row found e =
      let framed = frame_complete f.tag f.code [] (erring book f e.either_error).tag_fits e.code_fits (omega arith) in
      rw (bare_layout book f e) (error_complete f row found (layout_frame f.tag f.code []) e framed)

  pub response_complete : (f : Frame) → ResponseParts book cc f
      → (d : Division) × (read_response book cc (layout_response f) ≡ gives d) × (parts (layout_response f) d ≡ f)
  response_complete f c = by c.either_kind
    where
      by : SuccessParts book c.row.responses f ⊎ ErrorParts book f
          → (d : Division) × (read_response book cc (layout_response f) ≡ gives d) × (parts (layout_response f) d ≡ f)
      by (inl e) = success_laid f c.row c.has_row e
      by (inr e) = error_laid f c.row c.has_row e

  -- ---- and so of what is given back by value

  pub response_divides : Divides (λ s. response_by_value s (read_response book cc s)) response_parts layout_response (ResponseParts book cc)
  response_divides =
      divides_by_value (read_response book cc) parts layout_response (ResponseParts book cc) (frame_of response_of) response_parts
      parts_told response_sound response_complete
