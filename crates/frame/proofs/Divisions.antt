-- The cases of the areas and of the reads of commands and responses, each from the tests that lead to it.
-- Assumes nothing.
use mathlib.Core.Path.{◌≡◌, refl, sym, ◌∙◌, ap, subst}
use mathlib.Core.Bool.{Bool, true, false, ◌||◌, cond}
use mathlib.Core.List.{List, [], ◌∷◌}
use Prim.Native.Nat.{ℕ, ◌+◌, ◌-◌, ◌*◌, ◌≤◌, ◌<◌}
use native.Mathlib.Omega.{arith}
use borrow.Author.Tests.{le-leb, lt-leb, leb-true}
use lib.Dec.{eqb, leb}
use lib.ListN.{length, take}
use Rattle.base.specs.declared.error.Area.{Area}
use Rattle.base.specs.declared.error.Area.TheVariants.{Header, Handles, Authorization}
use Rattle.base.specs.Field.{read_field}
use Rattle.base.specs.Members.{is_in}
use Rattle.base.specs.Said.{Why, in_area, Said, gives, refuses, then, within, done}
use Rattle.base.proofs.Checks.{passes, fails, goes_on, stops, needs_gives, then_gives, then_within, done_gives, done_refuses, gives_injective}
use Rattle.table.specs.Table.{row_for}
use Rattle.table.specs.Tags.{tags}
use Rattle.table.specs.declared.row.Row.{Row}
use Rattle.table.proofs.Only.{row_refused}
use Rattle.frame.specs.declared.areas.Areas.{Areas}
use Rattle.frame.specs.declared.session.Session.{Session}
use Rattle.frame.specs.declared.session.Entries.{Entries}
use Rattle.frame.specs.Answer.{areas_of, entries_by_value, frame_of, Signed, signed}
use Rattle.frame.specs.Areas.{handle_area, sized_area}
use Rattle.frame.specs.Command.{Division, command_handles, command_areas, judge_command, cast_command, read_command}
use Rattle.frame.specs.Header.{tag_of, code_of, sessions, plain, is_rsp_command, read_cc, frame_whole, read_command_tag}
use Rattle.frame.specs.Parts.{entries_of}
use Rattle.frame.specs.Response.{cast_response, error_areas, success_areas, response_areas, read_response}
use Rattle.frame.specs.declared.rules.Reading.{Reading}
use Rattle.frame.specs.declared.rules.Reading.TheVariants as reading
use Rattle.frame.specs.declared.rules.Rules.{Rules}
use Rattle.frame.specs.Rules.{Rulebook, unlimited, longest_of, book_of}
use Rattle.frame.specs.Walk.{walk, by_value}
use Rattle.frame.proofs.FrameLaws.{sized_order, two_tags}
use Rattle.frame.proofs.WalkLaws.{walk_same}
use Rattle.frame.proofs.Walks.{field_there_lem, step_refused, step_given}
use Rattle.frame.proofs.Headers.{command_tag_is, whole_fits}

-- ---- the areas

module _ (h : ℕ) (s : List ℕ) where
  pub handles_short : {left : ℕ} → left ≡ length s - 10 → left < 4 * h
      → refuses (in_area Handles (1 ∷ 10 ∷ (4 * h) ∷ left ∷ [])) ≡ handle_area h s
  unfolding handle_area
  handles_short {left} e short = rw e (fails (leb (4 * h) (length s - 10)) _ _ (lt-leb (4 * h) (length s - 10) (omega arith)))

  pub handles_read : 4 * h ≤ length s - 10 → gives (10 + 4 * h) ≡ handle_area h s
  unfolding handle_area
  handles_read enough = passes (leb (4 * h) (length s - 10)) _ _ (le-leb (4 * h) (length s - 10) enough)

  -- where handles were read, they stand within the bytes
  pub handles_fit : 10 ≤ length s → {p : ℕ} → gives p ≡ handle_area h s → (10 ≤ p) × (p ≤ length s)
  unfolding handle_area
  handles_fit ten e =
      let enough = needs_gives (leb (4 * h) (length s - 10)) _ _ (sym e) in
      let fits = leb-true (4 * h) (length s - 10) enough.0 in
      let is = gives_injective enough.1 in
      (omega arith, omega arith)

module _ (area : Area) (end : ℕ) (s : List ℕ) (p : ℕ) where
  pub sized_plain : {t : Bool} → t ≡ false → gives (record { handles = p; from = p; to = end }) ≡ sized_area area t end s p
  unfolding sized_area
  sized_plain e = rw e

  module _ {t : Bool} (e : t ≡ true) where
    pub size_refused : {why : Why} → refuses why ≡ within area (read_field 4 p s) → refuses why ≡ sized_area area t end s p
    unfolding sized_area
    size_refused read = rw e (stops (within area (read_field 4 p s)) _ read)

    module _ {n : ℕ} (read : gives n ≡ within area (read_field 4 p s)) where
      pub sized_short : length s - (p + 4) < n
          → refuses (in_area area (1 ∷ (p + 4) ∷ n ∷ (length s - (p + 4)) ∷ [])) ≡ sized_area area t end s p
      unfolding sized_area
      sized_short short =
          rw e (fails (leb n (length s - (p + 4))) _ _ (lt-leb n (length s - (p + 4)) short) ∙ goes_on (within area (read_field 4 p s)) _ read)

      pub sized_read : n ≤ length s - (p + 4)
          → gives (record { handles = p; from = p + 4; to = p + 4 + n }) ≡ sized_area area t end s p
      unfolding sized_area
      sized_read enough =
          rw e (passes (leb n (length s - (p + 4))) _ _ (le-leb n (length s - (p + 4)) enough) ∙ goes_on (within area (read_field 4 p s)) _ read)

  -- a size that was read stands within the bytes
  pub size_there : {n : ℕ} → gives n ≡ within area (read_field 4 p s) → p + 4 ≤ length s
  size_there read = field_there_lem area 4 p s (omega arith) read

-- ---- commands

module _ (book : Rulebook) (s : List ℕ) where
  pub command_header : {p : ℕ} → gives p ≡ command_handles book s → (10 ≤ length s) × (10 ≤ p) × (p ≤ length s)
  unfolding command_handles read_cc
  command_header e =
      let code = then_gives (read_cc book s) _ (sym e) in
      let there = needs_gives (leb 10 (length s)) _ _ code.1 in
      let row = then_within Header (row_for book.rows code.0) _ code.2 in
      let ten = leb-true 10 (length s) there.0 in
      let fits = handles_fit row.0.handles s ten (sym row.2) in
      (ten, fits.0, fits.1)

  module _ {p : ℕ} (e : gives p ≡ command_handles book s) where
    pub areas_tag_refused : {n : ℕ} → n ≡ tag_of s → is_in n tags ≡ false → refuses (in_area Header (3 ∷ 0 ∷ n ∷ [])) ≡ command_areas book s
    unfolding command_areas
    areas_tag_refused {n} is unknown =
        rw is (fails (is_in (tag_of s) tags) _ (sized_area Authorization (eqb (tag_of s) sessions) p s p) (rw (← is) unknown))
        ∙ goes_on (command_handles book s) _ e

    pub areas_sized : {n : ℕ} → n ≡ tag_of s → is_in n tags ≡ true → sized_area Authorization (eqb n sessions) p s p ≡ command_areas book s
    unfolding command_areas
    areas_sized {n} is member =
        rw is (passes (is_in (tag_of s) tags) _ (sized_area Authorization (eqb (tag_of s) sessions) p s p) (rw (← is) member))
        ∙ goes_on (command_handles book s) _ e

  -- a tag of the two is known, so the areas go on from the handles
  pub judged_sized : {tag p : ℕ} → gives tag ≡ read_command_tag s → gives p ≡ command_handles book s
      → sized_area Authorization (eqb tag sessions) p s p ≡ judge_command book s
  unfolding judge_command
  judged_sized read handles =
      let of = command_tag_is s read in
      areas_sized handles of.0 (two_tags _ of.1) ∙ goes_on (read_command_tag s) _ read

  pub areas_fit : {a : Areas} → gives a ≡ command_areas book s
      → (10 ≤ length s) × (10 ≤ a.handles) × (a.handles ≤ a.from) × (a.from ≤ a.to) × (a.to ≤ length s)
  unfolding command_areas
  areas_fit e =
      let handles = then_gives (command_handles book s) _ (sym e) in
      let tag = needs_gives (is_in (tag_of s) tags) _ _ handles.2 in
      let at = command_header (sym handles.1) in
      let fits = sized_order Authorization (eqb (tag_of s) sessions) handles.0 handles.0 s (omega arith) at.2 tag.1 in
      (at.0, rw fits.0 at.1, rw fits.0 fits.1, fits.2, fits.3)

  pub cast_fits : {a : Areas} → gives a ≡ cast_command book s
      → (10 ≤ length s) × (10 ≤ a.handles) × (a.handles ≤ a.from) × (a.from ≤ a.to) × (a.to ≤ length s)
  unfolding cast_command judge_command
  cast_fits e =
      let size = then_gives (frame_whole s) _ (sym e) in
      let tag = then_gives (read_command_tag s) _ size.2 in
      areas_fit (sym tag.2)

-- ---- responses

module _ (book : Rulebook) (s : List ℕ) where
  pub response_header : {n : ℕ} → gives n ≡ cast_response book s → 10 ≤ length s
  unfolding cast_response
  response_header e = whole_fits s (sym (then_gives (frame_whole s) _ (sym e)).1)

  -- the tags that an error may stand under
  abbrev for_error : ℕ → Bool
  for_error tag = eqb tag plain || is_rsp_command book tag

  module _ {n : ℕ} (is : n ≡ tag_of s) where
    pub error_tag_lem : for_error n ≡ false → refuses (in_area Header (3 ∷ 0 ∷ n ∷ [])) ≡ error_areas book s
    unfolding error_areas
    error_tag_lem other = rw is (fails (for_error (tag_of s)) _ _ (rw (← is) other))

    pub error_long : for_error n ≡ true → 10 < length s → refuses (in_area Header (2 ∷ 10 ∷ (length s - 10) ∷ [])) ≡ error_areas book s
    unfolding error_areas
    error_long one long = fails (leb (length s) 10) _ _ (lt-leb (length s) 10 long) ∙ passes (for_error (tag_of s)) _ _ (rw (← is) one)

    pub error_read : for_error n ≡ true → length s ≤ 10 → gives (record { handles = 10; from = 10; to = 10 }) ≡ error_areas book s
    unfolding error_areas
    error_read one bare = passes (leb (length s) 10) _ _ (le-leb (length s) 10 bare) ∙ passes (for_error (tag_of s)) _ _ (rw (← is) one)

  module _ (cc : ℕ) where
    module _ {code : ℕ} (read : gives code ≡ cast_response book s) where
      pub areas_no_row : {why : Why} → refuses why ≡ row_for book.rows cc → refuses (in_area Header (4 ∷ 0 ∷ cc ∷ [])) ≡ response_areas book cc s
      unfolding response_areas
      areas_no_row e = stops (within Header (row_for book.rows cc)) _ (row_refused Header book.rows cc e) ∙ goes_on (cast_response book s) _ read

      module _ {row : Row} (e : gives row ≡ row_for book.rows cc) where
        pub areas_success : eqb code 0 ≡ true → success_areas row.responses s ≡ response_areas book cc s
        unfolding response_areas
        areas_success is =
            ap (λ (t : Bool). cond t (success_areas row.responses s) (error_areas book s)) (sym is)
            ∙ goes_on (within Header (row_for book.rows cc)) _ (ap (within Header) e) ∙ goes_on (cast_response book s) _ read

        pub areas_error : eqb code 0 ≡ false → error_areas book s ≡ response_areas book cc s
        unfolding response_areas
        areas_error is =
            ap (λ (t : Bool). cond t (success_areas row.responses s) (error_areas book s)) (sym is)
            ∙ goes_on (within Header (row_for book.rows cc)) _ (ap (within Header) e) ∙ goes_on (cast_response book s) _ read

    pub read_header : {a : Areas} → gives a ≡ response_areas book cc s → 10 ≤ length s
    unfolding response_areas
    read_header e = response_header (sym (then_gives (cast_response book s) _ (sym e)).1)

-- ---- the full check: areas and then a walk, of either kind

abbrev pub command_entries : ℕ → List ℕ → Areas → Said (List Session)
command_entries limit s a = walk limit 3 4 (take a.to s) a.from

abbrev pub response_entries : ℕ → List ℕ → Areas → Said (List Session)
response_entries limit s a = walk limit 3 0 s a.to

-- no rules have a limit above what a length can say, so what a walk passed by them it passes with none
pub longest_below : (by : Reading) → longest_of by ≤ unlimited
longest_below reading.Rust = omega arith
longest_below reading.Standard = omega arith

pub without_limit : (rules : Rules) (k width : ℕ) (s : List ℕ) (place : ℕ) → done (walk (book_of rules).longest k width s place) ≡ gives tt
    → walk unlimited k width s place ≡ walk (book_of rules).longest k width s place
without_limit rules k width s place = walk_same (book_of rules).longest unlimited k width s place (longest_below rules.reading)

module _ (areas : Said Areas) (entries : Areas → Said (List Session)) where
  abbrev pub divided : Said Division
  divided = then areas λ a. then (entries a) λ es. gives (record { areas = a; entries = es })

  pub areas_refused : {why : Why} → refuses why ≡ areas → refuses why ≡ divided
  areas_refused e = stops areas _ e

  module _ {a : Areas} (e : gives a ≡ areas) where
    pub walk_refused : {why : Why} → refuses why ≡ done (entries a) → refuses why ≡ divided
    walk_refused refused = stops (entries a) _ (done_refuses (entries a) refused) ∙ goes_on areas _ e

    pub walk_done : gives tt ≡ done (entries a) → gives a ≡ areas_of divided
    walk_done passed = ap areas_of (goes_on (entries a) _ (done_gives (entries a) passed).1 ∙ goes_on areas _ e)

    pub walk_read : {es : Entries} → gives es ≡ entries_by_value (entries a)
        → (ds : List Session) × (es ≡ by_value ds) × (gives (record { areas = a; entries = ds }) ≡ divided)
    walk_read read =
        let found = step_given by_value (entries a) read in
        (found.0, found.2, goes_on (entries a) _ found.1 ∙ goes_on areas _ e)

  -- of what was divided, the areas were found and the entries passed
  pub parts_of : {a : Areas} → gives a ≡ areas_of divided → (gives a ≡ areas) × (done (entries a) ≡ gives tt)
  parts_of {a} told =
      let d = step_given (λ (d : Division). d.areas) divided told in
      let found = then_gives areas _ (sym d.1) in
      let es = then_gives (entries found.0) _ found.2 in
      let is : a ≡ found.0 = d.2 ∙ ap (λ (d : Division). d.areas) (sym (gives_injective es.2)) in
      (ap gives is ∙ sym found.1, ap (λ (a : Areas). done (entries a)) is ∙ ap done es.1)

-- what is known where a read told its areas: they were found in bytes with a header, the entries pass with no limit too, and read so they are
-- those of the read
pub record Told (s : List ℕ) (areas : Said Areas) (entries : Said (List Session)) (read : Said Division) (a : Areas) : Type 0 where
  pub found : gives a ≡ areas
  pub header_there : 10 ≤ length s
  pub pass : done entries ≡ gives tt
  pub again : {es : Entries} → gives es ≡ entries_by_value entries
      → (ds : List Session) × (es ≡ by_value ds) × (gives (record { areas = a; entries = ds }) ≡ read)

-- of areas and then a walk with a limit, where another walk tells the same
told_of : (s : List ℕ) (areas : Said Areas) (limited entries : Areas → Said (List Session)) {a : Areas}
    → (gives a ≡ areas → 10 ≤ length s)
    → (done (limited a) ≡ gives tt → entries a ≡ limited a)
    → gives a ≡ areas_of (divided areas limited) → Told s areas (entries a) (divided areas limited) a
told_of s areas limited entries header same told =
    let parts = parts_of areas limited told in
    let alike = same parts.1 in
    record {
      found = parts.0;
      header_there = header parts.0;
      pass = ap done alike ∙ parts.1;
      again = λ read. walk_read areas limited parts.0 (read ∙ ap entries_by_value alike);
    }

module _ (rules : Rules) where
  abbrev pub CommandTold : List ℕ → Areas → Type 0
  CommandTold s a = Told s (cast_command (book_of rules) s) (command_entries unlimited s a) (read_command (book_of rules) s) a

  pub command_told : (s : List ℕ) {a : Areas} → gives a ≡ areas_of (read_command (book_of rules) s) → CommandTold s a
  unfolding read_command
  command_told s {a} =
      told_of s (cast_command (book_of rules) s) (command_entries (book_of rules).longest s) (command_entries unlimited s)
      (λ found. (cast_fits (book_of rules) s found).0) (without_limit rules 3 4 (take a.to s) a.from)

  abbrev pub ResponseTold : ℕ → List ℕ → Areas → Type 0
  ResponseTold cc s a = Told s (response_areas (book_of rules) cc s) (response_entries unlimited s a) (read_response (book_of rules) cc s) a

  pub response_told : (cc : ℕ) (s : List ℕ) {a : Areas} → gives a ≡ areas_of (read_response (book_of rules) cc s) → ResponseTold cc s a
  unfolding read_response
  response_told cc s {a} =
      told_of s (response_areas (book_of rules) cc s) (response_entries (book_of rules).longest s) (response_entries unlimited s)
      (read_header (book_of rules) s cc) (without_limit rules 3 0 s a.to)

-- areas and entries of what was divided; and another walk that tells the same entries divides it the same
module _ (areas : Said Areas) (entries : Areas → Said (List Session)) {d : Division} (e : divided areas entries ≡ gives d) where
  pub both_told : (areas ≡ gives d.areas) × (entries d.areas ≡ gives d.entries)
  both_told =
      let found = then_gives areas _ e in
      let es = then_gives (entries found.0) _ found.2 in
      subst (λ (d : Division). (areas ≡ gives d.areas) × (entries d.areas ≡ gives d.entries)) (gives_injective es.2) (found.1, es.1)

  pub walked_by : (other : Areas → Said (List Session)) → other d.areas ≡ gives d.entries → divided areas other ≡ gives d
  walked_by other walked = rw (both_told.0, walked) refl

-- a read by what is told of its areas
module _ (read : Said Division) where
  pub not_divided : {why : Why} → refuses why ≡ areas_of read → refuses why ≡ read
  not_divided e = step_refused (λ (d : Division). d.areas) read e

  pub was_divided : {a : Areas} → gives a ≡ areas_of read → gives tt ≡ done read
  was_divided e = ap done (step_given (λ (d : Division). d.areas) read e).1

-- what is given back by value of a division that was read
pub by_value_lem : {B : Type 0} (of : ℕ → ℕ → ℕ → Areas → Entries → B) (s : List ℕ) (read : Said Division) {a : Areas} {ds : List Session}
    → gives (record { areas = a; entries = ds }) ≡ read → {tag code : ℕ} {es : Entries} → tag ≡ tag_of s → code ≡ code_of s → es ≡ by_value ds
    → gives (of tag code (length s) a es) ≡ then read (λ d. gives (frame_of of s d))
by_value_lem of s read {a} e tag_is code_is es-are = (λ i. gives (of (tag_is i) (code_is i) (length s) a (es-are i))) ∙ goes_on read _ e

-- what is said of sessions of a division that was read; and the division that it was said of
pub signed_read : (s : List ℕ) (read : Said Division) {a : Areas} {ds : List Session} → gives (record { areas = a; entries = ds }) ≡ read
    → {code : ℕ} {es : Entries} → code ≡ code_of s → es ≡ by_value ds → gives (record { code = code; entries = es }) ≡ signed s read
signed_read s read e code_is es-are = (λ i. gives (record { code = code_is i; entries = es-are i })) ∙ goes_on read _ e

pub signed_of : (s : List ℕ) (read : Said Division) {x : Signed} → signed s read ≡ gives x
    → (d : Division) × (read ≡ gives d) × (x ≡ record { code = code_of s; entries = by_value d.entries })
signed_of s read e =
    let found = then_gives read _ e in
    (found.0, found.1, sym (gives_injective found.2))

-- as many entries as are counted are all of at most three
pub entries_of_lem : (es : List Session) → length es ≤ 3 → entries_of (by_value es) ≡ es
entries_of_lem [] few = refl
entries_of_lem (a ∷ []) few = refl
entries_of_lem (a ∷ b ∷ []) few = refl
entries_of_lem (a ∷ b ∷ c ∷ []) few = refl
entries_of_lem (a ∷ b ∷ c ∷ d ∷ es) few = absurd (omega arith)
