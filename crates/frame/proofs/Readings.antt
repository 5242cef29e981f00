-- What tells the two readings apart (document 02, W5 and W6), at any table. A command, and a response that does not stand under the tag of
-- the answer to a bad tag, passes in the standard reading exactly where it passes in the Rust's and no nonce or HMAC is longer than 64 bytes;
-- its answers are those of the Rust's, refusals included, or it refuses a field that is longer; the Rust's has no limit. Passing in the standard reading alone is
-- exactly the answer to a bad tag.
-- Assumes nothing.
use mathlib.Core.Path.{◌≡◌, refl, sym, ◌∙◌, ap, subst}
use mathlib.Core.Bool.{Bool, true, false, false≢true, or-false}
use mathlib.Core.List.{List, [], ◌∷◌}
use mathlib.Core.Logic.{◌⊎◌, inl, inr, ◌↔◌}
use Prim.Native.Nat.{ℕ, ◌≤◌}
use native.Mathlib.Omega.{arith}
use borrow.Author.Tests.{eqb-true}
use lib.Dec.{eqb}
use lib.ListN.{take}
use Rattle.base.specs.Bytes.{AreBytes, number, bytes}
use Rattle.base.specs.Said.{Why, number_of, Said, gives, refuses, other_than}
use Rattle.base.proofs.Bytes.{are_bytes_take}
use Rattle.base.proofs.Checks.{refuses_injective}
use Rattle.table.specs.Table.{row_for}
use Rattle.table.specs.declared.row.Row.{Row}
use Rattle.frame.specs.declared.areas.Areas.{Areas}
use Rattle.frame.specs.declared.rules.Reading.TheVariants as reading
use Rattle.frame.specs.declared.session.Session.{Session}
use Rattle.frame.specs.Command.{Division, command_handles, command_areas, judge_command, cast_command, read_command}
use Rattle.frame.specs.Header.{tag_of, plain, sessions, rsp_command, bad_tag, is_of_two, read_cc, read_rc, read_response_tag}
use Rattle.frame.specs.Layout.{Frame, PlainError, BadTagAnswer, ErrorParts, SuccessParts, ResponseParts, layout_response}
use Rattle.frame.specs.Parts.{NoLonger, EachField}
use Rattle.frame.specs.Response.{judge_response, cast_response, error_areas, response_areas, read_response}
use Rattle.frame.specs.Rules.{Rulebook, unlimited, book_at}
use Rattle.frame.specs.Walk.{walk}
use Rattle.frame.proofs.Divisions.{divided, both_told, walked_by}
use Rattle.frame.proofs.FrameLaws.{of_two}
use Rattle.frame.proofs.Limits.{TooLong, Alike, then_alike, both_alike, walk_alike, both_same, walk_unlimited}
use Rattle.frame.proofs.ResponseLaws.{response_sound, response_complete, passes_admitted}
use Rattle.frame.proofs.WalkLaws.{each_field, walk_inside, walk_by, walk_looser}

-- the answer to a bad tag, byte by byte
abbrev pub bad_tag_bytes : List ℕ
bad_tag_bytes = 0 ∷ 0xc4 ∷ 0 ∷ 0 ∷ 0 ∷ 0x0a ∷ 0 ∷ 0 ∷ 0 ∷ 0x1e ∷ []

-- ---- areas that both readings find alike, and then a walk: it passes with the limit exactly where it passes without one and no field is
-- longer

abbrev Short : Division → Type 0
Short d = EachField (NoLonger 64) d.entries

module _ (areas : Said Areas) (k width : ℕ) (over : Areas → List ℕ) (from : Areas → ℕ) where
  abbrev entries : ℕ → Areas → Said (List Session)
  entries limit a = walk limit k width (over a) (from a)

  abbrev read : ℕ → Said Division
  read limit = divided areas (entries limit)

  passes_short : (d : Division) → (read 64 ≡ gives d) ↔ ((read unlimited ≡ gives d) × Short d)
  passes_short d = (
    (λ e.
        let told = (both_told areas (entries 64) e).1 in
        let kept = walk_inside 64 k width (over d.areas) (from d.areas) told in
        let looser = walk_looser 64 unlimited k width (over d.areas) (from d.areas) (omega arith) told in
        (walked_by areas (entries 64) e (entries unlimited) looser, each_field (λ f k. k.0) d.entries kept)),
    (λ r.
        let told = (both_told areas (entries unlimited) r.0).1 in
        let tighter = walk_by unlimited 64 k width (over d.areas) (from d.areas) told r.1 in
        walked_by areas (entries unlimited) r.0 (entries 64) tighter),
  )

  answers_alike : Alike 64 unlimited (omega arith) (read 64) (read unlimited)
  answers_alike =
      then_alike 64 unlimited (omega arith) areas _ _ λ a.
      both_alike 64 unlimited (omega arith) (entries 64 a) (entries unlimited a) _ _
      (walk_alike 64 unlimited (omega arith) k width (over a) (from a)) λ es. inl refl

-- ---- the two readings

-- of answers that are alike, a refusal by another number than 8 is the same
refused_alike : {A : Type 0} {x y : Said A} {why : Why} → (x ≡ y) ⊎ TooLong 64 x → other_than 8 why → x ≡ refuses why → y ≡ refuses why
refused_alike (inl same) other e = sym same ∙ e
refused_alike (inr long) other e = absurd (false≢true (sym other ∙ ap (λ (w : Why). eqb (number_of w) 8) (refuses_injective (sym e ∙ long.3))))

module _ (rows : List Row) (known : List ℕ) where
  abbrev rust : Rulebook
  rust = book_at rows known reading.Rust

  abbrev standard : Rulebook
  standard = book_at rows known reading.Standard

  module _ (s : List ℕ) where
    pub command_passes : (d : Division) → (read_command standard s ≡ gives d) ↔ ((read_command rust s ≡ gives d) × Short d)
    unfolding read_command cast_command judge_command command_areas command_handles read_cc
    command_passes = passes_short (cast_command standard s) 3 4 (λ a. take a.to s) (λ a. a.from)

    pub commands_alike : (read_command standard s ≡ read_command rust s) ⊎ TooLong 64 (read_command standard s)
    unfolding read_command cast_command judge_command command_areas command_handles read_cc
    commands_alike = answers_alike (cast_command standard s) 3 4 (λ a. take a.to s) (λ a. a.from)

    -- what is refused there by another number than 8 is refused so in the Rust's
    pub command_refused : {why : Why} → other_than 8 why → read_command standard s ≡ refuses why → read_command rust s ≡ refuses why
    command_refused = refused_alike commands_alike

  -- in the Rust's reading 65,535 is no limit: by the same rules with any larger one bytes get the same answer
  module _ (other : ℕ) (larger : unlimited ≤ other) (s : List ℕ) (p : AreBytes s) where
    abbrev with_other : Rulebook
    with_other = record { rows = rows; known = known; answers_bad_tag = false; longest = other }

    pub commands_unlimited : read_command rust s ≡ read_command with_other s
    unfolding read_command cast_command judge_command command_areas command_handles read_cc
    commands_unlimited =
        both_same (cast_command rust s) (cast_command rust s) _ _ refl λ a.
        both_same (walk unlimited 3 4 (take a.to s) a.from) (walk other 3 4 (take a.to s) a.from) _ _
        (walk_unlimited other larger (take a.to s) (are_bytes_take a.to s p) 3 4 a.from) λ es. refl

    pub responses_unlimited : (cc : ℕ) → read_response rust cc s ≡ read_response with_other cc s
    unfolding read_response response_areas cast_response judge_response read_response_tag read_rc error_areas
    responses_unlimited cc =
        both_same (response_areas rust cc s) (response_areas rust cc s) _ _ refl λ a.
        both_same (walk unlimited 3 0 s a.to) (walk other 3 0 s a.to) _ _ (walk_unlimited other larger s p 3 0 a.to) λ es. refl

  module _ (cc : ℕ) where
    -- whether a response passes
    abbrev Passes : Rulebook → List ℕ → Type 0
    Passes book s = (d : Division) × (read_response book cc s ≡ gives d)

    module _ (s : List ℕ) (other : eqb (tag_of s) rsp_command ≡ false) where
      areas_alike : response_areas standard cc s ≡ response_areas rust cc s
      unfolding response_areas cast_response judge_response read_response_tag read_rc error_areas
      areas_alike = rw other refl

      pub response_passes : (d : Division) → (read_response standard cc s ≡ gives d) ↔ ((read_response rust cc s ≡ gives d) × Short d)
      unfolding read_response
      response_passes = rw areas_alike (passes_short (response_areas rust cc s) 3 0 (λ a. s) (λ a. a.to))

      pub responses_alike : (read_response standard cc s ≡ read_response rust cc s) ⊎ TooLong 64 (read_response standard cc s)
      unfolding read_response
      responses_alike = rw areas_alike (answers_alike (response_areas rust cc s) 3 0 (λ a. s) (λ a. a.to))

      pub response_refused : {why : Why} → other_than 8 why → read_response standard cc s ≡ refuses why → read_response rust cc s ≡ refuses why
      response_refused = refused_alike responses_alike

    -- what passes in the Rust reading stands under no other tag
    two_others : (s : List ℕ) (d : Division) → read_response rust cc s ≡ gives d → eqb (tag_of s) rsp_command ≡ false
    two_others s d e =
        of_two (λ (tag : ℕ). eqb tag rsp_command ≡ false) refl refl (tag_of s)
        (sym (or-false (is_of_two (tag_of s))) ∙ passes_admitted rust cc s d e)

    pub still_passes : (s : List ℕ) (d : Division) → read_response rust cc s ≡ gives d → Short d → read_response standard cc s ≡ gives d
    still_passes s d e short = (response_passes s (two_others s d e) d).1 (e, short)

    -- ---- the answer to a bad tag

    -- it is laid out so
    bad_tag_laid : (f : Frame) → ErrorParts standard f → BadTagAnswer standard f → layout_response f ≡ bad_tag_bytes
    unfolding layout_response bytes
    bad_tag_laid f e b = rw (b.1, b.2, e.no_handles, e.no_entries, e.no_parameters) refl

    -- and nothing else that is well formed stands under its tag
    under_that_tag : (f : Frame) → ResponseParts standard cc f → f.tag ≡ rsp_command → layout_response f ≡ bad_tag_bytes
    under_that_tag f w under = by w.either_kind
      where
        by_error : (e : ErrorParts standard f) → PlainError f ⊎ BadTagAnswer standard f → layout_response f ≡ bad_tag_bytes
        by_error e (inl plainly) = let tag = plainly.0 in absurd (omega arith)
        by_error e (inr answer) = bad_tag_laid f e answer

        by_tag : (f.tag ≡ plain) ⊎ (f.tag ≡ sessions) → layout_response f ≡ bad_tag_bytes
        by_tag (inl tag) = absurd (omega arith)
        by_tag (inr tag) = absurd (omega arith)

        by : SuccessParts standard w.row.responses f ⊎ ErrorParts standard f → layout_response f ≡ bad_tag_bytes
        by (inl success) = by_tag success.well_formed.tag_of_two
        by (inr error) = by_error error error.either_error

    -- the Rust reading turns it away
    not_in_rust : Passes rust bad_tag_bytes → ⊥
    unfolding tag_of number
    not_in_rust r = false≢true (passes_admitted rust cc bad_tag_bytes r.0 r.1)

    in_standard : {row : Row} → row_for rows cc ≡ gives row → Passes standard bad_tag_bytes
    in_standard {row} found =
        let f : Frame = record { tag = rsp_command; code = bad_tag; handles = []; entries = []; parameters = [] } in
        let error : ErrorParts standard f =
        record { either_error = inr (refl, refl, refl); code_fits = omega arith; no_handles = refl; no_entries = refl; no_parameters = refl } in
        let read = response_complete standard cc f (record { row = row; has_row = found; either_kind = inr error }) in
        (read.0, ap (read_response standard cc) (sym (bad_tag_laid f error (refl, refl, refl))) ∙ read.1)

    pub told_apart : (s : List ℕ) → AreBytes s
        → (Passes standard s × (Passes rust s → ⊥)) ↔ ((row : Row) × (row_for rows cc ≡ gives row) × (s ≡ bad_tag_bytes))
    told_apart s p = (
      (λ r. by (eqb (tag_of s) rsp_command) refl r.0 r.1),
      (λ r.
          let is : bad_tag_bytes ≡ s = sym r.2 in
          (subst (Passes standard) is (in_standard r.1), λ passed. not_in_rust (subst (Passes rust) r.2 passed))),
    )
      where
        by : (b : Bool) → eqb (tag_of s) rsp_command ≡ b → Passes standard s → (Passes rust s → ⊥)
            → (row : Row) × (row_for rows cc ≡ gives row) × (s ≡ bad_tag_bytes)
        by true tag r refused =
            let sound = response_sound standard cc s p r.0 r.1 in
            (sound.0.row, sound.0.has_row, sym sound.1 ∙ under_that_tag _ sound.0 (eqb-true (tag_of s) rsp_command tag))
        by false tag r refused = absurd (refused (r.0, ((response_passes s tag r.0).0 r.1).0))
