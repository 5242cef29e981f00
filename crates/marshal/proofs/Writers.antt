-- The cases of the two writers, each from the tests that lead to it, and what was judged of a frame that is written.
-- Assumes nothing.
use mathlib.Core.Path.{◌≡◌, refl, sym, ◌∙◌, ap, subst}
use mathlib.Core.Bool.{Bool, beq, true, false, ◌&&◌, ◌||◌, cond, false≢true, or-true, or-false}
use mathlib.Core.List.{List, [], ◌∷◌, ◌++◌}
use mathlib.Core.Logic.{◌⊎◌, inl, inr}
use Prim.Native.Nat.{ℕ, ◌*◌, ◌≤◌, ◌<◌}
use native.Mathlib.Omega.{arith}
use borrow.Author.Tests.{le-leb, lt-leb, leb-true, eqb-true, eqb-false, eq-eqb, ne_eqb, le-ltb, lt-ltb}
use lib.Dec.{eqb, leb, ltb}
use lib.ListN.{length, take, drop}
use lib.Seq.{take_at}
use Rattle.base.specs.Said.{Why, no_area, Said, gives, refuses, needs, then, given}
use Rattle.base.proofs.Checks.{passes, fails, goes_on, stops, needs_gives, then_gives, cond_gives, gives_injective, gives≢refuses}
use Rattle.rc.specs.Code.{read_code, read_fmt0}
use Rattle.rc.specs.Known.{is_known, known_codes}
use Rattle.rc.proofs.Laws.{only_five}
use Rattle.table.specs.Table.{row_for}
use Rattle.table.specs.declared.row.Row.{Row}
use Rattle.frame.specs.Header.{plain, sessions, rsp_command, bad_tag, is_of_two}
use Rattle.frame.specs.Layout.{layout_command, layout_response}
use Rattle.frame.proofs.FrameLaws.{of_the_two, length_frame}
use Rattle.frame.specs.Parts.{entries_of}
use Rattle.frame.specs.Rules.{Rulebook, unlimited}
use Rattle.marshal.specs.Handed.{Handed, tag_for, command_frame, success_frame, error_frame}
use Rattle.marshal.specs.Write.{sessions_there, total_size, fitted, judged, write_command, write_success, write_bare, write_error, write_bad_tag, write_response, counted, room_after, Ready}
use Rattle.base.specs.Field.{laid}
use Rattle.marshal.proofs.Lengths.{there_looser}
use Rattle.marshal.proofs.Frames.{length_command, length_success}
use Rattle.marshal.proofs.Rooms.{laid_start}

-- ---- the tag that goes with the sessions

module _ (tag count : ℕ) where
  agrees : (b : Bool) → eqb count 0 ≡ b → (tag ≡ plain) ⊎ (tag ≡ sessions)
      → ((tag ≡ cond b plain sessions) × (beq (eqb tag sessions) (ltb 0 count) ≡ true))
      ⊎ ((tag ≡ cond b plain sessions → ⊥) × (beq (eqb tag sessions) (ltb 0 count) ≡ false))
  agrees true e (inl p) = let none = eqb-true count 0 e in inl (p, rw (p, le-ltb 0 count (omega arith)))
  agrees true e (inr p) = let none = eqb-true count 0 e in inr ((λ q. omega arith), rw (p, le-ltb 0 count (omega arith)))
  agrees false e (inl p) = let some = eqb-false count 0 e in inr ((λ q. omega arith), rw (p, lt-ltb 0 count (omega arith)))
  agrees false e (inr p) = let some = eqb-false count 0 e in inl (p, rw (p, lt-ltb 0 count (omega arith)))

  -- a tag of the two is the one that goes with the sessions exactly where it agrees with them
  tag_differs : (tag ≡ tag_for count → ⊥) → is_of_two tag ≡ true → beq (eqb tag sessions) (ltb 0 count) ≡ false
  tag_differs other two = elim (agrees (eqb count 0) refl (of_the_two tag two)) [ inl same ↦ absurd (other same.0) | inr differs ↦ differs.1 ]

  pub tag_same : is_of_two tag ≡ true → beq (eqb tag sessions) (ltb 0 count) ≡ true → tag ≡ tag_for count
  tag_same two agree = elim (agrees (eqb count 0) refl (of_the_two tag two)) [
    | inl same ↦ same.0
    | inr differs ↦ absurd (false≢true (sym differs.1 ∙ agree))
  ]

  pub tag_two : tag ≡ tag_for count → is_of_two tag ≡ true
  tag_two e = rw e (by (eqb count 0))
    where
      by : (b : Bool) → is_of_two (cond b plain sessions) ≡ true
      by true = refl
      by false = refl

  tag_agrees : tag ≡ tag_for count → beq (eqb tag sessions) (ltb 0 count) ≡ true
  tag_agrees e = elim (agrees (eqb count 0) refl (of_the_two tag (tag_two e))) [ inl same ↦ same.1 | inr differs ↦ absurd (differs.0 e) ]

-- ---- what was judged behind the handles

module _ (limit width tag handles : ℕ) (h : Handed) (room : ℕ) where
  pub record Fits (total : ℕ) : Type 0 where
    pub handle_count : length h.handles ≡ 4 * handles
    pub there : sessions_there limit (length h.lent) (entries_of h.sessions) ≡ gives tt
    pub total_is : total ≡ total_size width tag h
    pub small : total ≤ 4294967295
    pub room_for : total ≤ room

  pub judged_fits : {total : ℕ} → judged limit width tag handles h room ≡ gives total → Fits total
  unfolding judged
  judged_fits e =
      let few = needs_gives (leb (4 * handles) (length h.handles)) _ _ e in
      let many = needs_gives (leb (length h.handles) (4 * handles)) _ _ few.1 in
      let there = then_gives (sessions_there limit (length h.lent) (entries_of h.sessions)) _ many.1 in
      let small = needs_gives (leb (total_size width tag h) 4294967295) _ _ there.2 in
      let room_for = needs_gives (leb (total_size width tag h) room) _ _ small.1 in
      let is = gives_injective room_for.1 in
      let low = leb-true (4 * handles) (length h.handles) few.0 in
      let high = leb-true (length h.handles) (4 * handles) many.0 in
      record {
        handle_count = omega arith;
        there = there.1;
        total_is = sym is;
        small = rw (← is) (leb-true (total_size width tag h) 4294967295 small.0);
        room_for = rw (← is) (leb-true (total_size width tag h) room room_for.0);
      }

  pub fits_judged : {total : ℕ} → Fits total → judged limit width tag handles h room ≡ gives total
  unfolding judged
  fits_judged f =
      let count = f.handle_count in
      let small : total_size width tag h ≤ 4294967295 = rw (← f.total_is) f.small in
      let room_for : total_size width tag h ≤ room = rw (← f.total_is) f.room_for in
      rw (le-leb (4 * handles) (length h.handles) (omega arith), le-leb (length h.handles) (4 * handles) (omega arith), f.there)
      (rw (le-leb (total_size width tag h) 4294967295 small, le-leb (total_size width tag h) room room_for) (ap gives (sym f.total_is)))

-- the bytes of what was judged are as many as the total
judged_counted : (j : Said ℕ) (t : List ℕ) → ((total : ℕ) → j ≡ gives total → length t ≡ total) → j ≡ counted (then j λ total. gives t)
judged_counted (gives total) t e = ap gives (sym (e total refl))
judged_counted (refuses why) t e = refl

-- two checks with one refusal
either_fails : {A : Type 0} (a b : Bool) (why : Why) (rest : Said A) → (a ≡ true → b ≡ false) → refuses why ≡ needs a why (needs b why rest)
either_fails true b why rest f = fails b why rest (f refl)
either_fails false b why rest f = refl

-- ---- what the room is later

pub room_refused : (room : List ℕ) (said : Said (List ℕ)) {why : Why} → refuses why ≡ counted said → room ≡ room_after room said
room_refused room (gives t) e = absurd (gives≢refuses (sym e))
room_refused room (refuses why) e = refl

pub room_written : (room : List ℕ) {said : Said (List ℕ)} {t later : List ℕ} → said ≡ gives t → later ≡ laid 0 t room → later ≡ room_after room said
room_written room {said} {t} e p = p ∙ laid_start t room ∙ ap (room_after room) (sym e)

counted_gives : (said : Said (List ℕ)) {total : ℕ} → gives total ≡ counted said → (t : List ℕ) × (said ≡ gives t) × (length t ≡ total)
counted_gives (gives t) e = (t, refl, sym (gives_injective e))
counted_gives (refuses why) e = absurd (gives≢refuses e)

-- what was given is answered by its length, stands at the start of the room, and what is behind it stays
pub room_is : (room : List ℕ) {said : Said (List ℕ)} {t : List ℕ} → said ≡ gives t
    → (counted said ≡ gives (length t)) × (room_after room said ≡ t ++ drop (length t) room)
room_is room e = (ap counted e, ap (room_after room) e)

pub room_start : (room : List ℕ) (said : Said (List ℕ)) {n : ℕ} → counted said ≡ gives n
    → (t : List ℕ) × (said ≡ gives t) × (take n (room_after room said) ≡ t)
room_start room said e =
    let given = counted_gives said (sym e) in
    (given.0, given.1, rw (room_is room given.1).1 (take_at given.0 (drop (length given.0) room) _ given.2))

-- ---- commands

module _ (book : Rulebook) (tag code : ℕ) (h : Handed) (room : ℕ) where
  pub wrong_tag : (tag ≡ tag_for h.sessions.count → ⊥) → refuses (no_area (3 ∷ 0 ∷ tag ∷ [])) ≡ write_command book tag code h room
  unfolding write_command
  wrong_tag other =
      either_fails (is_of_two tag) (beq (eqb tag sessions) (ltb 0 h.sessions.count)) _ _ (tag_differs tag h.sessions.count other)

  module _ (right : tag ≡ tag_for h.sessions.count) where
    abbrev behind_tag : Said (List ℕ)
    behind_tag =
        needs (leb h.sessions.count 3) (no_area (6 ∷ 0 ∷ 3 ∷ h.sessions.count ∷ []))
        (then (row_for book.rows code) λ row.
        then (judged book.longest 4 tag row.handles h room) λ total.
        gives (layout_command (command_frame tag code h)))

    tag_passes : behind_tag ≡ write_command book tag code h room
    unfolding write_command
    tag_passes =
        passes (beq (eqb tag sessions) (ltb 0 h.sessions.count)) _ behind_tag (tag_agrees tag h.sessions.count right)
        ∙ passes (is_of_two tag) _ _ (tag_two tag h.sessions.count right)

    pub many_sessions : 3 < h.sessions.count → refuses (no_area (6 ∷ 0 ∷ 3 ∷ h.sessions.count ∷ [])) ≡ write_command book tag code h room
    many_sessions many = fails (leb h.sessions.count 3) _ _ (lt-leb h.sessions.count 3 many) ∙ tag_passes

    module _ (few : h.sessions.count ≤ 3) where
      few_passes : (then (row_for book.rows code) λ row. then (judged book.longest 4 tag row.handles h room) λ total. gives (layout_command (command_frame tag code h)))
          ≡ write_command book tag code h room
      few_passes = passes (leb h.sessions.count 3) _ _ (le-leb h.sessions.count 3 few) ∙ tag_passes

      pub no_row : {why : Why} → refuses why ≡ row_for book.rows code → refuses why ≡ write_command book tag code h room
      no_row e = stops (row_for book.rows code) _ e ∙ few_passes

      pub row_found : {row : Row} → gives row ≡ row_for book.rows code
          → (then (judged book.longest 4 tag row.handles h room) λ total. gives (layout_command (command_frame tag code h))) ≡ write_command book tag code h room
      row_found e = goes_on (row_for book.rows code) _ e ∙ few_passes

      pub command_judged : {row : Row} → gives row ≡ row_for book.rows code → judged book.longest 4 tag row.handles h room ≡ counted (write_command book tag code h room)
      command_judged {row} e =
          judged_counted (judged book.longest 4 tag row.handles h room) (layout_command (command_frame tag code h))
          (λ total j. let f = judged_fits book.longest 4 tag row.handles h room j in length_command book.longest h f.there tag code ∙ sym f.total_is)
          ∙ ap counted (row_found e)

  -- what a command that is written has passed
  pub record CommandPassed (t : List ℕ) : Type 0 where
    pub tag_is : tag ≡ tag_for h.sessions.count
    pub few : h.sessions.count ≤ 3
    pub row : Row
    pub has_row : row_for book.rows code ≡ gives row
    pub fits : Fits book.longest 4 tag row.handles h room (length t)
    pub layout_is : t ≡ layout_command (command_frame tag code h)

  pub command_passed : {t : List ℕ} → write_command book tag code h room ≡ gives t → CommandPassed t
  unfolding write_command
  command_passed {t} e =
      let two = needs_gives (is_of_two tag) _ _ e in
      let agree = needs_gives (beq (eqb tag sessions) (ltb 0 h.sessions.count)) _ _ two.1 in
      let few = needs_gives (leb h.sessions.count 3) _ _ agree.1 in
      let found = then_gives (row_for book.rows code) _ few.1 in
      let judged-is = then_gives (judged book.longest 4 tag found.0.handles h room) _ found.2 in
      let fits = judged_fits book.longest 4 tag found.0.handles h room judged-is.1 in
      let is : t ≡ layout_command (command_frame tag code h) = sym (gives_injective judged-is.2) in
      let long : judged-is.0 ≡ length t = fits.total_is ∙ sym (length_command book.longest h fits.there tag code) ∙ ap length (sym is) in
      record {
        tag_is = tag_same tag h.sessions.count two.0 agree.0;
        few = leb-true h.sessions.count 3 few.0;
        row = found.0;
        has_row = found.1;
        fits = subst (Fits book.longest 4 tag found.0.handles h room) long fits;
        layout_is = is;
      }

  pub passed_command : {t : List ℕ} → CommandPassed t → write_command book tag code h room ≡ gives t
  passed_command p =
      sym (row_found p.tag_is p.few (sym p.has_row))
      ∙ sym (goes_on (judged book.longest 4 tag p.row.handles h room) _ (sym (fits_judged book.longest 4 tag p.row.handles h room p.fits)))
      ∙ ap gives (sym p.layout_is)

  pub command_ready : book.longest ≤ unlimited → {total : ℕ} → gives total ≡ counted (write_command book tag code h room)
      → Ready 4 tag h total room × (write_command book tag code h room ≡ gives (layout_command (command_frame tag code h)))
  command_ready below {total} e =
      let given = counted_gives (write_command book tag code h room) e in
      let p = command_passed given.1 in
      let f : Fits book.longest 4 tag p.row.handles h room total = subst (Fits book.longest 4 tag p.row.handles h room) given.2 p.fits in (
        record { tag_is = p.tag_is; there = there_looser book.longest unlimited _ _ below f.there; total_is = f.total_is; small = f.small; room_for = f.room_for },
        given.1 ∙ ap gives p.layout_is,
      )

-- ---- responses

success_reads : given (read_code 0) ≡ true
unfolding read_code read_fmt0 is_known known_codes
success_reads = refl

counted_needs : (t : Bool) (why : Why) (said : Said (List ℕ)) → needs t why (counted said) ≡ counted (needs t why said)
counted_needs true why said = refl
counted_needs false why said = refl

fitted_is : (total room : ℕ) {n : ℕ} → fitted total room ≡ gives n → (n ≡ total) × (total ≤ room)
fitted_is total room e = let fits = needs_gives (leb total room) _ _ e in (sym (gives_injective fits.1), leb-true total room fits.0)

-- ---- a bare header, with the tag of the answer to a bad tag asked for or not

pub length_error : (asked : Bool) (code : ℕ) → length (layout_response (error_frame asked code)) ≡ 10
unfolding layout_response
length_error true code = length_frame rsp_command code []
length_error false code = length_frame plain code []

module _ (asked : Bool) (code room : ℕ) where
  bare_fits : fitted 10 room ≡ counted (write_bare asked code room)
  bare_fits = judged_counted (fitted 10 room) (layout_response (error_frame asked code)) (λ total j. length_error asked code ∙ sym (fitted_is 10 room j).0)

  bare_passed : {t : List ℕ} → write_bare asked code room ≡ gives t → (t ≡ layout_response (error_frame asked code)) × (10 ≤ room)
  bare_passed e = let fits = then_gives (fitted 10 room) _ e in (sym (gives_injective fits.2), (fitted_is 10 room fits.1).1)

  passed_bare : 10 ≤ room → write_bare asked code room ≡ gives (layout_response (error_frame asked code))
  passed_bare fits = rw (le-leb 10 room fits) refl

module _ (code count room : ℕ) where
  pub error_fits : count ≡ 0 → fitted 10 room ≡ counted (write_error code count room)
  unfolding write_error
  error_fits none = bare_fits false code room ∙ ap counted (passes (eqb count 0) _ _ (eq-eqb count 0 none))

  pub error_sessions : (count ≡ 0 → ⊥) → refuses (no_area (3 ∷ 0 ∷ sessions ∷ [])) ≡ counted (write_error code count room)
  unfolding write_error
  error_sessions some = ap counted (fails (eqb count 0) _ _ (ne_eqb count 0 some))

  -- with that tag asked for
  bad_tag_alone : code ≡ bad_tag → count ≡ 0 → write_bare true code room ≡ write_bad_tag code count room
  unfolding write_bad_tag
  bad_tag_alone is none =
      passes (eqb code bad_tag) _ _ (eq-eqb code bad_tag is)
      ∙ passes (eqb code 0 || eqb count 0) _ _ (rw (ne_eqb code 0 (λ zero. omega arith), eq-eqb count 0 none) refl)

  pub bad_tag_fits : code ≡ bad_tag → count ≡ 0 → fitted 10 room ≡ counted (write_bad_tag code count room)
  bad_tag_fits is none = bare_fits true code room ∙ ap counted (bad_tag_alone is none)

  pub bad_tag_sessions : (code ≡ 0 → ⊥) → (count ≡ 0 → ⊥) → refuses (no_area (3 ∷ 0 ∷ sessions ∷ [])) ≡ counted (write_bad_tag code count room)
  unfolding write_bad_tag
  bad_tag_sessions other some = ap counted (fails (eqb code 0 || eqb count 0) _ _ (rw (ne_eqb code 0 other, ne_eqb count 0 some) refl))

  pub bad_tag_other : (eqb code 0 || eqb count 0) ≡ true → (code ≡ bad_tag → ⊥) → refuses (no_area (5 ∷ 0 ∷ code ∷ [])) ≡ counted (write_bad_tag code count room)
  unfolding write_bad_tag
  bad_tag_other alone other =
      ap counted (fails (eqb code bad_tag) _ _ (ne_eqb code bad_tag other) ∙ passes (eqb code 0 || eqb count 0) _ _ alone)

-- a code reads where that tag is asked for, if it is known or is that answer's
module _ (code : ℕ) where
  pub reads_asked : code ≡ bad_tag → (given (read_code code) || eqb code bad_tag) ≡ true
  reads_asked is = rw (eq-eqb code bad_tag is) (or-true (given (read_code code)))

  pub reads_known : given (read_code code) ≡ true → (given (read_code code) || eqb code bad_tag) ≡ true
  reads_known known = ap (λ (b : Bool). b || eqb code bad_tag) known

  pub reads_success : code ≡ 0 → (given (read_code code) || eqb code bad_tag) ≡ true
  reads_success zero = reads_known (ap (λ (n : ℕ). given (read_code n)) zero ∙ success_reads)

  -- a code that is not read is refused by 5 alone
  pub not_read : {A : Type 0} {why : Why} (rest : Said A) → refuses why ≡ read_code code → refuses why ≡ needs (given (read_code code)) (no_area (5 ∷ 0 ∷ code ∷ [])) rest
  not_read rest e = ap refuses ((only_five code).each _ (sym e)) ∙ fails (given (read_code code)) _ rest (ap given (sym e))

  pub other_not_read : {A : Type 0} {why : Why} (rest : Said A) → (code ≡ bad_tag → ⊥) → refuses why ≡ read_code code
      → refuses why ≡ needs (given (read_code code) || eqb code bad_tag) (no_area (5 ∷ 0 ∷ code ∷ [])) rest
  other_not_read rest other e =
      ap refuses ((only_five code).each _ (sym e)) ∙ fails (given (read_code code) || eqb code bad_tag) _ rest (rw (ne_eqb code bad_tag other, ← e) refl)

-- the codes that a bare header is written with
abbrev pub Errs : Bool → ℕ → Type 0
Errs true code = code ≡ bad_tag
Errs false code = (given (read_code code) ≡ true) × (eqb code 0 ≡ false)

module _ (code count room : ℕ) where
  pub error_passed : {t : List ℕ} → write_error code count room ≡ gives t
      → (count ≡ 0) × (t ≡ layout_response (error_frame false code)) × (10 ≤ room)
  unfolding write_error
  error_passed e =
      let none = needs_gives (eqb count 0) _ _ e in
      let bare = bare_passed false code room none.1 in
      (eqb-true count 0 none.0, bare.0, bare.1)

  bad_tag_passed : {t : List ℕ} → write_bad_tag code count room ≡ gives t
      → (code ≡ bad_tag) × (count ≡ 0) × (t ≡ layout_response (error_frame true code)) × (10 ≤ room)
  unfolding write_bad_tag
  bad_tag_passed e =
      let alone = needs_gives (eqb code 0 || eqb count 0) _ _ e in
      let coded = needs_gives (eqb code bad_tag) _ _ alone.1 in
      let is : code ≡ bad_tag = eqb-true code bad_tag coded.0 in
      let none : eqb count 0 ≡ true = rw (ne_eqb code 0 (λ zero. omega arith)) at alone.0 in
      let bare = bare_passed true code room coded.1 in
      (is, eqb-true count 0 none, bare.0, bare.1)

  -- what comes behind the row, of a response of so many response handles
  module _ (book : Rulebook) (responses : ℕ) (h : Handed) where
    abbrev behind_row : Bool → Said (List ℕ)
    behind_row asked =
        needs (given (read_code code) || (asked && eqb code bad_tag)) (no_area (5 ∷ 0 ∷ code ∷ []))
        (cond asked (write_bad_tag code count room) (cond (eqb code 0) (write_success book responses h room) (write_error code count room)))

    behind_error : (asked : Bool) → Errs asked code → count ≡ 0 → 10 ≤ room → behind_row asked ≡ gives (layout_response (error_frame asked code))
    unfolding write_error
    behind_error true is none fits =
        sym (passes (given (read_code code) || eqb code bad_tag) _ (write_bad_tag code count room) (rw (eq-eqb code bad_tag is) (or-true (given (read_code code)))))
        ∙ sym (bad_tag_alone code count room is none) ∙ passed_bare true code room fits
    behind_error false e none fits = rw (e.0, e.1, eq-eqb count 0 none) (passed_bare false code room fits)

    behind_kinds : (asked : Bool) {t : List ℕ} → behind_row asked ≡ gives t
        → ((asked ≡ false) × (code ≡ 0) × (write_success book responses h room ≡ gives t))
        ⊎ (Errs asked code × (count ≡ 0) × (t ≡ layout_response (error_frame asked code)) × (10 ≤ room))
    behind_kinds true e = inr (bad_tag_passed (needs_gives (given (read_code code) || eqb code bad_tag) _ (write_bad_tag code count room) e).1)
    behind_kinds false e =
        let reads = needs_gives (given (read_code code) || false) _ _ e in
        elim (cond_gives (eqb code 0) (write_success book responses h room) (write_error code count room) reads.1) [
          | inl success ↦ inl (refl, eqb-true code 0 success.0, success.1)
          | inr error ↦
              let p = error_passed error.1 in
              inr ((sym (or-false (given (read_code code))) ∙ reads.0, error.0), p.0, p.1, p.2)
        ]

module _ (book : Rulebook) (asked : Bool) (cc code : ℕ) (h : Handed) (room : ℕ) where
  abbrev writes : Said (List ℕ)
  writes = write_response book asked cc code h room

  pub many_entries : 3 < h.sessions.count → refuses (no_area (6 ∷ 0 ∷ 3 ∷ h.sessions.count ∷ [])) ≡ writes
  unfolding write_response
  many_entries many = fails (leb h.sessions.count 3) _ _ (lt-leb h.sessions.count 3 many)

  module _ (few : h.sessions.count ≤ 3) where
    pub no_command_lem : {why : Why} → refuses why ≡ row_for book.rows cc → refuses why ≡ writes
    unfolding write_response
    no_command_lem e = stops (row_for book.rows cc) _ e ∙ passes (leb h.sessions.count 3) _ _ (le-leb h.sessions.count 3 few)

    module _ {row : Row} (e : gives row ≡ row_for book.rows cc) where
      row_passes : behind_row code h.sessions.count room book row.responses h asked ≡ writes
      unfolding write_response
      row_passes = goes_on (row_for book.rows cc) _ e ∙ passes (leb h.sessions.count 3) _ _ (le-leb h.sessions.count 3 few)

      pub success_is : asked ≡ false → code ≡ 0 → write_success book row.responses h room ≡ writes
      success_is not zero = sym (rw (not, zero, success_reads) refl) ∙ row_passes

      pub error_is : Errs asked code → h.sessions.count ≡ 0 → 10 ≤ room → writes ≡ gives (layout_response (error_frame asked code))
      error_is errs none fits = sym row_passes ∙ behind_error code h.sessions.count room book row.responses h asked errs none fits

      pub success_judged : asked ≡ false → code ≡ 0 → judged book.longest 0 (tag_for h.sessions.count) row.responses h room ≡ counted writes
      unfolding write_success
      success_judged not zero =
          judged_counted (judged book.longest 0 (tag_for h.sessions.count) row.responses h room) (layout_response (success_frame h))
          (λ total j. let f = judged_fits book.longest 0 (tag_for h.sessions.count) row.responses h room j in length_success book.longest h f.there ∙ sym f.total_is)
          ∙ ap counted (success_is not zero)

      pub error_judged : asked ≡ false → (code ≡ 0 → ⊥)
          → needs (given (read_code code)) (no_area (5 ∷ 0 ∷ code ∷ [])) (counted (write_error code h.sessions.count room)) ≡ counted writes
      error_judged not other =
          let is : needs (given (read_code code)) (no_area (5 ∷ 0 ∷ code ∷ [])) (write_error code h.sessions.count room) ≡ writes =
          sym (rw (not, or-false (given (read_code code)), ne_eqb code 0 other) refl) ∙ row_passes in
          counted_needs (given (read_code code)) _ (write_error code h.sessions.count room) ∙ ap counted is

      pub bad_tag_judged : asked ≡ true
          → needs (given (read_code code) || eqb code bad_tag) (no_area (5 ∷ 0 ∷ code ∷ [])) (counted (write_bad_tag code h.sessions.count room)) ≡ counted writes
      bad_tag_judged is =
          let same : needs (given (read_code code) || eqb code bad_tag) (no_area (5 ∷ 0 ∷ code ∷ [])) (write_bad_tag code h.sessions.count room) ≡ writes =
          sym (rw is refl) ∙ row_passes in
          counted_needs (given (read_code code) || eqb code bad_tag) _ (write_bad_tag code h.sessions.count room) ∙ ap counted same

  -- what a response that is written has passed
  pub record ResponsePassed (t : List ℕ) : Type 0 where
    pub few : h.sessions.count ≤ 3
    pub row : Row
    pub has_row : row_for book.rows cc ≡ gives row
    pub either_kind : ((asked ≡ false) × (code ≡ 0) × (Fits book.longest 0 (tag_for h.sessions.count) row.responses h room (length t)) × (t ≡ layout_response (success_frame h)))
        ⊎ (Errs asked code × (h.sessions.count ≡ 0) × (t ≡ layout_response (error_frame asked code)) × (10 ≤ room))

  pub success_passed : (responses : ℕ) {t : List ℕ} → write_success book responses h room ≡ gives t
      → Fits book.longest 0 (tag_for h.sessions.count) responses h room (length t) × (t ≡ layout_response (success_frame h))
  unfolding write_success
  success_passed responses {t} e =
      let tag = tag_for h.sessions.count in
      let judged-is = then_gives (judged book.longest 0 tag responses h room) _ e in
      let fits = judged_fits book.longest 0 tag responses h room judged-is.1 in
      let is : t ≡ layout_response (success_frame h) = sym (gives_injective judged-is.2) in
      let long : judged-is.0 ≡ length t = fits.total_is ∙ sym (length_success book.longest h fits.there) ∙ ap length (sym is) in
      (subst (Fits book.longest 0 tag responses h room) long fits, is)

  pub passed_success : (responses : ℕ) {n : ℕ} → Fits book.longest 0 (tag_for h.sessions.count) responses h room n
      → write_success book responses h room ≡ gives (layout_response (success_frame h))
  unfolding write_success
  passed_success responses fits =
      sym (goes_on (judged book.longest 0 (tag_for h.sessions.count) responses h room) _ (sym (fits_judged book.longest 0 (tag_for h.sessions.count) responses h room fits)))

  pub response_passed : {t : List ℕ} → writes ≡ gives t → ResponsePassed t
  unfolding write_response
  response_passed {t} e =
      let few = needs_gives (leb h.sessions.count 3) _ _ e in
      let found = then_gives (row_for book.rows cc) _ few.1 in record {
        few = leb-true h.sessions.count 3 few.0;
        row = found.0;
        has_row = found.1;
        either_kind = elim (behind_kinds code h.sessions.count room book found.0.responses h asked found.2) [
          | inl success ↦ let p = success_passed found.0.responses success.2 in inl (success.0, success.1, p.0, p.1)
          | inr error ↦ inr error
        ];
      }

  pub success_ready : book.longest ≤ unlimited → code ≡ 0 → {total : ℕ} → gives total ≡ counted writes
      → Ready 0 (tag_for h.sessions.count) h total room × (writes ≡ gives (layout_response (success_frame h)))
  success_ready below zero {total} e =
      let said = counted_gives writes e in
      elim (response_passed said.1).either_kind [
        | inl p ↦
            let row = (response_passed said.1).row in
            let tag = tag_for h.sessions.count in
            let f : Fits book.longest 0 tag row.responses h room total = subst (Fits book.longest 0 tag row.responses h room) said.2 p.2 in (
              record { tag_is = refl; there = there_looser book.longest unlimited _ _ below f.there; total_is = f.total_is; small = f.small; room_for = f.room_for },
              said.1 ∙ ap gives p.3,
            )
        | inr p ↦ absurd (no_success asked p.0)
      ]
    where
      no_success : (b : Bool) → Errs b code → ⊥
      no_success true is = omega arith
      no_success false errs = false≢true (sym errs.1 ∙ eq-eqb code 0 zero)

  pub error_ready : (code ≡ 0 → ⊥) → {total : ℕ} → gives total ≡ counted writes
      → (10 ≤ room) × (writes ≡ gives (layout_response (error_frame asked code)))
  error_ready other {total} e =
      let said = counted_gives writes e in
      elim (response_passed said.1).either_kind [
        | inl p ↦ absurd (other p.1)
        | inr p ↦ (p.3, said.1 ∙ ap gives p.2)
      ]
