-- A writer refuses with 7 exactly where all that comes before passes and the total of document 01 is above 4,294,967,295.
-- Assumes nothing.
use mathlib.Core.Path.{◌≡◌, refl, sym, ◌∙◌, ap}
use mathlib.Core.Bool.{Bool, beq, true, false, ◌&&◌, ◌||◌, cond}
use mathlib.Core.List.{List, [], ◌∷◌}
use mathlib.Core.Logic.{◌⊎◌, inl, inr, ◌↔◌}
use Prim.Native.Nat.{ℕ, ◌+◌, ◌*◌, ◌≤◌, ◌<◌}
use native.Mathlib.Omega.{arith}
use borrow.Author.Tests.{le-leb, lt-leb, leb-true, leb-false, eqb-true}
use lib.Dec.{eqb, leb, ltb}
use lib.ListN.{length, get_or}
use Rattle.base.specs.Said.{Why, number_of, no_area, Said, gives, refuses, Never, needs, then, given}
use Rattle.base.proofs.Checks.{stops, gives≢refuses, refuses_injective}
use Rattle.base.proofs.Only.{by_gives, by_needs, by_then, by_step, not_by}
use Rattle.rc.specs.Code.{read_code}
use Rattle.table.specs.Table.{row_for}
use Rattle.table.specs.declared.row.Row.{Row}
use Rattle.table.proofs.Only.{never_row}
use Rattle.frame.specs.declared.session.Field.{Field}
use Rattle.frame.specs.declared.session.Session.{Session}
use Rattle.frame.specs.Header.{sessions, bad_tag, is_of_two}
use Rattle.frame.specs.Parts.{entries_of}
use Rattle.frame.specs.Rules.{Rulebook}
use Rattle.marshal.specs.Handed.{Handed, tag_for}
use Rattle.marshal.specs.Write.{
  capped,
  field_there,
  sessions_there,
  total_size,
  fitted,
  judged,
  write_command,
  write_success,
  write_bare,
  write_error,
  write_bad_tag,
  write_response,
}
use Rattle.marshal.proofs.Writers.{tag_same, row_found, success_is}

-- ---- how an order of checks refuses

module _ {A : Type 0} where
  needs_refuses : (t : Bool) (why : Why) (rest : Said A) {w : Why} → needs t why rest ≡ refuses w
      → ((t ≡ true) × (rest ≡ refuses w)) ⊎ ((t ≡ false) × (why ≡ w))
  needs_refuses true why rest e = inl (refl, e)
  needs_refuses false why rest e = inr (refl, refuses_injective e)

  cond_refuses : (t : Bool) (x y : Said A) {w : Why} → cond t x y ≡ refuses w
      → ((t ≡ true) × (x ≡ refuses w)) ⊎ ((t ≡ false) × (y ≡ refuses w))
  cond_refuses true x y e = inl (refl, e)
  cond_refuses false x y e = inr (refl, e)

  then_refuses : {B : Type 0} (s : Said A) (f : A → Said B) {w : Why} → then s f ≡ refuses w
      → ((a : A) × (s ≡ gives a) × (f a ≡ refuses w)) ⊎ (s ≡ refuses w)
  then_refuses (gives a) f e = inl (a, refl, e)
  then_refuses (refuses why) f e = inr (ap refuses (refuses_injective e))

-- a check with another number was passed
passed : {A : Type 0} (t : Bool) (why : Why) (rest : Said A) {w : Why} → (number_of why ≡ number_of w → ⊥) → needs t why rest ≡ refuses w
    → (t ≡ true) × (rest ≡ refuses w)
passed t why rest {w} other e = elim (needs_refuses t why rest e) [ inl p ↦ p | inr same ↦ absurd (other (ap number_of same.1)) ]

-- no session is refused by 7
never_there : (limit len : ℕ) (f : Field) → Never 7 (field_there limit len f)
never_there limit len f = by_needs (leb f.size limit) _ refl (by_needs (leb (f.at + f.size) len) _ refl by_gives)

never_sessions : (limit len : ℕ) (es : List Session) → Never 7 (sessions_there limit len es)
unfolding sessions_there
never_sessions limit len [] = by_gives
never_sessions limit len (e ∷ es) =
    by_then (by_then (never_there limit len e.nonce) (λ nonce. never_there limit len e.hmac))
    (λ first. never_sessions limit len es)

-- ---- behind the handles

pub record TooLarge (limit width tag handles : ℕ) (h : Handed) (n : ℕ) : Type 0 where
  pub handle_count : length h.handles ≡ 4 * handles
  pub there : sessions_there limit (length h.lent) (entries_of h.sessions) ≡ gives tt
  pub large : 4294967295 < total_size width tag h
  pub told : n ≡ capped (total_size width tag h)

module _ (limit width tag handles : ℕ) (h : Handed) (room n : ℕ) where
  judged_too_large : judged limit width tag handles h room ≡ refuses (no_area (7 ∷ 0 ∷ n ∷ [])) → TooLarge limit width tag handles h n
  unfolding judged
  judged_too_large e =
      let few = passed (leb (4 * handles) (length h.handles)) _ _ (λ q. omega arith) e in
      let many = passed (leb (length h.handles) (4 * handles)) _ _ (λ q. omega arith) few.1 in
      let low = leb-true (4 * handles) (length h.handles) few.0 in
      let high = leb-true (length h.handles) (4 * handles) many.0 in
      elim (then_refuses (sessions_there limit (length h.lent) (entries_of h.sessions)) _ many.1) [
        | inr missing ↦ absurd (not_by (never_sessions limit (length h.lent) (entries_of h.sessions)) missing refl)
        | inl p ↦ elim (needs_refuses (leb (total_size width tag h) 4294967295) _ (fitted (total_size width tag h) room) p.2) [
          | inl q ↦ absurd (gives≢refuses (passed (leb (total_size width tag h) room) _ (gives (total_size width tag h)) (λ q. omega arith) q.1).1)
          | inr large ↦ record {
            handle_count = omega arith;
            there = p.1;
            large = leb-false (total_size width tag h) 4294967295 large.0;
            told = ap (λ (w : Why). get_or w.numbers 2 0) (sym large.1);
          }
        ]
      ]

  too_large_judged : TooLarge limit width tag handles h n → judged limit width tag handles h room ≡ refuses (no_area (7 ∷ 0 ∷ n ∷ []))
  unfolding judged
  too_large_judged t =
      let count = t.handle_count in
      rw (le-leb (4 * handles) (length h.handles) (omega arith), le-leb (length h.handles) (4 * handles) (omega arith), t.there)
      (rw (lt-leb (total_size width tag h) 4294967295 t.large) (ap (λ (m : ℕ). refuses (no_area (7 ∷ 0 ∷ m ∷ []))) (sym t.told)))

-- ---- commands

pub record CommandTooLarge (book : Rulebook) (tag code : ℕ) (h : Handed) (n : ℕ) : Type 0 where
  pub tag_is : tag ≡ tag_for h.sessions.count
  pub few : h.sessions.count ≤ 3
  pub row : Row
  pub has_row : row_for book.rows code ≡ gives row
  pub too_large : TooLarge book.longest 4 tag row.handles h n

module _ (book : Rulebook) (tag code : ℕ) (h : Handed) (room n : ℕ) where
  command_is_too_large : write_command book tag code h room ≡ refuses (no_area (7 ∷ 0 ∷ n ∷ [])) → CommandTooLarge book tag code h n
  unfolding write_command
  command_is_too_large e =
      let two = passed (is_of_two tag) _ _ (λ q. omega arith) e in
      let agree = passed (beq (eqb tag sessions) (ltb 0 h.sessions.count)) _ _ (λ q. omega arith) two.1 in
      let few = passed (leb h.sessions.count 3) _ _ (λ q. omega arith) agree.1 in
      elim (then_refuses (row_for book.rows code) _ few.1) [
        | inr none ↦ absurd (not_by (never_row book.rows code) none refl)
        | inl found ↦ elim (then_refuses (judged book.longest 4 tag found.0.handles h room) _ found.2) [
          | inl p ↦ absurd (gives≢refuses p.2)
          | inr large ↦ record {
            tag_is = tag_same tag h.sessions.count two.0 agree.0;
            few = leb-true h.sessions.count 3 few.0;
            row = found.0;
            has_row = found.1;
            too_large = judged_too_large book.longest 4 tag found.0.handles h room n large;
          }
        ]
      ]

  pub command_too_large : (write_command book tag code h room ≡ refuses (no_area (7 ∷ 0 ∷ n ∷ []))) ↔ CommandTooLarge book tag code h n
  command_too_large = (
    command_is_too_large,
    (λ t.
        sym (row_found book tag code h room t.tag_is t.few (sym t.has_row))
        ∙ sym (stops (judged book.longest 4 tag t.row.handles h room) _ (sym (too_large_judged book.longest 4 tag t.row.handles h room n t.too_large)))),
  )

-- ---- responses: only success has a total

pub record ResponseTooLarge (book : Rulebook) (asked : Bool) (cc code : ℕ) (h : Handed) (n : ℕ) : Type 0 where
  pub few : h.sessions.count ≤ 3
  pub row : Row
  pub has_row : row_for book.rows cc ≡ gives row
  pub not_asked : asked ≡ false
  pub success : code ≡ 0
  pub too_large : TooLarge book.longest 0 (tag_for h.sessions.count) row.responses h n

module _ (code count room : ℕ) where
  never_bare : (asked : Bool) → Never 7 (write_bare asked code room)
  never_bare asked = by_step _ (by_needs (leb 10 room) _ refl by_gives)

  never_error : Never 7 (write_error code count room)
  unfolding write_error
  never_error = by_needs (eqb count 0) _ refl (never_bare false)

  never_bad_tag : Never 7 (write_bad_tag code count room)
  unfolding write_bad_tag
  never_bad_tag = by_needs (eqb code 0 || eqb count 0) _ refl (by_needs (eqb code bad_tag) _ refl (never_bare true))

module _ (book : Rulebook) (asked : Bool) (cc code : ℕ) (h : Handed) (room n : ℕ) where
  response_is_too_large : write_response book asked cc code h room ≡ refuses (no_area (7 ∷ 0 ∷ n ∷ [])) → ResponseTooLarge book asked cc code h n
  unfolding write_response write_success
  response_is_too_large e =
      let few = passed (leb h.sessions.count 3) _ _ (λ q. omega arith) e in
      elim (then_refuses (row_for book.rows cc) _ few.1) [
        | inr none ↦ absurd (not_by (never_row book.rows cc) none refl)
        | inl found ↦
            let reads = passed (given (read_code code) || (asked && eqb code bad_tag)) _ _ (λ q. omega arith) found.2 in
            elim (cond_refuses asked (write_bad_tag code h.sessions.count room) _ reads.1) [
              | inl is ↦ absurd (not_by (never_bad_tag code h.sessions.count room) is.1 refl)
              | inr not ↦ elim (cond_refuses (eqb code 0) (write_success book found.0.responses h room) (write_error code h.sessions.count room) not.1) [
                | inr error ↦ absurd (not_by (never_error code h.sessions.count room) error.1 refl)
                | inl success ↦ elim (then_refuses (judged book.longest 0 (tag_for h.sessions.count) found.0.responses h room) _ success.1) [
                  | inl p ↦ absurd (gives≢refuses p.2)
                  | inr large ↦ record {
                    few = leb-true h.sessions.count 3 few.0;
                    row = found.0;
                    has_row = found.1;
                    not_asked = not.0;
                    success = eqb-true code 0 success.0;
                    too_large = judged_too_large book.longest 0 (tag_for h.sessions.count) found.0.responses h room n large;
                  }
                ]
              ]
            ]
      ]

  pub response_too_large : (write_response book asked cc code h room ≡ refuses (no_area (7 ∷ 0 ∷ n ∷ []))) ↔ ResponseTooLarge book asked cc code h n
  unfolding write_success
  response_too_large = (
    response_is_too_large,
    (λ t.
        let tag = tag_for h.sessions.count in
        sym (success_is book asked cc code h room t.few (sym t.has_row) t.not_asked t.success)
        ∙ sym (stops (judged book.longest 0 tag t.row.responses h room) _ (sym (too_large_judged book.longest 0 tag t.row.responses h room n t.too_large)))),
  )
