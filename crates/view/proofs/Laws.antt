-- What a view stands for, by any rules. Made of bytes that `cast` passes it holds them all, where they stand, with the rules that they pass by,
-- and then no field and no area is refused. Made of others it holds none, and then every read refuses 1(0,10,0). Stated of the definitions, and of the
-- clauses that the toolchain makes of the functions that make a view and of the methods that give back parts.
-- Assumes nothing.
use mathlib.Core.Path.{◌≡◌, refl, ◌∙◌, ap, subst}
use mathlib.Core.Bool.{Bool, true, false, ◌||◌, ◌&&◌, false≢true}
use mathlib.Core.List.{List, []}
use Prim.Native.Nat.{ℕ, ◌-◌}
use native.Mathlib.Nat.{le_refl}
use native.Mathlib.Omega.{arith}
use borrow.Author.Tests.{eqb-true, le-leb}
use seplogic.Ra.Ura.{Ura}
use lib.Dec.{eqb, leb}
use lib.ListN.{length}
use lib.Seq.{take_all}
use base.Logic.{SProp, ent, sep, snd∗, via}
use contract.Monad.{Fun, fact}
use denote.Ref.{Bor, as_bor}
use types.Logic.{Logic, sem}
use prog.Memory.{Memory}
use prog.Routine.{Routine}
use Rattle.base.specs.declared.part.Span.{Span}
use Rattle.base.specs.Answer.{Part}
use Rattle.base.specs.Members.{is_in}
use Rattle.base.specs.Parts.{IsPart, LendsPart}
use Rattle.base.specs.Said.{Said, gives, refuses, given, done}
use Rattle.base.proofs.Facts.{PromisedBy, from_one}
use Rattle.base.proofs.Checks.{then_gives}
use Rattle.table.specs.Tags.{tags}
use Rattle.frame.specs.declared.command.Command.{Command}
use Rattle.frame.specs.declared.rules.Rules.{Rules}
use Rattle.frame.specs.Answer.{command_by_value, whole}
use Rattle.frame.specs.Command.{auth_range, cast_command, command_areas, command_handles, handles_range, judge_command, parameters_range, read_command}
use Rattle.frame.specs.Header.{frame_prefix, frame_whole, is_of_two, is_response_tag, is_rsp_command, read_cc, read_command_tag, read_rc, read_response_tag, read_size, read_tag, rsp_command, tag_of}
use Rattle.frame.specs.Response.{body_range, cast_response, judge_response, read_response, response_areas}
use Rattle.frame.specs.Parts.{ranged}
use Rattle.frame.specs.Rules.{Rulebook, book_of}
use Rattle.frame.proofs.Laws.{command_ranges}
use Rattle.frame.proofs.FrameLaws.{response_tag_sound, two_tags, tag_sound, whole_sound}
use Rattle.view.specs.View.{held, short}
use Rattle.view.specs.contracts.command.TpmCommand.auth_area as auth-area
use Rattle.view.specs.contracts.command.TpmCommand.cast as command
use Rattle.view.specs.contracts.command.TpmCommand.handles as handles
use Rattle.view.specs.contracts.command.TpmCommand.parameters as parameters
use Rattle.view.specs.contracts.command.TpmCommandMut.auth_area_mut as auth-area-mut
use Rattle.view.specs.contracts.command.TpmCommandMut.cast_mut as command-mut
use Rattle.view.specs.contracts.command.TpmCommandMut.handles_mut as handles-mut
use Rattle.view.specs.contracts.command.TpmCommandMut.parameters_mut as parameters-mut
use Rattle.view.specs.contracts.response.TpmResponse.cast as response
use Rattle.view.specs.contracts.response.TpmResponseMut.cast_mut as response-mut

-- ---- what is held

-- what r holds and where it stands, by what a read of s says
abbrev pub Stands : {A : Type 0} → Said A → Bor (List ℕ) → Bor (List ℕ) → Type 0
Stands read s r = (r.now ≡ held read s.now) × (r.ref_ptr.0 ≡ s.ref_ptr.0) × (r.ref_ptr.1 ≡ s.ref_ptr.1)

-- where a read of the whole passes, the part is the whole, and else it is empty
pub holds : {A : Type 0} (read : Said A) (s r : Bor (List ℕ)) → IsPart (whole s.now read) s r → Stands read s r
holds (gives a) s r is =
    let n : ℕ = length s.now in
    let part = rw (le-leb 0 n (omega arith), le-leb n n (le_refl n)) at is in
    (part.0 ∙ take_all (n - 0) s.now (omega arith), part.1, part.2 ∙ omega arith)
holds (refuses why) s r is = (is.0, is.1, is.2 ∙ omega arith)

-- ---- what a view of a checked frame answers

was_given : {A : Type 0} (x : Said A) → given x ≡ true → (a : A) × (x ≡ gives a)
was_given (gives a) e = (a, refl)
was_given (refuses why) e = absurd (false≢true e)

module _ (book : Rulebook) where
  pub command_checked : (s : List ℕ) → given (cast_command book s) ≡ true
      → (given (read_tag s) ≡ true)
      × (read_size s ≡ gives (length s))
      × (given (read_cc book s) ≡ true)
      × (given (handles_range book s) ≡ true)
      × (given (auth_range book s) ≡ true)
      × (given (parameters_range book s) ≡ true)
  unfolding cast_command judge_command command_areas command_handles read_tag read_size handles_range auth_range parameters_range
  command_checked s e =
      let passed = was_given (cast_command book s) e in
      let cast = then_gives (frame_whole s) _ passed.1 in
      let judged = then_gives (read_command_tag s) _ cast.2 in
      let handled = then_gives (command_handles book s) _ judged.2 in
      let coded = then_gives (read_cc book s) _ handled.1 in
      let fits = whole_sound s cast.1 in
      let ten : leb 10 (length s) ≡ true = le-leb 10 (length s) fits.0 in
      let tag = two_tags (tag_of s) (tag_sound s judged.1) in
      (rw (ten, tag) refl, rw (ten, fits.1) refl, ap given coded.1, rw handled.1 refl, rw judged.2 refl, rw judged.2 refl)

  -- a response's tag is a tag of TpmSt: one of the two, or that of the answer to a bad tag
  response_tags : (tag : ℕ) → is_response_tag book tag ≡ true → is_in tag tags ≡ true
  unfolding tags
  response_tags tag e = by (is_of_two tag) refl e
    where
      answer : (b : Bool) → (b && eqb tag rsp_command) ≡ true → is_in tag tags ≡ true
      answer true e = rw (eqb-true tag rsp_command e) refl
      answer false e = absurd (false≢true e)

      by : (b : Bool) → is_of_two tag ≡ b → (b || is_rsp_command book tag) ≡ true → is_in tag tags ≡ true
      by true two e = two_tags tag two
      by false two e = answer book.answers_bad_tag e

  pub response_checked : (s : List ℕ) (code : ℕ) → cast_response book s ≡ gives code
      → (given (read_tag s) ≡ true)
      × (read_size s ≡ gives (length s))
      × (read_rc book s ≡ gives code)
      × (given (body_range s) ≡ true)
  unfolding cast_response judge_response read_tag read_size body_range
  response_checked s code e =
      let cast = then_gives (frame_whole s) _ e in
      let judged = then_gives (read_response_tag book s) _ cast.2 in
      let fits = whole_sound s cast.1 in
      let ten : leb 10 (length s) ≡ true = le-leb 10 (length s) fits.0 in
      let tag = response_tags (tag_of s) (response_tag_sound s book judged.1) in
      (rw (ten, tag) refl, rw (ten, fits.1) refl, judged.2, rw ten refl)

-- ---- what a view that holds nothing answers

module _ (book : Rulebook) where
  pub command_none : (read_tag [] ≡ short)
      × (read_size [] ≡ short)
      × (read_cc book [] ≡ short)
      × (handles_range book [] ≡ short)
      × (auth_range book [] ≡ short)
      × (parameters_range book [] ≡ short)
      × (done (read_command book []) ≡ short)
  unfolding read_tag read_size read_cc command_handles command_areas handles_range auth_range parameters_range read_command cast_command frame_whole frame_prefix
  command_none = (refl, refl, refl, refl, refl, refl, refl)

  pub response_none : (cc : ℕ) → (read_tag [] ≡ short)
      × (read_size [] ≡ short)
      × (read_rc book [] ≡ short)
      × (body_range [] ≡ short)
      × (done (read_response book cc []) ≡ short)
  unfolding read_tag read_size read_rc body_range read_response response_areas cast_response frame_whole frame_prefix
  response_none cc = (refl, refl, refl, refl, refl)

-- ---- what is promised to whoever makes a view

-- what follows from the fact behind the tie of a part that can be written to
from_behind : {M : Type 1} (𝓤 : Ura M) (tie : SProp 𝓤) (p : Type 0) {φ : Type 0} → (p → φ) → ent 𝓤 (sep 𝓤 tie (fact 𝓤 p)) (fact 𝓤 φ)
from_behind 𝓤 tie p says = via 𝓤 (fact 𝓤 p) (snd∗ 𝓤 tie (fact 𝓤 p)) (from_one 𝓤 p says)

-- a view of s made by the rules k, by a read: what it holds is r, where it stands, and the rules j, which are k; so where s passes by k, what it holds passes
-- by the rules that its methods judge by
abbrev pub Viewed : {A : Type 0} → (Rulebook → List ℕ → Said A) → Rules → Bor (List ℕ) → Bor (List ℕ) → Rules → Type 0
Viewed read k s r j = Stands (read (book_of k) s.now) s r × (j ≡ k) × (given (read (book_of k) s.now) ≡ true → given (read (book_of j) r.now) ≡ true)

held_given : {A : Type 0} (x : Said A) (s : List ℕ) → given x ≡ true → held x s ≡ s
held_given (gives a) s e = refl
held_given (refuses why) s e = absurd (false≢true e)

viewed : {A : Type 0} (read : Rulebook → List ℕ → Said A) (k : Rules) (s r : Bor (List ℕ)) (j : Rules)
    → IsPart (whole s.now (read (book_of k) s.now)) s r → j ≡ k → Viewed read k s r j
viewed read k s r j is e =
    let stands = holds (read (book_of k) s.now) s r is in (
      stands,
      e,
      (λ passes. rw (e, stands.0 ∙ held_given (read (book_of k) s.now) s.now passes) passes),
    )

module _ {M : Type 1} {𝓤 : Ura M} (𝓛 : Logic 𝓤) (mem : Memory → SProp 𝓤) (run : Routine → Fun 𝓤) where
  pub command_cast : PromisedBy 𝓤 command.ended (command.clauses 𝓛 mem run) (λ κs a r later. Viewed cast_command a.0 a.1.0 r.frame r.rules)
  command_cast κs a g r v = from_one 𝓤 _ (λ is. viewed cast_command a.0 a.1.0 r.frame r.rules is.0 is.1)

  pub command_cast_mut : PromisedBy 𝓤 command-mut.ended (command-mut.clauses 𝓛 mem run) (λ κs a r later. Viewed cast_command a.0 (as_bor a.1.0) (as_bor r.frame) r.rules)
  command_cast_mut κs a g r v =
      from_behind 𝓤 (sem 𝓛 (LendsPart (whole a.1.0.now (cast_command (book_of a.0) a.1.0.now)) a.1.0 r.frame)) _ (λ is. viewed cast_command a.0 (as_bor a.1.0) (as_bor r.frame) r.rules is.0 is.1)

  pub response_cast : PromisedBy 𝓤 response.ended (response.clauses 𝓛 mem run)
      (λ κs a r later. Viewed cast_response a.0 a.1.1.0 r.frame r.rules × (r.cc ≡ a.1.0))
  response_cast κs a g r v = from_one 𝓤 _ (λ is. (viewed cast_response a.0 a.1.1.0 r.frame r.rules is.0 is.1, is.2))

  -- it holds no rules: its one method asks for none
  pub response_cast_mut : PromisedBy 𝓤 response-mut.ended (response-mut.clauses 𝓛 mem run) (λ κs a r later. Stands (cast_response (book_of a.0) a.1.0.now) (as_bor a.1.0) (as_bor r.frame))
  response_cast_mut κs a g r v =
      from_behind 𝓤 (sem 𝓛 (LendsPart (whole a.1.0.now (cast_response (book_of a.0) a.1.0.now)) a.1.0 r.frame)) _ (λ is. holds (cast_response (book_of a.0) a.1.0.now) (as_bor a.1.0) (as_bor r.frame) is)

-- ---- which parts a view gives back: r is the part of what is held where `parts`, by the rules held, has that area of it

abbrev pub Shows : (Command → Span) → Rules → Bor (List ℕ) → Bor (List ℕ) → Type 0
Shows area k s r = (c : Command) → command_by_value s.now (read_command (book_of k) s.now) ≡ gives c → IsPart (gives (ranged (area c))) s r

module _ (k : Rules) (s r : Bor (List ℕ)) where
  shows_handles : IsPart (handles_range (book_of k) s.now) s r → Shows (λ c. c.handles) k s r
  shows_handles is c e = subst (λ (p : Said Part). IsPart p s r) (command_ranges k s.now c e).0 is

  shows_auth : IsPart (auth_range (book_of k) s.now) s r → Shows (λ c. c.auth) k s r
  shows_auth is c e = subst (λ (p : Said Part). IsPart p s r) (command_ranges k s.now c e).1 is

  shows_parameters : IsPart (parameters_range (book_of k) s.now) s r → Shows (λ c. c.parameters) k s r
  shows_parameters is c e = subst (λ (p : Said Part). IsPart p s r) (command_ranges k s.now c e).2 is

module _ {M : Type 1} {𝓤 : Ura M} (𝓛 : Logic 𝓤) (mem : Memory → SProp 𝓤) (run : Routine → Fun 𝓤) where
  pub command_handles_lem : PromisedBy 𝓤 handles.ended (handles.clauses 𝓛 mem run) (λ κs a r later. Shows (λ c. c.handles) a.0.rules a.0.frame r)
  command_handles_lem κs a g r v = from_one 𝓤 _ (λ is. shows_handles a.0.rules a.0.frame r is)

  pub command_auth_area : PromisedBy 𝓤 auth-area.ended (auth-area.clauses 𝓛 mem run) (λ κs a r later. Shows (λ c. c.auth) a.0.rules a.0.frame r)
  command_auth_area κs a g r v = from_one 𝓤 _ (λ is. shows_auth a.0.rules a.0.frame r is)

  pub command_parameters : PromisedBy 𝓤 parameters.ended (parameters.clauses 𝓛 mem run) (λ κs a r later. Shows (λ c. c.parameters) a.0.rules a.0.frame r)
  command_parameters κs a g r v = from_one 𝓤 _ (λ is. shows_parameters a.0.rules a.0.frame r is)

  pub command_handles_mut : PromisedBy 𝓤 handles-mut.ended (handles-mut.clauses 𝓛 mem run) (λ κs a r later. Shows (λ c. c.handles) a.0.rules (as_bor a.0.frame) (as_bor r))
  command_handles_mut κs a g r v =
      from_behind 𝓤 (sem 𝓛 (LendsPart (handles_range (book_of a.0.rules) a.0.frame.now) a.0.frame r)) _ (λ is. shows_handles a.0.rules (as_bor a.0.frame) (as_bor r) is)

  pub command_auth_area_mut : PromisedBy 𝓤 auth-area-mut.ended (auth-area-mut.clauses 𝓛 mem run) (λ κs a r later. Shows (λ c. c.auth) a.0.rules (as_bor a.0.frame) (as_bor r))
  command_auth_area_mut κs a g r v =
      from_behind 𝓤 (sem 𝓛 (LendsPart (auth_range (book_of a.0.rules) a.0.frame.now) a.0.frame r)) _ (λ is. shows_auth a.0.rules (as_bor a.0.frame) (as_bor r) is)

  pub command_parameters_mut : PromisedBy 𝓤 parameters-mut.ended (parameters-mut.clauses 𝓛 mem run) (λ κs a r later. Shows (λ c. c.parameters) a.0.rules (as_bor a.0.frame) (as_bor r))
  command_parameters_mut κs a g r v =
      from_behind 𝓤 (sem 𝓛 (LendsPart (parameters_range (book_of a.0.rules) a.0.frame.now) a.0.frame r)) _ (λ is. shows_parameters a.0.rules (as_bor a.0.frame) (as_bor r) is)
