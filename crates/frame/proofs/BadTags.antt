-- Which tags and codes go together in a response, by any rules: success stands under one of the two tags, and an error is a code that
-- reads under the plain tag, or the answer to a bad tag.
-- Assumes nothing.
use mathlib.Core.Path.{◌≡◌, refl, sym, ◌∙◌, ap}
use mathlib.Core.Bool.{Bool, true, false, ◌&&◌, ◌||◌, cond, false≢true, and-false, or-false, and-eq-true_iff}
use mathlib.Core.Logic.{◌⊎◌, inl, inr}
use Prim.Native.Nat.{ℕ, ◌<◌}
use native.Mathlib.Omega.{arith}
use borrow.Author.Tests.{eqb-true}
use lib.Dec.{eqb}
use Rattle.base.specs.Said.{given}
use Rattle.rc.specs.Code.{read_code, read_fmt0}
use Rattle.rc.specs.Known.{is_known, known_codes}
use Rattle.frame.specs.Header.{plain, sessions, rsp_command, bad_tag, is_rsp_command, reads, is_of_two, is_response_tag}
use Rattle.frame.specs.Layout.{Frame, PlainError, BadTagAnswer}
use Rattle.frame.specs.Rules.{Rulebook}
use Rattle.frame.proofs.FrameLaws.{of_two}

-- success reads, as the list of known codes has it
success_known : given (read_code 0) ≡ true
unfolding read_code read_fmt0 is_known known_codes
success_known = refl

module _ (book : Rulebook) where
  -- the two tags are not that of the answer to a bad tag
  pub two_others : (tag : ℕ) → is_of_two tag ≡ true → is_rsp_command book tag ≡ false
  two_others = of_two (λ (tag : ℕ). is_rsp_command book tag ≡ false) (and-false book.answers_bad_tag) (and-false book.answers_bad_tag)

  -- under another tag a code reads as it does by itself
  pub reads_plainly : (tag code : ℕ) → is_rsp_command book tag ≡ false → reads book tag code ≡ given (read_code code)
  reads_plainly tag code e = ap (λ (b : Bool). cond b (eqb code bad_tag) (given (read_code code))) e

  -- under that tag the answer to a bad tag reads and nothing else does
  pub reads_bad_tag : (tag code : ℕ) → is_rsp_command book tag ≡ true → reads book tag code ≡ eqb code bad_tag
  reads_bad_tag tag code e = ap (λ (b : Bool). cond b (eqb code bad_tag) (given (read_code code))) e

  pub reads_success : (tag code : ℕ) → is_rsp_command book tag ≡ false → code ≡ 0 → reads book tag code ≡ true
  reads_success tag code e success = reads_plainly tag code e ∙ ap (λ (n : ℕ). given (read_code n)) success ∙ success_known

  pub success_reads : (tag : ℕ) → is_of_two tag ≡ true → reads book tag 0 ≡ true
  success_reads tag two = reads_success tag 0 (two_others tag two) refl

  pub success_two : (tag : ℕ) → is_response_tag book tag ≡ true → reads book tag 0 ≡ true → is_of_two tag ≡ true
  success_two tag one read = by (is_rsp_command book tag) refl
    where
      by : (b : Bool) → is_rsp_command book tag ≡ b → is_of_two tag ≡ true
      by true e = absurd (false≢true (sym (reads_bad_tag tag 0 e) ∙ read))
      by false e = sym (or-false (is_of_two tag)) ∙ ap (λ (b : Bool). is_of_two tag || b) (sym e) ∙ one

  -- what is judged of an error's tag and code is what the layout says of them
  pub error_parted : (f : Frame) → (eqb f.tag plain || is_rsp_command book f.tag) ≡ true → reads book f.tag f.code ≡ true
      → eqb f.code 0 ≡ false → PlainError f ⊎ BadTagAnswer book f
  error_parted f one read failed = by (is_rsp_command book f.tag) refl
    where
      by : (b : Bool) → is_rsp_command book f.tag ≡ b → PlainError f ⊎ BadTagAnswer book f
      by true e =
          let both = (and-eq-true_iff book.answers_bad_tag (eqb f.tag rsp_command)).0 e in
          inr (both.0, eqb-true f.tag rsp_command both.1, eqb-true f.code bad_tag (sym (reads_bad_tag f.tag f.code e) ∙ read))
      by false e =
          let plainly = sym (or-false (eqb f.tag plain)) ∙ ap (λ (b : Bool). eqb f.tag plain || b) (sym e) ∙ one in
          inl (eqb-true f.tag plain plainly, sym (reads_plainly f.tag f.code e) ∙ read, failed)

  -- and the other way round
  pub record Erring (tag code : ℕ) : Type 0 where
    pub tag_admitted : is_response_tag book tag ≡ true
    pub tag_for_error : (eqb tag plain || is_rsp_command book tag) ≡ true
    pub tag_unsized : eqb tag sessions ≡ false
    pub tag_fits : tag < 65536
    pub code_reads : reads book tag code ≡ true
    pub no_success : eqb code 0 ≡ false

  plain_erring : (code : ℕ) → given (read_code code) ≡ true → eqb code 0 ≡ false → Erring plain code
  plain_erring code read failed = record {
    tag_admitted = refl;
    tag_for_error = refl;
    tag_unsized = refl;
    tag_fits = omega arith;
    code_reads = reads_plainly plain code (and-false book.answers_bad_tag) ∙ read;
    no_success = failed;
  }

  bad_tag_erring : book.answers_bad_tag ≡ true → Erring rsp_command bad_tag
  bad_tag_erring e =
      let is : is_rsp_command book rsp_command ≡ true = ap (λ (b : Bool). b && true) e in
      record {
        tag_admitted = is;
        tag_for_error = is;
        tag_unsized = refl;
        tag_fits = omega arith;
        code_reads = reads_bad_tag rsp_command bad_tag is;
        no_success = refl;
      }

  pub erring : (f : Frame) → PlainError f ⊎ BadTagAnswer book f → Erring f.tag f.code
  erring f (inl e) = rw e.0 (plain_erring f.code e.1 e.2)
  erring f (inr e) = rw (e.1, e.2) (bad_tag_erring e.0)
