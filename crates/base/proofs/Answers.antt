-- An answer is told whole by what it says: each reading of an answer is injective.
-- Assumes nothing.
use mathlib.Core.Path.{◌≡◌, refl, sym, ◌∙◌, ap}
use Prim.Native.Nat.{ℕ}
use Rattle.std.specs.Prelude.{Result, Ok, Err, is_ok, IsErrAnd}
use Rattle.std.proofs.lemmas.Result.{err_from_is_err_and}
use Rattle.base.specs.declared.code.TpmSt.{TpmSt}
use Rattle.base.specs.declared.code.TpmCc.{TpmCc}
use Rattle.base.specs.declared.code.TpmRc.{TpmRc}
use Rattle.base.specs.declared.error.TpmError.{TpmError}
use Rattle.base.specs.declared.error.WriteError.{WriteError}
use Rattle.base.specs.declared.part.Span.{Span}
use Rattle.base.specs.Said.{Said, Why, gives, refuses, given}
use Rattle.base.specs.Error.{numbered, writer_numbered}
use Rattle.base.specs.Answer.{said_by, said, said_tag, said_command_code, said_response_code, said_range, said_total}
use Rattle.base.proofs.Eight.{writer_named, writer_named_numbered}
use Rattle.base.proofs.Refusals.{named, named_numbered}

-- a function with a left inverse is injective
pub injective_by : {A B : Type 0} (f : A → B) (back : B → A) → ((a : A) → back (f a) ≡ a) → (a b : A) → f a ≡ f b → a ≡ b
injective_by f back e a b p = sym (e a) ∙ ap back p ∙ e b

-- what a call said of its answer holds of the variant that the answer was found to be
pub learnt : {E S : Type 0} (said : E → S) {x e : E} {s : S} → x ≡ e → said x ≡ s → said e ≡ s
learnt said p q = sym (ap said p) ∙ q

-- the answer that says this, by what its value and its refusal are the readings of
abbrev pub unsaid : {A B E : Type 0} → (B → A) → (Why → E) → Said B → Result A E
unsaid value error (gives x) = Ok (value x)
unsaid value error (refuses why) = Err (error why)

module _ {A B E : Type 0} (value : A → B) (why : E → Why) (value_of : B → A) (error_of : Why → E)
    (values : (x : A) → value_of (value x) ≡ x) (errors : (e : E) → error_of (why e) ≡ e) where
  told : (a : Result A E) → unsaid value_of error_of (said_by value why a) ≡ a
  told (Ok x) = ap Ok (values x)
  told (Err e) = ap Err (errors e)

  pub said_by_injective : (a b : Result A E) → said_by value why a ≡ said_by value why b → a ≡ b
  said_by_injective = injective_by (said_by value why) (unsaid value_of error_of) told

pub said_injective : {A : Type 0} → (a b : Result A TpmError) → said a ≡ said b → a ≡ b
said_injective = said_by_injective (λ x. x) numbered (λ x. x) named (λ x. refl) named_numbered

pub said_tag_injective : (a b : Result TpmSt TpmError) → said_tag a ≡ said_tag b → a ≡ b
said_tag_injective = said_by_injective (λ t. t.0) numbered (λ n. record { 0 = n }) named (λ x. refl) named_numbered

pub said_command_code_injective : (a b : Result TpmCc TpmError) → said_command_code a ≡ said_command_code b → a ≡ b
said_command_code_injective = said_by_injective (λ c. c.0) numbered (λ n. record { 0 = n }) named (λ x. refl) named_numbered

pub said_response_code_injective : (a b : Result TpmRc TpmError) → said_response_code a ≡ said_response_code b → a ≡ b
said_response_code_injective = said_by_injective (λ c. c.0) numbered (λ n. record { 0 = n }) named (λ x. refl) named_numbered

pub said_range_injective : (a b : Result Span TpmError) → said_range a ≡ said_range b → a ≡ b
said_range_injective = said_by_injective (λ p. record { from = p.from; to = p.to }) numbered (λ p. record { from = p.from; to = p.to }) named (λ x. refl) named_numbered

pub said_total_injective : (a b : Result ℕ WriteError) → said_total a ≡ said_total b → a ≡ b
said_total_injective = said_by_injective (λ n. n) writer_numbered (λ n. n) writer_named (λ x. refl) writer_named_numbered

-- at the exit of a `?` the refusal is the step's
pub passed_on : {A B E : Type 0} (value : A → B) (why : E → Why) (r : Result A E) {e : E} → IsErrAnd r (λ y. y ≡ e) → said_by value why r ≡ refuses (why e)
passed_on value why r h =
    let p = err_from_is_err_and r h in
    ap (said_by value why) p.1 ∙ ap (λ y. refuses (why y)) p.2

-- an answer is a value exactly when what it says is given
pub is_given : {A B E : Type 0} (value : A → B) (why : E → Why) (a : Result A E) → is_ok a ≡ given (said_by value why a)
is_given value why (Ok x) = refl
is_given value why (Err e) = refl
