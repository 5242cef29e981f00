-- The kind that a code is reported with is the kind that its number is taken for.
-- Assumes nothing.
use mathlib.Core.Bool.{false}
use mathlib.Core.List.{[], ◌∷◌}
use mathlib.Core.Path.{◌≡◌, refl, ◌∙◌, ap}
use Prim.Native.Nat.{ℕ, ◌≤◌, ◌<◌}
use native.Mathlib.Omega.{arith}
use borrow.Author.Tests.{ne_eqb}
use lib.Dec.{eqb}
use Rattle.base.specs.Said.{gives, no_area, refuses}
use Rattle.rc.specs.declared.code.Code.{Code}
use Rattle.rc.specs.declared.code.Kind.{Kind}
use Rattle.rc.specs.declared.code.Kind.TheVariants as kind
use Rattle.rc.specs.declared.code.Code.TheVariants.{Fmt0, Warn, Fmt1, Parameter, Handle, Session}
use Rattle.rc.specs.Code.{kind_number, kind_of, base_of, index_of}
use Rattle.capi.specs.Code.{kind_numbered, code_of}

pub taken_again : (c : Code) → code_of (kind_number (kind_of c)) (base_of c) (index_of c) ≡ gives c
unfolding kind_numbered
taken_again (Fmt0 b) = refl
taken_again (Warn b) = refl
taken_again (Fmt1 b) = refl
taken_again (Parameter b n) = refl
taken_again (Handle b n) = refl
taken_again (Session b n) = refl

taken : (kind : Kind) → gives kind ≡ kind_numbered (kind_number kind)
unfolding kind_numbered
taken kind.Fmt0 = refl
taken kind.Warn = refl
taken kind.Fmt1 = refl
taken kind.Parameter = refl
taken kind.Handle = refl
taken kind.Session = refl

-- a kind that has a number is the number's, and a number above all of theirs is none's
pub kind_is : (k : Kind) {n : ℕ} → kind_number k ≡ n → gives k ≡ kind_numbered n
kind_is k e = taken k ∙ ap kind_numbered e

pub no_kind : (n : ℕ) → 5 < n → refuses (no_area (100 ∷ 0 ∷ n ∷ [])) ≡ kind_numbered n
unfolding kind_numbered
no_kind n h =
    let other : (k : ℕ) → k ≤ 5 → eqb n k ≡ false = λ k few. ne_eqb n k (λ is. omega arith) in
    rw (other 0 (omega arith), other 1 (omega arith), other 2 (omega arith), other 3 (omega arith), other 4 (omega arith), other 5 (omega arith)) refl
