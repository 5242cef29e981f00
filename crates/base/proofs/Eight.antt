-- The numbers of the eight refusals that all calls share: 7 is none of them, and so the numbering of a writer's refusals is injective.
-- Assumes nothing.
use mathlib.Core.Path.{◌≡◌, refl, sym, ◌∙◌, ap}
use mathlib.Core.Bool.{Bool, true, false, false≢true, cond}
use mathlib.Core.List.{List, [], ◌∷◌}
use Prim.Native.Nat.{ℕ}
use borrow.Author.Tests.{ne_eqb}
use lib.Dec.{eqb}
use Rattle.base.specs.declared.error.TpmError.{TpmError}
use Rattle.base.specs.declared.error.TpmError.TheVariants.{UnexpectedEnd, TrailingData, InvalidTag, InvalidCc, InvalidRc, TooManyItems, TooManyBytes, BufferOverflow}
use Rattle.base.specs.declared.error.WriteError.{WriteError}
use Rattle.base.specs.declared.error.WriteError.TheVariants.{Common, IntegerTooLarge}
use Rattle.base.specs.Error.{numbered, writer_numbered}
use Rattle.base.specs.Members.{is_in}
use Rattle.base.specs.Said.{Why, number_of}
use Rattle.base.proofs.Refusals.{two, by, named, named_numbered}

-- the eight have these numbers, and no other
abbrev pub eight : List ℕ
eight = 1 ∷ 2 ∷ 3 ∷ 4 ∷ 5 ∷ 6 ∷ 8 ∷ 9 ∷ []

of_eight : (e : TpmError) → is_in (number_of (numbered e)) eight ≡ true
of_eight (UnexpectedEnd area o n a) = refl
of_eight (TrailingData area o a) = refl
of_eight (InvalidTag area o v) = refl
of_eight (InvalidCc area o v) = refl
of_eight (InvalidRc area o v) = refl
of_eight (TooManyItems area o l a) = refl
of_eight (TooManyBytes area o l a) = refl
of_eight (BufferOverflow area o n a) = refl

pub no_other : (n : ℕ) → is_in n eight ≡ false → (e : TpmError) → eqb (number_of (numbered e)) n ≡ false
no_other n p e = ne_eqb (number_of (numbered e)) n (λ same. false≢true (sym p ∙ ap (λ (k : ℕ). is_in k eight) (sym same) ∙ of_eight e))

pub writer_named : Why → WriteError
writer_named why = by 7 (two IntegerTooLarge) why (Common (named why))

pub writer_named_numbered : (e : WriteError) → writer_named (writer_numbered e) ≡ e
unfolding writer_named
writer_named_numbered (Common e) =
    let why = numbered e in
    ap (λ (b : Bool). cond b (two IntegerTooLarge why) (Common (named why))) (no_other 7 refl e) ∙ ap Common (named_numbered e)
writer_named_numbered (IntegerTooLarge o v) = refl

pub writer_numbered_injective : (e f : WriteError) → writer_numbered e ≡ writer_numbered f → e ≡ f
writer_numbered_injective e f p = sym (writer_named_numbered e) ∙ ap writer_named p ∙ writer_named_numbered f
