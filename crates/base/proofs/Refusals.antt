-- An area, the paper's number and its values name one refusal each: the numbering is injective, of the eight that all calls share. Eight.antt has that 7 is
-- none of the eight, and the same of a writer's.
-- Assumes nothing.
use mathlib.Core.Path.{◌≡◌, refl, sym, ◌∙◌, ap}
use Prim.Native.Nat.{ℕ}
use lib.Dec.{eqb}
use lib.ListN.{get_or}
use Rattle.base.specs.declared.error.Area.{Area}
use Rattle.base.specs.declared.error.Area.TheVariants as area
use Rattle.base.specs.declared.error.TpmError.{TpmError}
use Rattle.base.specs.declared.error.TpmError.TheVariants.{UnexpectedEnd, TrailingData, InvalidTag, InvalidCc, InvalidRc, TooManyItems, TooManyBytes, BufferOverflow}
use Rattle.base.specs.Error.{area_number, numbered}
use Rattle.base.specs.Said.{Why, number_of, offset_of}
use mathlib.Core.Bool.{cond}

-- the refusal that an area, a number and its values name
abbrev pub three : (Area → ℕ → ℕ → ℕ → TpmError) → Why → TpmError
three made why = made why.area (offset_of why) (get_or why.numbers 2 0) (get_or why.numbers 3 0)

abbrev pub two : {E : Type 0} → (ℕ → ℕ → E) → Why → E
two made why = made (offset_of why) (get_or why.numbers 2 0)

-- the one of a number, or else another
abbrev pub by : {E : Type 0} → ℕ → (Why → E) → Why → E → E
by k made why other = cond (eqb (number_of why) k) (made why) other

pub named : Why → TpmError
named why =
    by 1 (three UnexpectedEnd) why
    (by 2 (two (TrailingData why.area)) why
    (by 3 (two (InvalidTag why.area)) why
    (by 4 (two (InvalidCc why.area)) why
    (by 5 (two (InvalidRc why.area)) why
    (by 6 (three TooManyItems) why
    (by 8 (three TooManyBytes) why
    (three BufferOverflow why)))))))

pub named_numbered : (e : TpmError) → named (numbered e) ≡ e
unfolding named
named_numbered (UnexpectedEnd area o n a) = refl
named_numbered (TrailingData area o a) = refl
named_numbered (InvalidTag area o v) = refl
named_numbered (InvalidCc area o v) = refl
named_numbered (InvalidRc area o v) = refl
named_numbered (TooManyItems area o l a) = refl
named_numbered (TooManyBytes area o l a) = refl
named_numbered (BufferOverflow area o n a) = refl

pub numbered_injective : (e f : TpmError) → numbered e ≡ numbered f → e ≡ f
numbered_injective e f p = sym (named_numbered e) ∙ ap named p ∙ named_numbered f

-- the number of an area names it
area_named : ℕ → Area
area_named n =
    cond (eqb n 1) area.Header
    (cond (eqb n 2) area.Handles
    (cond (eqb n 3) area.Authorization
    (cond (eqb n 4) area.Parameters
    area.None)))

area_named_numbered : (a : Area) → area_named (area_number a) ≡ a
unfolding area_named
area_named_numbered area.None = refl
area_named_numbered area.Header = refl
area_named_numbered area.Handles = refl
area_named_numbered area.Authorization = refl
area_named_numbered area.Parameters = refl

pub area_number_injective : (a b : Area) → area_number a ≡ area_number b → a ≡ b
area_number_injective a b p = sym (area_named_numbered a) ∙ ap area_named p ∙ area_named_numbered b
