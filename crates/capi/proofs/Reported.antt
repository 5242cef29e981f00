-- From what a callee said to what is reported to C, and where the area of a refusal stands.
-- Assumes nothing.
use mathlib.Core.Path.{◌≡◌, ◌∙◌, ap, subst}
use mathlib.Core.List.{List}
use Prim.Native.Nat.{ℕ}
use native.Mathlib.Omega.{arith}
use lib.ListN.{length, get_or}
use lib.Seq.{sets, length-sets, get_or-set_same}
use Rattle.base.specs.Error.{area_number}
use Rattle.base.specs.Said.{Why, Said, refuses}
use Rattle.capi.specs.Out.{fields, reported_over, Reports}

-- what was reported of an answer is reported of what the answer says
pub as_said : {A : Type 0} {of : A → List ℕ} {x y : Said A} {old later : List ℕ} {r : ℕ} → x ≡ y → Reports of x old later r → Reports of y old later r
as_said {of = of} {old = old} {later = later} {r = r} e p = subst (λ (t : Said _). Reports of t old later r) e p

-- whatever is refused, its area stands at place 7 (document 02, W2)
pub area_told : {A : Type 0} {of : A → List ℕ} {said : Said A} {old later : List ℕ} {r : ℕ} {why : Why} → Reports of said old later r → said ≡ refuses why
    → length old ≡ 8 → get_or later 7 0 ≡ area_number why.area
area_told {A} {of} {said} {old} {later} {r} {why} told is eight =
    ap (λ (l : List ℕ). get_or l 7 0) (told.array ∙ ap (λ (t : Said A). reported_over of t old) is)
    ∙ get_or-set_same (sets old 4 (fields why)) 7 (area_number why.area) 0 (rw length-sets (omega arith))
