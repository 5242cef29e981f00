-- A row that is missing is refused by 4(0,code) alone, in no area, whatever the rows: so never by 7 (document 02, W7).
-- Assumes nothing.
use mathlib.Core.Path.{◌≡◌, refl, sym, ◌∙◌, ap}
use mathlib.Core.List.{List, [], ◌∷◌}
use Prim.Native.Nat.{ℕ}
use lib.Dec.{eqb}
use Rattle.base.specs.declared.error.Area.{Area}
use Rattle.base.specs.Said.{Why, in_area, no_area, number_of, refuses, Only, Never, within}
use Rattle.base.proofs.Only.{by_cond, by_gives, by_refuses, by_wider}
use Rattle.table.specs.declared.row.Row.{Row}
use Rattle.table.specs.Table.{row_for}

abbrev pub Four : ℕ → Why → Type 0
Four code why = why ≡ no_area (4 ∷ 0 ∷ code ∷ [])

pub only_row : (rows : List Row) (code : ℕ) → Only (Four code) (row_for rows code)
only_row [] code = by_refuses _ refl
only_row (r ∷ rows) code = by_cond (eqb code r.code) by_gives (only_row rows code)

-- so in an area it is refused there
pub row_refused : (area : Area) (rows : List Row) (code : ℕ) {why : Why} → refuses why ≡ row_for rows code
    → refuses (in_area area (4 ∷ 0 ∷ code ∷ [])) ≡ within area (row_for rows code)
row_refused area rows code {why} e = ap (within area) (ap refuses (sym ((only_row rows code).each why (sym e))) ∙ e)

pub never_row : (rows : List Row) (code : ℕ) → Never 7 (row_for rows code)
never_row rows code = by_wider (λ why four. ap (λ (w : Why). eqb (number_of w) 7) four) (only_row rows code)
