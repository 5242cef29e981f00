-- Which area a refusal of a success response's areas names.
-- Assumes nothing.
use mathlib.Core.Path.{◌≡◌, refl, sym, ◌∙◌, ap}
use mathlib.Core.List.{List}
use Prim.Native.Nat.{ℕ, ◌≤◌}
use lib.Dec.{eqb}
use lib.ListN.{length}
use Rattle.base.specs.declared.error.Area.TheVariants.{Parameters}
use Rattle.base.specs.Said.{Said, gives, then, Only}
use Rattle.base.proofs.Only.{by_step_to}
use Rattle.table.specs.Table.{row_for}
use Rattle.table.specs.declared.row.Row.{Row}
use Rattle.frame.specs.Areas.{handle_area}
use Rattle.frame.specs.Header.{tag_of, sessions}
use Rattle.frame.specs.Response.{success_areas}
use Rattle.frame.specs.Rules.{Rulebook}
use Rattle.frame.specs.Where.{OfResponse}
use Rattle.frame.proofs.Divisions.{handles_fit}
use Rattle.frame.proofs.WhereSteps.{only_handle_area, only_sized}

module _ (book : Rulebook) (s : List ℕ) where
  module _ (cc : ℕ) where
    -- success, in the row of the command
    pub only_success : (row : Row) → row_for book.rows cc ≡ gives row → 10 ≤ length s → Only (OfResponse book cc s) (success_areas row.responses s)
    unfolding success_areas
    only_success row found ten =
        by_step_to (only_handle_area refl refl row.responses) λ h e.
        let fits = handles_fit row.responses s ten (sym e) in
        only_sized Parameters refl (length s) h fits.1
        (λ offset low high. record {
          handles = h;
          handles_end = ap (λ (x : Said Row). then x (λ r. handle_area r.responses s)) found ∙ e;
          behind_handles = low;
          inside = high;
        })
        (eqb (tag_of s) sessions)
