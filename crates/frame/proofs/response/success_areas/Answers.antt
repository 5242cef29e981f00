-- `frame::response::success_areas` meets its contract: it goes by what `handle_area` said, and by the tag.
-- Assumes nothing.
use mathlib.Core.Path.{ap, ◌∙◌}
use Prim.Native.Nat.{ℕ}
use lib.Dec.{eqb}
use lib.ListN.{length}
use Rattle.base.specs.declared.error.Area.TheVariants.{Parameters}
use Rattle.frame.specs.Areas.{handle_area, sized_area}
use Rattle.frame.specs.Header.{sessions}
use Rattle.frame.specs.Response.{success_areas}
use Rattle.base.proofs.Answers.{passed_on}
use Rattle.base.proofs.Checks.{goes_on, stops}
use Rattle.frame.proofs.response.success_areas.Goals as goal

pub returns-in_err-handles : goal.returns-in_err-handles
unfolding success_areas
returns-in_err-handles c = passed_on _ _ _ c.from_residual.ensures.1 ∙ stops (handle_area _ c.args.s.now) _ c.in_err-handles.ensures

pub returns : goal.returns
unfolding success_areas
returns c =
    let s = c.args.s.now in
    c.sized_area.ensures
    ∙ ap (λ (tag : ℕ). sized_area Parameters (eqb tag sessions) (length s) s c.in_ok-handles.handles) c.tag_of-tag.ensures
    ∙ goes_on (handle_area _ s) _ c.in_ok-handles.ensures
