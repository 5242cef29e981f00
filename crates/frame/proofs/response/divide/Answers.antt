-- `frame::response::divide` meets its contract: it goes by what the areas and the walk said.
-- Assumes nothing.
use mathlib.Core.Path.{ap, ◌∙◌}
use Rattle.base.proofs.Answers.{passed_on}
use Rattle.frame.specs.Answer.{areas_of}
use Rattle.frame.specs.Response.{response_areas, read_response}
use Rattle.frame.specs.Rules.{book_of}
use Rattle.frame.proofs.Divisions.{response_entries, areas_refused, walk_refused, walk_done}
use Rattle.frame.proofs.response.divide.Goals as goal

pub returns-in_err-a : goal.returns-in_err-a
unfolding read_response
returns-in_err-a c =
    let s = c.args.s.now in
    let rules = c.args.rules in
    passed_on _ _ _ c.from_residual.ensures.1 ∙ ap areas_of (areas_refused (response_areas _ _ s) (response_entries (book_of rules).longest s) c.in_err-a.ensures)

pub returns-in_err-walk : goal.returns-in_err-walk
unfolding read_response
returns-in_err-walk c =
    let s = c.args.s.now in
    let rules = c.args.rules in
    passed_on _ _ _ c.from_residual-in_err-walk.ensures.1 ∙ ap areas_of (walk_refused (response_areas _ _ s) (response_entries (book_of rules).longest s) c.in_ok-a.ensures (rw c.longest.ensures at c.in_err-walk.ensures))

pub returns : goal.returns
unfolding read_response
returns c =
    let s = c.args.s.now in
    let rules = c.args.rules in
    walk_done (response_areas _ _ s) (response_entries (book_of rules).longest s) c.in_ok-a.ensures (rw c.longest.ensures at c.in_ok-walk.ensures)
