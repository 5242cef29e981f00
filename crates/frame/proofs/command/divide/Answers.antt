-- `frame::command::divide` meets its contract: it goes by what the areas and the walk said.
-- Assumes nothing.
use mathlib.Core.Path.{ap, sym, ◌∙◌}
use lib.Seq.{length-take-le}
use Rattle.base.proofs.Answers.{passed_on}
use Rattle.frame.specs.Answer.{areas_of}
use Rattle.frame.specs.Command.{cast_command, read_command}
use Rattle.frame.specs.Rules.{book_of}
use Rattle.frame.proofs.Divisions.{command_entries, areas_refused, walk_refused, walk_done, cast_fits}
use Rattle.frame.proofs.command.divide.Goals as goal

pub slice_bounds-walk-end : goal.slice_bounds-walk-end
slice_bounds-walk-end c =
    sym (length-take-le _ _ (cast_fits _ c.args.s.now c.in_ok-a.ensures).4)

pub returns-in_err-a : goal.returns-in_err-a
unfolding read_command
returns-in_err-a c =
    let s = c.args.s.now in
    let rules = c.args.rules in
    passed_on _ _ _ c.from_residual.ensures.1 ∙ ap areas_of (areas_refused (cast_command _ s) (command_entries (book_of rules).longest s) c.in_err-a.ensures)

pub returns-in_err-walk : goal.returns-in_err-walk
unfolding read_command
returns-in_err-walk c =
    let s = c.args.s.now in
    let rules = c.args.rules in
    passed_on _ _ _ c.from_residual-in_err-walk.ensures.1 ∙ ap areas_of (walk_refused (cast_command _ s) (command_entries (book_of rules).longest s) c.in_ok-a.ensures (rw c.longest.ensures at c.in_err-walk.ensures))

pub returns : goal.returns
unfolding read_command
returns c =
    let s = c.args.s.now in
    let rules = c.args.rules in
    walk_done (cast_command _ s) (command_entries (book_of rules).longest s) c.in_ok-a.ensures (rw c.longest.ensures at c.in_ok-walk.ensures)
