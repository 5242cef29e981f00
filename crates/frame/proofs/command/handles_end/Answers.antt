-- `frame::command::handles_end` meets its contract: a code that has a row is known, and one that has none is not.
-- Assumes nothing.
use mathlib.Core.Path.{ap, sym, ◌∙◌}
use Rattle.base.specs.declared.error.Area.TheVariants.{Header}
use Rattle.base.specs.Said.{refuses, given, within}
use Rattle.base.specs.Answer.{said}
use Rattle.frame.specs.Header.{read_cc}
use Rattle.frame.specs.Command.{command_handles}
use Rattle.table.specs.Table.{row_for}
use Rattle.frame.specs.Rules.{book_of}
use Rattle.table.proofs.Rows.{row_given, row_known}
use Rattle.table.proofs.Table.{is_table}
use Rattle.base.proofs.Answers.{learnt}
use Rattle.base.proofs.Checks.{goes_on, stops}
use Rattle.frame.proofs.Headers.{short_header, cc_read, cc_refused}
use Rattle.frame.proofs.command.handles_end.Goals as goal

pub returns-then-s-lt-HEADER_SIZE : goal.returns-then-s-lt-HEADER_SIZE
unfolding command_handles read_cc
returns-then-s-lt-HEADER_SIZE c =
    let s = c.args.s.now in
    let book = book_of c.args.rules in
    ap refuses c.short.ensures ∙ stops (read_cc book s) _ (short_header s _ c.if-s-lt-HEADER_SIZE.true)

pub returns : goal.returns
unfolding command_handles
returns c =
    let s = c.args.s.now in
    let rules = c.args.rules in
    let book = book_of rules in
    let ten = c.if-s-lt-HEADER_SIZE.false in
    let is = c.code_of.ensures in
    let found = c.in-Ok.ensures in
    c.handle_area.ensures
    ∙ goes_on (within Header (row_for book.rows _)) _ (ap (within Header) found)
    ∙ goes_on (read_cc book s) _ (cc_read s _ book is ten (row_known (is_table rules.revision) _ (sym found)))

pub returns-in_default : goal.returns-in_default
unfolding command_handles
returns-in_default c =
    let s = c.args.s.now in
    let book = book_of c.args.rules in
    let ten = c.if-s-lt-HEADER_SIZE.false in
    let is = c.code_of.ensures in
    let none = learnt said c.in_default.is c.find.ensures in
    ap refuses c.refused.ensures
    ∙ stops (read_cc book s) _ (cc_refused s _ book is ten (sym (row_given _ book.rows) ∙ sym (ap given none)))
