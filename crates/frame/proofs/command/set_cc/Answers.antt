-- `frame::command::set_cc` meets its contract: a code without a row is refused and changes nothing, and another is written as a field.
-- Assumes nothing.
use mathlib.Core.Path.{ap, ◌∙◌}
use Rattle.base.specs.Said.{refuses}
use Rattle.base.specs.Answer.{said}
use Rattle.base.proofs.Answers.{learnt}
use Rattle.frame.specs.Header.{set_cc}
use Rattle.frame.proofs.Headers.{short_header, refused_set, set_by, cc_set, cc_not_set}
use Rattle.frame.proofs.command.set_cc.Goals as goal

pub returns-then-s-lt-HEADER_SIZE-clause-answer : goal.returns-then-s-lt-HEADER_SIZE-clause-answer
unfolding set_cc
returns-then-s-lt-HEADER_SIZE-clause-answer c =
    let s = c.args.s.now in
    (refused_set s (ap refuses c.short.ensures ∙ short_header s _ c.if-s-lt-HEADER_SIZE.true)).0

pub returns-then-s-lt-HEADER_SIZE-clause-bytes : goal.returns-then-s-lt-HEADER_SIZE-clause-bytes
unfolding set_cc
returns-then-s-lt-HEADER_SIZE-clause-bytes c =
    let s = c.args.s.now in
    (refused_set s (ap refuses c.short.ensures ∙ short_header s _ c.if-s-lt-HEADER_SIZE.true)).1

pub returns-in_default-clause-answer : goal.returns-in_default-clause-answer
returns-in_default-clause-answer c =
    let s = c.args.s.now in
    let by = refused_set s (cc_not_set s _ c.if-s-lt-HEADER_SIZE.false _ (learnt said c.in_default.is c.find.ensures)) in
    ap refuses c.refused.ensures ∙ by.0

pub returns-in_default-clause-bytes : goal.returns-in_default-clause-bytes
returns-in_default-clause-bytes c =
    let s = c.args.s.now in
    let by = refused_set s (cc_not_set s _ c.if-s-lt-HEADER_SIZE.false _ (learnt said c.in_default.is c.find.ensures)) in
    by.1

pub returns-clause-answer : goal.returns-clause-answer
returns-clause-answer c =
    let s = c.args.s.now in
    let by = set_by s (cc_set s _ c.if-s-lt-HEADER_SIZE.false _ c.in-Ok.ensures) in
    c.write_u32.ensures.answer ∙ by.0

pub returns-clause-bytes : goal.returns-clause-bytes
returns-clause-bytes c =
    let s = c.args.s.now in
    let by = set_by s (cc_set s _ c.if-s-lt-HEADER_SIZE.false _ c.in-Ok.ensures) in
    c.write_u32.ensures.bytes ∙ by.1
