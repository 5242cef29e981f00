-- `frame::walk::walk` meets its contract: the invariant of its loop has the count of the entries up to a place, from where the walk goes on.
-- Assumes nothing.
use mathlib.Core.Path.{◌∙◌}
use native.Mathlib.Omega.{arith}
use Rattle.base.proofs.Answers.{passed_on}
use Rattle.frame.specs.Answer.{handle_width}
use Rattle.frame.proofs.Walks.{none_counted, all_counted, one_too_many, entry_refused, one_counted}
use Rattle.frame.proofs.walk.walk.Goals as goal

pub loop-init : goal.loop-init
loop-init c = let a = c.args in none_counted a.limit (handle_width a.command) a.s.now a.place

pub returns-then-s-at : goal.returns-then-s-at
returns-then-s-at c = all_counted c.loop.invariant c.if-s-at.true

pub returns-in_err-at : goal.returns-in_err-at
returns-in_err-at c =
    passed_on _ _ _ c.from_residual.ensures.1 ∙ entry_refused c.loop.invariant (omega arith) c.loop-test.true c.in_err-at.ensures

pub loop-preserved : goal.loop-preserved
loop-preserved c = one_counted c.loop.invariant (omega arith) c.loop-test.true c.in_ok-at.ensures

pub returns-then-at-s : goal.returns-then-at-s
returns-then-at-s c =
    let most = c.loop.auto.counter-end in
    one_too_many c.loop.invariant c.if-at-s.true (omega arith)

pub returns : goal.returns
returns c = all_counted c.loop.invariant (omega arith)
