-- `frame::walk::tpm2b` meets its contract: each return is the case of the definition to which its tests lead.
-- Assumes nothing.
use mathlib.Core.Path.{◌∙◌}
use native.Mathlib.Omega.{arith}
use Rattle.base.specs.declared.error.Area.TheVariants.{Authorization}
use Rattle.base.proofs.Answers.{passed_on}
use Rattle.frame.proofs.Walks.{field_there_lem, goes_by, tpm2b_refused, tpm2b_long, tpm2b_short, tpm2b_read}
use Rattle.frame.proofs.walk.tpm2b.Goals as goal

pub returns-in_err-size-clause-result_value : goal.returns-in_err-size-clause-result_value
returns-in_err-size-clause-result_value c = (goes_by _ _ _ (passed_on _ _ _ c.from_residual.ensures.1 ∙ tpm2b_refused _ _ _ c.in_err-size.ensures)).0

pub returns-in_err-size-clause-within : goal.returns-in_err-size-clause-within
returns-in_err-size-clause-within c = (goes_by _ _ _ (passed_on _ _ _ c.from_residual.ensures.1 ∙ tpm2b_refused _ _ _ c.in_err-size.ensures)).1

pub returns-then-limit-size-clause-result_value : goal.returns-then-limit-size-clause-result_value
returns-then-limit-size-clause-result_value c = (goes_by _ _ _ (tpm2b_long _ _ _ c.in_ok-size.ensures c.if-limit-size.true)).0

pub returns-then-limit-size-clause-within : goal.returns-then-limit-size-clause-within
returns-then-limit-size-clause-within c = (goes_by _ _ _ (tpm2b_long _ _ _ c.in_ok-size.ensures c.if-limit-size.true)).1

pub overflow_sub-left : goal.overflow_sub-left
overflow_sub-left c =
    let a = c.args in
    let there = field_there_lem Authorization 2 a.place a.s.now (omega arith) c.in_ok-size.ensures in
    omega arith

pub returns-then-left-needed-clause-result_value : goal.returns-then-left-needed-clause-result_value
returns-then-left-needed-clause-result_value c = (goes_by _ _ _ (tpm2b_short _ _ _ c.in_ok-size.ensures c.if-limit-size.false c.if-left-needed.true)).0

pub returns-then-left-needed-clause-within : goal.returns-then-left-needed-clause-within
returns-then-left-needed-clause-within c = (goes_by _ _ _ (tpm2b_short _ _ _ c.in_ok-size.ensures c.if-limit-size.false c.if-left-needed.true)).1

pub returns-clause-result_value : goal.returns-clause-result_value
returns-clause-result_value c = (goes_by _ _ _ (tpm2b_read _ _ _ c.in_ok-size.ensures c.if-limit-size.false c.if-left-needed.false)).0

pub returns-clause-within : goal.returns-clause-within
returns-clause-within c = (goes_by _ _ _ (tpm2b_read _ _ _ c.in_ok-size.ensures c.if-limit-size.false c.if-left-needed.false)).1
