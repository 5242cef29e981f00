-- `frame::walk::behind_signed` meets its contract: each return is the case of the definition to which its tests lead, and a TPM2B that was
-- read stands within the bytes, so no place behind it is too large.
-- Assumes nothing.
use mathlib.Core.Path.{sym, ap, ◌∙◌}
use Prim.Native.Nat.{◌+◌, ◌≤◌}
use native.Mathlib.Omega.{arith}
use lib.ListN.{length}
use Rattle.base.proofs.Answers.{passed_on}
use Rattle.frame.specs.Answer.{behind_of}
use Rattle.frame.proofs.EntryLaws.{tpm2b_fits}
use Rattle.frame.proofs.Walks.{nonce_refused, attributes_refused, hmac_refused, signed_read}
use Rattle.frame.proofs.walk.behind_signed.Goals as goal

-- the nonce that was read stands within the bytes
pub overflow_add-at : goal.overflow_add-at
overflow_add-at c =
    let inside : c.args.place + 2 + c.in_ok-nonce.nonce ≤ length c.args.s.now =
    (tpm2b_fits _ _ _ (sym c.in_ok-nonce.ensures.result_value)).1 in
    omega arith

pub overflow_add-at-2 : goal.overflow_add-at-2
overflow_add-at-2 c =
    let inside : c.args.place + 2 + c.in_ok-nonce.nonce ≤ length c.args.s.now =
    (tpm2b_fits _ _ _ (sym c.in_ok-nonce.ensures.result_value)).1 in
    omega arith

pub returns-then-s-at : goal.returns-then-s-at
returns-then-s-at c = ap behind_of (attributes_refused _ 0 _ _ c.in_ok-nonce.ensures.result_value c.if-s-at.true)

pub returns-in_err-nonce : goal.returns-in_err-nonce
returns-in_err-nonce c = passed_on _ _ _ c.from_residual.ensures.1 ∙ ap behind_of (nonce_refused _ 0 _ _ c.in_err-nonce.ensures.result_value)

pub returns-in_err-hmac : goal.returns-in_err-hmac
returns-in_err-hmac c =
    passed_on _ _ _ c.from_residual-in_err-hmac.ensures.1 ∙ ap behind_of (hmac_refused _ 0 _ _ c.in_ok-nonce.ensures.result_value c.if-s-at.false c.in_err-hmac.ensures.result_value)

pub returns : goal.returns
returns c =
    ap behind_of (signed_read _ 0 _ _ c.in_ok-nonce.ensures.result_value c.if-s-at.false c.in_ok-hmac.ensures.result_value)
