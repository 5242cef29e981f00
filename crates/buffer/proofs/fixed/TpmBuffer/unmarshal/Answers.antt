-- `buffer::fixed::TpmBuffer::unmarshal` meets its contract: a size that was read is two bytes.
-- Assumes nothing.
use native.Mathlib.Omega.{arith}
use Rattle.base.proofs.Bytes.{are_bytes}
use Rattle.buffer.proofs.Views.{prefix_size}
use Rattle.buffer.proofs.fixed.TpmBuffer.unmarshal.Goals as goal

pub overflow_cast-size : goal.overflow_cast-size
overflow_cast-size g c =
    let small = prefix_size _ _ (are_bytes _ (λ i. (c.type_inv.s i).fits)) c.in_ok-n.ensures in
    omega arith
