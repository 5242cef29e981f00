-- `keeper::state::shift` meets its contract: the nonce comes through an array of its own.
-- Assumes nothing.
use mathlib.Core.Path.{◌≡◌, refl, sym, ◌∙◌, ap}
use native.Mathlib.Omega.{arith}
use lib.ListN.{length, replicate}
use Rattle.keeper.specs.State.{put}
use Rattle.keeper.proofs.Places.{length_nonce, nonce_through}
use Rattle.std.proofs.Common.{rules}
use Rattle.keeper.proofs.state.shift.Goals as goal

pub slice_bounds-put-end : goal.slice_bounds-put-end
slice_bounds-put-end c =
    let a = c.args in
    let all : length a.s.now ≡ 4424 = search rules in
    let nonce = nonce_through a.s.now all a.from (omega arith) c.size_at-size.ensures (replicate 64 0) refl c.write_bytes.ensures.bytes in
    c.size_at-size.ensures ∙ sym (ap length nonce ∙ length_nonce a.s.now all a.from (omega arith))

pub returns-clause-bytes : goal.returns-clause-bytes
returns-clause-bytes c =
    let a = c.args in
    let all : length a.s.now ≡ 4424 = search rules in
    let nonce = nonce_through a.s.now all a.from (omega arith) c.size_at-size.ensures (replicate 64 0) refl c.write_bytes.ensures.bytes in
    c.put.ensures ∙ (λ i. put a.to (c.handle_at-handle.ensures i) (nonce i) a.s.now)
