-- `frame::walk::signed_at` meets its contract: what is there is read byte by byte.
-- Assumes nothing.
use Prim.Native.Nat.{◌+◌, ◌≤◌}
use native.Mathlib.Omega.{arith}
use lib.ListN.{length}
use Rattle.frame.proofs.Walks.{nonce_there, hmac_there, signed_there}
use Rattle.frame.proofs.walk.signed_at.Goals as goal

-- the size of the nonce stands within the bytes, and so does all up to the size of the HMAC
pub bounds-s-place : goal.bounds-s-place
bounds-s-place c = let there : c.args.place + 2 ≤ length c.args.s.now = nonce_there _ _ _ _ c.requires in omega arith

pub overflow_add-place : goal.overflow_add-place
overflow_add-place c = let there : c.args.place + 2 ≤ length c.args.s.now = nonce_there _ _ _ _ c.requires in omega arith

pub bounds-s-place-2 : goal.bounds-s-place-2
bounds-s-place-2 c = let there : c.args.place + 2 ≤ length c.args.s.now = nonce_there _ _ _ _ c.requires in omega arith

pub overflow_add-at : goal.overflow_add-at
overflow_add-at c = let there : c.args.place + 2 + c.be16-nonce.result + 3 ≤ length c.args.s.now = hmac_there _ _ _ _ c.requires c.be16-nonce.ensures in omega arith

pub overflow_add-at-2 : goal.overflow_add-at-2
overflow_add-at-2 c = let there : c.args.place + 2 + c.be16-nonce.result + 3 ≤ length c.args.s.now = hmac_there _ _ _ _ c.requires c.be16-nonce.ensures in omega arith

pub overflow_add-result : goal.overflow_add-result
overflow_add-result c = let there : c.args.place + 2 + c.be16-nonce.result + 3 ≤ length c.args.s.now = hmac_there _ _ _ _ c.requires c.be16-nonce.ensures in omega arith

pub bounds-s-at : goal.bounds-s-at
bounds-s-at c = let there : c.args.place + 2 + c.be16-nonce.result + 3 ≤ length c.args.s.now = hmac_there _ _ _ _ c.requires c.be16-nonce.ensures in omega arith

pub overflow_add-result-2 : goal.overflow_add-result-2
overflow_add-result-2 c = let there : c.args.place + 2 + c.be16-nonce.result + 3 ≤ length c.args.s.now = hmac_there _ _ _ _ c.requires c.be16-nonce.ensures in omega arith

pub overflow_add-at-3 : goal.overflow_add-at-3
overflow_add-at-3 c = let there : c.args.place + 2 + c.be16-nonce.result + 3 ≤ length c.args.s.now = hmac_there _ _ _ _ c.requires c.be16-nonce.ensures in omega arith

pub bounds-s-at-2 : goal.bounds-s-at-2
bounds-s-at-2 c = let there : c.args.place + 2 + c.be16-nonce.result + 3 ≤ length c.args.s.now = hmac_there _ _ _ _ c.requires c.be16-nonce.ensures in omega arith

pub overflow_add-at-4 : goal.overflow_add-at-4
overflow_add-at-4 c = let there : c.args.place + 2 + c.be16-nonce.result + 3 ≤ length c.args.s.now = hmac_there _ _ _ _ c.requires c.be16-nonce.ensures in omega arith

pub bounds-s-at-3 : goal.bounds-s-at-3
bounds-s-at-3 c = let there : c.args.place + 2 + c.be16-nonce.result + 3 ≤ length c.args.s.now = hmac_there _ _ _ _ c.requires c.be16-nonce.ensures in omega arith

pub returns : goal.returns
returns c = signed_there _ _ c.args.s.now c.args.place c.requires c.be16-nonce.ensures c.be16.ensures
