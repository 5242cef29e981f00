-- `frame::walk::entry_at` meets its contract: the handle that is there is read byte by byte, and what stands behind it by `signed_at`.
-- Assumes nothing.
use Prim.Native.Nat.{◌+◌, ◌≤◌}
use mathlib.Core.Path.{◌∙◌, ap}
use native.Mathlib.Omega.{arith}
use lib.ListN.{length}
use Rattle.base.specs.declared.error.Area.TheVariants.{Authorization}
use Rattle.base.specs.Said.{done}
use Rattle.frame.proofs.Walks.{four_bytes, handle_there, handle_read, no_handle}
use Rattle.frame.proofs.walk.entry_at.Goals as goal

-- the handle stands within the bytes
pub bounds-s-place : goal.bounds-s-place
bounds-s-place c = let there : c.args.place + 4 ≤ length c.args.s.now = handle_there _ 4 _ _ (omega arith) (rw c.if-command.true at c.requires) in omega arith

pub overflow_add-place : goal.overflow_add-place
overflow_add-place c = let there : c.args.place + 4 ≤ length c.args.s.now = handle_there _ 4 _ _ (omega arith) (rw c.if-command.true at c.requires) in omega arith

pub bounds-s-place-then-command : goal.bounds-s-place-then-command
bounds-s-place-then-command c = let there : c.args.place + 4 ≤ length c.args.s.now = handle_there _ 4 _ _ (omega arith) (rw c.if-command.true at c.requires) in omega arith

pub overflow_add-place-then-command : goal.overflow_add-place-then-command
overflow_add-place-then-command c = let there : c.args.place + 4 ≤ length c.args.s.now = handle_there _ 4 _ _ (omega arith) (rw c.if-command.true at c.requires) in omega arith

pub bounds-s-place-then-command-2 : goal.bounds-s-place-then-command-2
bounds-s-place-then-command-2 c = let there : c.args.place + 4 ≤ length c.args.s.now = handle_there _ 4 _ _ (omega arith) (rw c.if-command.true at c.requires) in omega arith

pub overflow_add-place-then-command-2 : goal.overflow_add-place-then-command-2
overflow_add-place-then-command-2 c = let there : c.args.place + 4 ≤ length c.args.s.now = handle_there _ 4 _ _ (omega arith) (rw c.if-command.true at c.requires) in omega arith

pub bounds-s-place-then-command-3 : goal.bounds-s-place-then-command-3
bounds-s-place-then-command-3 c = let there : c.args.place + 4 ≤ length c.args.s.now = handle_there _ 4 _ _ (omega arith) (rw c.if-command.true at c.requires) in omega arith

pub overflow_add-place-then-command-3 : goal.overflow_add-place-then-command-3
overflow_add-place-then-command-3 c = let there : c.args.place + 4 ≤ length c.args.s.now = handle_there _ 4 _ _ (omega arith) (rw c.if-command.true at c.requires) in omega arith

pub signed_at-requires : goal.signed_at-requires
signed_at-requires c =
    ap done (handle_read _ 4 _ _ (four_bytes Authorization c.args.s.now c.args.place (handle_there _ 4 _ _ (omega arith) (rw c.if-command.true at c.requires)) c.be32-handle.ensures)) ∙ rw c.if-command.true at c.requires

pub signed_at-requires-else-command : goal.signed_at-requires-else-command
signed_at-requires-else-command c =
    ap done (no_handle _ _ _) ∙ rw c.if-command.false at c.requires

pub returns-then-command : goal.returns-then-command
returns-then-command c =
    rw c.if-command.true (c.signed_at.ensures ∙ handle_read _ 4 _ _ (four_bytes Authorization c.args.s.now c.args.place (handle_there _ 4 _ _ (omega arith) (rw c.if-command.true at c.requires)) c.be32-handle.ensures))

pub returns-else-command : goal.returns-else-command
returns-else-command c = rw c.if-command.false (c.signed_at-else-command.ensures ∙ no_handle _ _ _)
