-- `frame::walk::entries` meets its contract: the invariant of its loop has the entries read up to a place, where those follow that are left.
-- The measure is how many of three are left.
-- Assumes nothing.
use mathlib.Core.Path.{sym}
use Prim.Native.Nat.{◌≤◌}
use native.Mathlib.Omega.{arith}
use lib.ListN.{length}
use Rattle.frame.specs.Answer.{handle_width}
use Rattle.frame.specs.Rules.{unlimited}
use Rattle.frame.specs.Walk.{behind}
use Rattle.frame.proofs.EntryLaws.{entry_inside}
use Rattle.frame.proofs.Walks.{none_found, found_few, all_found, one_there, one_found, with_first, with_second, with_third}
use Rattle.frame.proofs.walk.entries.Goals as goal

pub loop-at-init : goal.loop-at-init
loop-at-init c =
    rw c.new-found.ensures (none_found unlimited (handle_width c.args.command) c.args.s.now c.args.place c.requires)

pub entry_at-e-requires : goal.entry_at-e-requires
entry_at-e-requires c = one_there c.loop-at.invariant c.loop-at-test.true

pub overflow_add-at : goal.overflow_add-at
overflow_add-at c =
    let inside : behind c.entry_at-e.result ≤ length c.args.s.now = (entry_inside _ _ _ _ (sym c.entry_at-e.ensures)).1.1 in
    let short = c.well_formed.1.0.0 in
    omega arith

pub loop-at-smaller-then-found-eq0 : goal.loop-at-smaller-then-found-eq0
loop-at-smaller-then-found-eq0 c = omega arith

pub loop-at-preserved-then-found-eq0 : goal.loop-at-preserved-then-found-eq0
loop-at-preserved-then-found-eq0 c =
    one_found c.loop-at.invariant c.loop-at-test.true c.entry_at-e.ensures (with_first c.if-found-eq0.true)

pub loop-at-smaller-then-found-eq1 : goal.loop-at-smaller-then-found-eq1
loop-at-smaller-then-found-eq1 c = omega arith

pub loop-at-preserved-then-found-eq1 : goal.loop-at-preserved-then-found-eq1
loop-at-preserved-then-found-eq1 c =
    one_found c.loop-at.invariant c.loop-at-test.true c.entry_at-e.ensures (with_second c.if-found-eq1.true)

pub loop-at-smaller : goal.loop-at-smaller
loop-at-smaller c =
    let few = found_few c.loop-at.invariant c.loop-at-test.true in
    omega arith

pub loop-at-preserved : goal.loop-at-preserved
loop-at-preserved c =
    let few = found_few c.loop-at.invariant c.loop-at-test.true in
    one_found c.loop-at.invariant c.loop-at-test.true c.entry_at-e.ensures (with_third c.if-found-eq0.false c.if-found-eq1.false few)

pub returns : goal.returns
returns c = all_found c.loop-at.invariant c.loop-at-test.false
