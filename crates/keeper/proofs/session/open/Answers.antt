-- `keeper::session::open` meets its contract: the cases of `opened`.
-- Assumes nothing.
use mathlib.Core.Path.{◌≡◌, sym, ◌∙◌, ap}
use mathlib.Core.Bool.{false}
use Prim.Native.Nat.{◌+◌, ◌<◌}
use native.Mathlib.Omega.{arith}
use lib.ListN.{length, set}
use Rattle.keeper.specs.Keeper.{is_open, opened}
use Rattle.keeper.specs.State.{count_of, held, put, opened_in}
use Rattle.keeper.proofs.Calls.{refused, accepted, open_where, opened_already, opened_long, opened_full, opened_given, held_opened}
use Rattle.std.proofs.Common.{rules}
use Rattle.keeper.proofs.session.open.Goals as goal
use Rattle.keeper.proofs.session.open.Goals.{Else-is_some}

pub returns-then-is_some : goal.returns-then-is_some
unfolding opened_in
returns-then-is_some c =
    let a = c.args in
    let s = a.keeper.now in
    let is = open_where s a.handle c.place.result c.place.ensures ∙ sym c.is_some.ensures ∙ c.if-is_some.true in
    let each = refused s (opened a.handle a.nonce.now (held s)) _ (opened_already s a.handle a.nonce.now is) in
    record { answer = each.0; sessions = each.1.0; bytes = each.1.1 }

-- the handle is not open
free : (c : Else-is_some) → is_open c.args.handle (held c.args.keeper.now) ≡ false
free c = open_where c.args.keeper.now c.args.handle c.place.result c.place.ensures ∙ sym c.is_some.ensures ∙ c.if-is_some.false

pub returns-then-nonce-gt-LONGEST : goal.returns-then-nonce-gt-LONGEST
unfolding opened_in
returns-then-nonce-gt-LONGEST c =
    let a = c.args in
    let s = a.keeper.now in
    let each = refused s (opened a.handle a.nonce.now (held s)) _
    (opened_long s a.handle a.nonce.now (free (goal.at.returns-then-nonce-gt-LONGEST c).Else-is_some) c.if-nonce-gt-LONGEST.true) in
    record { answer = each.0; sessions = each.1.0; bytes = each.1.1 }

pub returns-then-n-ge-PLACES : goal.returns-then-n-ge-PLACES
unfolding opened_in
returns-then-n-ge-PLACES c =
    let a = c.args in
    let s = a.keeper.now in
    let each = refused s (opened a.handle a.nonce.now (held s)) _
    (opened_full s a.handle a.nonce.now (free (goal.at.returns-then-n-ge-PLACES c).Else-is_some) c.if-nonce-gt-LONGEST.false c.count-n.ensures c.if-n-ge-PLACES.true) in
    record { answer = each.0; sessions = each.1.0; bytes = each.1.1 }

pub returns : goal.returns
unfolding opened_in
returns c =
    let a = c.args in
    let s = a.keeper.now in
    let n = c.count-n.ensures in
    let all : length s ≡ 4424 = search rules in
    let fits : a.handle < 4294967296 = search rules in
    let later : set c.put.new.s 0 (c.count-n.result + 1) ≡ set (put (count_of s) a.handle a.nonce.now s) 0 (count_of s + 1) =
    (λ k. set ((c.put.ensures ∙ ap (λ i. put i a.handle a.nonce.now s) n) k) 0 (n k + 1)) in
    let each =
    accepted s (opened a.handle a.nonce.now (held s)) (set (put (count_of s) a.handle a.nonce.now s) 0 (count_of s + 1))
    (opened_given s a.handle a.nonce.now (free (goal.at.returns c).Else-is_some) c.if-nonce-gt-LONGEST.false n c.if-n-ge-PLACES.false)
    (held_opened s all a.handle fits a.nonce.now c.if-nonce-gt-LONGEST.false (omega arith)) in
    record { answer = each.0; sessions = rw later each.1.0; bytes = rw later each.1.1 }
