-- `keeper::session::close` meets its contract: the cases of `closed`.
-- Assumes nothing.
use mathlib.Core.Path.{◌≡◌, ◌∙◌}
use Prim.Native.Nat.{◌-◌, ◌<◌}
use native.Mathlib.Omega.{arith}
use lib.ListN.{length, set}
use Rattle.keeper.specs.Keeper.{closed}
use Rattle.keeper.specs.State.{count_of, held, place_of, shifted, closed_in, handle_at}
use Rattle.keeper.proofs.Calls.{refused, accepted, closed_not, closed_given, held_closed}
use Rattle.std.proofs.Common.{rules}
use Rattle.keeper.proofs.session.close.Goals as goal

pub returns-in_default : goal.returns-in_default
unfolding closed_in
returns-in_default c =
    let s = c.args.keeper.now in
    let each = refused s (closed c.args.handle (held s)) _ (closed_not s c.args.handle c.in_default.ensures) in
    record { answer = each.0; sessions = each.1.0; bytes = each.1.1 }

pub returns : goal.returns
unfolding closed_in
returns c =
    let a = c.args in
    let s = a.keeper.now in
    let n = c.count-last.ensures in
    let found = c.in-Some.ensures in
    let some : 0 < place_of s a.handle = omega arith in
    let p : c.in-Some.at ≡ place_of s a.handle - 1 = omega arith in
    let all : length s ≡ 4424 = search rules in
    let fits : handle_at s (count_of s - 1) < 4294967296 = rw (← n) c.shift.ensures.fits in
    let later : set c.shift.new.s 0 (c.count-last.result - 1) ≡ set (shifted (count_of s - 1) (place_of s a.handle - 1) s) 0 (count_of s - 1) =
    (λ k. set ((c.shift.ensures.bytes ∙ (λ j. shifted (n j - 1) (p j) s)) k) 0 (n k - 1)) in
    let each =
    accepted s (closed a.handle (held s)) (set (shifted (count_of s - 1) (place_of s a.handle - 1) s) 0 (count_of s - 1))
    (closed_given s a.handle found) (held_closed s all a.handle some fits) in
    record { answer = each.0; sessions = rw later each.1.0; bytes = rw later each.1.1 }
