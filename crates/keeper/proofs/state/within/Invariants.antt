-- The last place below the end is the last one below i.
use mathlib.Core.Path.{◌≡◌}
use Prim.Native.Nat.{◌≤◌}
use Rattle.keeper.specs.State.{place_below}
use Rattle.keeper.proofs.state.within.Given as goal

abbrev pub invariant-loop-i : goal.invariant-loop-i
invariant-loop-i l = (l.from ≤ l.i) × (l.i ≤ l.to) × (place_below l.s l.handle l.to ≡ place_below l.s l.handle l.i)
