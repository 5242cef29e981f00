-- The last place of all that are open is the last one below the end. The measure is that end.
use mathlib.Core.Path.{◌≡◌}
use Prim.Native.Nat.{◌≤◌}
use Rattle.keeper.specs.State.{place_below, place_of}
use Rattle.keeper.proofs.state.place.Given as goal

abbrev pub invariant-loop-to : goal.invariant-loop-to
invariant-loop-to l = (l.to ≤ 64) × (place_of l.s l.handle ≡ place_below l.s l.handle l.to)

abbrev pub decreases-loop-to : goal.decreases-loop-to
decreases-loop-to l = l.to
