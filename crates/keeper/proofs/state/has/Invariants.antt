-- None of the places passed has the handle, unless one was seen.
use mathlib.Core.Path.{◌≡◌}
use mathlib.Core.Bool.{false}
use Prim.Native.Nat.{ℕ, ◌+◌, ◌≤◌}
use Rattle.keeper.specs.State.{place_below}
use Rattle.keeper.proofs.state.has.Given as goal

abbrev pub invariant-loop-i : goal.invariant-loop-i
invariant-loop-i l =
    (l.i ≤ 8) × (l.any ≡ false → (k : ℕ) → k ≤ l.i → place_below l.s l.handle (l.from + k) ≡ place_below l.s l.handle l.from)
