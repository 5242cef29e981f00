use Prim.Native.Nat.{◌-◌}
use Rattle.frame.specs.Answer.{handle_width}
use Rattle.frame.specs.Rules.{unlimited}
use Rattle.frame.proofs.Walks.{Found}
use Rattle.frame.proofs.walk.entries.Given as goal

abbrev pub invariant-loop-at : goal.invariant-loop-at
invariant-loop-at l = Found unlimited (handle_width l.command) l.s l.place l.found l.at

abbrev pub decreases-loop-at : goal.decreases-loop-at
decreases-loop-at l = 3 - l.found.count
