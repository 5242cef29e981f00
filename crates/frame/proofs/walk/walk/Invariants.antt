use Rattle.frame.specs.Answer.{handle_width}
use Rattle.frame.proofs.Walks.{Counted}
use Rattle.frame.proofs.walk.walk.Given as goal

abbrev pub invariant-loop : goal.invariant-loop
invariant-loop l = Counted l.limit (handle_width l.command) l.s l.place l.counter l.at
