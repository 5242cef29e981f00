-- The keeper's answers in the paper's terms: the numbers that document 02 (W8) gives its refusals, and a frame's own.
-- Assumes nothing: these are definitions.
use Rattle.std.specs.Prelude.{Result}
use Rattle.base.specs.declared.part.Span.{Span}
use Rattle.base.specs.Answer.{Part, said_by}
use Rattle.base.specs.Error as frame
use Rattle.base.specs.Said.{Why, Said}
use Rattle.keeper.specs.declared.refusal.Refusal.{Refusal}
use Rattle.keeper.specs.declared.refusal.Refusal.TheVariants as refusal
use Rattle.keeper.specs.Keeper.{handle_repeated, counts_differ, already_open, all_open, not_open}

abbrev pub numbered : Refusal → Why
numbered (refusal.Frame e) = frame.numbered e
numbered refusal.HandleRepeated = handle_repeated
numbered refusal.CountsDiffer = counts_differ
numbered refusal.AlreadyOpen = already_open
numbered refusal.AllOpen = all_open
numbered refusal.NotOpen = not_open

-- that it was done; and where a nonce stands
abbrev pub said_done : Result (Unit {0}) Refusal → Said (Unit {0})
said_done = said_by (λ u. u) numbered

abbrev pub said_asked : Result Span Refusal → Said Part
said_asked = said_by (λ p. record { from = p.from; to = p.to }) numbered
