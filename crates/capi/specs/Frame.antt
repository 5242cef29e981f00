-- What C is given of the table and of frames, as numbers.
-- Assumes nothing: these are definitions.
use Rattle.std.specs.Prelude.{ℕ, List, [], ◌∷◌}
use Rattle.base.specs.Answer.{Part}
use Rattle.base.specs.Parts.{span}
use Rattle.base.specs.declared.part.Span.{Span}
use Rattle.table.specs.declared.row.Row.{Row}
use Rattle.frame.specs.declared.command.Command.{Command}
use Rattle.frame.specs.declared.response.Response.{Response}
use Rattle.frame.specs.Walk.{by_value}

-- of a row, its handles and its response handles
abbrev pub handle_counts : Row → List ℕ
handle_counts r = r.handles ∷ r.responses ∷ []

-- a part and what is behind it, of so many bytes in all
abbrev pub part_and_tail : ℕ → Part → List ℕ
part_and_tail all p = p.from ∷ p.to ∷ p.to ∷ all ∷ []

-- what stands for the parts of a frame that was refused
abbrev pub nowhere : Span
nowhere = span 0 0

abbrev pub no_command : Command
no_command =
    record { tag = record { 0 = 0 }; cc = record { 0 = 0 }; handles = nowhere; auth = nowhere; parameters = nowhere; entries = by_value [] }

abbrev pub no_response : Response
no_response =
    record { tag = record { 0 = 0 }; rc = record { 0 = 0 }; handles = nowhere; auth = nowhere; parameters = nowhere; entries = by_value [] }
