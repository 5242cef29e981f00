-- Each public function of marshal leaves a single answer and a single later state of what was lent (base, specs/Single.antt).
-- Assumes nothing.
use mathlib.Core.Path.{sym, ◌∙◌}
use Rattle.base.specs.Single.{Single}
use Rattle.base.proofs.Answers.{said_total_injective}
use Rattle.marshal.proofs.command.write.Kinds as command-write-kinds
use Rattle.marshal.proofs.command.write.Reads as command-write-reads
use Rattle.marshal.proofs.response.write.Kinds as response-write-kinds
use Rattle.marshal.proofs.response.write.Reads as response-write-reads

command_write : Single 4 command-write-kinds.ps command-write-kinds.r command-write-reads.Post
command_write κs a x y v w p q = (said_total_injective x y (p.0 ∙ sym q.0), λ i. (tt, (tt, (tt, (tt, (tt, (tt, (tt, ((p.1 ∙ sym q.1) i, tt)))))))))

response_write : Single 4 response-write-kinds.ps response-write-kinds.r response-write-reads.Post
response_write κs a x y v w p q = (said_total_injective x y (p.0 ∙ sym q.0), λ i. (tt, (tt, (tt, (tt, (tt, (tt, (tt, ((p.1 ∙ sym q.1) i, tt)))))))))
