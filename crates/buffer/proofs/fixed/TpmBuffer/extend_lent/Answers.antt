-- `buffer::fixed::TpmBuffer::extend_lent` meets its contract: what `grow` allowed is written behind the bytes held.
-- Assumes nothing.
use mathlib.Core.Path.{◌∙◌}
use Rattle.base.proofs.Widths.{written}
use Rattle.buffer.specs.Fixed.{buffer}
use Rattle.buffer.specs.Capacities.{most}
use Rattle.buffer.proofs.Rooms.{extend_laid}
use Rattle.buffer.proofs.fixed.TpmBuffer.extend_lent.Goals as goal

pub returns-clause-data_after : goal.returns-clause-data_after
returns-clause-data_after g c =
    let a = c.args in
    let d = a.«data».now in
    written a.size a.given.now d c.in_ok-write_bytes.ensures.answer c.write_bytes.ensures.bytes
    ∙ extend_laid (most g.row.N) a.given.now (buffer a.size d) _ (rw c.most.ensures at c.in_ok-grown.ensures)
