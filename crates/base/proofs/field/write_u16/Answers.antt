-- `base::field::write_u16` meets its contract: the number's bytes are written.
-- Assumes nothing.
use mathlib.Core.Path.{◌∙◌, ap}
use Rattle.base.specs.Said.{after}
use Rattle.base.proofs.Bytes.{two_big_endian}
use Rattle.base.proofs.Widths.{write_number}
use Rattle.base.proofs.field.write_u16.Goals as goal

pub returns-clause-bytes : goal.returns-clause-bytes
returns-clause-bytes c =
    let a = c.args in
    c.write_bytes.ensures.bytes ∙ ap (after a.s.now) (write_number 2 a.place a.s.now a.n _ (c.to_be_bytes.ensures ∙ two_big_endian a.n))
