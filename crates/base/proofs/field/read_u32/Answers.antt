-- `base::field::read_u32` meets its contract: the number of the bytes that were read is that of the field.
-- Assumes nothing.
use mathlib.Core.Path.{◌∙◌, ap}
use mir.Syntax.{w32}
use Rattle.std.specs.Int.{from_be_bytes}
use Rattle.base.proofs.Bytes.{four_number}
use Rattle.base.proofs.Widths.{read_number}
use Rattle.base.proofs.field.read_u32.Goals as goal

pub returns : goal.returns
returns c =
    let a = c.args in
    read_number 4 a.place a.s.now a.area c.in_ok-read_array.field-0 _
    (λ e. c.from_be_bytes.ensures ∙ ap (from_be_bytes w32) e ∙ four_number _ _ _ _) c.in_ok-read_array.ensures
