-- `buffer::fixed::TpmBuffer::marshal_lent` meets its contract: the lent room alone decides once the size was judged, and two copies wrote the TPM2B.
-- Assumes nothing.
use mathlib.Core.Path.{◌≡◌, refl, ◌∙◌, ap}
use mathlib.Core.List.{List}
use Prim.Native.Nat.{ℕ, ◌+◌, ◌-◌}
use native.Mathlib.Omega.{arith}
use lib.ListN.{length, take}
use Rattle.std.proofs.Common.{rules}
use Rattle.base.specs.Field.{laid}
use Rattle.base.specs.Tpm2b.{tpm2b}
use Rattle.base.proofs.Bytes.{two_big_endian}
use Rattle.base.proofs.Widths.{written}
use Rattle.buffer.proofs.Rooms.{judged_fits, length_held, length_wire, emit_no_room, emitted_gives, wire_over}
use Rattle.buffer.proofs.fixed.TpmBuffer.marshal_lent.Goals as goal

pub returns-then-lent-needed : goal.returns-then-lent-needed
returns-then-lent-needed g c =
    let a = c.args in
    let d = a.«data».now in
    let room : length d ≡ g.row.N = search rules in
    let fits = judged_fits g.row.N a.size c.in_ok-held.ensures in
    let long = length_wire a.size d (omega arith) in
    let refused = emit_no_room g.row.N a.size (tpm2b (take a.size d)) a.lent.now fits.1 (omega arith) in
    record { result_value = rw (fits.0, ← long, ← refused) refl; lent_after = rw (← refused) refl }

pub returns : goal.returns
returns g c =
    let a = c.args in
    let d = a.«data».now in
    let t : List ℕ = take a.size d in
    let room : length d ≡ g.row.N = search rules in
    let fits = judged_fits g.row.N a.size c.in_ok-held.ensures in
    let long = length_wire a.size d (omega arith) in
    let done = emitted_gives g.row.N a.size (tpm2b t) a.lent.now fits.1 (omega arith) in
    let size = written 0 _ a.lent.now c.in_ok-write_bytes.ensures.answer c.write_bytes.ensures.bytes in
    let held = written 2 _ _ c.in_ok-write_bytes-2.ensures.answer c.write_bytes-2.ensures.bytes in
    let big = c.to_be_bytes.ensures ∙ two_big_endian a.size in
    record {
      result_value = rw (fits.0, done) refl;
      lent_after =
          rw done
          (held
          ∙ (λ i. laid 2 (take (fits.0 i) d) (size i))
          ∙ ap (λ (u : List ℕ). laid 2 t (laid 0 u a.lent.now)) big
          ∙ wire_over a.size t a.lent.now (length_held a.size d (omega arith)));
    }
