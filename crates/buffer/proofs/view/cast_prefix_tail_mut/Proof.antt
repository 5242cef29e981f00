-- `buffer::view::cast_prefix_tail_mut` meets its contract: it hands out the part of the range read (base, `HandingBy.antt`, at a number).
-- Assumes nothing.
use Prim.Native.Nat.{ℕ}
use mathlib.Core.List.{List}
use lib.ListN.{length}
use Rattle.base.specs.Answer.{Part}
use Rattle.base.specs.Parts.{behind, up_to}
use Rattle.base.specs.Said.{Said}
use Rattle.buffer.specs.View.{prefix}
use Rattle.base.proofs.HandingBy.{hands_out_by}
use Rattle.base.proofs.ByValue.{number}
use Rattle.base.proofs.part.part_mut.Met as part_mut
use Rattle.buffer.proofs.view.prefix_tail_range.Symbol.{name as #range}
use Rattle.buffer.proofs.view.prefix_tail_range.Met as ranges
use Rattle.buffer.specs.contracts.view.cast_prefix_tail_mut.Key.{name as #this}
use Rattle.buffer.proofs.view.cast_prefix_tail_mut.Statement.{statement}
use Rattle.buffer.proofs.view.cast_prefix_tail_mut.Code as code

-- the range, of all the bytes
abbrev range : ℕ → List ℕ → Said Part
range capacity s = behind (up_to (prefix capacity s)) (length s)

pub cast_prefix_tail_mut_spec : {M : Type 1} → statement M
cast_prefix_tail_mut_spec 𝓤 𝓛 𝓜 𝓡 wired =
    hands_out_by number #range range 𝓛 𝓜 𝓡 #this (code.unfolded 𝓤 𝓛.H 𝓜 𝓡 wired)
    (ranges.met 𝓤 𝓛 𝓜 𝓡 (code.calls-buffer::view::prefix_tail_range 𝓡.env wired))
    (part_mut.met 𝓤 𝓛 𝓜 𝓡 (code.calls-base::part::part_mut 𝓡.env wired))
