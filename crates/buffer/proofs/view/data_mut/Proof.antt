-- `buffer::view::data_mut` meets its contract: it hands out the part of the range read (base, `Handing.antt`).
-- Assumes nothing.
use Prim.Native.Nat.{ℕ}
use mathlib.Core.List.{List}
use Rattle.base.specs.Answer.{Part}
use Rattle.base.specs.Said.{Said}
use Rattle.buffer.specs.View.{data_range}
use Rattle.base.proofs.Handing.{hands_out}
use Rattle.base.proofs.part.part_mut.Met as part_mut
use Rattle.buffer.proofs.view.data_range.Symbol.{name as #range}
use Rattle.buffer.proofs.view.data_range.Met as ranges
use Rattle.buffer.specs.contracts.view.data_mut.Key.{name as #this}
use Rattle.buffer.proofs.view.data_mut.Statement.{statement}
use Rattle.buffer.proofs.view.data_mut.Code as code

-- the range, of all the bytes
abbrev range : List ℕ → Said Part
range s = data_range s

pub data_mut_spec : {M : Type 1} → statement M
data_mut_spec 𝓤 𝓛 𝓜 𝓡 wired =
    hands_out #range range 𝓛 𝓜 𝓡 #this (code.unfolded 𝓤 𝓛.H 𝓜 𝓡 wired)
    (ranges.met 𝓤 𝓛 𝓜 𝓡 (code.calls-buffer::view::data_range 𝓡.env wired))
    (part_mut.met 𝓤 𝓛 𝓜 𝓡 (code.calls-base::part::part_mut 𝓡.env wired))
