-- `frame::response::body_mut` meets its contract: it hands out the part of the range read (base, `Handing.antt`).
-- Assumes nothing.
use Prim.Native.Nat.{ℕ}
use mathlib.Core.List.{List}
use Rattle.base.specs.Answer.{Part}
use Rattle.base.specs.Said.{Said}
use Rattle.frame.specs.Response.{body_range}
use Rattle.base.proofs.Handing.{hands_out}
use Rattle.base.proofs.part.part_mut.Met as part_mut
use Rattle.frame.proofs.response.body_range.Symbol.{name as #range}
use Rattle.frame.proofs.response.body_range.Met as ranges
use Rattle.frame.specs.contracts.response.body_mut.Key.{name as #this}
use Rattle.frame.proofs.response.body_mut.Statement.{statement}
use Rattle.frame.proofs.response.body_mut.Code as code

-- the range, of all the bytes
abbrev range : List ℕ → Said Part
range s = body_range s

pub body_mut_spec : {M : Type 1} → statement M
body_mut_spec 𝓤 𝓛 𝓜 𝓡 wired =
    hands_out #range range 𝓛 𝓜 𝓡 #this (code.unfolded 𝓤 𝓛.H 𝓜 𝓡 wired)
    (ranges.met 𝓤 𝓛 𝓜 𝓡 (code.calls-frame::response::body_range 𝓡.env wired))
    (part_mut.met 𝓤 𝓛 𝓜 𝓡 (code.calls-base::part::part_mut 𝓡.env wired))
