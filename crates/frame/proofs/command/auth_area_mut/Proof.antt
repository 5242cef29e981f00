-- `frame::command::auth_area_mut` meets its contract: it hands out the part of the range read (base, `HandingBy.antt`, at the rules).
-- Assumes nothing.
use Prim.Native.Nat.{ℕ}
use mathlib.Core.List.{List}
use Rattle.base.specs.Answer.{Part}
use Rattle.base.specs.Said.{Said}
use Rattle.frame.specs.Command.{auth_range}
use Rattle.frame.specs.Rules.{book_of}
use Rattle.frame.specs.declared.rules.Rules.{Rules}
use Rattle.base.proofs.HandingBy.{hands_out_by}
use Rattle.frame.proofs.RulesByValue.{rules as by_rules}
use Rattle.base.proofs.part.part_mut.Met as part_mut
use Rattle.frame.proofs.command.auth_area_range.Symbol.{name as #range}
use Rattle.frame.proofs.command.auth_area_range.Met as ranges
use Rattle.frame.specs.contracts.command.auth_area_mut.Key.{name as #this}
use Rattle.frame.proofs.command.auth_area_mut.Statement.{statement}
use Rattle.frame.proofs.command.auth_area_mut.Code as code

-- the range, of all the bytes
abbrev range : Rules → List ℕ → Said Part
range rules s = auth_range (book_of rules) s

pub auth_area_mut_spec : {M : Type 1} → statement M
auth_area_mut_spec 𝓤 𝓛 𝓜 𝓡 wired =
    hands_out_by by_rules #range range 𝓛 𝓜 𝓡 #this (code.unfolded 𝓤 𝓛.H 𝓜 𝓡 wired)
    (ranges.met 𝓤 𝓛 𝓜 𝓡 (code.calls-frame::command::auth_area_range 𝓡.env wired))
    (part_mut.met 𝓤 𝓛 𝓜 𝓡 (code.calls-base::part::part_mut 𝓡.env wired))
