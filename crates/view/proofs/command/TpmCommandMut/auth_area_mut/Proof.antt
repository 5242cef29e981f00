-- `view::command::TpmCommandMut::auth_area_mut` meets its contract: the struct is given up for the part that `frame::command::auth_area_mut` hands out (GivingBy.antt).
-- Assumes nothing.
use Rattle.frame.specs.Command.{auth_range}
use Rattle.frame.specs.Rules.{book_of}
use Rattle.frame.proofs.command.auth_area_mut.Symbol.{name as #callee}
use Rattle.frame.proofs.command.auth_area_mut.Met as callee
use Rattle.view.proofs.HoldersMut.{command}
use Rattle.view.proofs.GivingBy.{gives_up_by}
use Rattle.view.specs.contracts.command.TpmCommandMut.auth_area_mut.Key.{name as #this}
use Rattle.view.proofs.command.TpmCommandMut.auth_area_mut.Statement.{statement}
use Rattle.view.proofs.command.TpmCommandMut.auth_area_mut.Code as code

pub auth_area_mut_spec : {M : Type 1} → statement M
auth_area_mut_spec 𝓤 𝓛 𝓜 𝓡 wired =
    gives_up_by command #callee (λ rules. auth_range (book_of rules)) 𝓛 𝓜 𝓡 #this (code.unfolded 𝓤 𝓛.H 𝓜 𝓡 wired)
    (callee.met 𝓤 𝓛 𝓜 𝓡 (code.calls-frame::command::auth_area_mut 𝓡.env wired))
