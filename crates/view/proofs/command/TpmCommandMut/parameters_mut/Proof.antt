-- `view::command::TpmCommandMut::parameters_mut` meets its contract: the struct is given up for the part that `frame::command::parameters_mut` hands out (GivingBy.antt).
-- Assumes nothing.
use Rattle.frame.specs.Command.{parameters_range}
use Rattle.frame.specs.Rules.{book_of}
use Rattle.frame.proofs.command.parameters_mut.Symbol.{name as #callee}
use Rattle.frame.proofs.command.parameters_mut.Met as callee
use Rattle.view.proofs.HoldersMut.{command}
use Rattle.view.proofs.GivingBy.{gives_up_by}
use Rattle.view.specs.contracts.command.TpmCommandMut.parameters_mut.Key.{name as #this}
use Rattle.view.proofs.command.TpmCommandMut.parameters_mut.Statement.{statement}
use Rattle.view.proofs.command.TpmCommandMut.parameters_mut.Code as code

pub parameters_mut_spec : {M : Type 1} → statement M
parameters_mut_spec 𝓤 𝓛 𝓜 𝓡 wired =
    gives_up_by command #callee (λ rules. parameters_range (book_of rules)) 𝓛 𝓜 𝓡 #this (code.unfolded 𝓤 𝓛.H 𝓜 𝓡 wired)
    (callee.met 𝓤 𝓛 𝓜 𝓡 (code.calls-frame::command::parameters_mut 𝓡.env wired))
