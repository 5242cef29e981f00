-- `view::command::TpmCommandMut::handles_mut` meets its contract: the struct is given up for the part that `frame::command::handles_mut` hands out (GivingBy.antt).
-- Assumes nothing.
use Rattle.frame.specs.Command.{handles_range}
use Rattle.frame.specs.Rules.{book_of}
use Rattle.frame.proofs.command.handles_mut.Symbol.{name as #callee}
use Rattle.frame.proofs.command.handles_mut.Met as callee
use Rattle.view.proofs.HoldersMut.{command}
use Rattle.view.proofs.GivingBy.{gives_up_by}
use Rattle.view.specs.contracts.command.TpmCommandMut.handles_mut.Key.{name as #this}
use Rattle.view.proofs.command.TpmCommandMut.handles_mut.Statement.{statement}
use Rattle.view.proofs.command.TpmCommandMut.handles_mut.Code as code

pub handles_mut_spec : {M : Type 1} → statement M
handles_mut_spec 𝓤 𝓛 𝓜 𝓡 wired =
    gives_up_by command #callee (λ rules. handles_range (book_of rules)) 𝓛 𝓜 𝓡 #this (code.unfolded 𝓤 𝓛.H 𝓜 𝓡 wired)
    (callee.met 𝓤 𝓛 𝓜 𝓡 (code.calls-frame::command::handles_mut 𝓡.env wired))
