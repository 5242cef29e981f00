-- `view::response::TpmResponseMut::body_mut` meets its contract: the struct is given up for the part that `frame::response::body_mut` hands out (Giving.antt).
-- Assumes nothing.
use Rattle.frame.specs.Response.{body_range}
use Rattle.frame.proofs.response.body_mut.Symbol.{name as #callee}
use Rattle.frame.proofs.response.body_mut.Met as callee
use Rattle.view.proofs.HoldersMut.{response}
use Rattle.view.proofs.Giving.{gives_up}
use Rattle.view.specs.contracts.response.TpmResponseMut.body_mut.Key.{name as #this}
use Rattle.view.proofs.response.TpmResponseMut.body_mut.Statement.{statement}
use Rattle.view.proofs.response.TpmResponseMut.body_mut.Code as code

pub body_mut_spec : {M : Type 1} → statement M
body_mut_spec 𝓤 𝓛 𝓜 𝓡 wired =
    gives_up response #callee body_range 𝓛 𝓜 𝓡 #this (code.unfolded 𝓤 𝓛.H 𝓜 𝓡 wired)
    (callee.met 𝓤 𝓛 𝓜 𝓡 (code.calls-frame::response::body_mut 𝓡.env wired))
