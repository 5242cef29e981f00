-- `view::response::TpmResponseMut::cast_mut` meets its contract: the struct is made of the part that `frame::response::cast_mut` hands out (Making.antt).
-- Assumes nothing.
use Rattle.frame.specs.Answer.{whole}
use Rattle.frame.specs.Response.{cast_response}
use Rattle.frame.specs.Rules.{book_of}
use Rattle.frame.proofs.response.cast_mut.Symbol.{name as #callee}
use Rattle.frame.proofs.response.cast_mut.Met as callee
use Rattle.view.proofs.HoldersMut.{response}
use Rattle.view.proofs.Making.{makes_view}
use Rattle.view.specs.contracts.response.TpmResponseMut.cast_mut.Key.{name as #this}
use Rattle.view.proofs.response.TpmResponseMut.cast_mut.Statement.{statement}
use Rattle.view.proofs.response.TpmResponseMut.cast_mut.Code as code

pub cast_mut_spec : {M : Type 1} → statement M
cast_mut_spec 𝓤 𝓛 𝓜 𝓡 wired =
    makes_view response #callee (λ rules s. whole s (cast_response (book_of rules) s)) 𝓛 𝓜 𝓡 #this (code.unfolded 𝓤 𝓛.H 𝓜 𝓡 wired)
    (callee.met 𝓤 𝓛 𝓜 𝓡 (code.calls-frame::response::cast_mut 𝓡.env wired))
