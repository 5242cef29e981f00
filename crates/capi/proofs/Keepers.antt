-- For whoever keeps nonces in C: each call on a keeper is an event of its history (crate keeper, specs/History.antt). So the theorem of the keeper, over
-- every run of calls from a new one, is of these calls.
-- Assumes nothing.
use mathlib.Core.Path.{◌≡◌, refl, ◌∙◌}
use borrow.Fn.Kinds.{Dens, res_t, ended_of}
use contract.Lifetimes.{Lfts}
use denote.Triple.Clauses.{Lasts, at_exit}
use lib.ListN.{replicate}
use Rattle.base.specs.Said.{Said, gives, refuses, done}
use Rattle.table.specs.declared.revision.Revision.{Revision}
use Rattle.keeper.specs.History.{opening, answering, closing, silently, says, leaves}
use Rattle.keeper.specs.Keeper.{opened, answered, closed}
use Rattle.keeper.specs.State.{held}
use Rattle.capi.specs.Out.{returned}
use Rattle.capi.specs.Rules.{revision_numbered}
use Rattle.capi.proofs.nonce.skein_keeper_new.Kinds as new-kinds
use Rattle.capi.proofs.nonce.skein_keeper_new.Reads as new-reads
use Rattle.capi.proofs.nonce.skein_keeper_open.Kinds as open-kinds
use Rattle.capi.proofs.nonce.skein_keeper_open.Reads as open-reads
use Rattle.capi.proofs.nonce.skein_keeper_answer.Kinds as answer-kinds
use Rattle.capi.proofs.nonce.skein_keeper_answer.Reads as answer-reads
use Rattle.capi.proofs.nonce.skein_keeper_close.Kinds as close-kinds
use Rattle.capi.proofs.nonce.skein_keeper_close.Reads as close-reads

-- the number that is returned
number_said : {A : Type 0} (said : Said A) → returned (done said) ≡ returned (silently said)
number_said (gives a) = refl
number_said (refuses why) = refl

pub new_starts : (κs : Lfts 2) (a : Dens κs new-kinds.ps) (x : (res_t new-kinds.r κs).Denot) (v : Lasts (ended_of 2 new-kinds.ps new-kinds.r) κs a)
    → new-reads.Post κs a x (at_exit (ended_of 2 new-kinds.ps new-kinds.r) κs a v) → v.0 ≡ replicate 4424 0
new_starts κs a x v met = met.1

pub open_steps : (κs : Lfts 3) (a : Dens κs open-kinds.ps) (x : (res_t open-kinds.r κs).Denot) (v : Lasts (ended_of 3 open-kinds.ps open-kinds.r) κs a)
    → open-reads.Post κs a x (at_exit (ended_of 3 open-kinds.ps open-kinds.r) κs a v)
    → (x ≡ returned (says (opening a.0 a.1.0.now) (held a.1.1.0.now))) × (v.1.1.0 ≡ leaves (opening a.0 a.1.0.now) a.1.1.0.now)
open_steps κs a x v met = (met.0.status ∙ number_said (opened a.0 a.1.0.now (held a.1.1.0.now)), met.1)

pub answer_steps : (κs : Lfts 4) (a : Dens κs answer-kinds.ps) (x : (res_t answer-kinds.r κs).Denot) (v : Lasts (ended_of 4 answer-kinds.ps answer-kinds.r) κs a)
    → answer-reads.Post κs a x (at_exit (ended_of 4 answer-kinds.ps answer-kinds.r) κs a v)
    → (table : Revision) → revision_numbered a.0 ≡ gives table
    → (x ≡ returned (says (answering table a.1.0.now a.1.1.0.now) (held a.1.1.1.0.now)))
    × (v.1.1.1.0 ≡ leaves (answering table a.1.0.now a.1.1.0.now) a.1.1.1.0.now)
answer_steps κs a x v met table named =
    let told = rw named at met in
    (told.0.status ∙ number_said (answered table a.1.0.now a.1.1.0.now (held a.1.1.1.0.now)), told.1)

pub close_steps : (κs : Lfts 2) (a : Dens κs close-kinds.ps) (x : (res_t close-kinds.r κs).Denot) (v : Lasts (ended_of 2 close-kinds.ps close-kinds.r) κs a)
    → close-reads.Post κs a x (at_exit (ended_of 2 close-kinds.ps close-kinds.r) κs a v)
    → (x ≡ returned (says (closing a.0) (held a.1.0.now))) × (v.1.0 ≡ leaves (closing a.0) a.1.0.now)
close_steps κs a x v met = (met.0.status ∙ number_said (closed a.0 (held a.1.0.now)), met.1)
