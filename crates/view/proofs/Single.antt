-- Each public function of view leaves a single answer (base, specs/Single.antt). No method has lent bytes of which it could leave a later
-- state: what a view that can be written through leaves is told by the tie in its promise.
-- Assumes nothing.
use mathlib.Core.Path.{◌≡◌, refl, sym, ◌∙◌, subst}
use seplogic.Ra.Ura.{Ura}
use base.Logic.{SProp, ent, sep, id⊢, snd∗}
use base.Fml.{Fml}
use contract.Lifetimes.{Lfts}
use contract.Monad.{Fun, fact}
use denote.Ref.{as_bor}
use denote.Triple.Clauses.{Clauses, Ended, Lasts, AtExit, at_exit}
use denote.Triple.Entry.{Args, Res}
use types.Logic.{Logic, sem}
use prog.Memory.{Memory}
use prog.Routine.{Routine}
use Rattle.base.specs.Parts.{LendsPart}
use Rattle.base.specs.Single.{SamePart, SingleBy}
use Rattle.base.proofs.Answers.{said_command_code_injective, said_injective, said_response_code_injective, said_tag_injective}
use Rattle.base.proofs.Parts.{same_part}
use Rattle.frame.specs.Answer.{whole}
use Rattle.frame.specs.Command.{auth_range, cast_command, handles_range, parameters_range}
use Rattle.frame.specs.Response.{body_range, cast_response}
use Rattle.frame.specs.Rules.{book_of}
use Rattle.view.specs.contracts.command.TpmCommand.cast as of-command-cast
use Rattle.view.specs.contracts.command.TpmCommand.tag as of-command-tag
use Rattle.view.specs.contracts.command.TpmCommand.size as of-command-size
use Rattle.view.specs.contracts.command.TpmCommand.cc as of-command-cc
use Rattle.view.specs.contracts.command.TpmCommand.len as of-command-len
use Rattle.view.specs.contracts.command.TpmCommand.is_empty as of-command-is-empty
use Rattle.view.specs.contracts.command.TpmCommand.handles as of-command-handles
use Rattle.view.specs.contracts.command.TpmCommand.auth_area as of-command-auth-area
use Rattle.view.specs.contracts.command.TpmCommand.parameters as of-command-parameters
use Rattle.view.specs.contracts.command.TpmCommand.validate as of-command-validate
use Rattle.view.specs.contracts.command.TpmCommandMut.cast_mut as of-command-cast-mut
use Rattle.view.specs.contracts.command.TpmCommandMut.handles_mut as of-command-handles-mut
use Rattle.view.specs.contracts.command.TpmCommandMut.auth_area_mut as of-command-auth-area-mut
use Rattle.view.specs.contracts.command.TpmCommandMut.parameters_mut as of-command-parameters-mut
use Rattle.view.specs.contracts.response.TpmResponse.cast as of-response-cast
use Rattle.view.specs.contracts.response.TpmResponse.tag as of-response-tag
use Rattle.view.specs.contracts.response.TpmResponse.size as of-response-size
use Rattle.view.specs.contracts.response.TpmResponse.rc as of-response-rc
use Rattle.view.specs.contracts.response.TpmResponse.len as of-response-len
use Rattle.view.specs.contracts.response.TpmResponse.is_empty as of-response-is-empty
use Rattle.view.specs.contracts.response.TpmResponse.body as of-response-body
use Rattle.view.specs.contracts.response.TpmResponse.validate as of-response-validate
use Rattle.view.specs.contracts.response.TpmResponseMut.cast_mut as of-response-cast-mut
use Rattle.view.specs.contracts.response.TpmResponseMut.body_mut as of-response-body-mut

-- ---- what a clause says alone, or behind the tie of a part that can be written to

module _ {T : Ended}
    {c : (M : Type 1) (𝓤 : Ura M) (𝓛 : Logic 𝓤) → (Memory → SProp 𝓤) → (Routine → Fun 𝓤) → Clauses 𝓤 T}
    {Same : (κs : Lfts T.signature.lifetimes) → Res T.signature κs → Res T.signature κs → Type 0}
    {Post : (κs : Lfts T.signature.lifetimes) → Args T.signature κs → Res T.signature κs → AtExit T κs → Type 0} where
  one_fact : ((M : Type 1) (𝓤 : Ura M) (𝓛 : Logic 𝓤) (mem : Memory → SProp 𝓤) (run : Routine → Fun 𝓤)
      (κs : Lfts T.signature.lifetimes) (a : Args T.signature κs) (g : (c M 𝓤 𝓛 mem run κs a).ghost) (r : Res T.signature κs) (s : AtExit T κs)
      → (c M 𝓤 𝓛 mem run κs a).ensures g r s ≡ fact 𝓤 (Post κs a r s))
      → ((κs : Lfts T.signature.lifetimes) (a : Args T.signature κs) (x y : Res T.signature κs) (v w : Lasts T κs a)
      → Post κs a x (at_exit T κs a v) → Post κs a y (at_exit T κs a w) → Same κs x y × (v ≡ w))
      → SingleBy T c Same
  one_fact are once = record {
    Post = Post;
    says = λ {M = M} {𝓤 = 𝓤} 𝓛 mem run κs a g r s.
        subst (λ (p : SProp 𝓤). ent 𝓤 ((c M 𝓤 𝓛 mem run κs a).ensures g r s) p) (are M 𝓤 𝓛 mem run κs a g r s) (id⊢ 𝓤 ((c M 𝓤 𝓛 mem run κs a).ensures g r s));
    once = once;
  }

  behind_tie : (tie : (κs : Lfts T.signature.lifetimes) → Args T.signature κs → Res T.signature κs → Fml)
      → ((M : Type 1) (𝓤 : Ura M) (𝓛 : Logic 𝓤) (mem : Memory → SProp 𝓤) (run : Routine → Fun 𝓤)
      (κs : Lfts T.signature.lifetimes) (a : Args T.signature κs) (g : (c M 𝓤 𝓛 mem run κs a).ghost) (r : Res T.signature κs) (s : AtExit T κs)
      → (c M 𝓤 𝓛 mem run κs a).ensures g r s ≡ sep 𝓤 (sem 𝓛 (tie κs a r)) (fact 𝓤 (Post κs a r s)))
      → ((κs : Lfts T.signature.lifetimes) (a : Args T.signature κs) (x y : Res T.signature κs) (v w : Lasts T κs a)
      → Post κs a x (at_exit T κs a v) → Post κs a y (at_exit T κs a w) → Same κs x y × (v ≡ w))
      → SingleBy T c Same
  behind_tie tie are once = record {
    Post = Post;
    says = λ {M = M} {𝓤 = 𝓤} 𝓛 mem run κs a g r s.
        subst (λ (said : SProp 𝓤). ent 𝓤 said (fact 𝓤 (Post κs a r s))) (sym (are M 𝓤 𝓛 mem run κs a g r s)) (snd∗ 𝓤 (sem 𝓛 (tie κs a r)) (fact 𝓤 (Post κs a r s)));
    once = once;
  }

-- ---- the functions

command_cast : SingleBy of-command-cast.ended (λ M 𝓤 𝓛. of-command-cast.clauses 𝓛) (λ κs x y. SamePart x.frame y.frame × (x.rules ≡ y.rules))
command_cast = one_fact (λ M 𝓤 𝓛 mem run κs a g r s. refl) (λ κs a x y v w p q. ((same_part x.frame y.frame p.0 q.0, p.1 ∙ sym q.1), refl))

command_tag : SingleBy of-command-tag.ended (λ M 𝓤 𝓛. of-command-tag.clauses 𝓛) (λ κs x y. x ≡ y)
command_tag = one_fact (λ M 𝓤 𝓛 mem run κs a g r s. refl) (λ κs a x y v w p q. (said_tag_injective x y (p ∙ sym q), refl))

command_size : SingleBy of-command-size.ended (λ M 𝓤 𝓛. of-command-size.clauses 𝓛) (λ κs x y. x ≡ y)
command_size = one_fact (λ M 𝓤 𝓛 mem run κs a g r s. refl) (λ κs a x y v w p q. (said_injective x y (p ∙ sym q), refl))

command_cc : SingleBy of-command-cc.ended (λ M 𝓤 𝓛. of-command-cc.clauses 𝓛) (λ κs x y. x ≡ y)
command_cc = one_fact (λ M 𝓤 𝓛 mem run κs a g r s. refl) (λ κs a x y v w p q. (said_command_code_injective x y (p ∙ sym q), refl))

command_len : SingleBy of-command-len.ended (λ M 𝓤 𝓛. of-command-len.clauses 𝓛) (λ κs x y. x ≡ y)
command_len = one_fact (λ M 𝓤 𝓛 mem run κs a g r s. refl) (λ κs a x y v w p q. (p ∙ sym q, refl))

command_is_empty : SingleBy of-command-is-empty.ended (λ M 𝓤 𝓛. of-command-is-empty.clauses 𝓛) (λ κs x y. x ≡ y)
command_is_empty = one_fact (λ M 𝓤 𝓛 mem run κs a g r s. refl) (λ κs a x y v w p q. (p ∙ sym q, refl))

command_handles_lem : SingleBy of-command-handles.ended (λ M 𝓤 𝓛. of-command-handles.clauses 𝓛) (λ κs x y. SamePart x y)
command_handles_lem = one_fact (λ M 𝓤 𝓛 mem run κs a g r s. refl) (λ κs a x y v w p q. (same_part x y p q, refl))

command_auth_area : SingleBy of-command-auth-area.ended (λ M 𝓤 𝓛. of-command-auth-area.clauses 𝓛) (λ κs x y. SamePart x y)
command_auth_area = one_fact (λ M 𝓤 𝓛 mem run κs a g r s. refl) (λ κs a x y v w p q. (same_part x y p q, refl))

command_parameters : SingleBy of-command-parameters.ended (λ M 𝓤 𝓛. of-command-parameters.clauses 𝓛) (λ κs x y. SamePart x y)
command_parameters = one_fact (λ M 𝓤 𝓛 mem run κs a g r s. refl) (λ κs a x y v w p q. (same_part x y p q, refl))

command_validate : SingleBy of-command-validate.ended (λ M 𝓤 𝓛. of-command-validate.clauses 𝓛) (λ κs x y. x ≡ y)
command_validate = one_fact (λ M 𝓤 𝓛 mem run κs a g r s. refl) (λ κs a x y v w p q. (said_injective x y (p ∙ sym q), refl))

command_cast_mut : SingleBy of-command-cast-mut.ended (λ M 𝓤 𝓛. of-command-cast-mut.clauses 𝓛) (λ κs x y. SamePart (as_bor x.frame) (as_bor y.frame) × (x.rules ≡ y.rules))
command_cast_mut = behind_tie (λ κs a r. LendsPart (whole a.1.0.now (cast_command (book_of a.0) a.1.0.now)) a.1.0 r.frame) (λ M 𝓤 𝓛 mem run κs a g r s. refl)
    (λ κs a x y v w p q. ((same_part (as_bor x.frame) (as_bor y.frame) p.0 q.0, p.1 ∙ sym q.1), refl))

command_handles_mut : SingleBy of-command-handles-mut.ended (λ M 𝓤 𝓛. of-command-handles-mut.clauses 𝓛) (λ κs x y. SamePart (as_bor x) (as_bor y))
command_handles_mut = behind_tie (λ κs a r. LendsPart (handles_range (book_of a.0.rules) a.0.frame.now) a.0.frame r) (λ M 𝓤 𝓛 mem run κs a g r s. refl)
    (λ κs a x y v w p q. (same_part (as_bor x) (as_bor y) p q, refl))

command_auth_area_mut : SingleBy of-command-auth-area-mut.ended (λ M 𝓤 𝓛. of-command-auth-area-mut.clauses 𝓛) (λ κs x y. SamePart (as_bor x) (as_bor y))
command_auth_area_mut = behind_tie (λ κs a r. LendsPart (auth_range (book_of a.0.rules) a.0.frame.now) a.0.frame r) (λ M 𝓤 𝓛 mem run κs a g r s. refl)
    (λ κs a x y v w p q. (same_part (as_bor x) (as_bor y) p q, refl))

command_parameters_mut : SingleBy of-command-parameters-mut.ended (λ M 𝓤 𝓛. of-command-parameters-mut.clauses 𝓛) (λ κs x y. SamePart (as_bor x) (as_bor y))
command_parameters_mut = behind_tie (λ κs a r. LendsPart (parameters_range (book_of a.0.rules) a.0.frame.now) a.0.frame r) (λ M 𝓤 𝓛 mem run κs a g r s. refl)
    (λ κs a x y v w p q. (same_part (as_bor x) (as_bor y) p q, refl))

response_cast : SingleBy of-response-cast.ended (λ M 𝓤 𝓛. of-response-cast.clauses 𝓛) (λ κs x y. SamePart x.frame y.frame × (x.rules ≡ y.rules) × (x.cc ≡ y.cc))
response_cast = one_fact (λ M 𝓤 𝓛 mem run κs a g r s. refl) (λ κs a x y v w p q. ((same_part x.frame y.frame p.0 q.0, p.1 ∙ sym q.1, p.2 ∙ sym q.2), refl))

response_tag : SingleBy of-response-tag.ended (λ M 𝓤 𝓛. of-response-tag.clauses 𝓛) (λ κs x y. x ≡ y)
response_tag = one_fact (λ M 𝓤 𝓛 mem run κs a g r s. refl) (λ κs a x y v w p q. (said_tag_injective x y (p ∙ sym q), refl))

response_size : SingleBy of-response-size.ended (λ M 𝓤 𝓛. of-response-size.clauses 𝓛) (λ κs x y. x ≡ y)
response_size = one_fact (λ M 𝓤 𝓛 mem run κs a g r s. refl) (λ κs a x y v w p q. (said_injective x y (p ∙ sym q), refl))

response_rc : SingleBy of-response-rc.ended (λ M 𝓤 𝓛. of-response-rc.clauses 𝓛) (λ κs x y. x ≡ y)
response_rc = one_fact (λ M 𝓤 𝓛 mem run κs a g r s. refl) (λ κs a x y v w p q. (said_response_code_injective x y (p ∙ sym q), refl))

response_len : SingleBy of-response-len.ended (λ M 𝓤 𝓛. of-response-len.clauses 𝓛) (λ κs x y. x ≡ y)
response_len = one_fact (λ M 𝓤 𝓛 mem run κs a g r s. refl) (λ κs a x y v w p q. (p ∙ sym q, refl))

response_is_empty : SingleBy of-response-is-empty.ended (λ M 𝓤 𝓛. of-response-is-empty.clauses 𝓛) (λ κs x y. x ≡ y)
response_is_empty = one_fact (λ M 𝓤 𝓛 mem run κs a g r s. refl) (λ κs a x y v w p q. (p ∙ sym q, refl))

response_body : SingleBy of-response-body.ended (λ M 𝓤 𝓛. of-response-body.clauses 𝓛) (λ κs x y. SamePart x y)
response_body = one_fact (λ M 𝓤 𝓛 mem run κs a g r s. refl) (λ κs a x y v w p q. (same_part x y p q, refl))

response_validate : SingleBy of-response-validate.ended (λ M 𝓤 𝓛. of-response-validate.clauses 𝓛) (λ κs x y. x ≡ y)
response_validate = one_fact (λ M 𝓤 𝓛 mem run κs a g r s. refl) (λ κs a x y v w p q. (said_injective x y (p ∙ sym q), refl))

response_cast_mut : SingleBy of-response-cast-mut.ended (λ M 𝓤 𝓛. of-response-cast-mut.clauses 𝓛) (λ κs x y. SamePart (as_bor x.frame) (as_bor y.frame))
response_cast_mut = behind_tie (λ κs a r. LendsPart (whole a.1.0.now (cast_response (book_of a.0) a.1.0.now)) a.1.0 r.frame) (λ M 𝓤 𝓛 mem run κs a g r s. refl)
    (λ κs a x y v w p q. (same_part (as_bor x.frame) (as_bor y.frame) p q, refl))

response_body_mut : SingleBy of-response-body-mut.ended (λ M 𝓤 𝓛. of-response-body-mut.clauses 𝓛) (λ κs x y. SamePart (as_bor x) (as_bor y))
response_body_mut = behind_tie (λ κs a r. LendsPart (body_range a.0.frame.now) a.0.frame r) (λ M 𝓤 𝓛 mem run κs a g r s. refl)
    (λ κs a x y v w p q. (same_part (as_bor x) (as_bor y) p q, refl))
