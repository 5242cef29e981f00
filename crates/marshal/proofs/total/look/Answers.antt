-- `marshal::total::look` meets its contract: the sessions are looked at in their order, so many as are counted, and the first that is not there ends it.
-- Assumes nothing.
use mathlib.Core.Path.{◌∙◌}
use mathlib.Core.List.{[], ◌∷◌}
use Prim.Native.Nat.{◌-◌}
use lib.ListN.{take}
use Rattle.base.proofs.Answers.{passed_on}
use Rattle.marshal.proofs.Judgements.{none_there, first_missing, first_there, last_there}
use Rattle.marshal.proofs.Sessions.{entries_none, entries_one, entries_two, entries_first, entries_second, entries_third}
use Rattle.marshal.proofs.total.look.Goals as goal

pub returns-then-es-eq0 : goal.returns-then-es-eq0
returns-then-es-eq0 c =
    let a = c.args in
    rw (entries_none a.es c.if-es-eq0.true) (none_there a.limit a.lent)

pub returns-in_err-look_at_both : goal.returns-in_err-look_at_both
returns-in_err-look_at_both c =
    let a = c.args in
    let es = a.es in
    rw (entries_first es c.if-es-eq0.false)
    (passed_on _ _ _ c.from_residual.ensures.1
    ∙ first_missing a.limit a.lent es.first (take (es.count - 1) (es.second ∷ es.third ∷ [])) c.in_err-look_at_both.ensures)

pub returns-then-es-eq1 : goal.returns-then-es-eq1
returns-then-es-eq1 c =
    let a = c.args in
    rw (entries_one a.es c.if-es-eq1.true) (c.in_ok-look_at_both.ensures ∙ last_there a.limit a.lent a.es.first)

pub returns-in_err-look_at_both-2 : goal.returns-in_err-look_at_both-2
returns-in_err-look_at_both-2 c =
    let a = c.args in
    let es = a.es in
    let others = take (es.count - 2) (es.third ∷ []) in
    rw (entries_second es c.if-es-eq0.false c.if-es-eq1.false)
    (passed_on _ _ _ c.from_residual-in_err-look_at_both-2.ensures.1
    ∙ first_missing a.limit a.lent es.second others c.in_err-look_at_both-2.ensures
    ∙ first_there a.limit a.lent es.first (es.second ∷ others) c.in_ok-look_at_both.ensures)

pub returns-then-es-eq2 : goal.returns-then-es-eq2
returns-then-es-eq2 c =
    let a = c.args in
    rw (entries_two a.es c.if-es-eq2.true)
    (c.in_ok-look_at_both-2.ensures ∙ last_there a.limit a.lent a.es.second
    ∙ first_there a.limit a.lent a.es.first (a.es.second ∷ []) c.in_ok-look_at_both.ensures)

pub returns : goal.returns
returns c =
    let a = c.args in
    let es = a.es in
    rw (entries_third es c.if-es-eq0.false c.if-es-eq1.false c.if-es-eq2.false)
    (c.look_at_both-3.ensures ∙ last_there a.limit a.lent es.third
    ∙ first_there a.limit a.lent es.second (es.third ∷ []) c.in_ok-look_at_both-2.ensures
    ∙ first_there a.limit a.lent es.first (es.second ∷ es.third ∷ []) c.in_ok-look_at_both.ensures)
