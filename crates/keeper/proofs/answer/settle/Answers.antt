-- `keeper::answer::settle` meets its contract: the cases of `settling`, and the moves one behind the other.
-- Assumes nothing.
use mathlib.Core.Path.{◌≡◌, ◌∙◌, ap}
use lib.Dec.{ltb}
use Rattle.frame.specs.Parts.{field_in}
use Rattle.keeper.specs.State.{counted, place_named, renewed_at}
use Rattle.keeper.proofs.Moves.{place_if}
use Rattle.keeper.proofs.Settles.{ready_first, ready_second, ready_third, settled_twice, settled_differ, settled_all}
use Rattle.std.proofs.Common.{rules}
use Rattle.keeper.proofs.answer.settle.Goals as goal
use Rattle.keeper.proofs.answer.settle.Goals.{After-repeated}

-- the places that were looked for
first : (c : After-repeated) → counted c.named-first.result ≡ place_if c.args.s.now (ltb 0 c.args.command.count) c.args.command.first
first c = c.named-first.ensures ∙ ap (place_named c.args.s.now) c.then_some.ensures

second : (c : After-repeated) → counted c.named-second.result ≡ place_if c.args.s.now (ltb 1 c.args.command.count) c.args.command.second
second c = c.named-second.ensures ∙ ap (place_named c.args.s.now) c.then_some-2.ensures

third : (c : After-repeated) → counted c.named-third.result ≡ place_if c.args.s.now (ltb 2 c.args.command.count) c.args.command.third
third c = c.named-third.ensures ∙ ap (place_named c.args.s.now) c.then_some-3.ensures

pub returns-then-repeated : goal.returns-then-repeated
returns-then-repeated c =
    let a = c.args in
    let past = (goal.at.returns-then-repeated c).After-repeated in
    let each = settled_twice a.s.now (search rules) a.command a.response a.bytes.now c.requires.0 c.requires.1
    (first past) (second past) (third past) c.repeated.ensures c.if-repeated.true in
    record { answer = each.0; later = each.1 }

pub returns-then-count-response : goal.returns-then-count-response
returns-then-count-response c =
    let a = c.args in
    let past = (goal.at.returns-then-count-response c).After-repeated in
    let each = settled_differ a.s.now (search rules) a.command a.response a.bytes.now c.requires.0 c.requires.1
    (first past) (second past) (third past) c.repeated.ensures c.if-repeated.false c.if-count-response.true in
    record { answer = each.0; later = each.1 }

pub move_to-requires : goal.move_to-requires
move_to-requires c =
    let a = c.args in
    ready_first a.s.now a.command a.response a.bytes.now c.if-count-response.false c.requires.2 (first (goal.at.move_to-requires c).After-repeated)

pub move_to-requires-2 : goal.move_to-requires-2
move_to-requires-2 c =
    let a = c.args in
    ready_second a.s.now a.command a.response a.bytes.now c.if-count-response.false c.requires.2 (second (goal.at.move_to-requires-2 c).After-repeated)

pub move_to-requires-3 : goal.move_to-requires-3
move_to-requires-3 c =
    let a = c.args in
    ready_third a.s.now a.command a.response a.bytes.now c.if-count-response.false c.requires.2 (third (goal.at.move_to-requires-3 c).After-repeated)

pub returns : goal.returns
returns c =
    let a = c.args in
    let past = (goal.at.returns c).After-repeated in
    let each = settled_all a.s.now (search rules) a.command a.response a.bytes.now c.requires.0 c.requires.1
    (first past) (second past) (third past) c.repeated.ensures c.if-repeated.false c.if-count-response.false c.requires.2
    (c.move_to-3.ensures
    ∙ ap (renewed_at (counted c.named-third.result) (field_in a.bytes.now a.response.third.nonce))
    (c.move_to-2.ensures ∙ ap (renewed_at (counted c.named-second.result) (field_in a.bytes.now a.response.second.nonce)) c.move_to.ensures)) in
    record { answer = each.0; later = each.1 }
