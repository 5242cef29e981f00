-- `keeper::session::ask` meets its contract: the cases of `asked`, at the place that is found.
-- Assumes nothing.
use Rattle.keeper.proofs.Calls.{asked_there, asked_not}
use Rattle.keeper.proofs.session.ask.Goals as goal

pub returns-in_default : goal.returns-in_default
returns-in_default c =
    let each = asked_not c.args.keeper.now c.args.handle c.in_default.ensures in
    record { nonce = each.0; place = each.1 }

pub returns : goal.returns
returns c =
    let each = asked_there c.args.keeper.now c.args.handle c.in-Some.ensures c.size_at.ensures in
    record { nonce = each.0; place = each.1 }
