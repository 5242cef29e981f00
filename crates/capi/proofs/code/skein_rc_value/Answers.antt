-- `capi::code::skein_rc_value` meets its contract: the kind is the one whose number it is.
-- Assumes nothing.
use Rattle.std.proofs.Common.{rules}
use Rattle.capi.proofs.Numbered.{kind_is}
use Rattle.capi.proofs.code.skein_rc_value.Goals as goal

pub returns-in-Ok : goal.returns-in-Ok
returns-in-Ok c = rw (← kind_is c.in-Ok.kind c.in-Ok.ensures) (search rules)
