-- The rules as the walks by hand ask for them (base, ByValue.antt).
-- Assumes nothing.
use mathlib.Core.Path.{refl}
use denote.Struct.Laws as LL
use Rattle.base.proofs.ByValue.{ByValue}
use Rattle.frame.specs.contracts.rules.Rules as R
use Rattle.frame.proofs.rules.Rules.TheLaws as R'

abbrev pub rules : ByValue
rules = record {
  row = R.the_row;
  ty = R'.mir;
  low = R'.lowered;
  tells = (R'.lowers).val_is;
  typed = λ 𝓛 d is. ((LL.lawful R.the_type R'.the_laws 𝓛).typed d _ is).0;
  last = λ d. tt;
  silent = λ d w. refl;
}
