-- A response code is never refused by 7 (document 02, W7): it is refused by 5 alone.
-- Assumes nothing.
use mathlib.Core.Path.{ap}
use Prim.Native.Nat.{ℕ}
use lib.Dec.{eqb}
use Rattle.base.specs.Said.{Why, number_of, Never}
use Rattle.base.proofs.Only.{by_wider}
use Rattle.rc.specs.Code.{read_code}
use Rattle.rc.proofs.Laws.{only_five}

pub never_code : (value : ℕ) → Never 7 (read_code value)
never_code value = by_wider (λ why five. ap (λ (w : Why). eqb (number_of w) 7) five) (only_five value)
