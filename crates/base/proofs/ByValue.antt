-- What the walks by hand ask of a type that is passed by value: its row, its code's type, each value's machine value, and that nothing is
-- said of it at exit. A number of 64 bits is one.
-- Assumes nothing.
use mathlib.Core.Path.{◌≡◌, refl}
use mathlib.Core.List.{[], ◌∷◌}
use lib.Dec.{T as Holds}
use seplogic.Ra.Ura.{Ura}
use mir.Syntax.{Ty, ty_int, w64}
use mir.Val.{Val, WT, has_ty, vint}
use base.Fml.{ftrue}
use types.Logic.{Logic}
use denote.RattleType.{RattleType}
use denote.Builtin.{usize}
use denote.Exit.{Last, left, yes}
use denote.Laws.{Is, Tells}
use denote.Plain.{uint_Tells}

pub record ByValue : Type 2 where
  pub row : RattleType
  pub ty : Ty
  pub low : row.Denot → Val
  pub tells : Tells row (Is row) (λ d. low d ∷ [])
  pub typed : {M : Type 1} {𝓤 : Ura M} (𝓛 : Logic 𝓤) → (d : row.Denot) → Is row d (low d ∷ [])
      → Holds (has_ty ty (low d)) × WT (low d)
  pub last : (d : row.Denot) → Last (row.exit yes) d
  pub silent : (d : row.Denot) (w : Last (row.exit yes) d) → left (row.exit yes) d w ≡ ftrue

abbrev pub number : ByValue
number = record {
  row = usize;
  ty = ty_int w64;
  low = λ n. vint w64 n;
  tells = uint_Tells w64;
  typed = λ 𝓛 n is. (tt, record { fits = is.1 });
  last = λ n. tt;
  silent = λ n w. refl;
}
