-- The two starred rows of document 01 on codes.
-- Assumes nothing.
use mathlib.Core.Path.{◌≡◌, refl}
use mathlib.Core.List.{[], ◌∷◌}
use Prim.Native.Nat.{ℕ}
use Rattle.base.specs.Said.{no_area, gives, refuses}
use Rattle.rc.specs.declared.code.Code.TheVariants.{Parameter, Handle, Session}
use Rattle.rc.specs.Known.{known_codes, is_known}
use Rattle.rc.specs.Code.{base, read_index, read_fmt1, read_fmt0, read_code, value_of}

-- codes 1C4, 184, 984: base 84, of parameter 1, of handle 1, of session 1
pub codes_of_84 :
    (read_code 0x1C4 ≡ gives (Parameter (base 0x84) 1)) × (read_code 0x184 ≡ gives (Handle (base 0x84) 1))
    × (read_code 0x984 ≡ gives (Session (base 0x84) 1))
unfolding read_code read_fmt1 read_fmt0 read_index is_known known_codes
codes_of_84 = (refl, refl, refl)

-- codes 0C4, 10C4: refused
pub codes_refused : (read_code 0xC4 ≡ refuses (no_area (5 ∷ 0 ∷ 0xC4 ∷ []))) × (read_code 0x10C4 ≡ refuses (no_area (5 ∷ 0 ∷ 0x10C4 ∷ [])))
unfolding read_code read_fmt1 read_fmt0 read_index is_known known_codes
codes_refused = (refl, refl)

-- the index is masked to four bits, on every base: session 8 loses it, and handle 8 looks like session 0
pub session_8 : (b : ℕ) → value_of (Session (base b) 8) ≡ value_of (Handle (base b) 0)
session_8 b = refl

pub handle_8 : (b : ℕ) → value_of (Handle (base b) 8) ≡ value_of (Session (base b) 0)
handle_8 b = refl
