-- A field read and bytes written refuse by one number each, in no area: so never by 7 (document 02, W7).
-- Assumes nothing.
use mathlib.Core.Path.{◌≡◌, refl}
use mathlib.Core.List.{List, [], ◌∷◌}
use Prim.Native.Nat.{ℕ, ◌-◌}
use lib.Dec.{leb}
use lib.ListN.{length}
use Rattle.base.specs.declared.error.Area.TheVariants.{None}
use Rattle.base.specs.Field.{read_field, write_field, write_bytes}
use Rattle.base.specs.Said.{NoFrame, Only, Never, within}
use Rattle.base.proofs.Only.{no_frame, nowhere, only_read, only_written, by_needs, by_gives, by_no_other}

module _ (place : ℕ) (s : List ℕ) where
  pub read_frameless : (w : ℕ) → Only (NoFrame (1 ∷ [])) (read_field w place s)
  read_frameless w = only_read place s w (λ h. no_frame refl)

  pub written_frameless : (w n : ℕ) → Only (NoFrame (9 ∷ [])) (write_field w place n s)
  written_frameless w n = only_written place s w n (λ h. no_frame refl)

  pub bytes_frameless : (t : List ℕ) → Only (NoFrame (9 ∷ [])) (write_bytes place t s)
  bytes_frameless t = by_needs (leb (length t) (length s - place)) _ (no_frame refl) by_gives

  pub read_nowhere : (w : ℕ) → within None (read_field w place s) ≡ read_field w place s
  read_nowhere w = nowhere (read_frameless w)

  pub never_read : (w : ℕ) → Never 7 (read_field w place s)
  never_read w = by_no_other 7 refl (read_frameless w)

  pub never_written : (w n : ℕ) → Never 7 (write_field w place n s)
  never_written w n = by_no_other 7 refl (written_frameless w n)
