-- The areas of an error response, taken apart and put together.
-- Assumes nothing.
use mathlib.Core.Path.{◌≡◌}
use mathlib.Core.Bool.{Bool, true, ◌||◌}
use mathlib.Core.List.{List}
use Prim.Native.Nat.{ℕ, ◌≤◌}
use borrow.Author.Tests.{le-leb, leb-true}
use lib.Dec.{eqb, leb}
use lib.ListN.{length}
use Rattle.base.specs.Said.{gives}
use Rattle.base.proofs.Checks.{needs_gives, gives_injective}
use Rattle.frame.specs.declared.areas.Areas.{Areas}
use Rattle.frame.specs.Header.{tag_of, plain, is_rsp_command}
use Rattle.frame.specs.Response.{error_areas}
use Rattle.frame.specs.Rules.{Rulebook}

module _ (book : Rulebook) (s : List ℕ) where
  abbrev pub for_error : Bool
  for_error = eqb (tag_of s) plain || is_rsp_command book (tag_of s)

  pub error_taken : {areas : Areas} → error_areas book s ≡ gives areas
      → (for_error ≡ true) × (length s ≤ 10) × (record { handles = 10; from = 10; to = 10 } ≡ areas)
  unfolding error_areas
  error_taken e =
      let tagged = needs_gives for_error _ _ e in
      let bare = needs_gives (leb (length s) 10) _ _ tagged.1 in
      (tagged.0, leb-true (length s) 10 bare.0, gives_injective bare.1)

  pub error_passes : for_error ≡ true → length s ≤ 10 → error_areas book s ≡ gives (record { handles = 10; from = 10; to = 10 })
  unfolding error_areas
  error_passes q h = simp (q, le-leb (length s) 10 h)
