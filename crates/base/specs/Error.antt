-- The number and the values that document 01 gives each refusal ("Refusal numbers"), in the area that it carries (document 02, W2). 7 is of
-- writers alone (W7), and so has none.
-- Assumes nothing: these are definitions.
use Rattle.std.specs.Prelude.{ℕ, [], ◌∷◌}
use Rattle.base.specs.declared.error.Area.{Area}
use Rattle.base.specs.declared.error.Area.TheVariants as area
use Rattle.base.specs.declared.error.TpmError.{TpmError}
use Rattle.base.specs.declared.error.TpmError.TheVariants.{UnexpectedEnd, TrailingData, InvalidTag, InvalidCc, InvalidRc, TooManyItems, TooManyBytes, BufferOverflow}
use Rattle.base.specs.declared.error.WriteError.{WriteError}
use Rattle.base.specs.declared.error.WriteError.TheVariants.{Common, IntegerTooLarge}
use Rattle.base.specs.Said.{Why, in_area, no_area}

abbrev pub numbered : TpmError → Why
numbered (UnexpectedEnd area offset needed available) = in_area area (1 ∷ offset ∷ needed ∷ available ∷ [])
numbered (TrailingData area offset actual) = in_area area (2 ∷ offset ∷ actual ∷ [])
numbered (InvalidTag area offset value) = in_area area (3 ∷ offset ∷ value ∷ [])
numbered (InvalidCc area offset value) = in_area area (4 ∷ offset ∷ value ∷ [])
numbered (InvalidRc area offset value) = in_area area (5 ∷ offset ∷ value ∷ [])
numbered (TooManyItems area offset limit actual) = in_area area (6 ∷ offset ∷ limit ∷ actual ∷ [])
numbered (TooManyBytes area offset limit actual) = in_area area (8 ∷ offset ∷ limit ∷ actual ∷ [])
numbered (BufferOverflow area offset needed available) = in_area area (9 ∷ offset ∷ needed ∷ available ∷ [])

abbrev pub writer_numbered : WriteError → Why
writer_numbered (Common e) = numbered e
writer_numbered (IntegerTooLarge offset value) = no_area (7 ∷ offset ∷ value ∷ [])

-- the areas as numbers, as they go out
abbrev pub area_number : Area → ℕ
area_number area.None = 0
area_number area.Header = 1
area_number area.Handles = 2
area_number area.Authorization = 3
area_number area.Parameters = 4
