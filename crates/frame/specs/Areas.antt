-- The areas of a frame behind its header (document 01, "Layout" and "Order of checks"): the handles, then under the sessions tag a
-- 4-byte size and that many bytes, then the rest. In a command the sized bytes are the entries and the rest is parameters; in a
-- success response the sized bytes are the parameters and the rest is entries.
-- Assumes nothing: these are definitions.
use Rattle.std.specs.Prelude.{ℕ, ◌+◌, ◌-◌, ◌*◌, Bool, true, false, List, [], ◌∷◌, leb, length}
use Rattle.base.specs.declared.error.Area.{Area}
use Rattle.base.specs.declared.error.Area.TheVariants.{Handles}
use Rattle.base.specs.Field.{read_field}
use Rattle.base.specs.Said.{in_area, Said, gives, needs, then, within}
use Rattle.frame.specs.declared.areas.Areas.{Areas}

-- where the handles end
unfoldable pub handle_area : ℕ → List ℕ → Said ℕ
handle_area handles s =
    needs (leb (4 * handles) (length s - 10)) (in_area Handles (1 ∷ 10 ∷ (4 * handles) ∷ (length s - 10) ∷ []))
    (gives (10 + 4 * handles))

-- the sized bytes behind the handles, with their size an area of the frame; under the plain tag they have no size and end at a given place
unfoldable pub sized_area : Area → Bool → ℕ → List ℕ → ℕ → Said Areas
sized_area area false end s handles = gives (record { handles = handles; from = handles; to = end })
sized_area area true end s handles =
    then (within area (read_field 4 handles s)) λ size.
    needs (leb size (length s - (handles + 4))) (in_area area (1 ∷ (handles + 4) ∷ size ∷ (length s - (handles + 4)) ∷ []))
    (gives (record { handles = handles; from = handles + 4; to = handles + 4 + size }))
