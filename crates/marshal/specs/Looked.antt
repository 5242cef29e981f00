-- What is found of the parts before a frame is written: what the functions that look at them promise.
-- Assumes nothing: these are definitions.
use Rattle.std.specs.Prelude.{ℕ, ◌-◌, ◌*◌, [], ◌∷◌, leb}
use Rattle.base.specs.Said.{no_area, Said, gives, needs}
use Rattle.marshal.specs.declared.total.Parts.{Parts}
use Rattle.marshal.specs.Handed.{Handed, handed}
use Rattle.marshal.specs.Write.{capped, fitted}

-- a row's handles, in so many bytes
abbrev pub handles_there : ℕ → ℕ → Said (Unit {0})
handles_there handles len =
    needs (leb (4 * handles) len) (no_area (1 ∷ 0 ∷ (4 * handles) ∷ len ∷ []))
    (needs (leb len (4 * handles)) (no_area (2 ∷ (4 * handles) ∷ (len - 4 * handles) ∷ []))
    (gives tt))

-- a total that its field holds and that there is room for
abbrev pub sized : ℕ → ℕ → Said ℕ
sized total room = needs (leb total 4294967295) (no_area (7 ∷ 0 ∷ capped total ∷ [])) (fitted total room)

-- the parts, as they are lent
abbrev pub handed_parts : Parts → Handed
handed_parts parts = handed parts.handles.now parts.sessions.now parts.lent.now parts.parameters.now
