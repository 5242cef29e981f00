-- What a view of lent bytes holds (document 01, "What must change shape"): all of them where `cast` passes them, else none.
-- Assumes nothing: these are definitions.
use Rattle.std.specs.Prelude.{ℕ, List, [], ◌∷◌}
use Rattle.base.specs.declared.error.Area.TheVariants.{Header}
use Rattle.base.specs.Said.{in_area, Said, gives, refuses}

abbrev pub held : {A : Type 0} → Said A → List ℕ → List ℕ
held (gives a) s = s
held (refuses why) s = []

-- what a read of a header says of no bytes
abbrev pub short : {A : Type 0} → Said A
short = refuses (in_area Header (1 ∷ 0 ∷ 10 ∷ 0 ∷ []))
