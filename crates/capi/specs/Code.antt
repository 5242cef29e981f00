-- The numbers that go out for a response code, and the kind that goes in as a number.
-- Assumes nothing: these are definitions.
use Rattle.std.specs.Prelude.{ℕ, cond, List, [], ◌∷◌, eqb}
use Rattle.base.specs.Said.{no_area, Said, gives, refuses, then}
use Rattle.rc.specs.declared.code.Code.{Code}
use Rattle.rc.specs.declared.code.Kind.{Kind}
use Rattle.rc.specs.declared.code.Kind.TheVariants.{Fmt0, Warn, Fmt1, Parameter, Handle, Session}
use Rattle.rc.specs.Code.{kind_number, kind_of, base_of, index_of, of_parts, value_of}

abbrev pub parts_and_value : Code → List ℕ
parts_and_value c = kind_number (kind_of c) ∷ base_of c ∷ index_of c ∷ value_of c ∷ []

abbrev pub value : Code → List ℕ
value c = value_of c ∷ []

-- the kind of a number. Numbers of refusals from 100 on are not document 01's: they say that a number in the call names nothing
unfoldable pub kind_numbered : ℕ → Said Kind
kind_numbered n =
    cond (eqb n 0) (gives Fmt0)
    (cond (eqb n 1) (gives Warn)
    (cond (eqb n 2) (gives Fmt1)
    (cond (eqb n 3) (gives Parameter)
    (cond (eqb n 4) (gives Handle)
    (cond (eqb n 5) (gives Session)
    (refuses (no_area (100 ∷ 0 ∷ n ∷ []))))))))

abbrev pub code_of : ℕ → ℕ → ℕ → Said Code
code_of kind b n = then (kind_numbered kind) λ k. gives (of_parts k b n)
