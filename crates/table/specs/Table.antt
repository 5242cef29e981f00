-- A dispatch table, over any rows (document 01, "Layout", "Order of checks"). A row is the struct of src/row.rt: a code, its
-- handles and its response handles.
-- Assumes nothing: these are definitions.
use Rattle.std.specs.Prelude.{ℕ, ◌*◌, Bool, true, false, not, ◌&&◌, cond, List, [], ◌∷◌, ◌≡◌, eqb, leb, ltb, get_or, take, drop}
use Rattle.base.specs.Members.{is_in}
use Rattle.base.specs.Said.{no_area, Said, gives, refuses}
use Rattle.table.specs.declared.row.Row.{Row}

abbrev pub row : ℕ → ℕ → ℕ → Row
row code handles responses = record { code = code; handles = handles; responses = responses }

-- the row of a code; a code without one is refused, 4(0,code)
abbrev pub row_for : List Row → ℕ → Said Row
row_for [] code = refuses (no_area (4 ∷ 0 ∷ code ∷ []))
row_for (r ∷ rows) code = cond (eqb code r.code) (gives r) (row_for rows code)

abbrev pub codes : List Row → List ℕ
codes [] = []
codes (r ∷ rows) = r.code ∷ codes rows

-- the numbers of a list that pass a test
abbrev pub those : (ℕ → Bool) → List ℕ → List ℕ
those f [] = []
those f (x ∷ xs) = cond (f x) (x ∷ those f xs) (those f xs)

-- strictly rising by code: each code is below the next one
abbrev pub below_first : ℕ → List Row → Bool
below_first code [] = true
below_first code (r ∷ rows) = ltb code r.code

abbrev pub rising : List Row → Bool
rising [] = true
rising (r ∷ rows) = below_first r.code rows && rising rows

-- at most 7 handles and response handles in a row
abbrev pub few : List Row → Bool
few [] = true
few (r ∷ rows) = leb r.handles 7 && (leb r.responses 7 && few rows)

-- what the laws ask of a table and of the codes that are known where it judges (document 02, W10)
pub record IsTable (rows : List Row) (known : List ℕ) : Type 0 where
  pub rises : rising rows ≡ true
  pub has_few : few rows ≡ true
  pub holds : (code : ℕ) → is_in code (codes rows) ≡ true → is_in code known ≡ true

-- ---- two tables (document 02, W10)

-- a code stands in both with equal counts
pub record Alike (rows others : List Row) (code : ℕ) : Type 0 where
  pub row : Row
  pub other : Row
  pub has_row : row_for rows code ≡ gives row
  pub has_other : row_for others code ≡ gives other
  pub same_handles : row.handles ≡ other.handles
  pub same_responses : row.responses ≡ other.responses

-- as a test; and the codes of the first table that do not
abbrev pub same_counts : Said Row → Said Row → Bool
same_counts (gives r) (gives s) = eqb r.handles s.handles && eqb r.responses s.responses
same_counts (gives r) (refuses why) = false
same_counts (refuses why) said = false

abbrev pub apart : List Row → List Row → List ℕ
apart rows others = those (λ code. not (same_counts (row_for rows code) (row_for others code))) (codes rows)

-- ---- rows by their places

-- in parts of four, counted from 0; and what stands at a place past the last one
abbrev pub part : List Row → ℕ → List Row
part rows k = take 4 (drop (4 * k) rows)

abbrev pub none : Row
none = row 0 0 0

-- the code at a place
abbrev pub code_at : List Row → ℕ → ℕ
code_at rows i = (get_or rows i none).code
