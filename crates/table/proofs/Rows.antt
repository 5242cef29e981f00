-- The search of a dispatch table, over any rows: where the parts have the row of a place; of rows that rise strictly by code the row at a place is the row of its code; a code that
-- no row has is refused; and what is known of the row that a search finds.
-- Assumes nothing.
use mathlib.Core.Path.{◌≡◌, refl, sym, ◌∙◌, ap}
use mathlib.Core.Bool.{Bool, true, false, ◌&&◌, ◌||◌, cond, and-eq-true_iff}
use mathlib.Core.List.{List, [], ◌∷◌}
use mathlib.Core.Logic.{⊎_elim}
use Prim.Native.Nat.{ℕ, zero, suc, ◌+◌, ◌*◌, ◌/◌, ◌%◌, ◌≤◌, ◌<◌}
use native.Mathlib.Nat.{le_of_suc-le-suc, not-suc-le-zero, le_refl}
use native.Mathlib.Omega.{arith}
use borrow.Author.Tests.{ltb-true, leb-true, eq-eqb, ne_eqb}
use lib.Dec.{eqb, leb}
use lib.ListN.{length, get_or, drop}
use lib.Seq.{get_or-take, get_or-drop}
use Rattle.std.proofs.lemmas.Bool.{or_parts}
use Rattle.base.specs.Members.{is_in}
use Rattle.base.specs.Said.{no_area, Said, gives, refuses, given}
use Rattle.base.proofs.Checks.{gives≢refuses, gives_injective, cond_gives}
use Rattle.table.specs.declared.row.Row.{Row}
use Rattle.table.specs.Table.{row_for, codes, below_first, rising, few, IsTable, part, none, code_at}

-- the row at a place stands in the part of its four
pub in_part : (rows : List Row) (k place : ℕ) → place / 4 ≡ k → get_or (part rows k) (place % 4) none ≡ get_or rows place none
in_part rows k place e =
    let here : 4 * k + place % 4 ≡ place = omega arith in
    get_or-take 4 (drop (4 * k) rows) (place % 4) none (omega arith)
    ∙ get_or-drop (4 * k) rows (place % 4) none
    ∙ ap (λ (i : ℕ). get_or rows i none) here

-- rising rows: the first row's code is below the next one's, and the others rise
next_and_rest : (r : Row) (rows : List Row) → rising (r ∷ rows) ≡ true → (below_first r.code rows ≡ true) × (rising rows ≡ true)
next_and_rest r rows e = (and-eq-true_iff (below_first r.code rows) (rising rows)).0 e

-- a code below the first of rising rows is below each of them
below_each : (code : ℕ) (rows : List Row) → below_first code rows ≡ true → rising rows ≡ true
    → (j : ℕ) → j < length rows → code < code_at rows j
below_each code [] b e j h = absurd (not-suc-le-zero h)
below_each code (r ∷ rows) b e zero h = ltb-true code r.code b
below_each code (r ∷ rows) b e (suc j) h =
    let here = ltb-true code r.code b in
    let there = below_each r.code rows (next_and_rest r rows e).0 (next_and_rest r rows e).1 j (le_of_suc-le-suc h) in
    omega arith

-- the first of rising rows is below each of the others
above_first : (r : Row) (rows : List Row) → rising (r ∷ rows) ≡ true → (j : ℕ) → j < length rows → r.code < code_at rows j
above_first r rows e = below_each r.code rows (next_and_rest r rows e).0 (next_and_rest r rows e).1

-- no code is above a later one
pub codes_ordered : (rows : List Row) → rising rows ≡ true → (i j : ℕ) → i ≤ j → j < length rows → code_at rows i ≤ code_at rows j
codes_ordered [] e i j h k = absurd (not-suc-le-zero k)
codes_ordered (r ∷ rows) e zero zero h k = le_refl r.code
codes_ordered (r ∷ rows) e zero (suc j) h k =
    let above = above_first r rows e j (le_of_suc-le-suc k) in
    omega arith
codes_ordered (r ∷ rows) e (suc i) zero h k = absurd (not-suc-le-zero h)
codes_ordered (r ∷ rows) e (suc i) (suc j) h k =
    codes_ordered rows (next_and_rest r rows e).1 i j (le_of_suc-le-suc h) (le_of_suc-le-suc k)

-- the row at a place is the row of its code
pub row_at : (rows : List Row) → rising rows ≡ true → (i : ℕ) → i < length rows → gives (get_or rows i none) ≡ row_for rows (code_at rows i)
row_at [] e i h = absurd (not-suc-le-zero h)
row_at (r ∷ rows) e zero h = simp (eq-eqb r.code r.code refl)
row_at (r ∷ rows) e (suc i) h =
    let above = above_first r rows e i (le_of_suc-le-suc h) in
    simp (ne_eqb (code_at rows i) r.code (λ q. omega arith)) (row_at rows (next_and_rest r rows e).1 i (le_of_suc-le-suc h))

-- so is one that was read there, of the code that it has
pub row_here : (rows : List Row) → rising rows ≡ true → (i : ℕ) → i < length rows → {r : Row} → r ≡ get_or rows i none → {code : ℕ}
    → r.code ≡ code → gives r ≡ row_for rows code
row_here rows e i h read t = ap gives read ∙ row_at rows e i h ∙ ap (row_for rows) (sym (ap (λ (r : Row). r.code) read) ∙ t)

-- a code that no row has is refused
pub no_row : (rows : List Row) (code : ℕ) → is_in code (codes rows) ≡ false → refuses (no_area (4 ∷ 0 ∷ code ∷ [])) ≡ row_for rows code
no_row [] code h = refl
no_row (r ∷ rows) code h =
    let both = or_parts (eqb code r.code) (is_in code (codes rows)) h in
    rw both.0 (no_row rows code both.1)

-- what is given by one row or by the others
given_or : (t : Bool) (r : Row) (s : Said Row) (b : Bool) → given s ≡ b → given (cond t (gives r) s) ≡ (t || b)
given_or true r s b e = refl
given_or false r s b e = e

module _ (code : ℕ) where
  -- a row that is found has few handles, where each row has few
  pub row_few : (rows : List Row) {r : Row} → few rows ≡ true → row_for rows code ≡ gives r → (r.handles ≤ 7) × (r.responses ≤ 7)
  row_few [] f g = absurd (gives≢refuses (sym g))
  row_few (s ∷ rows) f g =
      let both = (and-eq-true_iff (leb s.handles 7) (leb s.responses 7 && few rows)).0 f in
      let rest = (and-eq-true_iff (leb s.responses 7) (few rows)).0 both.1 in
      ⊎_elim (λ h. rw (← gives_injective h.1) (leb-true s.handles 7 both.0, leb-true s.responses 7 rest.0))
      (λ h. row_few rows rest.1 h.1)
      (cond_gives (eqb code s.code) (gives s) (row_for rows code) g)

  -- a row is given for the codes of the rows, and for no other
  pub row_given : (rows : List Row) → given (row_for rows code) ≡ is_in code (codes rows)
  row_given [] = refl
  row_given (r ∷ rows) = given_or (eqb code r.code) r (row_for rows code) (is_in code (codes rows)) (row_given rows)

-- of a table: a row that is found has few handles, and its code is known
module _ {rows : List Row} {known : List ℕ} (table : IsTable rows known) (code : ℕ) {r : Row} (found : row_for rows code ≡ gives r) where
  pub found_few : (r.handles ≤ 7) × (r.responses ≤ 7)
  found_few = row_few code rows table.has_few found

  pub row_known : is_in code known ≡ true
  row_known = table.holds code (sym (row_given code rows) ∙ ap given found)
