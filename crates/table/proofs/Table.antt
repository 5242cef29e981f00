-- The rules of the tables that a caller can name: each rises strictly by code, and each row has few handles. One test for each that antt
-- computes over the whole table shows both; the search and all that is known of a row go by it. A second test shows that each code of a
-- table has its row at the place where the code looks.
-- Assumes nothing.
use mathlib.Core.Path.{◌≡◌, refl, sym, ◌∙◌, ap}
use mathlib.Core.Bool.{Bool, true, false, ◌&&◌, and-eq-true_iff}
use mathlib.Core.List.{[], ◌∷◌, ◌++◌}
use Prim.Native.Nat.{ℕ, ◌+◌, ◌-◌, ◌/◌, ◌≤◌, ◌<◌}
use native.Mathlib.Omega.{arith}
use borrow.Author.Tests.{eqb-true}
use lib.Dec.{eqb}
use lib.ListN.{length, get_or, get_or-append, length-append}
use lib.Seq.{get_or-append_right}
use Rattle.std.specs.Prelude.{◌≢◌}
use Rattle.base.specs.Members.{is_in}
use Rattle.base.specs.Said.{no_area, gives, refuses}
use Rattle.base.proofs.Tables.{every, at_member}
use Rattle.table.specs.declared.revision.Revision.{Revision}
use Rattle.table.specs.declared.revision.Revision.TheVariants as revision
use Rattle.table.specs.declared.row.Row.{Row}
use Rattle.table.specs.Dispatch.{shared, own, table_of, codes_of, place_of}
use Rattle.table.specs.Table.{row_for, rising, few, IsTable, none, code_at}
use Rattle.table.proofs.Rows.{row_here, no_row}

sound : (by : Revision) → rising (table_of by) && few (table_of by) ≡ true
unfolding table_of
sound revision.Crate = refl
sound revision.Lib138 = refl
sound revision.Lib159 = refl

pub table_rising : (by : Revision) → rising (table_of by) ≡ true
table_rising by = ((and-eq-true_iff (rising (table_of by)) (few (table_of by))).0 (sound by)).0

-- each is a table, with the codes that are known where it judges
pub is_table : (by : Revision) → IsTable (table_of by) (codes_of by)
is_table by = record {
  rises = table_rising by;
  has_few = ((and-eq-true_iff (rising (table_of by)) (few (table_of by))).0 (sound by)).1;
  holds = λ code is. is;
}

-- ---- how many rows each has

abbrev pub count : Revision → ℕ
count revision.Crate = 126
count revision.Lib138 = 113
count revision.Lib159 = 118

pub counted : (by : Revision) → length (table_of by) ≡ count by
unfolding table_of
counted revision.Crate = refl
counted revision.Lib138 = refl
counted revision.Lib159 = refl

pub at_most : (by : Revision) → length (table_of by) ≤ 126
at_most revision.Crate = let n = counted revision.Crate in omega arith
at_most revision.Lib138 = let n = counted revision.Lib138 in omega arith
at_most revision.Lib159 = let n = counted revision.Lib159 in omega arith

-- a place from 120 on is one of the crate's table
pub is_crate_lem : (by : Revision) (place : ℕ) → 30 ≤ place / 4 → place < length (table_of by) → (by ≡ revision.Crate) × (place < 126)
is_crate_lem revision.Crate place e h = (refl, rw (counted revision.Crate) at h)
is_crate_lem revision.Lib138 place e h = let n = counted revision.Lib138 in absurd (omega arith)
is_crate_lem revision.Lib159 place e h = let n = counted revision.Lib159 in absurd (omega arith)

-- ---- the row at a place of a whole table

-- among the shared rows
pub row_in_shared : (by : Revision) (place : ℕ) → place < 112 → get_or shared place none ≡ get_or (table_of by) place none
unfolding table_of
row_in_shared by place low = sym (get_or-append shared (own by) none place low)

-- behind them: the table's own
module _ (by : Revision) (place : ℕ) (high : 112 ≤ place) where
  pub row_in_own : get_or (own by) (place - 112) none ≡ get_or (table_of by) place none
  unfolding table_of
  row_in_own = sym (get_or-append_right shared (own by) place none high)

  pub in_own_rows : place < length (table_of by) → place - 112 < length (own by)
  unfolding table_of
  in_own_rows inside = let n : length (shared ++ own by) ≡ 112 + length (own by) = length-append shared (own by) in omega arith

pub ruleset places = (row_in_shared, row_in_own, in_own_rows, at_most)

-- ---- the place of a code's row

-- it is a place of the table, whatever the code
pub place_inside : (by : Revision) (code : ℕ) → place_of by code < length (table_of by)
place_inside by code = rw (counted by) (inside by code)
  where
    inside : (by : Revision) (code : ℕ) → place_of by code < count by
    inside revision.Crate code = grind arith
    inside revision.Lib138 code = grind arith
    inside revision.Lib159 code = grind arith

-- each code of the table has its row there
placed : (by : Revision) → every (λ (code : ℕ). eqb (code_at (table_of by) (place_of by code)) code) (codes_of by) ≡ true
unfolding table_of
placed revision.Crate = refl
placed revision.Lib138 = refl
placed revision.Lib159 = refl

-- the row that is read there is the code's, or the code has none
module _ (by : Revision) {code place : ℕ} {r : Row} (there : place ≡ place_of by code) (read : r ≡ get_or (table_of by) place none) where
  pub row_placed : r.code ≡ code → gives r ≡ row_for (table_of by) code
  row_placed same = row_here (table_of by) (table_rising by) place (rw there (place_inside by code)) read same

  pub none_placed : r.code ≢ code → refuses (no_area (4 ∷ 0 ∷ code ∷ [])) ≡ row_for (table_of by) code
  none_placed other = no_row (table_of by) code (lacks (is_in code (codes_of by)) refl)
    where
      lacks : (known : Bool) → is_in code (codes_of by) ≡ known → is_in code (codes_of by) ≡ false
      lacks true e =
          absurd (other (ap (λ (r : Row). r.code) read ∙ ap (code_at (table_of by)) there
          ∙ eqb-true (code_at (table_of by) (place_of by code)) code (at_member _ (codes_of by) (placed by) code e)))
      lacks false e = e
