-- Two tables (document 02, W10): a code that stands in both with equal counts has one row in them; and which codes do not, of each two of the
-- tables that a caller can name, which antt computes.
-- Assumes nothing.
use mathlib.Core.Path.{◌≡◌, refl, sym, ◌∙◌, ap}
use mathlib.Core.Bool.{Bool, true, false, not, and-eq-true_iff, false≢true}
use mathlib.Core.List.{List, [], ◌∷◌}
use mathlib.Core.Logic.{⊎_elim}
use Prim.Native.Nat.{ℕ}
use borrow.Author.Tests.{eqb-true}
use lib.Dec.{eqb}
use Rattle.base.specs.Members.{is_in}
use Rattle.base.specs.Said.{Said, gives, refuses}
use Rattle.base.proofs.Checks.{gives≢refuses, gives_injective, cond_gives}
use Rattle.table.specs.declared.revision.Revision.TheVariants as revision
use Rattle.table.specs.declared.row.Row.{Row}
use Rattle.table.specs.Dispatch.{table_of}
use Rattle.table.specs.Table.{row, row_for, codes, those, same_counts, apart, Alike}

-- a row that is found has its code
pub row_code : (rows : List Row) (code : ℕ) {r : Row} → row_for rows code ≡ gives r → r.code ≡ code
row_code [] code g = absurd (gives≢refuses (sym g))
row_code (s ∷ rows) code g =
    ⊎_elim (λ h. sym (ap (λ (r : Row). r.code) (gives_injective h.1)) ∙ sym (eqb-true code s.code h.0)) (λ h. row_code rows code h.1)
    (cond_gives (eqb code s.code) (gives s) (row_for rows code) g)

module _ {rows others : List Row} {code : ℕ} where
  -- where it stands in both with equal counts, both have the same row
  pub same_row : Alike rows others code → row_for rows code ≡ row_for others code
  same_row a =
      let here = row_code rows code a.has_row in
      let there = row_code others code a.has_other in
      let one : a.row ≡ a.other =
      λ i. row ((here ∙ sym there) i) (a.same_handles i) (a.same_responses i) in
      a.has_row ∙ ap gives one ∙ sym a.has_other

-- the test
counts_told : (rows others : List Row) (code : ℕ) (x y : Said Row) → row_for rows code ≡ x → row_for others code ≡ y → same_counts x y ≡ true → Alike rows others code
counts_told rows others code (gives r) (gives s) e f t =
    let both = (and-eq-true_iff (eqb r.handles s.handles) (eqb r.responses s.responses)).0 t in
    record {
      row = r;
      other = s;
      has_row = e;
      has_other = f;
      same_handles = eqb-true r.handles s.handles both.0;
      same_responses = eqb-true r.responses s.responses both.1;
    }
counts_told rows others code (gives r) (refuses why) e f t = absurd (false≢true t)
counts_told rows others code (refuses why) y e f t = absurd (false≢true t)

-- a number of a list passes a test or not, as it stands among those that pass it
not_those : (f : ℕ → Bool) (xs : List ℕ) (k : ℕ) → is_in k xs ≡ true → is_in k (those f xs) ≡ false → f k ≡ false
not_those f [] k h n = absurd (false≢true h)
not_those f (x ∷ xs) k h n = by (eqb k x) (f x) refl refl (not_those f xs k)
  where
    by : (b t : Bool) → eqb k x ≡ b → f x ≡ t → (is_in k xs ≡ true → is_in k (those f xs) ≡ false → f k ≡ false) → f k ≡ false
    by true true e g rest = absurd (false≢true (sym (rw (g, e) at n)))
    by true false e g rest = ap f (eqb-true k x e) ∙ g
    by false true e g rest = rest (rw e at h) (rw (g, e) at n)
    by false false e g rest = rest (rw e at h) (rw g at n)

unnot : (b : Bool) → not b ≡ false → b ≡ true
unnot true e = refl
unnot false e = sym e

-- a code of the first table that is not one of those that stand apart stands in both alike
pub stands_alike : (rows others : List Row) (code : ℕ) → is_in code (codes rows) ≡ true → is_in code (apart rows others) ≡ false → Alike rows others code
stands_alike rows others code here n =
    counts_told rows others code (row_for rows code) (row_for others code) refl refl
    (unnot (same_counts (row_for rows code) (row_for others code))
    (not_those (λ (c : ℕ). not (same_counts (row_for rows c) (row_for others c))) (codes rows) code here n))

-- ---- the tables that a caller can name

-- the codes of revision 1.38 stand in both other tables
pub from_138 : (apart (table_of revision.Lib138) (table_of revision.Crate) ≡ []) × (apart (table_of revision.Lib138) (table_of revision.Lib159) ≡ [])
unfolding table_of
from_138 = (refl, refl)

-- those of revision 1.59 that are new in it, and the one that the crate lacks
pub from_159 : (apart (table_of revision.Lib159) (table_of revision.Lib138) ≡ 0x194 ∷ 0x195 ∷ 0x196 ∷ 0x197 ∷ 0x198 ∷ [])
    × (apart (table_of revision.Lib159) (table_of revision.Crate) ≡ 0x197 ∷ [])
unfolding table_of
from_159 = (refl, refl)

-- those of the crate that a revision lacks
pub from_crate : (apart (table_of revision.Crate) (table_of revision.Lib138)
    ≡ 0x194 ∷ 0x195 ∷ 0x196 ∷ 0x198 ∷ 0x199 ∷ 0x19a ∷ 0x19b ∷ 0x19c ∷ 0x19d ∷ 0x19e ∷ 0x19f ∷ 0x1a0 ∷ 0x1a1 ∷ [])
    × (apart (table_of revision.Crate) (table_of revision.Lib159) ≡ 0x199 ∷ 0x19a ∷ 0x19b ∷ 0x19c ∷ 0x19d ∷ 0x19e ∷ 0x19f ∷ 0x1a0 ∷ 0x1a1 ∷ [])
unfolding table_of
from_crate = (refl, refl)
