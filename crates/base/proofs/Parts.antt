-- Where the part of a range stands: within the bytes. What a call gives back is then told in one way.
-- Assumes nothing.
use mathlib.Core.Path.{◌≡◌, refl, sym, ◌∙◌}
use mathlib.Core.Bool.{Bool, true, false, cond, and-eq-true_iff}
use mathlib.Core.List.{List}
use Prim.Native.Nat.{ℕ, ◌≤◌}
use native.Mathlib.Omega.{arith}
use borrow.Author.Tests.{le-leb, leb-true}
use lib.Dec.{leb}
use lib.ListN.{length, drop}
use denote.Ref.{Bor}
use Rattle.base.specs.Answer.{Part}
use Rattle.base.specs.Parts.{span, fits, placed, up_to, behind, part_in}
use Rattle.base.specs.Said.{Said, gives, refuses}
use Rattle.base.specs.Single.{SamePart}
use Rattle.base.proofs.Lists.{take_rest}

-- it stands within the bytes
within : (p : Part) (len : ℕ) (t : Bool) → fits p len ≡ t
    → ((cond t (span p.from p.to) (span 0 0)).from ≤ (cond t (span p.from p.to) (span 0 0)).to)
    × ((cond t (span p.from p.to) (span 0 0)).to ≤ len)
within p len true e =
    let both = (and-eq-true_iff (leb p.from p.to) (leb p.to len)).0 e in
    (leb-true p.from p.to both.0, leb-true p.to len both.1)
within p len false e = (omega arith, omega arith)

pub placed_within : (said : Said Part) (len : ℕ) → ((placed said len).from ≤ (placed said len).to) × ((placed said len).to ≤ len)
placed_within (gives p) len = within p len (fits p len) refl
placed_within (refuses why) len = (omega arith, omega arith)

-- what is behind the part of a read from the start
pub part_behind : (s : List ℕ) (n : ℕ) → n ≤ length s → part_in (behind (up_to (gives n)) (length s)) s ≡ drop n s
part_behind s n h = simp (le-leb n (length s) h, le-leb (length s) (length s) (omega arith)) (take_rest n s)

-- two parts that are told to be the same do stand at one place and hold the same
pub same_part : {held : List ℕ} {block place : ℕ} (x y : Bor (List ℕ)) → (x.now ≡ held) × (x.ref_ptr.0 ≡ block) × (x.ref_ptr.1 ≡ place)
    → (y.now ≡ held) × (y.ref_ptr.0 ≡ block) × (y.ref_ptr.1 ≡ place) → SamePart x y
same_part x y p q = (λ i. ((p.1 ∙ sym q.1) i, (p.2 ∙ sym q.2) i), p.0 ∙ sym q.0)
