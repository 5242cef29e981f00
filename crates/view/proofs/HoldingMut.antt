-- A struct that holds lent bytes to write to: its first field is a slice, and its second, where it keeps one, is by value. What a walk
-- through its methods asks of it, and the promise of the functions that such a struct is made by and given up to: those that hand out a part of lent
-- bytes (base, Handing.antt and HandingBy.antt).
-- Assumes nothing.
use mathlib.Core.Path.{◌≡◌, subst}
use mathlib.Core.Bool.{Bool, true, false}
use Prim.Native.Nat.{ℕ}
use mathlib.Core.List.{List, [], ◌∷◌}
use lib.Dec.{T as Holds}
use lib.ListN.{length}
use seplogic.Ra.Ura.{Ura}
use mir.Syntax.{Ty, Tys, Sym, named, mut, w8, ty_int, ty_ref, ty_struct, tcons, tnil}
use mir.Val.{Val, WT, has_ty, vstruct, vcons, of_list}
use base.Logic.{SProp, ent, sep, id⊢}
use types.Logic.{Logic, sem}
use contract.Lifetimes.{Lfts}
use contract.Monad.{fact, fact_use}
use denote.RattleType.{RattleType}
use denote.Laws.{Is, Makes, Tells, shows}
use denote.Builtin.{u8}
use denote.Exit.{Last, no}
use denote.Ref.{MutBor}
use denote.Signature.{plain}
use denote.Slice.{slice_ty, slice_val, MutSlice, Room}
use denote.Triple.Walked.{Goes, stay_dropped}
use Rattle.base.specs.Answer.{Part}
use Rattle.base.specs.Parts.{IsPartMut, LendsPart}
use Rattle.base.specs.Said.{Said}
use Rattle.base.proofs.ByValue.{ByValue}
use Rattle.view.proofs.Walking.{Param}

-- a slice's machine value
abbrev pub valued : MutBor (List ℕ) → Val
valued x = slice_val x.ref_ptr (length x.now)

-- a slice to write to
abbrev pub Bytes : Lfts 1 → RattleType
Bytes κs = MutSlice (named 0) κs.0 u8

-- r is handed out as the part p of x: it is that part, and x follows it
abbrev pub Handed : {M : Type 1} {𝓤 : Ura M} (𝓛 : Logic 𝓤) → Said Part → MutBor (List ℕ) → MutBor (List ℕ) → SProp 𝓤
Handed {𝓤 = 𝓤} 𝓛 p x r = sep 𝓤 (sem 𝓛 (LendsPart p x r)) (fact 𝓤 (IsPartMut p x r))

-- a type by value that owns facts alone, so that whoever has a value of it has what it owns as often as it is asked for
pub record Plain : Type 2 where
  pub by : ByValue
  pub makes : {M : Type 1} {𝓤 : Ura M} (𝓛 : Logic 𝓤) → Makes 𝓛 by.row (Is by.row)

-- a value of it is of its type
abbrev pub IsPlain : (X : Plain) → X.by.row.Denot → Type 0
IsPlain X x = Is X.by.row x (X.by.low x ∷ [])

-- whatever machine values a value of a type is at, it is at those that are told of it
pub at_low : (X : ByValue) (x : X.row.Denot) (vs : List Val) → Is X.row x vs → Is X.row x (X.low x ∷ [])
at_low X x vs is = subst (λ (us : List Val). Is X.row x us) (X.tells x vs is) is

-- and so is what it owns
pub own_low : {M : Type 1} {𝓤 : Ura M} (𝓛 : Logic 𝓤) (R : RattleType) (vals : R.Denot → List Val) → Tells R (Is R) vals → (d : R.Denot) (vs : List Val)
    → ent 𝓤 (sem 𝓛 (R.own_val d vs)) (sem 𝓛 (R.own_val d (vals d)))
own_low {𝓤 = 𝓤} 𝓛 R vals tells d vs =
    fact_use 𝓤 (Is R d vs) (shows 𝓛 R d vs) (λ is. subst (λ (us : List Val). ent 𝓤 (sem 𝓛 (R.own_val d vs)) (sem 𝓛 (R.own_val d us))) (tells d vs is) (id⊢ 𝓤 (sem 𝓛 (R.own_val d vs))))

-- ---- what is kept beside the slice: one thing of X, or nothing

module _ (X : Plain) where
  abbrev pub Kept : Bool → Type 0
  Kept true = X.by.row.Denot
  Kept false = Unit {0}

  abbrev pub IsKept : (keeps : Bool) → Kept keeps → Type 0
  IsKept true x = IsPlain X x
  IsKept false x = Unit {0}

  abbrev kept_types : Bool → Tys
  kept_types true = tcons X.by.ty tnil
  kept_types false = tnil

  abbrev pub kept_values : (keeps : Bool) → Kept keeps → List Val
  kept_values true x = X.by.low x ∷ []
  kept_values false x = []

  abbrev spelt_by : Bool → Sym → Ty
  spelt_by keeps name = ty_struct name (tcons (slice_ty (ty_ref (named 0) mut (ty_int w8))) (kept_types keeps))

  -- the struct's machine value
  abbrev pub lowered : (keeps : Bool) → MutBor (List ℕ) → Kept keeps → Val
  lowered keeps x k = vstruct (vcons (valued x) (of_list (kept_values keeps k)))

pub record HolderMut (X : Plain) (keeps : Bool) : Type 2 where
  -- the struct over the signature's lifetimes, what it holds, and the struct of what is to be held
  pub row : Lfts 1 → RattleType
  pub frame : (κs : Lfts 1) → (row κs).Denot → MutBor (List ℕ)
  pub beside : (κs : Lfts 1) → (row κs).Denot → Kept X keeps
  pub made : (κs : Lfts 1) → MutBor (List ℕ) → Kept X keeps → (row κs).Denot
  pub holds : (κs : Lfts 1) (r : MutBor (List ℕ)) (k : Kept X keeps) → r ≡ frame κs (made κs r k)
  pub keeping : (κs : Lfts 1) (r : MutBor (List ℕ)) (k : Kept X keeps) → beside κs (made κs r k) ≡ k
  pub name : Sym
  pub tells : (κs : Lfts 1) → Tells (row κs) (Is (row κs)) (λ d. lowered X keeps (frame κs d) (beside κs d) ∷ [])
  pub typed : {M : Type 1} {𝓤 : Ura M} (𝓛 : Logic 𝓤) → (κs : Lfts 1) (d : (row κs).Denot) (v : Val) → Is (row κs) d (v ∷ []) → Holds (has_ty (spelt_by X keeps name) v) × WT v
  pub room : (κs : Lfts 1) (d : (row κs).Denot) → Is (row κs) d (lowered X keeps (frame κs d) (beside κs d) ∷ []) → Room u8 (length (frame κs d).now)
  pub known : (κs : Lfts 1) (d : (row κs).Denot) → Is (row κs) d (lowered X keeps (frame κs d) (beside κs d) ∷ []) → IsKept X keeps (beside κs d)
  -- given up, nothing is had of it
  pub last : (κs : Lfts 1) (d : (row κs).Denot) → Last ((row κs).exit no) d
  pub spends : {M : Type 1} {𝓤 : Ura M} (𝓛 : Logic 𝓤) → Goes 𝓛 1 (plain row) no (stay_dropped (plain row) no)
  -- what it owns is what the slice owns, and facts
  pub opens : {M : Type 1} {𝓤 : Ura M} (𝓛 : Logic 𝓤) → (κs : Lfts 1) (d : (row κs).Denot)
      → ent 𝓤 (sem 𝓛 ((row κs).own_val d (lowered X keeps (frame κs d) (beside κs d) ∷ []))) (sem 𝓛 ((Bytes κs).own_val (frame κs d) (valued (frame κs d) ∷ [])))
  pub shuts : {M : Type 1} {𝓤 : Ura M} (𝓛 : Logic 𝓤) → (κs : Lfts 1) (r : MutBor (List ℕ)) (k : Kept X keeps) → IsKept X keeps k
      → ent 𝓤 (sem 𝓛 ((Bytes κs).own_val r (valued r ∷ []))) (sem 𝓛 ((row κs).own_val (made κs r k) (lowered X keeps r k ∷ [])))

module _ {X : Plain} {keeps : Bool} where
  abbrev pub spelt : HolderMut X keeps → Ty
  spelt B = spelt_by X keeps B.name

  -- the struct as a parameter that is given up
  abbrev pub holder_mut : HolderMut X keeps → Param
  holder_mut B = record {
    slot = plain B.row;
    kept = no;
    vals = λ κs d. lowered X keeps (B.frame κs d) (B.beside κs d) ∷ [];
    tells = B.tells;
    last = B.last;
    goes = λ 𝓛. B.spends 𝓛;
  }
