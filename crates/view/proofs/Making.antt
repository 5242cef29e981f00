-- One walk by hand for both functions
--     fn m(x: X, s: &mut [u8]) -> S { S { frame: g(x, s), second: x } }
--     fn m(x: X, s: &mut [u8]) -> S { S { frame: g(x, s) } }
-- that make a struct which holds lent bytes to write to, and which keeps x or does not (HoldingMut.antt), where g hands out a part of the bytes, by
-- ρ of x and all of them: the slice goes to g for good, the part that comes back goes into the struct, and what ties it to the whole is m's promise.
--     Callee       what g promises
--     makes_view   m's code meets its contract where g meets its own
-- Assumes nothing.
use mathlib.Core.Path.{◌≡◌, refl, ap, subst}
use mathlib.Core.Bool.{Bool, true, false}
use Prim.Native.Nat.{ℕ}
use mathlib.Core.List.{List, [], ◌∷◌}
use lib.ListN.{length}
use seplogic.Ra.Ura.{Ura}
use base.Fraction.{full_share}
use mir.Syntax.{Callee as Called, Fn, Opd as Operand, named, erased, mut, w8, ty_int, ty_ref, deref, field, place, local, value_local, copy, addr_of, aggregate, assign, seq, call, return}
use mir.Val.{Val}
use base.Logic.{SProp, ent, sep, via, id⊢, mono_r}
use base.Fml.{Lft, Share, fat}
use prog.Wp.{Env, Calls, Loops, WpFn, Closed}
use prog.Model.{Model}
use types.Logic.{Logic, sem}
use contract.Lifetimes.{Lfts}
use contract.Running.{Running, MachineTables, tables}
use contract.Monad.{fact}
use types.Kit.{Item, ‵, raw, ◌$◌, ◌∵◌, !, qed, by, move, use1, rewrite, frame, done}
use types.Part.{agg, whole, sub, look_in}
use types.Run.{Opd, Opds, look, init, forget, stop, hop, fld, from, load, addr, and_then, no_more, assigns, land, returns, enter, alloc1, alloc0, params1, pass1, pass0, free1, free0}
use sound.WpLaws.{FmC}
use denote.Laws.{Is, shows}
use denote.Builtin.{u8}
use denote.Ref.{MutBor}
use denote.Slice.{slice_ty, mut_slice_Lawful, Room}
use denote.Steps.{peeks, only}
use denote.Triple.Statement.{Contract, Triple}
use denote.Triple.Call.{calls_at}
use denote.Triple.Spec.{Meets}
use denote.Triple.Clauses.{closing}
use denote.Triple.Table.{framed}
use Rattle.base.specs.Answer.{Part}
use Rattle.base.specs.Parts.{IsPartMut, LendsPart}
use Rattle.base.specs.Said.{Said}
use Rattle.base.proofs.Facts.{from_one}
use Rattle.view.proofs.HoldingMut.{HolderMut, Plain, IsPlain, valued, Kept, IsKept, kept_values, Bytes, Handed, lowered, spelt}
use Rattle.view.proofs.Walking.{Param, Args, by_value, lent_mut, ended, clauses, Promises, asked, Entry, Post, answered, ends, meets}

-- ---- what is kept of x

-- its operands in the struct that is made: `_1` is x
abbrev operands : Bool → List Operand
operands true = copy (place 1 []) ∷ []
operands false = []

module _ (X : Plain) where
  abbrev keep : (keeps : Bool) → X.by.row.Denot → Kept X keeps
  keep true x = x
  keep false x = tt

  keep_is : (keeps : Bool) (x : X.by.row.Denot) → IsPlain X x → IsKept X keeps (keep keeps x)
  keep_is true x is = is
  keep_is false x is = tt

  keep_read : {M : Type 1} {𝓤 : Ura M} {𝓛 : Logic 𝓤} {K : Type 0} {Γ : List (Item 𝓤)} {E : Env 𝓤 𝓛.H} → K → (keeps : Bool) (x : X.by.row.Denot)
      → Opd K 𝓛 Γ E (copy (place 1 [])) (X.by.low x) → Opds K 𝓛 Γ E (operands keeps) (kept_values X keeps (keep keeps x))
  keep_read t true x one = and_then t one (no_more t)
  keep_read t false x one = no_more t

  -- what is promised of the part r and of what stands beside it
  abbrev Says : (keeps : Bool) → Said Part → X.by.row.Denot → MutBor (List ℕ) → MutBor (List ℕ) → Kept X keeps → Type 0
  Says true p x s r k = IsPartMut p s r × (k ≡ x)
  Says false p x s r k = IsPartMut p s r

  keep_says : (keeps : Bool) (p : Said Part) (x : X.by.row.Denot) (s r : MutBor (List ℕ)) (k : Kept X keeps) → IsPartMut p s r → k ≡ keep keeps x → Says keeps p x s r k
  keep_says true p x s r k is e = (is, e)
  keep_says false p x s r k is e = is

module _ {X : Plain} {keeps : Bool} (B : HolderMut X keeps) (g : Called) (ρ : X.by.row.Denot → List ℕ → Said Part) where
  abbrev passed : List Param
  passed = by_value X.by ∷ lent_mut ∷ []

  abbrev pub function : Fn
  function = record {
    lifetimes = 1;
    outlives = [];
    ty_params = [];
    givens = 0;
    params = 2;
    locals = local (spelt B) value_local
        ∷ local X.by.ty value_local
        ∷ local (slice_ty (ty_ref (named 0) mut (ty_int w8))) value_local
        ∷ local (slice_ty (ty_ref erased mut (ty_int w8))) value_local
        ∷ local (ty_ref erased mut (ty_int w8)) value_local
        ∷ local (slice_ty (ty_ref erased mut (ty_int w8))) value_local
        ∷ [];
    body = seq (assign (place 4 []) (addr_of (place 2 (field 0 ∷ deref (ty_int w8) ∷ []))))
        (seq (assign (place 5 []) (aggregate (copy (place 4 []) ∷ copy (place 2 (field 1 ∷ [])) ∷ [])))
        (seq (call g (copy (place 1 []) ∷ copy (place 5 []) ∷ []) (place 3 []))
        (seq (assign (place 0 []) (aggregate (copy (place 3 []) ∷ operands keeps)))
        return)));
  }

  module _ {M : Type 1} {𝓤 : Ura M} (𝓛 : Logic 𝓤) where
    open 𝓛 use {H}

    abbrev Told : (κs : Lfts 1) → Args κs passed → MutBor (List ℕ) → SProp 𝓤
    Told κs a r = Handed 𝓛 (ρ a.0 a.1.0.now) a.1.0 r

    abbrev Tells : (κs : Lfts 1) → Args κs passed → (B.row κs).Denot → SProp 𝓤
    Tells κs a d = sep 𝓤 (sem 𝓛 (LendsPart (ρ a.0 a.1.0.now) a.1.0 (B.frame κs d))) (fact 𝓤 (Says X keeps (ρ a.0 a.1.0.now) a.0 a.1.0 (B.frame κs d) (B.beside κs d)))

    abbrev pub Callee : Contract 𝓤
    Callee = Promises passed Bytes 𝓛 Told

    module _ (κ : Lft) (q : Share) (x : X.by.row.Denot) (s : MutBor (List ℕ)) where
      abbrev a : Args (κ, tt) passed
      a = (x, (s, tt))

      abbrev to : Callee.Ghost
      to = asked passed Bytes 𝓛 Told κ q a

      -- the struct of the part r
      abbrev made : MutBor (List ℕ) → (B.row (κ, tt)).Denot
      made r = B.made (κ, tt) r (keep X keeps x)

      goes : ent 𝓤 (Entry passed B.row 𝓛 Tells κ q a) (Callee.pre to)
      goes = qed 𝓛 (raw (Entry passed B.row 𝓛 Tells κ q a) ∷ []) ∵ frame ! $ done !

      -- what g says of the part, of the struct
      hands : (r : MutBor (List ℕ)) → ent 𝓤 (Told (κ, tt) a r) (Tells (κ, tt) a (made r))
      hands r =
          via 𝓤 (Handed 𝓛 p s (B.frame (κ, tt) (made r)))
          (subst (λ (t : MutBor (List ℕ)). ent 𝓤 (Handed 𝓛 p s r) (Handed 𝓛 p s t)) (B.holds (κ, tt) r (keep X keeps x)) (id⊢ 𝓤 (Handed 𝓛 p s r)))
          (mono_r 𝓤 (sem 𝓛 (LendsPart p s (B.frame (κ, tt) (made r))))
          (from_one 𝓤 (IsPartMut p s (B.frame (κ, tt) (made r))) (λ is. keep_says X keeps p x s (B.frame (κ, tt) (made r)) (B.beside (κ, tt) (made r)) is (B.keeping (κ, tt) r (keep X keeps x)))))
        where
          p : Said Part
          p = ρ x s.now

      module _ (C : Calls 𝓤 H) (Λ : Loops 𝓤 H) (fm : FmC 𝓤 H 𝓛.laws C) (known : Triple 𝓤 (C g) Callee) where
        walk : IsPlain X x → Room u8 (length s.now) → ent 𝓤 (Entry passed B.row 𝓛 Tells κ q a) (WpFn 𝓤 H C Λ function (X.by.low x ∷ valued s ∷ []) (Post passed B.row 𝓛 Tells κ q a))
        walk is_x room =
            qed 𝓛 (raw (Entry passed B.row 𝓛 Tells κ q a) ∷ []) ∵ use1 𝓛 (raw (Callee.pre to)) goes $ enter ! C Λ function (X.by.low x ∷ valued s ∷ []) _ $
            alloc1 ! (λ l₀. alloc1 ! (λ l₁. alloc1 ! (λ l₂. alloc1 ! (λ l₃. alloc1 ! (λ l₄. alloc1 ! (λ l₅. alloc0 ! $ params1 ! $
            pass1 ! (init ! 8 refl (X.by.typed 𝓛 x is_x)) $ pass1 ! (init ! 6 refl (tt, (tt, (record { fits = room.0 }, tt)))) $ pass0 ! $
            -- [_5; …; _4; …; _3; …; s; …; x; …; room for _0; …; what g asks]
            assigns ! (addr ! (from ! (fld ! refl (hop ! (look_in ! 6 (sub ! 0 refl (whole !))) (stop !))))) (from ! (stop !)) (init ! 2 refl (tt, tt)) $
            assigns ! (agg ! (and_then ! (load ! (from ! (stop !)) (look ! 2 refl)) (and_then ! (load ! (from ! (fld ! refl (stop !))) (look_in ! 6 (sub ! 1 refl (whole !)))) (no_more !)))) (from ! (stop !)) (init ! 0 refl (tt, (tt, (record { fits = room.0 }, tt)))) $
            move ! (12 ∷ []) $ calls_at ! fm Callee known to (and_then ! (load ! (from ! (stop !)) (look ! 9 refl)) (and_then ! (load ! (from ! (stop !)) (look ! 1 refl)) (no_more !))) (λ u. answered passed Bytes 𝓛 Told κ q a ! tt u (λ r is.
            -- [what the part owns; the token; what is said; _5; …; _4; …; _3; …; s; …; x; …; room for _0; …]: the part's machine value is known by what it owns
            rewrite ! 0 (λ (vs : List Val). ‵ ((Bytes (κ, tt)).own_val r vs)) is.0.0 refl $
            land ! (from ! (stop !)) (init ! 7 refl ((mut_slice_Lawful 𝓛 erased κ u8).typed r _ is).0) $
            rewrite ! 7 (λ (v : Val). ‵ (fat full_share (slice_ty (ty_ref erased mut (ty_int w8))) l₃ 0 v)) (ap only is.0.0) refl $
            -- the struct is put together: what it owns, and then its value
            use1 𝓛 (‵ ((B.row (κ, tt)).own_val (made r) (lowered X keeps r (keep X keeps x) ∷ []))) (B.shuts 𝓛 (κ, tt) r (keep X keeps x) (keep_is X keeps x is_x)) $
            peeks ! (B.row (κ, tt)) (Is (B.row (κ, tt))) (shows 𝓛 (B.row (κ, tt))) (made r) (lowered X keeps r (keep X keeps x) ∷ []) (λ is_made.
            assigns ! (agg ! (and_then ! (load ! (from ! (stop !)) (look ! 7 refl)) (keep_read X ! keeps x (load ! (from ! (stop !)) (look ! 11 refl))))) (from ! (stop !)) (init ! 13 refl (B.typed 𝓛 (κ, tt) (made r) _ is_made)) $
            returns ! (look ! 13 refl) $ forget ! 3 refl $ forget ! 5 refl $ forget ! 7 refl $ forget ! 9 refl $ forget ! 11 refl $ forget ! 13 refl $
            move ! (13 ∷ 14 ∷ []) $ free1 ! $ move ! (11 ∷ 12 ∷ []) $ free1 ! $ move ! (9 ∷ 10 ∷ []) $ free1 ! $ move ! (7 ∷ 8 ∷ []) $ free1 ! $ move ! (5 ∷ 6 ∷ []) $ free1 ! $ move ! (3 ∷ 4 ∷ []) $ free1 ! $ free0 ! $
            move ! (2 ∷ []) $ use1 𝓛 (raw (Tells (κ, tt) a (made r))) (hands r) $ move ! (1 ∷ 2 ∷ []) $ by ! (ends passed B.row 𝓛 Tells κ q a (made r) (lowered X keeps r (keep X keeps x))))))))))))

    module _ (𝓜 : Model 𝓤 H) (𝓡 : Running 𝓤 H 𝓜) where
      abbrev 𝓣 : MachineTables 𝓤 H 𝓜
      𝓣 = tables 𝓤 H 𝓜 𝓡 𝓡.env

      pub makes_view : (m : Called) → Closed 𝓤 H 𝓣.C 𝓣.Λ m function → Triple 𝓤 (𝓣.C g) Callee
          → Meets 𝓛 (ended passed B.row).signature (𝓣.C m) (closing 𝓛 (ended passed B.row) (clauses passed B.row 𝓛 Tells))
      makes_view m closed known =
          meets passed B.row 𝓛 Tells 𝓜 𝓡 m function closed (λ κ q a are.
          walk κ q a.0 a.1.0 𝓣.C 𝓣.Λ (framed 𝓤 H 𝓜 𝓣) known are.0 are.1.0.0.1)
