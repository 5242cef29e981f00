-- The walk of Giving.antt for every method
--     fn m(self) -> &mut [u8] { g(self.second, self.frame) }
-- that passes what the struct keeps beside its slice too: the range is ρ of both.
-- Assumes nothing.
use mathlib.Core.Path.{refl}
use mathlib.Core.Bool.{true}
use Prim.Native.Nat.{ℕ}
use mathlib.Core.List.{List, [], ◌∷◌}
use lib.Dec.{T as Holds}
use lib.ListN.{length}
use seplogic.Ra.Ura.{Ura}
use mir.Syntax.{Callee as Called, Fn, named, erased, mut, w8, ty_int, ty_ref, deref, field, place, local, value_local, copy, rv_opd, addr_of, aggregate, assign, seq, call, return}
use mir.Val.{Val, WT, has_ty}
use base.Logic.{SProp, ent}
use base.Fml.{Lft, Share, ftrue, flft}
use prog.Wp.{Calls, Loops, WpFn, Closed}
use prog.Model.{Model}
use types.Logic.{Logic}
use contract.Lifetimes.{Lfts}
use contract.Running.{Running, MachineTables, tables}
use types.Kit.{‵, raw, ◌⊛◌, ◌$◌, ◌∵◌, !, qed, by, move, use1, fsplit, fjoin, join, frame, done}
use types.Part.{agg, whole, sub, look_in}
use types.Run.{look, init, forget, stop, hop, fld, from, load, addr, of_opd, and_then, no_more, assigns, land, returns, enter, alloc1, alloc0, params1, pass1, pass0, free1, free0}
use sound.WpLaws.{FmC}
use denote.RattleType.{owns}
use denote.Laws.{Is}
use denote.Builtin.{u8}
use denote.Ref.{MutBor}
use denote.Slice.{slice_ty, mut_slice_Lawful, Room}
use denote.Steps.{owned}
use denote.Triple.Statement.{Contract, Triple}
use denote.Triple.Call.{calls_at}
use denote.Triple.Spec.{Meets}
use denote.Triple.Clauses.{closing}
use denote.Triple.Table.{framed}
use Rattle.base.specs.Answer.{Part}
use Rattle.base.specs.Said.{Said}
use Rattle.view.proofs.HoldingMut.{HolderMut, Plain, IsPlain, valued, Bytes, Handed, lowered, spelt, holder_mut}
use Rattle.view.proofs.Walking.{Param, Args, by_value, lent_mut, ended, clauses, Promises, asked, Entry, Post, answered, ends, meets}

module _ {X : Plain} (B : HolderMut X true) (g : Called) (ρ : X.by.row.Denot → List ℕ → Said Part) where
  abbrev passed : List Param
  passed = by_value X.by ∷ lent_mut ∷ []

  abbrev pub function : Fn
  function = record {
    lifetimes = 1;
    outlives = [];
    ty_params = [];
    givens = 0;
    params = 1;
    locals = local (slice_ty (ty_ref (named 0) mut (ty_int w8))) value_local
        ∷ local (spelt B) value_local
        ∷ local X.by.ty value_local
        ∷ local (ty_ref erased mut (ty_int w8)) value_local
        ∷ local (slice_ty (ty_ref erased mut (ty_int w8))) value_local
        ∷ [];
    body = seq (assign (place 2 []) (rv_opd (copy (place 1 (field 1 ∷ [])))))
        (seq (assign (place 3 []) (addr_of (place 1 (field 0 ∷ field 0 ∷ deref (ty_int w8) ∷ []))))
        (seq (assign (place 4 []) (aggregate (copy (place 3 []) ∷ copy (place 1 (field 0 ∷ field 1 ∷ [])) ∷ [])))
        (seq (call g (copy (place 2 []) ∷ copy (place 4 []) ∷ []) (place 0 []))
        return)));
  }

  module _ {M : Type 1} {𝓤 : Ura M} (𝓛 : Logic 𝓤) where
    open 𝓛 use {H}

    abbrev Told : (κs : Lfts 1) → Args κs passed → MutBor (List ℕ) → SProp 𝓤
    Told κs a r = Handed 𝓛 (ρ a.0 a.1.0.now) a.1.0 r

    abbrev Tells : (κs : Lfts 1) → Args κs (holder_mut B ∷ []) → MutBor (List ℕ) → SProp 𝓤
    Tells κs a r = Handed 𝓛 (ρ (B.beside κs a.0) (B.frame κs a.0).now) (B.frame κs a.0) r

    abbrev pub Callee : Contract 𝓤
    Callee = Promises passed Bytes 𝓛 Told

    module _ (κ : Lft) (q : Share) (d : (B.row (κ, tt)).Denot) where
      abbrev x : MutBor (List ℕ)
      x = B.frame (κ, tt) d

      abbrev y : X.by.row.Denot
      y = B.beside (κ, tt) d

      abbrev mach : Val
      mach = lowered X true x y

      abbrev to : Callee.Ghost
      to = asked passed Bytes 𝓛 Told κ q (y, (x, tt))

      goes : IsPlain X y → ent 𝓤 (Entry (holder_mut B ∷ []) Bytes 𝓛 Tells κ q (d, tt)) (Callee.pre to)
      goes is =
          qed 𝓛 ((‵ (flft κ q) ⊛ ‵ ftrue) ∷ ‵ (owns (B.row (κ, tt) ∷ []) (d, tt) (mach ∷ [], tt)) ∷ []) ∵
          move ! (1 ∷ []) $ fsplit ! $ use1 𝓛 (‵ ((Bytes (κ, tt)).own_val x (valued x ∷ []))) (B.opens 𝓛 (κ, tt) d) $ fjoin ! $
          owned ! X.by.row (Is X.by.row) (X.makes 𝓛) y (X.by.low y ∷ []) is $ fjoin ! $ move ! (1 ∷ 0 ∷ []) $ join ! $ frame ! $ done !

      module _ (C : Calls 𝓤 H) (Λ : Loops 𝓤 H) (fm : FmC 𝓤 H 𝓛.laws C) (known : Triple 𝓤 (C g) Callee) where
        walk : Holds (has_ty (spelt B) mach) × WT mach → Room u8 (length x.now) → IsPlain X y
            → ent 𝓤 (Entry (holder_mut B ∷ []) Bytes 𝓛 Tells κ q (d, tt)) (WpFn 𝓤 H C Λ function (mach ∷ []) (Post (holder_mut B ∷ []) Bytes 𝓛 Tells κ q (d, tt)))
        walk wt room is_y =
            qed 𝓛 (raw (Entry (holder_mut B ∷ []) Bytes 𝓛 Tells κ q (d, tt)) ∷ []) ∵ use1 𝓛 (raw (Callee.pre to)) (goes is_y) $ enter ! C Λ function (mach ∷ []) _ $
            alloc1 ! (λ l₀. alloc1 ! (λ l₁. alloc1 ! (λ l₂. alloc1 ! (λ l₃. alloc1 ! (λ l₄. alloc0 ! $ params1 ! $ pass1 ! (init ! 6 refl wt) $ pass0 ! $
            -- [_4; …; _3; …; _2; …; self; …; room for _0; …; what g asks]
            assigns ! (of_opd ! (load ! (from ! (fld ! refl (stop !))) (look_in ! 6 (sub ! 1 refl (whole !))))) (from ! (stop !)) (init ! 4 refl (X.by.typed 𝓛 y is_y)) $
            assigns ! (addr ! (from ! (fld ! refl (fld ! refl (hop ! (look_in ! 6 (sub ! 0 refl (sub ! 0 refl (whole !)))) (stop !)))))) (from ! (stop !)) (init ! 2 refl (tt, tt)) $
            assigns ! (agg ! (and_then ! (load ! (from ! (stop !)) (look ! 2 refl)) (and_then ! (load ! (from ! (fld ! refl (fld ! refl (stop !)))) (look_in ! 6 (sub ! 1 refl (sub ! 0 refl (whole !))))) (no_more !)))) (from ! (stop !)) (init ! 0 refl (tt, (tt, (record { fits = room.0 }, tt)))) $
            move ! (10 ∷ []) $ calls_at ! fm Callee known to (and_then ! (load ! (from ! (stop !)) (look ! 5 refl)) (and_then ! (load ! (from ! (stop !)) (look ! 1 refl)) (no_more !))) (λ u. answered passed Bytes 𝓛 Told κ q (y, (x, tt)) ! tt u (λ r is.
            -- [what the part owns; the token; what is said; _4; …; _3; …; _2; …; self; …; room for _0; …]
            land ! (from ! (stop !)) (init ! 11 refl ((mut_slice_Lawful 𝓛 (named 0) κ u8).typed r _ is).0) $
            returns ! (look ! 11 refl) $ forget ! 3 refl $ forget ! 5 refl $ forget ! 7 refl $ forget ! 9 refl $ forget ! 11 refl $
            move ! (11 ∷ 12 ∷ []) $ free1 ! $ move ! (9 ∷ 10 ∷ []) $ free1 ! $ move ! (7 ∷ 8 ∷ []) $ free1 ! $ move ! (5 ∷ 6 ∷ []) $ free1 ! $ move ! (3 ∷ 4 ∷ []) $ free1 ! $ free0 ! $
            by ! (ends (holder_mut B ∷ []) Bytes 𝓛 Tells κ q (d, tt) r u))))))))

    module _ (𝓜 : Model 𝓤 H) (𝓡 : Running 𝓤 H 𝓜) where
      abbrev 𝓣 : MachineTables 𝓤 H 𝓜
      𝓣 = tables 𝓤 H 𝓜 𝓡 𝓡.env

      pub gives_up_by : (m : Called) → Closed 𝓤 H 𝓣.C 𝓣.Λ m function → Triple 𝓤 (𝓣.C g) Callee
          → Meets 𝓛 (ended (holder_mut B ∷ []) Bytes).signature (𝓣.C m) (closing 𝓛 (ended (holder_mut B ∷ []) Bytes) (clauses (holder_mut B ∷ []) Bytes 𝓛 Tells))
      gives_up_by m closed known =
          meets (holder_mut B ∷ []) Bytes 𝓛 Tells 𝓜 𝓡 m function closed (λ κ q a are.
          walk κ q a.0 𝓣.C 𝓣.Λ (framed 𝓤 H 𝓜 𝓣) known (B.typed 𝓛 (κ, tt) a.0 _ are.0) (B.room (κ, tt) a.0 are.0) (B.known (κ, tt) a.0 are.0))
