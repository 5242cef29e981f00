-- What stands around every walk by hand of this crate: a function over parameters of which nothing is had at its exit, whose contract asks
-- nothing and promises Q of the arguments and the result.
--     Param             a parameter: its type, each value's machine values, and that nothing is said of it at exit
--     by_value, lent_mut     what is passed by value, and a `&'a mut [u8]` that is given up
--     ended, clauses, Promises     the function's signature and contract
--     asked             the call of such a function with the arguments a.        answered     what its caller has of it
--     ends              how a walk of one ends.                                  meets        its code meets its contract, by a walk
-- Assumes nothing.
use mathlib.Core.List.{List, [], ◌∷◌}
use seplogic.Ra.Ura.{Ura}
use mir.Syntax.{Callee, Fn, named}
use mir.Val.{Val}
use base.Logic.{SProp, ent, sep, emp, via, fst∗, snd∗, ex_e, id⊢, comm∗}
use base.Fml.{Fml, Lft, Share, ftrue, flft}
use prog.Model.{Model}
use prog.Wp.{WpFn, Closed}
use types.Logic.{Logic, sem}
use contract.Lifetimes.{Lfts}
use contract.Running.{Running, MachineTables, tables}
use types.Kit.{Item, Goal, Seq, Soaks, ‵, raw, ◌⊛◌, ⋆, some, later, ◌$◌, ◌∵◌, !, qed, move, use0, use1, split, pick, fjoin, suffices, frame, await, done}
use denote.RattleType.{RattleType, Denots, Valss, flat}
use denote.Laws.{Is, Are, Ises, Spells, Tells, Tellss, valss, shows}
use denote.Builtin.{u8}
use denote.Exit.{Kept, Last, yes, no}
use denote.Signature.{Slot, plain, mut_slice_of, types_at}
use denote.Slice.{mut_slice_vals, mut_slice_Tells}
use denote.Steps.{peeks, nothing}
use denote.Triple.Statement.{Contract}
use denote.Triple.End.{Kepts, Fins}
use denote.Triple.Entry.{on_entry}
use denote.Triple.Spec.{Meets, triple_of}
use denote.Triple.Clauses.{Clauses, Ended, ensured, lasts, closing}
use denote.Triple.Walked.{Stays, stay_dropped, fits_of, has_of, on_exit, walk_of, Goes, AllGo, Goes-dropped, Goes-spent_slice, ends_at}
use Rattle.std.proofs.raw_atomic.Walks.{proved}
use Rattle.base.proofs.ByValue.{ByValue}

pub record Param : Type 2 where
  pub slot : Slot 1
  pub kept : Kept
  pub vals : (κs : Lfts 1) → (slot.row κs).Denot → List Val
  pub tells : (κs : Lfts 1) → Tells (slot.row κs) (Is (slot.row κs)) (vals κs)
  pub last : (κs : Lfts 1) (d : (slot.row κs).Denot) → Last ((slot.row κs).exit kept) d
  pub goes : {M : Type 1} {𝓤 : Ura M} (𝓛 : Logic 𝓤) → Goes 𝓛 1 slot kept (stay_dropped slot kept)

abbrev pub by_value : ByValue → Param
by_value X = record {
  slot = plain (λ _. X.row);
  kept = yes;
  vals = λ κs d. X.low d ∷ [];
  tells = λ κs. X.tells;
  last = λ κs. X.last;
  goes = λ 𝓛. Goes-dropped 𝓛 1 (plain (λ _. X.row)) yes (λ κs. X.silent);
}

abbrev pub lent_mut : Param
lent_mut = record {
  slot = mut_slice_of (0 ∷ []) tt (plain (λ _. u8));
  kept = no;
  vals = λ κs. mut_slice_vals;
  tells = λ κs. mut_slice_Tells (named 0) κs.0 u8;
  last = λ κs d. tt;
  goes = λ 𝓛. Goes-spent_slice 𝓛 1 (0 ∷ []) tt (plain (λ _. u8));
}

-- ---- a list of parameters

abbrev pub slots : List Param → List (Slot 1)
slots [] = []
slots (p ∷ ps) = p.slot ∷ slots ps

abbrev kepts : (ps : List Param) → Kepts (slots ps)
kepts [] = tt
kepts (p ∷ ps) = (p.kept, kepts ps)

abbrev dropped : (ps : List Param) → Stays (slots ps) (kepts ps)
dropped [] = tt
dropped (p ∷ ps) = (stay_dropped p.slot p.kept, dropped ps)

module _ (κs : Lfts 1) where
  abbrev pub Args : List Param → Type 0
  Args ps = Denots (types_at (slots ps) κs)

  abbrev spells : (ps : List Param) → Spells (types_at (slots ps) κs)
  spells [] = tt
  spells (p ∷ ps) = (p.vals κs, spells ps)

  abbrev pub machine : (ps : List Param) → Args ps → Valss (types_at (slots ps) κs)
  machine ps a = valss (types_at (slots ps) κs) (spells ps) a

  -- each argument is of its type
  abbrev pub Typed : (ps : List Param) → Args ps → Type 0
  Typed ps a = Are (types_at (slots ps) κs) (Ises (types_at (slots ps) κs)) a (machine ps a)

  tellss : (ps : List Param) → Tellss (types_at (slots ps) κs) (Ises (types_at (slots ps) κs)) (spells ps)
  tellss [] = tt
  tellss (p ∷ ps) = (p.tells κs, tellss ps)

  abbrev ending : (ps : List Param) (a : Args ps) → Fins κs (slots ps) (kepts ps) a
  ending [] a = tt
  ending (p ∷ ps) a = (p.last κs a.0, ending ps a.1)

  fits : (ps : List Param) (a : Args ps) → fits_of κs (slots ps) (kepts ps) (dropped ps) a (ending ps a)
  fits [] a = tt
  fits (p ∷ ps) a = (tt, fits ps a.1)

  abbrev had : (ps : List Param) (a : Args ps) → Fml
  had ps a = has_of κs (slots ps) (kepts ps) (dropped ps) a (ending ps a) (machine ps a)

module _ {M : Type 1} {𝓤 : Ura M} (𝓛 : Logic 𝓤) where
  all_go : (ps : List Param) → AllGo 𝓛 1 (slots ps) (kepts ps) (dropped ps)
  all_go [] = tt
  all_go (p ∷ ps) = (p.goes 𝓛, all_go ps)

  had_nothing : (κs : Lfts 1) (ps : List Param) (a : Args κs ps) → ent 𝓤 (emp 𝓤) (sem 𝓛 (had κs ps a))
  had_nothing κs [] a = id⊢ 𝓤 (emp 𝓤)
  had_nothing κs (p ∷ ps) a = qed 𝓛 (‵ ftrue ∷ []) ∵ use1 𝓛 (‵ (had κs ps a.1)) (had_nothing κs ps a.1) $ nothing ! $ fjoin ! $ done !

-- ---- a function with such parameters and a result of R

module _ (ps : List Param) (R : Lfts 1 → RattleType) where
  abbrev pub ended : Ended
  ended = record { signature = record { lifetimes = 1; outlives = []; params = slots ps; result = plain R }; kept = kepts ps }

  module _ {M : Type 1} {𝓤 : Ura M} (𝓛 : Logic 𝓤) (Q : (κs : Lfts 1) → Args κs ps → (R κs).Denot → SProp 𝓤) where
    open 𝓛 use {H}

    abbrev pub clauses : Clauses 𝓤 ended
    clauses κs a = record { ghost = Unit {0}; requires = λ _. emp 𝓤; ensures = λ _ r _. Q κs a r }

    abbrev pub Promises : Contract 𝓤
    Promises = triple_of 𝓛 ended.signature (closing 𝓛 ended clauses)

    module _ (κ : Lft) (q : Share) (a : Args (κ, tt) ps) where
      abbrev pub asked : Promises.Ghost
      asked = (((κ, tt), (q, tt), tt, a, machine (κ, tt) ps a), tt)

      -- what a walk begins with and what it ends in
      abbrev pub Entry : SProp 𝓤
      Entry = on_entry 𝓛 ended.signature (κ, tt) (q, tt) a (machine (κ, tt) ps a)

      abbrev pub Post : Val → SProp 𝓤
      Post = (walk_of 𝓛 ended (dropped ps) clauses).post asked

      said : (r : (R (κ, tt)).Denot) → ent 𝓤 (ensured 𝓛 ended clauses (κ, tt) a tt r) (Q (κ, tt) a r)
      said r = ex_e 𝓤 _ (λ ws. snd∗ 𝓤 (sem 𝓛 (lasts ended (κ, tt) a ws)) (Q (κ, tt) a r))

      module _ {K : Type 0} {Γ : List (Item 𝓤)} {G : Goal 𝓤 H} where
        pub answered : K → Soaks G → (u : Val)
            → ((r : (R (κ, tt)).Denot) → Is (R (κ, tt)) r (u ∷ []) → Seq K 𝓛 (‵ ((R (κ, tt)).own_val r (u ∷ [])) ∷ (‵ (flft κ q) ⊛ ‵ ftrue) ∷ raw (Q (κ, tt) a r) ∷ Γ) G)
            → Seq K 𝓛 (raw (Promises.post asked u) ∷ Γ) G
        answered t z u k =
            use1 𝓛 (later (some (λ (r : (R (κ, tt)).Denot). ((‵ (flft κ q) ⊛ ‵ ftrue) ⊛ ‵ ((R (κ, tt)).own_val r (u ∷ []))) ⊛ raw (ensured 𝓛 ended clauses (κ, tt) a tt r)))) (id⊢ 𝓤 _) $ await t z $ pick t (λ r.
            split t $ move t (1 ∷ []) $ use1 𝓛 (raw (Q (κ, tt) a r)) (said r) $ move t (1 ∷ []) $ split t $ move t (1 ∷ []) $
            peeks t (R (κ, tt)) (Is (R (κ, tt))) (shows 𝓛 (R (κ, tt))) r (u ∷ []) (λ is. k r is))

      pub ends : (r : (R (κ, tt)).Denot) (u : Val) → ent 𝓤 (⋆ 𝓛 (‵ ((R (κ, tt)).own_val r (u ∷ [])) ∷ (‵ (flft κ q) ⊛ ‵ ftrue) ∷ raw (Q (κ, tt) a r) ∷ [])) (Post u)
      ends r u =
          qed 𝓛 (‵ ((R (κ, tt)).own_val r (u ∷ [])) ∷ (‵ (flft κ q) ⊛ ‵ ftrue) ∷ raw (Q (κ, tt) a r) ∷ []) ∵
          suffices ! (sep 𝓤 (Q (κ, tt) a r) OnExit)
          (via 𝓤 (sep 𝓤 OnExit (Q (κ, tt) a r)) (comm∗ 𝓤 (Q (κ, tt) a r) OnExit) (ends_at 𝓛 ended (dropped ps) clauses asked u r (ending (κ, tt) ps a) (fits (κ, tt) ps a))) $
          move ! (2 ∷ 1 ∷ []) $ frame ! $ frame ! $ use0 𝓛 (‵ (had (κ, tt) ps a)) (had_nothing 𝓛 (κ, tt) ps a) $ done !
        where
          OnExit : SProp 𝓤
          OnExit = on_exit 𝓛 ended (dropped ps) (κ, tt) (q, tt) (machine (κ, tt) ps a) u r a (ending (κ, tt) ps a)

    module _ (𝓜 : Model 𝓤 H) (𝓡 : Running 𝓤 H 𝓜) where
      abbrev 𝓣 : MachineTables 𝓤 H 𝓜
      𝓣 = tables 𝓤 H 𝓜 𝓡 𝓡.env

      pub meets : (m : Callee) (function : Fn) → Closed 𝓤 H 𝓣.C 𝓣.Λ m function
          → ((κ : Lft) (q : Share) (a : Args (κ, tt) ps) → Typed (κ, tt) ps a → ent 𝓤 (Entry κ q a) (WpFn 𝓤 H 𝓣.C 𝓣.Λ function (flat (types_at (slots ps) (κ, tt)) (machine (κ, tt) ps a)) (Post κ q a)))
          → Meets 𝓛 ended.signature (𝓣.C m) (closing 𝓛 ended clauses)
      meets m function closed walk =
          proved 𝓛 ended (dropped ps) clauses 𝓜 𝓡 (all_go 𝓛 ps) m function closed (λ κs. spells κs ps) (λ κs. tellss κs ps)
          (λ κs qs bounds a g are. via 𝓤 _ (fst∗ 𝓤 _ (emp 𝓤)) (walk κs.0 qs.0 a are))
