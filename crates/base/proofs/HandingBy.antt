-- The walk of Handing.antt for a function that takes one thing more, by value, and passes it to g:
--     fn m(d: X, s: &mut [u8]) -> &mut [u8] { let range = g(d, s); part_mut(s, range) }
-- X is any type by value (ByValue.antt).
-- Assumes nothing.
use mathlib.Core.Path.{◌≡◌, refl, ap, subst}
use Prim.Native.Nat.{ℕ}
use mathlib.Core.List.{List, [], ◌∷◌}
use lib.ListN.{length}
use seplogic.Ra.Ura.{Ura}
use base.Fraction.{full_share}
use mir.Syntax.{Callee, Fn, named, erased, imm, mut, w8, ty_int, ty_ref, deref, field, place, local, value_local, copy, addr_of, aggregate, assign, seq, call, return}
use mir.Val.{Val}
use base.Logic.{SProp, ent, sep, emp, via, fst∗, snd∗, ex_e, id⊢, mono_l, comm∗, assoc∗}
use base.Fml.{Lft, Share, GName, ftrue, flft, flent, fat}
use prog.Memory.{Memory}
use prog.Routine.{Routine}
use prog.Model.{Model}
use prog.Wp.{Calls, Loops, WpFn, Closed}
use contract.Running.{Running, MachineTables, tables}
use denote.Triple.Table.{framed}
use Rattle.std.proofs.raw_atomic.Walks.{proved}
use types.Logic.{Logic, sem}
use contract.Monad.{Fun, fact}
use types.Kit.{‵, raw, ◌⊛◌, ⋆, some, later, ◌$◌, ◌∵◌, !, qed, by, move, keep, drop, use1, use2, use3, rewrite, split, join, pick, fsplit, fjoin, feq_i, suffices, frame, await, done}
use types.Tokens.{lft_new, lft_end, lent_back}
use types.Part.{agg, whole, sub, look_in}
use types.Run.{look, init, forget, stop, hop, fld, from, load, addr, and_then, no_more, assigns, land, returns, enter, alloc1, alloc0, params1, pass1, pass0, free1, free0}
use types.Share.{arr_parts}
use sound.WpLaws.{FmC}
use denote.RattleType.{owns}
use denote.Shadow.{pure_i}
use denote.Laws.{Is, shows}
use denote.Memory.{shares}
use denote.Builtin.{u8}
use denote.Ref.{Bor, MutBor, as_bor}
use denote.Index.{opens_slice, closes_slice}
use denote.Slice.{slice_ty, MutSlice, ShrSlice, mut_slice_vals, mut_slice_Tells, mut_slice_Lawful, Room, mut_slice_at}
use denote.Signature.{Signature, plain, mut_slice_of, shr_slice_of}
use denote.Steps.{peeks, heard, nothing, only}
use denote.Triple.Statement.{Contract, Triple}
use denote.Triple.Call.{calls_at}
use denote.Triple.Entry.{on_entry}
use denote.Triple.Spec.{Meets, triple_of}
use denote.Triple.Clauses.{Clauses, Ended, ensured, lasts, closing}
use denote.Triple.Walked.{says, Stays, stay_dropped, on_exit, walk_of, Goes-spent_slice, Goes-dropped, ends_at}
use denote.Exit.{yes, no}
use Rattle.base.specs.Answer.{Part, said_range}
use Rattle.base.specs.Parts.{IsPartMut, LendsPart}
use Rattle.base.specs.Said.{Said}
use Rattle.base.proofs.Ranges.{Range}
use Rattle.base.proofs.Ranges as R
use Rattle.base.specs.contracts.part.part_mut as part_mut
use Rattle.base.proofs.part.part_mut.Symbol.{name as #part_mut}
use Rattle.base.proofs.ByValue.{ByValue}
use Rattle.base.proofs.Handing.{lent_out, slice, valued, PartMut, arg, to_part, goes_part, said_part}

module _ (X : ByValue) (g : Callee) (ρ : X.row.Denot → List ℕ → Said Part) where
  abbrev pub signature : Signature
  signature = record {
    lifetimes = 1;
    outlives = [];
    params = plain (λ _. X.row) ∷ mut_slice_of (0 ∷ []) tt (plain (λ _. u8)) ∷ [];
    result = mut_slice_of (0 ∷ []) tt (plain (λ _. u8));
  }

  abbrev pub ended : Ended
  ended = record { signature = signature; kept = (yes, (no, tt)) }

  abbrev pub function : Fn
  function = record {
    lifetimes = 1;
    outlives = [];
    ty_params = [];
    givens = 0;
    params = 2;
    locals = local (slice_ty (ty_ref (named 0) mut (ty_int w8))) value_local
        ∷ local X.ty value_local
        ∷ local (slice_ty (ty_ref (named 0) mut (ty_int w8))) value_local
        ∷ local ((R.lowers).mir) value_local
        ∷ local (ty_ref erased imm (ty_int w8)) value_local
        ∷ local (slice_ty (ty_ref erased imm (ty_int w8))) value_local
        ∷ local (ty_ref erased mut (ty_int w8)) value_local
        ∷ local (slice_ty (ty_ref erased mut (ty_int w8))) value_local
        ∷ [];
    body = seq (assign (place 4 []) (addr_of (place 2 (field 0 ∷ deref (ty_int w8) ∷ []))))
        (seq (assign (place 5 []) (aggregate (copy (place 4 []) ∷ copy (place 2 (field 1 ∷ [])) ∷ [])))
        (seq (call g (copy (place 1 []) ∷ copy (place 5 []) ∷ []) (place 3 []))
        (seq (assign (place 6 []) (addr_of (place 2 (field 0 ∷ deref (ty_int w8) ∷ []))))
        (seq (assign (place 7 []) (aggregate (copy (place 6 []) ∷ copy (place 2 (field 1 ∷ [])) ∷ [])))
        (seq (call #part_mut (copy (place 7 []) ∷ copy (place 3 []) ∷ []) (place 0 []))
        return)))));
  }

  abbrev stayed : Stays ended.signature.params ended.kept
  stayed = (stay_dropped (plain (λ _. X.row)) yes, (stay_dropped (mut_slice_of (0 ∷ []) tt (plain (λ _. u8))) no, tt))

  abbrev ranges : Signature
  ranges = record {
    lifetimes = 1;
    outlives = [];
    params = plain (λ _. X.row) ∷ shr_slice_of (0 ∷ []) tt (plain (λ _. u8)) ∷ [];
    result = plain (λ _. R.the_row);
  }

  abbrev ranges_ended : Ended
  ranges_ended = record { signature = ranges; kept = (yes, (yes, tt)) }

  module _ {M : Type 1} {𝓤 : Ura M} (𝓛 : Logic 𝓤) where
    abbrev pub clauses : Clauses 𝓤 ended
    clauses κs a = record {
      ghost = Unit {0};
      requires = λ _. emp 𝓤;
      ensures = λ _ t _. sep 𝓤 (sem 𝓛 (LendsPart (ρ a.0 a.1.0.now) a.1.0 t)) (fact 𝓤 (IsPartMut (ρ a.0 a.1.0.now) a.1.0 t));
    }

    abbrev ranges_clauses : Clauses 𝓤 ranges_ended
    ranges_clauses κs a = record { ghost = Unit {0}; requires = λ _. emp 𝓤; ensures = λ _ r _. fact 𝓤 (said_range r ≡ ρ a.0 a.1.0.now) }

    abbrev pub Ranges : Contract 𝓤
    Ranges = triple_of 𝓛 ranges (closing 𝓛 ranges_ended ranges_clauses)

  module _ {M : Type 1} {𝓤 : Ura M} (𝓛 : Logic 𝓤) (mem : Memory → SProp 𝓤) (run : Routine → Fun 𝓤)
      (κ : Lft) (q : Share) (d : X.row.Denot) (b o : ℕ) (γ : GName) (ys : List ℕ) (room : Room u8 (length ys)) where
    open 𝓛 use {H}

    abbrev x : GName → MutBor (List ℕ)
    x δ = slice b o δ ys

    abbrev v : Val
    v = valued b o ys

    abbrev bound : (walk_of 𝓛 ended stayed (clauses 𝓛)).Ghost
    bound = (((κ, tt), (q, tt), tt, (d, (x γ, tt)), (X.low d ∷ [], (v ∷ [], tt))), tt)

    abbrev Post : Val → SProp 𝓤
    Post = (walk_of 𝓛 ended stayed (clauses 𝓛)).post bound

    -- the slice, lent as a `&[u8]`
    abbrev seen : Bor (List ℕ)
    seen = as_bor (x γ)

    -- the call of g for the lifetime α
    abbrev to_range : ℕ → (Ranges 𝓛).Ghost
    to_range α = (((α ∷ [], tt), (full_share, tt), tt, (d, (seen, tt)), (X.low d ∷ [], (v ∷ [], tt))), tt)

    goes_range : (α : ℕ) → ent 𝓤 (⋆ 𝓛 (‵ (flft (α ∷ []) full_share) ∷ ‵ (X.row.own_val d (X.low d ∷ [])) ∷ ‵ ((ShrSlice (named 0) (α ∷ []) u8).own_val seen (v ∷ [])) ∷ [])) ((Ranges 𝓛).pre (to_range α))
    goes_range α =
        qed 𝓛 (‵ (flft (α ∷ []) full_share) ∷ ‵ (X.row.own_val d (X.low d ∷ [])) ∷ ‵ ((ShrSlice (named 0) (α ∷ []) u8).own_val seen (v ∷ [])) ∷ []) ∵
        nothing ! $ move ! (1 ∷ 0 ∷ []) $ join ! $ nothing ! $ move ! (3 ∷ 0 ∷ []) $ fjoin ! $ move ! (2 ∷ 0 ∷ []) $ fjoin ! $ move ! (1 ∷ 0 ∷ []) $ join ! $ frame ! $ done !

    said_range_lem : (α : ℕ) (r : Range) → ent 𝓤 (ensured 𝓛 ranges_ended (ranges_clauses 𝓛) (α ∷ [], tt) (d, (seen, tt)) tt r) (fact 𝓤 (said_range r ≡ ρ d ys))
    said_range_lem α r = ex_e 𝓤 _ (λ ws. snd∗ 𝓤 (sem 𝓛 (lasts ranges_ended (α ∷ [], tt) (d, (seen, tt)) ws)) (fact 𝓤 (said_range r ≡ ρ d ys)))

    abbrev Tied : MutBor (List ℕ) → SProp 𝓤
    Tied t = sem 𝓛 (LendsPart (ρ d ys) (x γ) t)

    exits : (t : MutBor (List ℕ)) (u : Val) → IsPartMut (ρ d ys) (x γ) t
        → ent 𝓤 (⋆ 𝓛 (‵ ((MutSlice (named 0) κ u8).own_val t (u ∷ [])) ∷ (‵ (flft κ q) ⊛ ‵ ftrue) ∷ raw (Tied t) ∷ [])) (Post u)
    exits t u is =
        qed 𝓛 (‵ ((MutSlice (named 0) κ u8).own_val t (u ∷ [])) ∷ (‵ (flft κ q) ⊛ ‵ ftrue) ∷ raw (Tied t) ∷ []) ∵
        suffices ! (sep 𝓤 (sep 𝓤 (Tied t) OnExit) Said)
        (via 𝓤 (sep 𝓤 (sep 𝓤 OnExit (Tied t)) Said) (mono_l 𝓤 Said (comm∗ 𝓤 (Tied t) OnExit))
        (via 𝓤 (sep 𝓤 OnExit (sep 𝓤 (Tied t) Said)) (assoc∗ 𝓤 OnExit (Tied t) Said)
        (ends_at 𝓛 ended stayed (clauses 𝓛) bound u t (X.last d, (tt, tt)) (tt, (tt, tt))))) $ says ! is $
        move ! (2 ∷ 1 ∷ []) $ frame ! $ frame ! $ nothing ! $ nothing ! $ fjoin ! $ nothing ! $ fjoin ! $ done !
      where
        OnExit : SProp 𝓤
        OnExit = on_exit 𝓛 ended stayed (κ, tt) (q, tt) (X.low d ∷ [], (v ∷ [], tt)) u t (d, (x γ, tt)) (X.last d, (tt, tt))

        Said : SProp 𝓤
        Said = fact 𝓤 (IsPartMut (ρ d ys) (x γ) t)

    module _ (C : Calls 𝓤 H) (Λ : Loops 𝓤 H) (fm : FmC 𝓤 H 𝓛.laws C) (known : Triple 𝓤 (C g) (Ranges 𝓛)) (known-part : Triple 𝓤 (C #part_mut) (PartMut 𝓛 mem run)) where
      walk : Is X.row d (X.low d ∷ []) → ent 𝓤 (on_entry 𝓛 signature (κ, tt) (q, tt) (d, (x γ, tt)) (X.low d ∷ [], (v ∷ [], tt))) (WpFn 𝓤 H C Λ function (X.low d ∷ v ∷ []) Post)
      walk of =
          qed 𝓛 ((‵ (flft κ q) ⊛ ‵ ftrue) ∷ ‵ (owns (X.row ∷ MutSlice (named 0) κ u8 ∷ []) (d, (x γ, tt)) (X.low d ∷ [], (v ∷ [], tt))) ∷ []) ∵ split ! $ move ! (2 ∷ []) $ fsplit ! $ move ! (1 ∷ []) $ fsplit ! $ fsplit ! $ drop ! $ fsplit ! $ keep ! (0 ∷ 1 ∷ 4 ∷ 3 ∷ []) $
          -- [the slice's half; its borrow; the token; what d owns]
          enter ! C Λ function (X.low d ∷ v ∷ []) _ $
          alloc1 ! (λ l₀. alloc1 ! (λ l₁. alloc1 ! (λ l₂. alloc1 ! (λ l₃. alloc1 ! (λ l₄. alloc1 ! (λ l₅. alloc1 ! (λ l₆. alloc1 ! (λ l₇. alloc0 ! $ params1 ! $ pass1 ! (init ! 12 refl (X.typed 𝓛 d of)) $ pass1 ! (init ! 10 refl (tt, (tt, (record { fits = room.0 }, tt)))) $ pass0 ! $
          -- [_7; …; _6; …; _5; …; _4; …; range; …; s; …; d; …; room for _0; …; the slice's half; its borrow; the token; what d owns]
          assigns ! (addr ! (from ! (fld ! refl (hop ! (look_in ! 10 (sub ! 0 refl (whole !))) (stop !))))) (from ! (stop !)) (init ! 6 refl (tt, tt)) $
          assigns ! (agg ! (and_then ! (load ! (from ! (stop !)) (look ! 6 refl)) (and_then ! (load ! (from ! (fld ! refl (stop !))) (look_in ! 10 (sub ! 1 refl (whole !)))) (no_more !)))) (from ! (stop !)) (init ! 4 refl (tt, (tt, (record { fits = room.0 }, tt)))) $
          -- the borrow is opened, and lent to g as a `&[u8]` for the lifetime α
          move ! (16 ∷ 17 ∷ 18 ∷ []) $ opens_slice ! tt u8 ys b o $ lft_new ! tt (λ α. move ! (1 ∷ []) $ feq_i ! ℕ (length ys) (length ys) refl $ fjoin ! $
          use2 𝓛 (later ((‵ ((ShrSlice (named 0) (α ∷ []) u8).own_val seen (v ∷ [])) ⊛ ‵ (flent (α ∷ []) ((arr_parts (shares u8) (length ys)).part full_share ys b o))) ⊛ ‵ (flft (α ∷ []) full_share))) (lent_out 𝓛 b o ys room α) $ await ! tt $ split ! $ split ! $
          -- [what the `&[u8]` owns; what the lender keeps; α's token; the borrow, open; the two halves; _7; …]
          move ! (2 ∷ 22 ∷ 0 ∷ []) $ use3 𝓛 (raw ((Ranges 𝓛).pre (to_range α))) (goes_range α) $
          calls_at ! fm (Ranges 𝓛) known (to_range α) (and_then ! (load ! (from ! (stop !)) (look ! 17 refl)) (and_then ! (load ! (from ! (stop !)) (look ! 9 refl)) (no_more !))) (λ z.
          use1 𝓛 (later (some (λ (r : Range). ((‵ (flft (α ∷ []) full_share) ⊛ ‵ ftrue) ⊛ ‵ ((R.the_row).own_val r (z ∷ []))) ⊛ raw (ensured 𝓛 ranges_ended (ranges_clauses 𝓛) (α ∷ [], tt) (d, (seen, tt)) tt r)))) (id⊢ 𝓤 _) $ await ! tt $ pick ! (λ r.
          split ! $ move ! (1 ∷ []) $ use1 𝓛 (raw (fact 𝓤 (said_range r ≡ ρ d ys))) (said_range_lem α r) $ heard ! (said_range r ≡ ρ d ys) (λ told. split ! $ move ! (1 ∷ []) $
          peeks ! R.the_row (Is R.the_row) (shows 𝓛 R.the_row) r (z ∷ []) (λ is. land ! (from ! (stop !)) (init ! 14 refl (((R.the_laws).lawful 𝓛).typed r _ is).0) $
          rewrite ! 14 (λ (y : Val). ‵ (fat full_share (R.lowers).mir l₃ 0 y)) (ap only ((R.lowers).val_is r (z ∷ []) is)) refl $
          rewrite ! 0 (λ (ws : List Val). ‵ ((R.the_row).own_val r ws)) ((R.lowers).val_is r (z ∷ []) is) refl $
          -- [what the range owns; α's token; what the lender keeps; ..]: the lifetime ends, and the slice is back
          move ! (1 ∷ []) $ split ! $ lft_end ! tt $ move ! (0 ∷ 3 ∷ []) $ lent_back ! tt $ fsplit ! $ drop ! $ move ! (0 ∷ 3 ∷ 4 ∷ 5 ∷ []) $ closes_slice ! tt u8 ys ys refl b o $
          -- [the slice's half; its borrow; the token; true; what the range owns; _7; …]
          assigns ! (addr ! (from ! (fld ! refl (hop ! (look_in ! 15 (sub ! 0 refl (whole !))) (stop !))))) (from ! (stop !)) (init ! 7 refl (tt, tt)) $
          assigns ! (agg ! (and_then ! (load ! (from ! (stop !)) (look ! 7 refl)) (and_then ! (load ! (from ! (fld ! refl (stop !))) (look_in ! 15 (sub ! 1 refl (whole !)))) (no_more !)))) (from ! (stop !)) (init ! 5 refl (tt, (tt, (record { fits = room.0 }, tt)))) $
          move ! (0 ∷ 1 ∷ 2 ∷ 4 ∷ []) $ fjoin ! $ pure_i ! (mut_slice_at u8 (x γ) (v ∷ [])) (tt, (tt, tt)) (refl, room) $ fjoin ! $
          use3 𝓛 (raw ((PartMut 𝓛 mem run).pre (to_part 𝓛 mem run κ q b o γ ys r))) (goes_part 𝓛 mem run κ q b o γ ys r) $
          calls_at ! fm (PartMut 𝓛 mem run) known-part (to_part 𝓛 mem run κ q b o γ ys r) (and_then ! (load ! (from ! (stop !)) (look ! 2 refl)) (and_then ! (load ! (from ! (stop !)) (look ! 10 refl)) (no_more !))) (λ u.
          use1 𝓛 (later (some (λ (t : MutBor (List ℕ)). ((‵ (flft κ q) ⊛ ‵ ftrue) ⊛ ‵ ((MutSlice (named 0) κ u8).own_val t (u ∷ []))) ⊛ raw (ensured 𝓛 part_mut.ended (part_mut.clauses 𝓛 mem run) (κ, tt) (arg 𝓛 mem run κ q b o γ ys r) tt t)))) (id⊢ 𝓤 _) $ await ! tt $ pick ! (λ t.
          split ! $ move ! (1 ∷ []) $ use1 𝓛 (‵ (LendsPart (said_range r) (x γ) t) ⊛ raw (fact 𝓤 (IsPartMut (said_range r) (x γ) t))) (said_part 𝓛 mem run κ q b o γ ys r t) $ split ! $
          rewrite ! 0 (λ (p : Said Part). ‵ (LendsPart p (x γ) t)) told refl $ move ! (1 ∷ []) $ heard ! (IsPartMut (said_range r) (x γ) t) (λ part. move ! (1 ∷ []) $ split ! $ move ! (1 ∷ []) $
          -- [what the part owns; the token; the tie; true; _7; …]
          peeks ! (MutSlice (named 0) κ u8) (Is (MutSlice (named 0) κ u8)) (shows 𝓛 (MutSlice (named 0) κ u8)) t (u ∷ []) (λ is'. land ! (from ! (stop !)) (init ! 18 refl ((mut_slice_Lawful 𝓛 (named 0) κ u8).typed t _ is').0) $
          returns ! (look ! 18 refl) $ forget ! 4 refl $ forget ! 6 refl $ forget ! 8 refl $ forget ! 10 refl $ forget ! 12 refl $ forget ! 14 refl $ forget ! 16 refl $ forget ! 18 refl $
          move ! (18 ∷ 19 ∷ []) $ free1 ! $ move ! (16 ∷ 17 ∷ []) $ free1 ! $ move ! (14 ∷ 15 ∷ []) $ free1 ! $ move ! (12 ∷ 13 ∷ []) $ free1 ! $ move ! (10 ∷ 11 ∷ []) $ free1 ! $ move ! (8 ∷ 9 ∷ []) $ free1 ! $ move ! (6 ∷ 7 ∷ []) $ free1 ! $ move ! (4 ∷ 5 ∷ []) $ free1 ! $ free0 ! $
          keep ! (0 ∷ 1 ∷ 2 ∷ []) $ by ! (exits t u (subst (λ (p : Said Part). IsPartMut p (x γ) t) told part)))))))))))))))))))

  module _ {M : Type 1} {𝓤 : Ura M} (𝓛 : Logic 𝓤) (𝓜 : Model 𝓤 𝓛.H) (𝓡 : Running 𝓤 𝓛.H 𝓜) where
    open 𝓛 use {H}

    abbrev 𝓣 : MachineTables 𝓤 H 𝓜
    𝓣 = tables 𝓤 H 𝓜 𝓡 𝓡.env

    pub hands_out_by : (m : Callee) → Closed 𝓤 H 𝓣.C 𝓣.Λ m function → Triple 𝓤 (𝓣.C g) (Ranges 𝓛) → Triple 𝓤 (𝓣.C #part_mut) (PartMut 𝓛 𝓜.mem 𝓡.returns)
        → Meets 𝓛 signature (𝓣.C m) (closing 𝓛 ended (clauses 𝓛))
    hands_out_by m closed known known-part =
        proved 𝓛 ended stayed (clauses 𝓛) 𝓜 𝓡
        (Goes-dropped 𝓛 1 (plain (λ _. X.row)) yes (λ κs. X.silent), (Goes-spent_slice 𝓛 1 (0 ∷ []) tt (plain (λ _. u8)), tt)) m function closed
        (λ κs. ((λ d. X.low d ∷ []), (mut_slice_vals, tt))) (λ κs. (X.tells, (mut_slice_Tells (named 0) κs.0 u8, tt)))
        (λ κs qs bounds a y are. via 𝓤 _ (fst∗ 𝓤 _ (emp 𝓤))
        (walk 𝓛 𝓜.mem 𝓡.returns κs.0 qs.0 a.0 a.1.0.ref_ptr.0 a.1.0.ref_ptr.1 a.1.0.ghost_name a.1.0.now are.1.0.0.1 𝓣.C 𝓣.Λ (framed 𝓤 H 𝓜 𝓣) known known-part are.0))
