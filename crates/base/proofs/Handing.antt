-- One walk by hand for every function that hands out a part of a lent slice that can be written to,
--     fn m(s: &mut [u8]) -> &mut [u8] { let range = g(s); part_mut(s, range) }
-- where the covered function g tells a range, by ρ of all the bytes. The slice is lent to g as a `&[u8]` for a lifetime that is made for
-- that call, and is back behind it; then it goes to `part_mut` for good, and what that promises is what m promises.
--     Ranges            what g promises
--     signature, ended, clauses, function     m's signature, contract and code
--     hands_out         m's code meets its contract where g and `part_mut` meet theirs
-- HandingBy.antt has the same of a function that takes one thing more, by value, and passes it to g.
-- Assumes nothing.
use mathlib.Core.Path.{◌≡◌, refl, ap, subst}
use Prim.Native.Nat.{ℕ}
use mathlib.Core.List.{List, [], ◌∷◌}
use lib.ListN.{length}
use seplogic.Ra.Ura.{Ura}
use base.Fraction.{full_share}
use mir.Syntax.{Callee, Fn, named, erased, imm, mut, w8, ty_int, ty_ref, deref, field, place, local, value_local, copy, addr_of, aggregate, assign, seq, call, return}
use mir.Val.{Val}
use base.Logic.{SProp, ent, sep, emp, via, fst∗, snd∗, ex_e, id⊢, mono_l, comm∗, assoc∗}
use base.Fml.{Incl-refl, Lft, Share, GName, ftrue, flft, flent, fat}
use prog.Memory.{Memory}
use prog.Routine.{Routine}
use prog.Model.{Model}
use prog.Wp.{Calls, Loops, WpFn, Closed}
use contract.Running.{Running, MachineTables, tables}
use denote.Triple.Table.{framed}
use Rattle.std.proofs.raw_atomic.Walks.{proved}
use types.Logic.{Logic, sem}
use contract.Monad.{Fun, fact}
use types.Kit.{‵, raw, ◌⊛◌, ⋆, some, later, ◌$◌, ◌∵◌, !, qed, by, move, keep, drop, use1, use2, use3, rewrite, split, join, pick, fsplit, fjoin, feq_i, suffices, frame, await, done}
use types.Tokens.{lft_new, lft_end, lent_back}
use types.Part.{agg, whole, sub, look_in}
use types.Run.{look, init, forget, stop, hop, fld, from, load, addr, and_then, no_more, assigns, land, returns, enter, alloc1, alloc0, params1, pass1, pass0, free1, free0}
use types.Share.{arr_parts}
use sound.WpLaws.{FmC}
use denote.RattleType.{owns}
use denote.Shadow.{pure_i}
use denote.Laws.{Is, shows}
use denote.Memory.{shares}
use denote.Builtin.{u8}
use denote.Ref.{Bor, MutBor, as_bor}
use denote.Index.{opens_slice, closes_slice}
use denote.Copied.{uint_Copied}
use denote.Lend.{LentShrs, lends_shr_slice}
use denote.Slice.{slice_val, slice_ty, MutSlice, ShrSlice, mut_slice_vals, mut_slice_Tells, mut_slice_Lawful, Room, mut_slice_at}
use denote.Signature.{Signature, plain, mut_slice_of, shr_slice_of}
use denote.Steps.{peeks, heard, nothing, only}
use denote.Triple.Statement.{Contract, Triple}
use denote.Triple.Call.{calls_at}
use denote.Triple.Entry.{on_entry}
use denote.Triple.Spec.{Meets, triple_of}
use denote.Triple.Clauses.{Clauses, Ended, ensured, lasts, closing}
use denote.Triple.Walked.{says, Stays, stay_dropped, on_exit, walk_of, Goes-spent_slice, ends_at}
use denote.Exit.{yes, no}
use Rattle.base.specs.Answer.{Part, said_range}
use Rattle.base.specs.Parts.{IsPartMut, LendsPart}
use Rattle.base.specs.Said.{Said}
use Rattle.base.proofs.Ranges.{Range}
use Rattle.base.proofs.Ranges as R
use Rattle.base.specs.contracts.part.part_mut as part_mut
use Rattle.base.proofs.part.part_mut.Symbol.{name as #part_mut}

-- ---- the slice passed, and the call of `part_mut`, whatever stands around them

-- a slice, and its machine value
abbrev pub slice : ℕ → ℕ → GName → List ℕ → MutBor (List ℕ)
slice b o γ ys = record { ref_ptr = (b, o); ghost_name = γ; now = ys }

abbrev pub valued : ℕ → ℕ → List ℕ → Val
valued b o ys = slice_val (b, o) (length ys)

abbrev pub PartMut : {M : Type 1} {𝓤 : Ura M} (𝓛 : Logic 𝓤) (mem : Memory → SProp 𝓤) (run : Routine → Fun 𝓤) → Contract 𝓤
PartMut 𝓛 mem run = triple_of 𝓛 part_mut.signature (part_mut.spec 𝓛 mem run)

module _ {M : Type 1} {𝓤 : Ura M} (𝓛 : Logic 𝓤) (mem : Memory → SProp 𝓤) (run : Routine → Fun 𝓤)
    (κ : Lft) (q : Share) (b o : ℕ) (γ : GName) (ys : List ℕ) (r : Range) where
  abbrev Arg : Type 0
  Arg = MutBor (List ℕ) × (Range × Unit {0})

  abbrev pub arg : Arg
  arg = (slice b o γ ys, (r, tt))

  abbrev Vals : Type 0
  Vals = List Val × (List Val × Unit {0})

  abbrev vals : Vals
  vals = (valued b o ys ∷ [], ((R.lowers).lowered r ∷ [], tt))

  abbrev pub to_part : (PartMut 𝓛 mem run).Ghost
  to_part = (((κ, tt), (q, tt), tt, arg, vals), tt)

  pub goes_part : ent 𝓤 (⋆ 𝓛 (‵ ((MutSlice (named 0) κ u8).own_val (slice b o γ ys) (valued b o ys ∷ [])) ∷ ‵ (flft κ q) ∷ ‵ ((R.the_row).own_val r ((R.lowers).lowered r ∷ [])) ∷ [])) ((PartMut 𝓛 mem run).pre to_part)
  goes_part =
      qed 𝓛 (‵ ((MutSlice (named 0) κ u8).own_val (slice b o γ ys) (valued b o ys ∷ [])) ∷ ‵ (flft κ q) ∷ ‵ ((R.the_row).own_val r ((R.lowers).lowered r ∷ [])) ∷ []) ∵
      nothing ! $ move ! (3 ∷ 0 ∷ []) $ fjoin ! $ move ! (1 ∷ 0 ∷ []) $ fjoin ! $ nothing ! $ move ! (2 ∷ 0 ∷ []) $ join ! $ join ! $ frame ! $ done !

  pub said_part : (t : MutBor (List ℕ)) → ent 𝓤 (ensured 𝓛 part_mut.ended (part_mut.clauses 𝓛 mem run) (κ, tt) arg tt t)
      (sep 𝓤 (sem 𝓛 (LendsPart (said_range r) (slice b o γ ys) t)) (fact 𝓤 (IsPartMut (said_range r) (slice b o γ ys) t)))
  said_part t =
      ex_e 𝓤 _ (λ ws. snd∗ 𝓤 (sem 𝓛 (lasts part_mut.ended (κ, tt) arg ws))
      (sep 𝓤 (sem 𝓛 (LendsPart (said_range r) (slice b o γ ys) t)) (fact 𝓤 (IsPartMut (said_range r) (slice b o γ ys) t))))

-- ---- the slice's elements, lent

module _ {M : Type 1} {𝓤 : Ura M} (𝓛 : Logic 𝓤) (b o : ℕ) (ys : List ℕ) (room : Room u8 (length ys)) where
  open 𝓛 use {H, A}

  -- the elements are lent as a `&[u8]` for the lifetime α, of which a token is shown
  pub lent_out : (α : ℕ) → ent 𝓤 (sep 𝓤 (sem 𝓛 ((arr_parts (shares u8) (length ys)).part full_share ys b o)) (A.lft (α ∷ []) full_share))
      (H.⇛ (sep 𝓤 (LentShrs 𝓛 u8 (named 0) (α ∷ []) full_share ys b o) (A.lft (α ∷ []) full_share)))
  lent_out α =
      lends_shr_slice 𝓛 u8 (named 0) (α ∷ []) full_share ys b o room (α ∷ []) ((uint_Copied 𝓛 w8).shares full_share (α ∷ [])) ((α ∷ [], full_share) ∷ [])
      (Incl-refl (α ∷ [])) (Incl-refl (α ∷ []))

-- ---- m, by g's name and by ρ

module _ (g : Callee) (ρ : List ℕ → Said Part) where
  abbrev pub signature : Signature
  signature = record {
    lifetimes = 1;
    outlives = [];
    params = mut_slice_of (0 ∷ []) tt (plain (λ _. u8)) ∷ [];
    result = mut_slice_of (0 ∷ []) tt (plain (λ _. u8));
  }

  abbrev pub ended : Ended
  ended = record { signature = signature; kept = (no, tt) }

  abbrev pub function : Fn
  function = record {
    lifetimes = 1;
    outlives = [];
    ty_params = [];
    givens = 0;
    params = 1;
    locals = local (slice_ty (ty_ref (named 0) mut (ty_int w8))) value_local
        ∷ local (slice_ty (ty_ref (named 0) mut (ty_int w8))) value_local
        ∷ local ((R.lowers).mir) value_local
        ∷ local (ty_ref erased imm (ty_int w8)) value_local
        ∷ local (slice_ty (ty_ref erased imm (ty_int w8))) value_local
        ∷ local (ty_ref erased mut (ty_int w8)) value_local
        ∷ local (slice_ty (ty_ref erased mut (ty_int w8))) value_local
        ∷ [];
    body = seq (assign (place 3 []) (addr_of (place 1 (field 0 ∷ deref (ty_int w8) ∷ []))))
        (seq (assign (place 4 []) (aggregate (copy (place 3 []) ∷ copy (place 1 (field 1 ∷ [])) ∷ [])))
        (seq (call g (copy (place 4 []) ∷ []) (place 2 []))
        (seq (assign (place 5 []) (addr_of (place 1 (field 0 ∷ deref (ty_int w8) ∷ []))))
        (seq (assign (place 6 []) (aggregate (copy (place 5 []) ∷ copy (place 1 (field 1 ∷ [])) ∷ [])))
        (seq (call #part_mut (copy (place 6 []) ∷ copy (place 2 []) ∷ []) (place 0 []))
        return)))));
  }

  abbrev stayed : Stays ended.signature.params ended.kept
  stayed = (stay_dropped (mut_slice_of (0 ∷ []) tt (plain (λ _. u8))) no, tt)

  abbrev ranges : Signature
  ranges = record { lifetimes = 1; outlives = []; params = shr_slice_of (0 ∷ []) tt (plain (λ _. u8)) ∷ []; result = plain (λ _. R.the_row) }

  abbrev ranges_ended : Ended
  ranges_ended = record { signature = ranges; kept = (yes, tt) }

  module _ {M : Type 1} {𝓤 : Ura M} (𝓛 : Logic 𝓤) where
    abbrev pub clauses : Clauses 𝓤 ended
    clauses κs a = record {
      ghost = Unit {0};
      requires = λ _. emp 𝓤;
      ensures = λ _ t _. sep 𝓤 (sem 𝓛 (LendsPart (ρ a.0.now) a.0 t)) (fact 𝓤 (IsPartMut (ρ a.0.now) a.0 t));
    }

    abbrev ranges_clauses : Clauses 𝓤 ranges_ended
    ranges_clauses κs a = record { ghost = Unit {0}; requires = λ _. emp 𝓤; ensures = λ _ r _. fact 𝓤 (said_range r ≡ ρ a.0.now) }

    abbrev pub Ranges : Contract 𝓤
    Ranges = triple_of 𝓛 ranges (closing 𝓛 ranges_ended ranges_clauses)

  module _ {M : Type 1} {𝓤 : Ura M} (𝓛 : Logic 𝓤) (mem : Memory → SProp 𝓤) (run : Routine → Fun 𝓤)
      (κ : Lft) (q : Share) (b o : ℕ) (γ : GName) (ys : List ℕ) (room : Room u8 (length ys)) where
    open 𝓛 use {H, A}

    abbrev x : GName → MutBor (List ℕ)
    x δ = slice b o δ ys

    abbrev v : Val
    v = valued b o ys

    abbrev bound : (walk_of 𝓛 ended stayed (clauses 𝓛)).Ghost
    bound = (((κ, tt), (q, tt), tt, (x γ, tt), (v ∷ [], tt)), tt)

    abbrev Post : Val → SProp 𝓤
    Post = (walk_of 𝓛 ended stayed (clauses 𝓛)).post bound

    -- the slice, lent as a `&[u8]`
    abbrev seen : Bor (List ℕ)
    seen = as_bor (x γ)

    -- the call of g for the lifetime α
    abbrev to_range : ℕ → (Ranges 𝓛).Ghost
    to_range α = (((α ∷ [], tt), (full_share, tt), tt, (seen, tt), (v ∷ [], tt)), tt)

    goes_range : (α : ℕ) → ent 𝓤 (sep 𝓤 (A.lft (α ∷ []) full_share) (sem 𝓛 ((ShrSlice (named 0) (α ∷ []) u8).own_val seen (v ∷ [])))) ((Ranges 𝓛).pre (to_range α))
    goes_range α =
        qed 𝓛 (‵ (flft (α ∷ []) full_share) ∷ ‵ ((ShrSlice (named 0) (α ∷ []) u8).own_val seen (v ∷ [])) ∷ []) ∵
        nothing ! $ move ! (1 ∷ 0 ∷ []) $ join ! $ nothing ! $ move ! (2 ∷ 0 ∷ []) $ fjoin ! $ move ! (1 ∷ 0 ∷ []) $ join ! $ frame ! $ done !

    said_range_lem : (α : ℕ) (r : Range) → ent 𝓤 (ensured 𝓛 ranges_ended (ranges_clauses 𝓛) (α ∷ [], tt) (seen, tt) tt r) (fact 𝓤 (said_range r ≡ ρ ys))
    said_range_lem α r = ex_e 𝓤 _ (λ ws. snd∗ 𝓤 (sem 𝓛 (lasts ranges_ended (α ∷ [], tt) (seen, tt) ws)) (fact 𝓤 (said_range r ≡ ρ ys)))

    abbrev Tied : MutBor (List ℕ) → SProp 𝓤
    Tied t = sem 𝓛 (LendsPart (ρ ys) (x γ) t)

    exits : (t : MutBor (List ℕ)) (u : Val) → IsPartMut (ρ ys) (x γ) t
        → ent 𝓤 (⋆ 𝓛 (‵ ((MutSlice (named 0) κ u8).own_val t (u ∷ [])) ∷ (‵ (flft κ q) ⊛ ‵ ftrue) ∷ raw (Tied t) ∷ [])) (Post u)
    exits t u is =
        qed 𝓛 (‵ ((MutSlice (named 0) κ u8).own_val t (u ∷ [])) ∷ (‵ (flft κ q) ⊛ ‵ ftrue) ∷ raw (Tied t) ∷ []) ∵
        suffices ! (sep 𝓤 (sep 𝓤 (Tied t) OnExit) Said)
        (via 𝓤 (sep 𝓤 (sep 𝓤 OnExit (Tied t)) Said) (mono_l 𝓤 Said (comm∗ 𝓤 (Tied t) OnExit))
        (via 𝓤 (sep 𝓤 OnExit (sep 𝓤 (Tied t) Said)) (assoc∗ 𝓤 OnExit (Tied t) Said)
        (ends_at 𝓛 ended stayed (clauses 𝓛) bound u t (tt, tt) (tt, tt)))) $ says ! is $
        move ! (2 ∷ 1 ∷ []) $ frame ! $ frame ! $ nothing ! $ nothing ! $ fjoin ! $ done !
      where
        OnExit : SProp 𝓤
        OnExit = on_exit 𝓛 ended stayed (κ, tt) (q, tt) (v ∷ [], tt) u t (x γ, tt) (tt, tt)

        Said : SProp 𝓤
        Said = fact 𝓤 (IsPartMut (ρ ys) (x γ) t)

    module _ (C : Calls 𝓤 H) (Λ : Loops 𝓤 H) (fm : FmC 𝓤 H 𝓛.laws C) (known : Triple 𝓤 (C g) (Ranges 𝓛)) (known-part : Triple 𝓤 (C #part_mut) (PartMut 𝓛 mem run)) where
      walk : ent 𝓤 (on_entry 𝓛 signature (κ, tt) (q, tt) (x γ, tt) (v ∷ [], tt)) (WpFn 𝓤 H C Λ function (v ∷ []) Post)
      walk =
          qed 𝓛 ((‵ (flft κ q) ⊛ ‵ ftrue) ∷ ‵ (owns (MutSlice (named 0) κ u8 ∷ []) (x γ, tt) (v ∷ [], tt)) ∷ []) ∵ split ! $ move ! (2 ∷ []) $ fsplit ! $ fsplit ! $ drop ! $ fsplit ! $ keep ! (0 ∷ 1 ∷ 3 ∷ []) $
          -- [the slice's half; its borrow; the token]
          enter ! C Λ function (v ∷ []) _ $
          alloc1 ! (λ l₀. alloc1 ! (λ l₁. alloc1 ! (λ l₂. alloc1 ! (λ l₃. alloc1 ! (λ l₄. alloc1 ! (λ l₅. alloc1 ! (λ l₆. alloc0 ! $ params1 ! $ pass1 ! (init ! 10 refl (tt, (tt, (record { fits = room.0 }, tt)))) $ pass0 ! $
          -- [_6; …; _5; …; _4; …; _3; …; range; …; s; …; room for _0; …; the slice's half; its borrow; the token]
          assigns ! (addr ! (from ! (fld ! refl (hop ! (look_in ! 10 (sub ! 0 refl (whole !))) (stop !))))) (from ! (stop !)) (init ! 6 refl (tt, tt)) $
          assigns ! (agg ! (and_then ! (load ! (from ! (stop !)) (look ! 6 refl)) (and_then ! (load ! (from ! (fld ! refl (stop !))) (look_in ! 10 (sub ! 1 refl (whole !)))) (no_more !)))) (from ! (stop !)) (init ! 4 refl (tt, (tt, (record { fits = room.0 }, tt)))) $
          -- the borrow is opened, and lent to g as a `&[u8]` for the lifetime α
          move ! (14 ∷ 15 ∷ 16 ∷ []) $ opens_slice ! tt u8 ys b o $ lft_new ! tt (λ α. move ! (1 ∷ []) $ feq_i ! ℕ (length ys) (length ys) refl $ fjoin ! $
          use2 𝓛 (later ((‵ ((ShrSlice (named 0) (α ∷ []) u8).own_val seen (v ∷ [])) ⊛ ‵ (flent (α ∷ []) ((arr_parts (shares u8) (length ys)).part full_share ys b o))) ⊛ ‵ (flft (α ∷ []) full_share))) (lent_out 𝓛 b o ys room α) $ await ! tt $ split ! $ split ! $
          -- [what the `&[u8]` owns; what the lender keeps; α's token; the borrow, open; the two halves; _6; …]
          move ! (2 ∷ 0 ∷ []) $ use2 𝓛 (raw ((Ranges 𝓛).pre (to_range α))) (goes_range α) $
          calls_at ! fm (Ranges 𝓛) known (to_range α) (and_then ! (load ! (from ! (stop !)) (look ! 9 refl)) (no_more !)) (λ z.
          use1 𝓛 (later (some (λ (r : Range). ((‵ (flft (α ∷ []) full_share) ⊛ ‵ ftrue) ⊛ ‵ ((R.the_row).own_val r (z ∷ []))) ⊛ raw (ensured 𝓛 ranges_ended (ranges_clauses 𝓛) (α ∷ [], tt) (seen, tt) tt r)))) (id⊢ 𝓤 _) $ await ! tt $ pick ! (λ r.
          split ! $ move ! (1 ∷ []) $ use1 𝓛 (raw (fact 𝓤 (said_range r ≡ ρ ys))) (said_range_lem α r) $ heard ! (said_range r ≡ ρ ys) (λ told. split ! $ move ! (1 ∷ []) $
          peeks ! R.the_row (Is R.the_row) (shows 𝓛 R.the_row) r (z ∷ []) (λ is. land ! (from ! (stop !)) (init ! 14 refl (((R.the_laws).lawful 𝓛).typed r _ is).0) $
          rewrite ! 14 (λ (y : Val). ‵ (fat full_share (R.lowers).mir l₂ 0 y)) (ap only ((R.lowers).val_is r (z ∷ []) is)) refl $
          rewrite ! 0 (λ (ws : List Val). ‵ ((R.the_row).own_val r ws)) ((R.lowers).val_is r (z ∷ []) is) refl $
          -- [what the range owns; α's token; what the lender keeps; ..]: the lifetime ends, and the slice is back
          move ! (1 ∷ []) $ split ! $ lft_end ! tt $ move ! (0 ∷ 3 ∷ []) $ lent_back ! tt $ fsplit ! $ drop ! $ move ! (0 ∷ 3 ∷ 4 ∷ 5 ∷ []) $ closes_slice ! tt u8 ys ys refl b o $
          -- [the slice's half; its borrow; the token; true; what the range owns; _6; …]
          assigns ! (addr ! (from ! (fld ! refl (hop ! (look_in ! 15 (sub ! 0 refl (whole !))) (stop !))))) (from ! (stop !)) (init ! 7 refl (tt, tt)) $
          assigns ! (agg ! (and_then ! (load ! (from ! (stop !)) (look ! 7 refl)) (and_then ! (load ! (from ! (fld ! refl (stop !))) (look_in ! 15 (sub ! 1 refl (whole !)))) (no_more !)))) (from ! (stop !)) (init ! 5 refl (tt, (tt, (record { fits = room.0 }, tt)))) $
          move ! (0 ∷ 1 ∷ 2 ∷ 4 ∷ []) $ fjoin ! $ pure_i ! (mut_slice_at u8 (x γ) (v ∷ [])) (tt, (tt, tt)) (refl, room) $ fjoin ! $
          use3 𝓛 (raw ((PartMut 𝓛 mem run).pre (to_part 𝓛 mem run κ q b o γ ys r))) (goes_part 𝓛 mem run κ q b o γ ys r) $
          calls_at ! fm (PartMut 𝓛 mem run) known-part (to_part 𝓛 mem run κ q b o γ ys r) (and_then ! (load ! (from ! (stop !)) (look ! 2 refl)) (and_then ! (load ! (from ! (stop !)) (look ! 10 refl)) (no_more !))) (λ u.
          use1 𝓛 (later (some (λ (t : MutBor (List ℕ)). ((‵ (flft κ q) ⊛ ‵ ftrue) ⊛ ‵ ((MutSlice (named 0) κ u8).own_val t (u ∷ []))) ⊛ raw (ensured 𝓛 part_mut.ended (part_mut.clauses 𝓛 mem run) (κ, tt) (arg 𝓛 mem run κ q b o γ ys r) tt t)))) (id⊢ 𝓤 _) $ await ! tt $ pick ! (λ t.
          split ! $ move ! (1 ∷ []) $ use1 𝓛 (‵ (LendsPart (said_range r) (x γ) t) ⊛ raw (fact 𝓤 (IsPartMut (said_range r) (x γ) t))) (said_part 𝓛 mem run κ q b o γ ys r t) $ split ! $
          rewrite ! 0 (λ (p : Said Part). ‵ (LendsPart p (x γ) t)) told refl $ move ! (1 ∷ []) $ heard ! (IsPartMut (said_range r) (x γ) t) (λ part. move ! (1 ∷ []) $ split ! $ move ! (1 ∷ []) $
          -- [what the part owns; the token; the tie; true; _6; …]
          peeks ! (MutSlice (named 0) κ u8) (Is (MutSlice (named 0) κ u8)) (shows 𝓛 (MutSlice (named 0) κ u8)) t (u ∷ []) (λ is'. land ! (from ! (stop !)) (init ! 16 refl ((mut_slice_Lawful 𝓛 (named 0) κ u8).typed t _ is').0) $
          returns ! (look ! 16 refl) $ forget ! 4 refl $ forget ! 6 refl $ forget ! 8 refl $ forget ! 10 refl $ forget ! 12 refl $ forget ! 14 refl $ forget ! 16 refl $
          move ! (16 ∷ 17 ∷ []) $ free1 ! $ move ! (14 ∷ 15 ∷ []) $ free1 ! $ move ! (12 ∷ 13 ∷ []) $ free1 ! $ move ! (10 ∷ 11 ∷ []) $ free1 ! $ move ! (8 ∷ 9 ∷ []) $ free1 ! $ move ! (6 ∷ 7 ∷ []) $ free1 ! $ move ! (4 ∷ 5 ∷ []) $ free1 ! $ free0 ! $
          keep ! (0 ∷ 1 ∷ 2 ∷ []) $ by ! (exits t u (subst (λ (p : Said Part). IsPartMut p (x γ) t) told part))))))))))))))))))

  module _ {M : Type 1} {𝓤 : Ura M} (𝓛 : Logic 𝓤) (𝓜 : Model 𝓤 𝓛.H) (𝓡 : Running 𝓤 𝓛.H 𝓜) where
    open 𝓛 use {H}

    abbrev 𝓣 : MachineTables 𝓤 H 𝓜
    𝓣 = tables 𝓤 H 𝓜 𝓡 𝓡.env

    pub hands_out : (m : Callee) → Closed 𝓤 H 𝓣.C 𝓣.Λ m function → Triple 𝓤 (𝓣.C g) (Ranges 𝓛) → Triple 𝓤 (𝓣.C #part_mut) (PartMut 𝓛 𝓜.mem 𝓡.returns)
        → Meets 𝓛 signature (𝓣.C m) (closing 𝓛 ended (clauses 𝓛))
    hands_out m closed known known-part =
        proved 𝓛 ended stayed (clauses 𝓛) 𝓜 𝓡 (Goes-spent_slice 𝓛 1 (0 ∷ []) tt (plain (λ _. u8)), tt) m function closed
        (λ κs. (mut_slice_vals, tt)) (λ κs. (mut_slice_Tells (named 0) κs.0 u8, tt))
        (λ κs qs bounds a y are. via 𝓤 _ (fst∗ 𝓤 _ (emp 𝓤))
        (walk 𝓛 𝓜.mem 𝓡.returns κs.0 qs.0 a.0.ref_ptr.0 a.0.ref_ptr.1 a.0.ghost_name a.0.now are.0.0.1 𝓣.C 𝓣.Λ (framed 𝓤 H 𝓜 𝓣) known known-part))
