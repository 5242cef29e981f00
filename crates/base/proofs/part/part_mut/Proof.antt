-- `base::part::part_mut` meets its contract, by a walk of its code by hand: where the part stands is asked of `placed`; the slice's
-- borrow is split at the return (`Lending.antt`), the part goes out as the result, and what stays makes the tie.
-- Assumes nothing.
use mathlib.Core.Path.{◌≡◌, refl, sym, ◌∙◌, ap}
use Prim.Native.Nat.{ℕ, ◌+◌, ◌-◌, ◌^◌, ◌<◌, ◌≤◌}
use native.Mathlib.Omega.{arith}
use native.Mathlib.Nat.{lt_of_le_of_lt}
use mathlib.Core.List.{[], ◌∷◌, List, ◌++◌}
use lib.Dec.{T as Holds}
use lib.ListN.{length, take, drop as drop-list}
use lib.Seq.{length-take-le}
use seplogic.Ra.Ura.{Ura}
use base.Fraction.{full_share}
use mir.Syntax.{named, w64}
use mir.Val.{Val, WT, has_ty, vint}
use base.Logic.{SProp, ent, sep, emp, via, snd∗, ex_e, id⊢, mono_l, comm∗, assoc∗, fst∗}
use base.Fml.{Lft, Share, GName, Fml, ftrue, flft, fobs, fbor, fat}
use base.Stored.{Gv, coded_list}
use prog.Memory.{Memory}
use prog.Routine.{Routine}
use prog.Wp.{Calls, Loops, WpFn}
use types.Logic.{Logic, sem}
use contract.Monad.{Fun, fact}
use contract.Running.{tables}
use types.Kit.{‵, raw, ◌⊛◌, ⋆, some, later, ◌$◌, ◌∵◌, !, qed, by, move, keep, drop, use1, use3, rewrite, split, join, pick, fsplit, fjoin, suffices, frame, await, updating, done}
use types.Run.{look, init, forget, stop, hop, fld, from, load, addr, bin, of_opd, and_then, no_more, assigns, land, returns, enter, alloc1, alloc0, params1, pass1, pass0, free1, free0}
use types.Part.{agg, whole, sub, look_in}
use sound.WpLaws.{FmC}
use denote.RattleType.{owns}
use denote.Shadow.{pure_i}
use denote.Memory.{mem}
use denote.Lend.{Held}
use denote.Laws.{Is, shows}
use denote.Plain.{uint_Makes}
use denote.Builtin.{u8, usize}
use denote.Ref.{MutBor, as_bor}
use denote.FollowSlice.{heres_id}
use denote.Slice.{slice_val, MutSlice, mut_slice_vals, mut_slice_Tells, Room, mut_slice_at}
use denote.Signature.{plain, mut_slice_of}
use denote.Steps.{owned, peeks, heard, nothing, only}
use denote.Struct.Laws as LL
use denote.Exit.{yes, no}
use denote.Triple.Statement.{Contract, Triple}
use denote.Triple.Call.{calls_at}
use denote.Triple.Entry.{on_entry}
use denote.Triple.Spec.{triple_of}
use denote.Triple.Clauses.{ensured, lasts}
use denote.Triple.Table.{framed}
use denote.Triple.Walked.{says, Stays, stay_dropped, on_exit, walk_of, Goes-spent_slice, Goes-dropped, ends_at}
use borrow.Table.Elements.{at, at_byte}
use borrow.Rule.Slice.PartMut.{put_same, Post-is, mid_len}
use Rattle.base.specs.declared.part.Span.{Span}
use Rattle.base.specs.Answer.{said_range}
use Rattle.base.specs.Parts.{placed, held_at, IsAt, LendsAt}
use Rattle.std.proofs.raw_atomic.Walks.{proved}
use Rattle.base.proofs.Lending as lending
use Rattle.base.proofs.Parts.{placed_within}
use Rattle.base.proofs.Ranges.{Range}
use Rattle.base.proofs.Ranges as R
use Rattle.base.specs.contracts.part.Span as S
use Rattle.base.proofs.part.Span.TheLaws as S'
use Rattle.base.specs.contracts.part.placed as placed-fn
use Rattle.base.proofs.part.placed.Symbol.{name as #placed}
use Rattle.base.proofs.part.placed.Met.{met}
use Rattle.base.specs.contracts.part.part_mut.Key.{name as #part_mut}
use Rattle.base.specs.contracts.part.part_mut as f
use Rattle.base.proofs.part.part_mut.Statement.{statement}
use Rattle.base.proofs.part.part_mut.Code as code

abbrev stayed : Stays (f.ended).signature.params (f.ended).kept
stayed = (stay_dropped (mut_slice_of (0 ∷ []) tt (plain (λ _. u8))) no, (stay_dropped (plain (λ _. R.the_row)) yes, tt))

abbrev coded : List ℕ → Gv
coded = (coded_list u8.coded).code

-- ---- the bytes beside a part and those in it are all

module _ (ys : List ℕ) (p : Span) (order : p.from ≤ p.to) (inside : p.to ≤ length ys) where
  beside : take p.from ys ++ (held_at p ys ++ drop-list p.to ys) ≡ ys
  beside =
      ap (λ (l : List ℕ). take p.from ys ++ (held_at p ys ++ l)) (sym (Post-is p.from p.to ys order))
      ∙ put_same p.from (p.to - p.from) ys

  starts : (o : ℕ) → at o (mem u8).size (length (take p.from ys)) ≡ p.from + o
  starts o = at_byte o (length (take p.from ys)) ∙ omega (arith, length-take-le p.from ys (omega arith))

  long : length (held_at p ys) ≡ p.to - p.from
  long = mid_len p.from p.to ys inside

module _ {M : Type 1} {𝓤 : Ura M} (𝓛 : Logic 𝓤) (mm : Memory → SProp 𝓤) (run : Routine → Fun 𝓤) where
  abbrev Placed : Contract 𝓤
  Placed = triple_of 𝓛 placed-fn.signature (placed-fn.spec 𝓛 mm run)

module _ {M : Type 1} {𝓤 : Ura M} (𝓛 : Logic 𝓤) (mm : Memory → SProp 𝓤) (run : Routine → Fun 𝓤) (κ : Lft) (q : Share) (b o : ℕ) (γ : GName) (ys : List ℕ) (room : Room u8 (length ys)) (range : Range) where
  open 𝓛 use {H}

  abbrev x : MutBor (List ℕ)
  x = record { ref_ptr = (b, o); ghost_name = γ; now = ys }

  -- where the part stands, and the part under a name
  abbrev p : Span
  p = placed (said_range range) (length ys)

  abbrev r : GName → MutBor (List ℕ)
  r δ = record { ref_ptr = (b, p.from + o); ghost_name = δ; now = held_at p ys }

  -- the machine values of the slice, the range and the part
  abbrev v : Val
  v = slice_val (b, o) (length ys)

  abbrev u : Val
  u = (R.lowers).lowered range

  abbrev w : Val
  w = slice_val (b, p.from + o) (p.to - p.from)

  abbrev Arg : Type 0
  Arg = MutBor (List ℕ) × (Range × Unit {0})

  abbrev arg : Arg
  arg = (x, (range, tt))

  abbrev vals : List Val × (List Val × Unit {0})
  vals = (v ∷ [], (u ∷ [], tt))

  abbrev bound : (walk_of 𝓛 f.ended stayed (f.clauses 𝓛 mm run)).Ghost
  bound = (((κ, tt), (q, tt), tt, arg, vals), tt)

  abbrev Post : Val → SProp 𝓤
  Post = (walk_of 𝓛 f.ended stayed (f.clauses 𝓛 mm run)).post bound

  order : p.from ≤ p.to
  order = (placed_within (said_range range) (length ys)).0

  inside : p.to ≤ length ys
  inside = (placed_within (said_range range) (length ys)).1

  -- where the bytes behind the part begin, and how the slice's last bytes follow the part's
  abbrev end : ℕ
  end = at (p.from + o) (mem u8).size (length (held_at p ys))

  abbrev Follows : GName → Fml
  Follows δ = LendsAt p x (r δ)

  -- ---- the return

  handed : (δ : GName) → Room u8 (length (held_at p ys))
      → ent 𝓤 (⋆ 𝓛 (‵ (fobs δ (coded (held_at p ys))) ∷ ‵ (fbor κ (Held u8 (length (held_at p ys)) b (p.from + o) δ)) ∷ ‵ (flft κ q) ∷ ‵ (Follows δ) ∷ [])) (Post w)
  handed δ small =
      qed 𝓛 (‵ (fobs δ (coded (held_at p ys))) ∷ ‵ (fbor κ (Held u8 (length (held_at p ys)) b (p.from + o) δ)) ∷ ‵ (flft κ q) ∷ ‵ (Follows δ) ∷ []) ∵
      suffices ! (sep 𝓤 (sep 𝓤 (sem 𝓛 (Follows δ)) OnExit) Said)
      (via 𝓤 (sep 𝓤 (sep 𝓤 OnExit (sem 𝓛 (Follows δ))) Said) (mono_l 𝓤 Said (comm∗ 𝓤 (sem 𝓛 (Follows δ)) OnExit))
      (via 𝓤 (sep 𝓤 OnExit (sep 𝓤 (sem 𝓛 (Follows δ)) Said)) (assoc∗ 𝓤 OnExit (sem 𝓛 (Follows δ)) Said)
      (ends_at 𝓛 f.ended stayed (f.clauses 𝓛 mm run) bound w (r δ) (tt, (tt, tt)) (tt, (tt, tt))))) $ says ! (refl, refl, omega arith) $
      move ! (3 ∷ []) $ frame ! $
      -- [the part's half; its borrow; the token]
      nothing ! $ move ! (3 ∷ 0 ∷ []) $ join ! $ frame ! $
      rewrite ! 0 (λ (l : List ℕ). ‵ (fobs δ (coded l))) (sym (heres_id u8 (held_at p ys))) refl $ fjoin ! $ pure_i ! (mut_slice_at u8 (r δ) (w ∷ [])) (tt, (tt, tt)) (ap (λ (n : ℕ). slice_val (b, p.from + o) n ∷ []) (sym (long ys p order inside)), small) $ fjoin ! $
      nothing ! $ nothing ! $ fjoin ! $ nothing ! $ fjoin ! $ done !
    where
      OnExit : SProp 𝓤
      OnExit = on_exit 𝓛 f.ended stayed (κ, tt) (q, tt) vals w (r δ) arg (tt, (tt, tt))

      Said : SProp 𝓤
      Said = fact 𝓤 (IsAt p (as_bor x) (as_bor (r δ)))

  exits : ent 𝓤 (⋆ 𝓛 (‵ (fobs γ (coded ys)) ∷ ‵ (fbor κ (Held u8 (length ys) b o γ)) ∷ ‵ (flft κ q) ∷ [])) (Post w)
  exits =
      qed 𝓛 (‵ (fobs γ (coded ys)) ∷ ‵ (fbor κ (Held u8 (length ys) b o γ)) ∷ ‵ (flft κ q) ∷ []) ∵ updating ! $
      use3 𝓛 (later (some (λ (δ : GName). ‵ (fobs δ (coded (held_at p ys))) ⊛ ‵ (fbor κ (Held u8 (length (held_at p ys)) b (p.from + o) δ)) ⊛ ‵ (flft κ q) ⊛ ‵ (Follows δ))))
      (lending.splits b o (p.from + o) end (length ys) (length (held_at p ys)) (take p.from ys) (drop-list p.to ys) 𝓛 κ q γ ys (held_at p ys) (beside ys p order inside) (starts ys p order inside o) refl refl) $
      await ! tt $ pick ! (λ δ. keep ! (0 ∷ []) $ by ! (handed δ smaller))
    where
      smaller : Room u8 (length (held_at p ys))
      smaller = (omega (arith, long ys p order inside, room.0, inside), omega (arith, long ys p order inside, room.1, inside))

  -- ---- the call of `placed`

  abbrev to : (Placed 𝓛 mm run).Ghost
  to = ((tt, tt, tt, (range, (length ys, tt)), (u ∷ [], (vint w64 (length ys) ∷ [], tt))), tt)

  goes : ent 𝓤 (sem 𝓛 ((R.the_row).own_val range (u ∷ []))) ((Placed 𝓛 mm run).pre to)
  goes =
      qed 𝓛 (‵ ((R.the_row).own_val range (u ∷ [])) ∷ []) ∵ nothing ! $ owned ! usize (Is usize) (uint_Makes 𝓛 w64) (length ys) _ (refl, room.0) $ fjoin ! $ move ! (1 ∷ 0 ∷ []) $ fjoin ! $ nothing ! $ join ! $ frame ! $ done !

  said : (s : Span) → ent 𝓤 (ensured 𝓛 placed-fn.ended (placed-fn.clauses 𝓛 mm run) tt (range, (length ys, tt)) tt s) (fact 𝓤 (s ≡ p))
  said s = ex_e 𝓤 _ (λ ws. snd∗ 𝓤 (sem 𝓛 (lasts placed-fn.ended tt (range, (length ys, tt)) ws)) (fact 𝓤 (s ≡ p)))

  module _ (C : Calls 𝓤 H) (Λ : Loops 𝓤 H) (fm : FmC 𝓤 H 𝓛.laws C) (known : Triple 𝓤 (C #placed) (Placed 𝓛 mm run)) where
    walk : Holds (has_ty (R.lowers).mir u) × WT u → ent 𝓤 (on_entry 𝓛 f.signature (κ, tt) (q, tt) arg vals) (WpFn 𝓤 H C Λ code.function (v ∷ u ∷ []) Post)
    walk typed =
        qed 𝓛 ((‵ (flft κ q) ⊛ ‵ ftrue) ∷ ‵ (owns (MutSlice (named 0) κ u8 ∷ R.the_row ∷ []) arg vals) ∷ []) ∵
        split ! $ move ! (2 ∷ []) $ fsplit ! $ fsplit ! $ drop ! $ fsplit ! $ move ! (2 ∷ []) $ fsplit ! $ keep ! (0 ∷ 2 ∷ 3 ∷ 4 ∷ []) $
        -- [what the range owns; the slice's half; its borrow; the token]
        enter ! C Λ code.function (v ∷ u ∷ []) _ $
        alloc1 ! (λ l₀. alloc1 ! (λ l₁. alloc1 ! (λ l₂. alloc1 ! (λ l₃. alloc1 ! (λ l₄. alloc1 ! (λ l₅. alloc1 ! (λ l₆. alloc1 ! (λ l₇. alloc1 ! (λ l₈. alloc0 ! $ params1 ! $
        pass1 ! (init ! 14 refl (tt, (tt, (record { fits = room.0 }, tt)))) $ pass1 ! (init ! 12 refl typed) $ pass0 ! $
        -- [_8; …; _7; …; _6; …; to; …; from; …; at; …; range; …; s; …; room for _0; …; what the range owns; ..]
        assigns ! (of_opd ! (load ! (from ! (fld ! refl (stop !))) (look_in ! 14 (sub ! 1 refl (whole !))))) (from ! (stop !)) (init ! 4 refl (tt, record { fits = room.0 })) $
        move ! (18 ∷ []) $ use1 𝓛 (raw ((Placed 𝓛 mm run).pre to)) goes $
        calls_at ! fm (Placed 𝓛 mm run) known to (and_then ! (load ! (from ! (stop !)) (look ! 13 refl)) (and_then ! (load ! (from ! (stop !)) (look ! 5 refl)) (no_more !))) (λ z.
        use1 𝓛 (later (some (λ (s : Span). (‵ ftrue ⊛ ‵ ((S.the_row).own_val s (z ∷ []))) ⊛ raw (ensured 𝓛 placed-fn.ended (placed-fn.clauses 𝓛 mm run) tt (range, (length ys, tt)) tt s)))) (id⊢ 𝓤 _) $ await ! tt $ pick ! (λ s.
        split ! $ move ! (1 ∷ []) $ use1 𝓛 (raw (fact 𝓤 (s ≡ p))) (said s) $ heard ! (s ≡ p) (λ h. split ! $ move ! (1 ∷ []) $
        -- [what the span owns; true; _8; ..]
        peeks ! S.the_row (Is S.the_row) (shows 𝓛 S.the_row) s (z ∷ []) (λ is. land ! (from ! (stop !)) (init ! 12 refl ((LL.lawful S.the_type S'.the_laws 𝓛).typed s _ is).0) $
        rewrite ! 12 (λ (y : Val). ‵ (fat full_share S'.mir l₃ 0 y)) (ap only (LL.tells S.the_type S'.the_laws s (z ∷ []) is) ∙ ap S'.lowered h) refl $
        assigns ! (of_opd ! (load ! (from ! (fld ! refl (stop !))) (look_in ! 12 (sub ! 0 refl (whole !))))) (from ! (stop !)) (init ! 10 refl (tt, record { fits = a_fits })) $
        assigns ! (of_opd ! (load ! (from ! (fld ! refl (stop !))) (look_in ! 12 (sub ! 1 refl (whole !))))) (from ! (stop !)) (init ! 8 refl (tt, record { fits = e_fits })) $
        assigns ! (bin ! (load ! (from ! (fld ! refl (stop !))) (look_in ! 16 (sub ! 0 refl (whole !)))) (load ! (from ! (stop !)) (look ! 10 refl)) tt) (from ! (stop !)) (init ! 4 refl (tt, tt)) $
        forget ! 6 refl $ assigns ! (bin ! (load ! (from ! (stop !)) (look ! 8 refl)) (load ! (from ! (stop !)) (look ! 10 refl)) order) (from ! (stop !)) (init ! 6 refl (tt, record { fits = less })) $
        assigns ! (addr ! (from ! (hop ! (look ! 4 refl) (stop !)))) (from ! (stop !)) (init ! 2 refl (tt, tt)) $
        assigns ! (agg ! (and_then ! (load ! (from ! (stop !)) (look ! 2 refl)) (and_then ! (load ! (from ! (stop !)) (look ! 6 refl)) (no_more !)))) (from ! (stop !)) (init ! 18 refl (tt, (tt, (record { fits = less }, tt)))) $
        returns ! (look ! 18 refl) $ forget ! 2 refl $ forget ! 4 refl $ forget ! 6 refl $ forget ! 8 refl $ forget ! 10 refl $ forget ! 12 refl $ forget ! 14 refl $ forget ! 16 refl $ forget ! 18 refl $
        move ! (18 ∷ 19 ∷ []) $ free1 ! $ move ! (16 ∷ 17 ∷ []) $ free1 ! $ move ! (14 ∷ 15 ∷ []) $ free1 ! $ move ! (12 ∷ 13 ∷ []) $ free1 ! $ move ! (10 ∷ 11 ∷ []) $ free1 ! $ move ! (8 ∷ 9 ∷ []) $ free1 ! $ move ! (6 ∷ 7 ∷ []) $ free1 ! $ move ! (4 ∷ 5 ∷ []) $ free1 ! $ move ! (2 ∷ 3 ∷ []) $ free1 ! $ free0 ! $
        keep ! (2 ∷ 3 ∷ 4 ∷ []) $ rewrite ! 0 (λ (l : List ℕ). ‵ (fobs γ (coded l))) (heres_id u8 ys) refl $ by ! exits)))))))))))))
      where
        e_fits : p.to < 2 ^ 64
        e_fits = lt_of_le_of_lt inside room.0

        a_fits : p.from < 2 ^ 64
        a_fits = lt_of_le_of_lt order e_fits

        less : p.to - p.from < 2 ^ 64
        less = omega (arith, e_fits)

pub part_mut_spec : {M : Type 1} → statement M
part_mut_spec 𝓤 𝓛 𝓜 𝓡 wired =
    proved 𝓛 f.ended stayed (f.clauses 𝓛 𝓜.mem 𝓡.returns) 𝓜 𝓡
    (Goes-spent_slice 𝓛 1 (0 ∷ []) tt (plain (λ _. u8)), (Goes-dropped 𝓛 1 (plain (λ _. R.the_row)) yes (λ κs x f. refl), tt))
    #part_mut code.function (code.unfolded 𝓤 𝓛.H 𝓜 𝓡 wired)
    (λ κs. (mut_slice_vals, ((λ d. (R.lowers).lowered d ∷ []), tt))) (λ κs. (mut_slice_Tells (named 0) κs.0 u8, ((R.lowers).val_is, tt)))
    (λ κs qs bounds a g are. via 𝓤 _ (fst∗ 𝓤 _ (emp 𝓤))
    (walk 𝓛 𝓜.mem 𝓡.returns κs.0 qs.0 a.0.ref_ptr.0 a.0.ref_ptr.1 a.0.ghost_name a.0.now are.0.0.1 a.1.0
    (tables 𝓤 𝓛.H 𝓜 𝓡 𝓡.env).C (tables 𝓤 𝓛.H 𝓜 𝓡 𝓡.env).Λ (framed 𝓤 𝓛.H 𝓜 (tables 𝓤 𝓛.H 𝓜 𝓡 𝓡.env))
    (met 𝓤 𝓛 𝓜 𝓡 (code.calls-base::part::placed 𝓡.env wired)) (((R.the_laws).lawful 𝓛).typed a.1.0 _ are.1.0).0))
