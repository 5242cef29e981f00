-- A part of a `&mut [u8]` goes out for as long as the slice was lent, and the slice's last bytes follow the part's.
-- The slice is one borrow with one ghost name. The borrow is opened: the part's bytes go out under a name of their own, and all else, the bytes
-- beside the part, stays with the way back.
--     splits     the slice's borrow becomes the part's, and the slice's name follows the part's
--     ties       what the part's last bytes say of the slice, as `TiesAt` says it
-- Assumes `Logic`, the logic's own laws.
use mathlib.Core.Path.{◌≡◌, refl, sym, ◌∙◌, ap}
use Prim.Native.Nat.{ℕ, ◌+◌}
use mathlib.Core.List.{List, [], ◌∷◌, ◌++◌}
use lib.ListN.{length}
use seplogic.Ra.Ura.{Ura}
use base.Logic.{SProp, ent, sep, wand, ex, all}
use base.Stored.{Gv, coded_list}
use base.Fml.{Lft, GName, Share, Fml, flft, fobs, fres, fbor}
use mir.Syntax.{named}
use types.Logic.{Logic, sem}
use types.Kit.{‵, ◌⊛◌, some, later, ◌$◌, ◌∵◌, !, qed, move, use1, use2, rewrite, split, split3, join, group, pick, fsplit, fjoin, feq_l, feq_i, assume, each, await, updating, now as at_once, show, done}
use types.SemTy.{SemTy, cells, Arr, Body}
use types.Mut.{open_ref}
use types.Follow.{takes_part}
use contract.Lifetimes.{Lfts}
use denote.Array.{Array}
use denote.Builtin.{u8}
use denote.Follow.{follows}
use denote.FollowSlice.{followed_slice, heres_id}
use denote.Memory.{mem}
use denote.Ref.{MutBor}
use denote.Slice.{finally, res-finally}
use borrow.Table.Elements.{at, cut_app, join_app, length_app}
use Rattle.base.specs.declared.part.Span.{Span}
use Rattle.base.specs.Answer.{Part}
use Rattle.base.specs.Parts.{placed, put_at, LendsAt, LendsPart, TiesAt, Ties}
use Rattle.base.specs.Said.{Said}

abbrev byte : SemTy
byte = mem u8

abbrev coded : List ℕ → Gv
coded = (coded_list u8.coded).code

-- some bytes of the block, `size` in all: `first` from the place `start` on, the part's `count` from the place `middle` on, and `last` from
-- the place `end` on
module _ (block start middle end size count : ℕ) (first last : List ℕ) where
  -- the bytes beside the part with others between them
  abbrev pub around : List ℕ → List ℕ
  around ws = first ++ (ws ++ last)

  abbrev pub Whole : GName → Fml
  Whole γ = Body (Arr byte size) block start γ

  abbrev pub Out : GName → Fml
  Out δ = Body (Arr byte count) block middle δ

  module _ {M : Type 1} {𝓤 : Ura M} (𝓛 : Logic 𝓤) where
    open 𝓛 use {H, A}

    -- the bytes beside the part
    abbrev Beside : SProp 𝓤
    Beside = sep 𝓤 (sem 𝓛 (cells byte last block end)) (sem 𝓛 (cells byte first block start))

    module _ (to_middle : at start byte.size (length first) ≡ middle) (to_end : at middle byte.size count ≡ end)
        (in_all : length first + (count + length last) ≡ size) where
      -- any bytes in the part's place, and those beside it, are the whole
      back : (ws : List ℕ) → ent 𝓤 (sep 𝓤 (sem 𝓛 ((Arr byte count).own_at ws block middle)) Beside) (sem 𝓛 ((Arr byte size).own_at (around ws) block start))
      back ws =
          qed 𝓛 (‵ ((Arr byte count).own_at ws block middle) ∷ (‵ (cells byte last block end) ⊛ ‵ (cells byte first block start)) ∷ []) ∵
          fsplit ! $ feq_l ! (λ long. move ! (1 ∷ []) $ split ! $
          -- [last; first; the part's bytes]
          rewrite ! 0 (λ (j : ℕ). ‵ (cells byte last block j)) (sym to_end ∙ ap (λ (j : ℕ). at middle byte.size j) (sym long)) refl $
          move ! (2 ∷ 0 ∷ []) $ use2 𝓛 (‵ (cells byte (ws ++ last) block middle)) (join_app 𝓛 byte ws last block middle) $
          rewrite ! 0 (λ (j : ℕ). ‵ (cells byte (ws ++ last) block j)) (sym to_middle) refl $
          move ! (1 ∷ 0 ∷ []) $ use2 𝓛 (‵ (cells byte (around ws) block start)) (join_app 𝓛 byte first (ws ++ last) block start) $
          feq_i ! ℕ (length (around ws)) size (length_app first (ws ++ last)
          ∙ ap (λ (j : ℕ). length first + j) (length_app ws last ∙ ap (λ (j : ℕ). j + length last) long) ∙ in_all) $
          fjoin ! $ done !)

    -- ---- the slice's borrow is split
    abbrev pub Split : Lft → Share → GName → List ℕ → GName → SProp 𝓤
    Split κ q γ ys δ = sep 𝓤 (A.obs δ (coded ys)) (sep 𝓤 (A.bor κ (Out δ)) (sep 𝓤 (A.lft κ q) (sem 𝓛 (follows (Array u8 0) (Array u8 0) γ δ around))))

    pub splits : (κ : Lft) (q : Share) (γ : GName) (xs ys : List ℕ) → around ys ≡ xs
        → at start byte.size (length first) ≡ middle → at middle byte.size count ≡ end → length ys ≡ count
        → ent 𝓤 (sep 𝓤 (A.obs γ (coded xs)) (sep 𝓤 (A.bor κ (Whole γ)) (A.lft κ q))) (H.⇛ (ex 𝓤 (Split κ q γ ys)))
    splits κ q γ xs ys parts to_middle to_end long =
        qed 𝓛 (‵ (fobs γ (coded xs)) ∷ ‵ (fbor κ (Whole γ)) ∷ ‵ (flft κ q) ∷ []) ∵ updating ! $
        open_ref ! tt (Arr byte size) {b = block} {o = start} $ fsplit ! $ feq_l ! (λ all_long.
        -- [the bytes; the borrow, open; the halves of the slice's name]
        rewrite ! 0 (λ (l : List ℕ). ‵ (cells byte l block start)) (sym parts) refl $
        use1 𝓛 (‵ (cells byte first block start) ⊛ ‵ (cells byte (ys ++ last) block (at start byte.size (length first))))
        (cut_app 𝓛 byte first (ys ++ last) block start) $ split ! $ move ! (1 ∷ []) $
        rewrite ! 0 (λ (j : ℕ). ‵ (cells byte (ys ++ last) block j)) to_middle refl $
        use1 𝓛 (‵ (cells byte ys block middle) ⊛ ‵ (cells byte last block (at middle byte.size (length ys))))
        (cut_app 𝓛 byte ys last block middle) $ split ! $
        rewrite ! 1 (λ (j : ℕ). ‵ (cells byte last block j)) (ap (λ (j : ℕ). at middle byte.size j) long ∙ to_end) refl $
        -- [the part's bytes; last; first; the borrow, open; the halves of the slice's name]
        feq_i ! ℕ (length ys) count long $ fjoin ! $ move ! (1 ∷ 2 ∷ []) $ join ! $
        -- [beside; the part's bytes; the borrow, open; the halves]
        move ! (2 ∷ 3 ∷ 4 ∷ 1 ∷ 0 ∷ []) $ group ! 5 $
        use1 𝓛 (later (some (λ (δ : GName). ‵ (fobs δ (coded ys)) ⊛ ‵ (fbor κ (Out δ)) ⊛ ‵ (flft κ q) ⊛ ‵ (follows (Array u8 0) (Array u8 0) γ δ around))))
        (takes_part 𝓛 (Arr byte size) (Arr byte count) around κ q block start block middle γ Beside (back to_middle to_end (in_all all_long)) (coded xs) (coded xs) ys) $
        await ! tt $ pick ! (λ δ. split3 ! $ at_once ! $ show ! (Split κ q γ ys) δ $ done !))
      where
        in_all : length xs ≡ size → length first + (count + length last) ≡ size
        in_all all_long =
            ap (λ (j : ℕ). length first + (j + length last)) (sym long)
            ∙ ap (λ (j : ℕ). length first + j) (sym (length_app ys last))
            ∙ sym (length_app first (ys ++ last)) ∙ ap (λ (l : List ℕ). length l) parts ∙ all_long

-- ---- the library's words say what `TiesAt` says, for every lifetime

module _ {M : Type 1} {𝓤 : Ura M} (𝓛 : Logic 𝓤) (κs : Lfts 1) (p : Span) (s r : MutBor (List ℕ)) where
  open 𝓛 use {H, A}

  abbrev ends : List ℕ → List ℕ
  ends ws = put_at p ws s.now

  abbrev Tie : List ℕ → Share → SProp 𝓤
  Tie ws q =
      wand 𝓤 (sep 𝓤 (sem 𝓛 (finally u8 r.ghost_name ws)) (A.lft κs.0 q))
      (H.⇛ (sep 𝓤 (sem 𝓛 (finally u8 s.ghost_name (ends ws))) (A.lft κs.0 q)))

  pub ties : ent 𝓤 (sem 𝓛 (LendsAt p s r)) (TiesAt 𝓛 κs p s r)
  ties =
      qed 𝓛 (‵ (LendsAt p s r) ∷ []) ∵ each ! (λ (ws : List ℕ). all 𝓤 (λ (q : Share). Tie ws q)) (λ ws. each ! (λ (q : Share). Tie ws q) (λ q.
      assume ! (‵ (finally u8 r.ghost_name ws) ⊛ ‵ (flft κs.0 q)) $ updating ! $ split ! $
      -- [the part's last bytes; the token; what follows]
      move ! (2 ∷ 0 ∷ []) $ use2 𝓛 (‵ (fres s.ghost_name (coded (ends ws)))) (followed_slice 𝓛 (Array u8 0) u8 ends s.ghost_name r.ghost_name ws) $
      rewrite ! 0 (λ (l : List ℕ). ‵ (fres s.ghost_name (coded l))) (sym (heres_id u8 (ends ws))) refl $
      use1 𝓛 (‵ (finally u8 s.ghost_name (ends ws))) (res-finally 𝓛 (named 0) κs.0 u8 s.ghost_name (ends ws)) $ at_once ! $ done !))

-- of the part of a range
pub ties_part : {M : Type 1} {𝓤 : Ura M} (𝓛 : Logic 𝓤) (κs : Lfts 1) (range : Said Part) (s r : MutBor (List ℕ)) → ent 𝓤 (sem 𝓛 (LendsPart range s r)) (Ties 𝓛 κs range s r)
ties_part 𝓛 κs range s r = ties 𝓛 κs (placed range (length s.now)) s r
