-- One place of the keeper's bytes: what is read of it after another nonce, another session or another count was stored, there or elsewhere.
-- Assumes nothing.
use mathlib.Core.Path.{◌≡◌, refl, sym, ◌∙◌, ap}
use mathlib.Core.Bool.{Bool, true, false, cond}
use mathlib.Core.List.{List, [], ◌∷◌}
use mathlib.Core.Logic.{◌⊎◌, inl, inr, ⊎_elim}
use Prim.Native.Nat.{ℕ, suc, ◌+◌, ◌-◌, ◌/◌, ◌%◌, ◌≤◌, ◌<◌}
use native.Mathlib.Omega.{arith}
use borrow.Author.Tests.{ltb-true, ltb-false}
use lib.Dec.{ltb}
use lib.ListN.{length, get_or, set, take, drop, length-drop, length-set}
use lib.Seq.{get_or-set_same, get_or-set_other, drop-set-lt, length-take-le}
use Rattle.std.proofs.lemmas.List.{take-take}
use Rattle.base.specs.Bytes.{number}
use Rattle.base.specs.Field.{laid, write_bytes}
use Rattle.base.specs.Said.{after}
use Rattle.base.proofs.Bytes.{number_bytes, four_bytes}
use Rattle.base.proofs.Lists.{stored}
use Rattle.base.proofs.Laid.{length_laid, before_laid, behind_laid, laid_there, getD_before_laid, bytes_laid}
use Rattle.base.proofs.Widths.{bytes_put, through}
use Rattle.keeper.specs.State.{handle_place, size_place, nonce_place, capped, count_of, handle_at, size_at, nonce_at, labelled, renewed, put, open_at}

-- ---- a place that is within the bytes

pub capped_small : (n : ℕ) → n ≤ 64 → capped n ≡ n
capped_small n h = by (ltb n 64) refl
  where
    by : (b : Bool) → ltb n 64 ≡ b → cond b n 64 ≡ n
    by true e = refl
    by false e = let big = ltb-false n 64 e in omega arith

pub capped_most : (n : ℕ) → capped n ≤ 64
capped_most n = by (ltb n 64) refl
  where
    by : (b : Bool) → ltb n 64 ≡ b → cond b n 64 ≤ 64
    by true e = let small = ltb-true n 64 e in omega arith
    by false e = omega arith

pub size_most : (s : List ℕ) (i : ℕ) → size_at s i ≤ 64
unfolding size_at
size_most s i = capped_most (get_or s (size_place i) 0)

pub count_most : (s : List ℕ) → count_of s ≤ 64
unfolding count_of
count_most s = capped_most (get_or s 0 0)

-- a nonce is as long as its size says, and comes whole through an array of its own
module _ (s : List ℕ) (all : length s ≡ 4424) (i : ℕ) (h : i < 64) where
  pub length_nonce : length (nonce_at s i) ≡ size_at s i
  unfolding nonce_at
  length_nonce = let few = size_most s i in length-take-le (size_at s i) (drop (nonce_place i) s) (rw (length-drop, all) (omega arith))

  pub nonce_through : {n : ℕ} → n ≡ size_at s i → (room : List ℕ) → length room ≡ 64 → {later : List ℕ}
      → later ≡ after room (write_bytes 0 (take (nonce_place i + 64 - nonce_place i) (drop (nonce_place i) s)) room) → take n later ≡ nonce_at s i
  unfolding nonce_at
  nonce_through {n} is room fits {later} e =
      let few = size_most s i in
      let wide : nonce_place i + 64 - nonce_place i ≡ 64 = omega arith in
      let t : List ℕ = take (nonce_place i + 64 - nonce_place i) (drop (nonce_place i) s) in
      let long : length t ≡ nonce_place i + 64 - nonce_place i =
      length-take-le (nonce_place i + 64 - nonce_place i) (drop (nonce_place i) s) (rw (length-drop, all) (omega arith)) in
      let there : later ≡ laid 0 t room = bytes_put 0 t room (rw (long, fits) (omega arith)) e in
      let inside : n ≤ length t = rw long (omega arith) in
      sym (take-take n (length t) later inside)
      ∙ ap (take n) (through t room there)
      ∙ take-take n (nonce_place i + 64 - nonce_place i) (drop (nonce_place i) s) (omega arith)
      ∙ ap (λ (k : ℕ). take k (drop (nonce_place i) s)) is

-- ---- another nonce

module _ (s : List ℕ) (all : length s ≡ 4424) (i : ℕ) (h : i < 64) (nonce : List ℕ) (few : length nonce ≤ 64) where
  abbrev sized : List ℕ
  sized = set s (size_place i) (length nonce)

  fits : nonce_place i + length nonce ≤ length sized
  fits = rw (length-set s (size_place i) (length nonce), all) (omega arith)

  pub length_renewed : length (renewed i nonce s) ≡ 4424
  unfolding renewed
  length_renewed = length_laid (nonce_place i) nonce sized fits ∙ length-set s (size_place i) (length nonce) ∙ all

  -- a byte before the nonces, other than its size
  byte_renewed : (j : ℕ) → j < 328 → (j ≡ size_place i → ⊥) → get_or (renewed i nonce s) j 0 ≡ get_or s j 0
  unfolding renewed
  byte_renewed j l n = getD_before_laid (nonce_place i) nonce sized fits j (omega arith) ∙ get_or-set_other s (size_place i) j (length nonce) 0 n

  pub count_renewed : count_of (renewed i nonce s) ≡ count_of s
  unfolding count_of
  count_renewed = ap capped (byte_renewed 0 (omega arith) (λ e. omega arith))

  pub handle_renewed : (j : ℕ) → j < 64 → handle_at (renewed i nonce s) j ≡ handle_at s j
  unfolding handle_at
  handle_renewed j l =
      rw (
        byte_renewed (handle_place j + 3) (omega arith) (λ e. omega arith),
        byte_renewed (handle_place j + 2) (omega arith) (λ e. omega arith),
        byte_renewed (handle_place j + 1) (omega arith) (λ e. omega arith),
        byte_renewed (handle_place j) (omega arith) (λ e. omega arith),
      )

  size_renewed : (j : ℕ) → j < 64 → (j ≡ i → ⊥) → size_at (renewed i nonce s) j ≡ size_at s j
  unfolding size_at
  size_renewed j l n = ap capped (byte_renewed (size_place j) (omega arith) (λ e. n (omega arith)))

  size_given : size_at (renewed i nonce s) i ≡ length nonce
  unfolding size_at renewed
  size_given =
      ap capped
      (getD_before_laid (nonce_place i) nonce sized fits (size_place i) (omega arith) ∙ get_or-set_same s (size_place i) (length nonce) 0 (rw all (omega arith)))
      ∙ capped_small (length nonce) few

  pub nonce_given : nonce_at (renewed i nonce s) i ≡ nonce
  unfolding nonce_at renewed
  nonce_given = ap (λ (n : ℕ). take n (drop (nonce_place i) (renewed i nonce s))) size_given ∙ there
    where
      there : take (length nonce) (drop (nonce_place i) (renewed i nonce s)) ≡ nonce
      there = laid_there (nonce_place i) nonce sized fits

  -- another nonce stands before it or behind it
  window : (j n : ℕ) → j < 64 → n ≤ 64 → (j ≡ i → ⊥) → take n (drop (nonce_place j) (renewed i nonce s)) ≡ take n (drop (nonce_place j) s)
  unfolding renewed
  window j n l m d = side (ltb j i) refl ∙ ap (take n) (drop-set-lt (nonce_place j) s (size_place i) (length nonce) (omega arith))
    where
      side : (b : Bool) → ltb j i ≡ b → take n (drop (nonce_place j) (laid (nonce_place i) nonce sized)) ≡ take n (drop (nonce_place j) sized)
      side true e = let lower = ltb-true j i e in before_laid (nonce_place i) nonce sized fits (nonce_place j) n (omega arith)
      side false e =
          let upper = ltb-false j i e in
          let above : i < j = omega arith in
          ap (take n) (behind_laid (nonce_place i) nonce sized fits (nonce_place j) (omega arith))

  pub nonce_renewed : (j : ℕ) → j < 64 → (j ≡ i → ⊥) → nonce_at (renewed i nonce s) j ≡ nonce_at s j
  unfolding nonce_at
  nonce_renewed j l n =
      ap (λ (k : ℕ). take k (drop (nonce_place j) (renewed i nonce s))) (size_renewed j l n) ∙ window j (size_at s j) l (size_most s j) n

-- ---- another handle

module _ (s : List ℕ) (all : length s ≡ 4424) (i : ℕ) (h : i < 64) (handle : ℕ) where
  pub length_labelled : length (labelled i handle s) ≡ 4424
  unfolding labelled
  length_labelled = simp length-set all

  -- the bytes of the handle, written to its place
  pub handle_laid : handle < 4294967296 → {t : List ℕ} → t ≡ handle % 256 ∷ handle / 256 % 256 ∷ handle / 65536 % 256 ∷ handle / 16777216 % 256 ∷ []
      → after s (write_bytes (handle_place i) t s) ≡ labelled i handle s
  unfolding labelled
  handle_laid few {t} is =
      let p : ℕ = handle_place i in
      let last : handle / 16777216 % 256 ≡ handle / 16777216 = omega arith in
      let four : List ℕ = handle % 256 ∷ handle / 256 % 256 ∷ handle / 65536 % 256 ∷ handle / 16777216 ∷ [] in
      let same : t ≡ four = is ∙ (λ k. handle % 256 ∷ handle / 256 % 256 ∷ handle / 65536 % 256 ∷ last k ∷ []) in
      let one : suc p ≡ p + 1 = omega arith in
      let two : suc (suc p) ≡ p + 2 = omega arith in
      let three : suc (suc (suc p)) ≡ p + 3 = omega arith in
      bytes_laid p t s (rw (same, all) (omega arith))
      ∙ ap (λ (u : List ℕ). laid p u s) same
      ∙ sym (stored s p four (omega arith) (omega arith))
      ∙ (λ k. set (set (set (set s p (handle % 256)) (one k) (handle / 256 % 256)) (two k) (handle / 65536 % 256)) (three k) (handle / 16777216))

  byte_labelled : (j : ℕ) → (j < handle_place i) ⊎ (handle_place i + 3 < j) → get_or (labelled i handle s) j 0 ≡ get_or s j 0
  unfolding labelled
  byte_labelled j side =
      let p : ℕ = handle_place i in
      let one = set s p (handle % 256) in
      let two = set one (p + 1) (handle / 256 % 256) in
      let three = set two (p + 2) (handle / 65536 % 256) in
      get_or-set_other three (p + 3) j (handle / 16777216) 0 (λ e. ⊎_elim (λ l. omega arith) (λ l. omega arith) side)
      ∙ get_or-set_other two (p + 2) j (handle / 65536 % 256) 0 (λ e. ⊎_elim (λ l. omega arith) (λ l. omega arith) side)
      ∙ get_or-set_other one (p + 1) j (handle / 256 % 256) 0 (λ e. ⊎_elim (λ l. omega arith) (λ l. omega arith) side)
      ∙ get_or-set_other s p j (handle % 256) 0 (λ e. ⊎_elim (λ l. omega arith) (λ l. omega arith) side)

  size_labelled : (j : ℕ) → size_at (labelled i handle s) j ≡ size_at s j
  unfolding size_at
  size_labelled j = ap capped (byte_labelled (size_place j) (inr (omega arith)))

  window_labelled : (j n : ℕ) → take n (drop (nonce_place j) (labelled i handle s)) ≡ take n (drop (nonce_place j) s)
  unfolding labelled
  window_labelled j n =
      let p : ℕ = handle_place i in
      let one = set s p (handle % 256) in
      let two = set one (p + 1) (handle / 256 % 256) in
      let three = set two (p + 2) (handle / 65536 % 256) in
      ap (take n)
      (drop-set-lt (nonce_place j) three (p + 3) (handle / 16777216) (omega arith)
      ∙ drop-set-lt (nonce_place j) two (p + 2) (handle / 65536 % 256) (omega arith)
      ∙ drop-set-lt (nonce_place j) one (p + 1) (handle / 256 % 256) (omega arith)
      ∙ drop-set-lt (nonce_place j) s p (handle % 256) (omega arith))

  nonce_labelled : (j : ℕ) → nonce_at (labelled i handle s) j ≡ nonce_at s j
  unfolding nonce_at
  nonce_labelled j = ap (λ (k : ℕ). take k (drop (nonce_place j) (labelled i handle s))) (size_labelled j) ∙ window_labelled j (size_at s j)

  handle_labelled : (j : ℕ) → (j ≡ i → ⊥) → handle_at (labelled i handle s) j ≡ handle_at s j
  unfolding handle_at
  handle_labelled j n =
      rw (
        byte_labelled (handle_place j + 3) (side 3 (omega arith)),
        byte_labelled (handle_place j + 2) (side 2 (omega arith)),
        byte_labelled (handle_place j + 1) (side 1 (omega arith)),
        byte_labelled (handle_place j) (below (ltb j i) refl),
      )
    where
      below : (b : Bool) → ltb j i ≡ b → (handle_place j < handle_place i) ⊎ (handle_place i + 3 < handle_place j)
      below true e = let lower = ltb-true j i e in inl (omega arith)
      below false e = let upper = ltb-false j i e in let above : i < j = omega arith in inr (omega arith)

      side : (k : ℕ) → k ≤ 3 → (handle_place j + k < handle_place i) ⊎ (handle_place i + 3 < handle_place j + k)
      side k l = by (ltb j i) refl
        where
          by : (b : Bool) → ltb j i ≡ b → (handle_place j + k < handle_place i) ⊎ (handle_place i + 3 < handle_place j + k)
          by true e = let lower = ltb-true j i e in inl (omega arith)
          by false e = let upper = ltb-false j i e in let above : i < j = omega arith in inr (omega arith)

  handle_given : handle < 4294967296 → handle_at (labelled i handle s) i ≡ handle
  unfolding handle_at labelled
  handle_given fits =
      let p : ℕ = handle_place i in
      let a : ℕ = handle % 256 in
      let b : ℕ = handle / 256 % 256 in
      let c : ℕ = handle / 65536 % 256 in
      let d : ℕ = handle / 16777216 in
      let one = set s p a in
      let two = set one (p + 1) b in
      let three = set two (p + 2) c in
      let four = set three (p + 3) d in
      let at3 : get_or four (p + 3) 0 ≡ d = get_or-set_same three (p + 3) d 0 (simp length-set (rw all (omega arith))) in
      let at2 : get_or four (p + 2) 0 ≡ c =
      get_or-set_other three (p + 3) (p + 2) d 0 (λ e. omega arith) ∙ get_or-set_same two (p + 2) c 0 (simp length-set (rw all (omega arith))) in
      let at1 : get_or four (p + 1) 0 ≡ b =
      get_or-set_other three (p + 3) (p + 1) d 0 (λ e. omega arith) ∙ get_or-set_other two (p + 2) (p + 1) c 0 (λ e. omega arith)
      ∙ get_or-set_same one (p + 1) b 0 (simp length-set (rw all (omega arith))) in
      let at0 : get_or four p 0 ≡ a =
      get_or-set_other three (p + 3) p d 0 (λ e. omega arith) ∙ get_or-set_other two (p + 2) p c 0 (λ e. omega arith)
      ∙ get_or-set_other one (p + 1) p b 0 (λ e. omega arith) ∙ get_or-set_same s p a 0 (rw all (omega arith)) in
      (λ k. number (at3 k ∷ at2 k ∷ at1 k ∷ at0 k ∷ [])) ∙ ap number (four_bytes handle fits) ∙ number_bytes 4 handle fits

-- ---- another session, and another count

module _ (s : List ℕ) (all : length s ≡ 4424) (i : ℕ) (h : i < 64) (handle : ℕ) (nonce : List ℕ) (few : length nonce ≤ 64) where
  pub length_put : length (put i handle nonce s) ≡ 4424
  length_put = length_renewed (labelled i handle s) (length_labelled s all i h handle) i h nonce few

  pub open_put : handle < 4294967296 → open_at (put i handle nonce s) i ≡ record { handle = handle; nonce = nonce }
  open_put fits =
      let long = length_labelled s all i h handle in
      λ k. record {
        handle = (handle_renewed (labelled i handle s) long i h nonce few i h ∙ handle_given s all i h handle fits) k;
        nonce = nonce_given (labelled i handle s) long i h nonce few k;
      }

  pub other_put : (j : ℕ) → j < 64 → (j ≡ i → ⊥) → open_at (put i handle nonce s) j ≡ open_at s j
  other_put j l n =
      let long = length_labelled s all i h handle in
      λ k. record {
        handle = (handle_renewed (labelled i handle s) long i h nonce few j l ∙ handle_labelled s all i h handle j n) k;
        nonce = (nonce_renewed (labelled i handle s) long i h nonce few j l n ∙ nonce_labelled s all i h handle j) k;
      }

pub open_counted : (s : List ℕ) (n j : ℕ) → open_at (set s 0 n) j ≡ open_at s j
unfolding handle_at size_at nonce_at
open_counted s n j =
    let other : (k : ℕ) → 0 < k → get_or (set s 0 n) k 0 ≡ get_or s k 0 = λ k l. get_or-set_other s 0 k n 0 (λ e. omega arith) in
    let size : capped (get_or (set s 0 n) (size_place j) 0) ≡ capped (get_or s (size_place j) 0) = ap capped (other (size_place j) (omega arith)) in
    λ k. record {
      handle = number (other (handle_place j + 3) (omega arith) k ∷ other (handle_place j + 2) (omega arith) k ∷ other (handle_place j + 1) (omega arith) k ∷ other (handle_place j) (omega arith) k ∷ []);
      nonce = take (size k) (drop-set-lt (nonce_place j) s 0 n (omega arith) k);
    }

pub count_counted : (s : List ℕ) → length s ≡ 4424 → (n : ℕ) → n ≤ 64 → count_of (set s 0 n) ≡ n
unfolding count_of
count_counted s all n few = ap capped (get_or-set_same s 0 n 0 (rw all (omega arith))) ∙ capped_small n few
