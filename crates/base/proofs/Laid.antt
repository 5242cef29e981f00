-- Bytes laid at a place of others: how long the whole is, what stands there, and that all before them and behind them is as it was.
-- Assumes nothing.
use mathlib.Core.Path.{◌≡◌, refl, sym, ◌∙◌, ap}
use mathlib.Core.List.{List, ◌++◌, append_assoc, append-nil}
use Prim.Native.Nat.{ℕ, ◌+◌, ◌-◌, ◌≤◌, ◌<◌}
use native.Mathlib.Omega.{arith}
use borrow.Author.Tests.{le-leb}
use lib.ListN.{length, get_or, take, drop, length-append, length-drop, get_or-append, drop_of_length-le}
use lib.Seq.{length-take-le, take-append-le, drop-append-le, take_at, drop_at, drop-drop, drop-append-add, get_or-take}
use Rattle.base.specs.Field.{laid, write_bytes}
use Rattle.base.specs.Said.{after}
use Rattle.base.proofs.Places.{read_within}

module _ (place : ℕ) (t s : List ℕ) (inside : place + length t ≤ length s) where
  front : length (take place s) ≡ place
  front = length-take-le place s (omega arith)

  pub length_laid : length (laid place t s) ≡ length s
  length_laid =
      length-append (take place s) (t ++ drop (place + length t) s)
      ∙ (λ i. front i + length-append t (drop (place + length t) s) i)
      ∙ ap (λ (n : ℕ). place + (length t + n)) (length-drop (place + length t) s)
      ∙ omega arith

  -- before them and behind them all is as it was
  pub before_laid : (from n : ℕ) → from + n ≤ place → take n (drop from (laid place t s)) ≡ take n (drop from s)
  before_laid from n h =
      let whole : from ≤ length (take place s) = rw front (omega arith) in
      let part : n ≤ length (drop from (take place s)) = rw (length-drop, front) (omega arith) in
      ap (take n) (drop-append-le from (take place s) (t ++ drop (place + length t) s) whole)
      ∙ take-append-le n (drop from (take place s)) (t ++ drop (place + length t) s) part
      ∙ read_within place s from n (rw front (omega arith))

  pub behind_laid : (from : ℕ) → place + length t ≤ from → drop from (laid place t s) ≡ drop from s
  behind_laid from h =
      let ahead : length (take place s ++ t) ≡ place + length t = length-append (take place s) t ∙ ap (λ (n : ℕ). n + length t) front in
      let more : ℕ = from - (place + length t) in
      let there : length (take place s ++ t) + more ≡ from = rw ahead (omega arith) in
      let here : place + length t + more ≡ from = omega arith in
      ap (drop from) (sym (append_assoc (take place s) t (drop (place + length t) s)))
      ∙ ap (λ (n : ℕ). drop n (take place s ++ t ++ drop (place + length t) s)) (sym there)
      ∙ drop-append-add (take place s ++ t) (drop (place + length t) s) more
      ∙ drop-drop more (place + length t) s
      ∙ ap (λ (n : ℕ). drop n s) here

  pub laid_there : take (length t) (drop place (laid place t s)) ≡ t
  laid_there =
      ap (take (length t)) (drop_at (take place s) (t ++ drop (place + length t) s) place front)
      ∙ take_at t (drop (place + length t) s) (length t) refl

  pub getD_before_laid : (i : ℕ) → i < place → get_or (laid place t s) i 0 ≡ get_or s i 0
  getD_before_laid i h =
      get_or-append (take place s) (t ++ drop (place + length t) s) 0 i (rw front h) ∙ get_or-take place s i 0 h

-- a write for which there is room
pub bytes_laid : (place : ℕ) (t s : List ℕ) → length t ≤ length s - place → after s (write_bytes place t s) ≡ laid place t s
bytes_laid place t s h = simp (le-leb (length t) (length s - place) h)

-- .. of as many bytes as are there
pub all_written : (t s : List ℕ) → length t ≡ length s → after s (write_bytes 0 t s) ≡ t
all_written t s e =
    bytes_laid 0 t s (omega arith)
    ∙ ap (λ (u : List ℕ). t ++ u) (drop_of_length-le s {i = 0 + length t} (omega arith))
    ∙ append-nil t
