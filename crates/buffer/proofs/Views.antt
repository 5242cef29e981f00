-- The cases of the view's reads, each from the tests that lead to it, over any capacity.
-- Assumes nothing.
use mathlib.Core.Path.{◌≡◌, refl, sym, ◌∙◌, ap}
use mathlib.Core.List.{List}
use Prim.Native.Nat.{ℕ, ◌+◌, ◌-◌, ◌≤◌, ◌<◌}
use native.Mathlib.Nat.{sub-zero}
use native.Mathlib.Omega.{arith}
use borrow.Author.Tests.{le-leb, leb-true}
use lib.Dec.{leb}
use lib.ListN.{length, take}
use lib.Seq.{length-take-le}
use Rattle.base.specs.Bytes.{AreBytes}
use Rattle.base.specs.declared.error.Area.TheVariants.{None}
use Rattle.base.specs.Field.{read_field}
use Rattle.base.specs.Parts.{up_to}
use Rattle.base.specs.Said.{Said, gives, refuses, done, within}
use Rattle.base.proofs.Bytes.{number_lt, are_bytes_take}
use Rattle.base.proofs.Frameless.{read_nowhere}
use Rattle.base.proofs.Checks.{needs_gives, then_gives, gives_injective, gives≢refuses}
use Rattle.buffer.specs.View.{size_of, read_size, prefix, whole}

module _ (s : List ℕ) where
  -- the size field is the field of two bytes at the start
  pub size_field : within None (read_field 2 0 s) ≡ read_size s
  unfolding read_size
  size_field = read_nowhere 0 s 2 ∙ rw (sub-zero (length s)) refl

  pub size_is : 2 ≤ length s → gives (size_of s) ≡ read_size s
  unfolding read_size
  size_is h = simp (le-leb 2 (length s) h)

  pub sized : {n : ℕ} → gives n ≡ read_size s → 2 ≤ length s
  unfolding read_size
  sized e = leb-true 2 (length s) (needs_gives (leb 2 (length s)) _ _ (sym e)).0

module _ (capacity : ℕ) (s : List ℕ) where
  module _ (n : ℕ) (e : gives n ≡ read_size s) where
    pub prefix_read : n ≤ capacity → n ≤ length s - 2 → gives (2 + n) ≡ prefix capacity s
    unfolding prefix
    prefix_read h k = rw (← e) (simp (le-leb n capacity h, le-leb n (length s - 2) k))

  -- a prefix that was read is at least its length field, and stands within the bytes and the capacity
  pub prefix_fits : {n : ℕ} → gives n ≡ prefix capacity s → (2 ≤ n) × (n ≤ length s) × (n ≤ 2 + capacity)
  unfolding prefix
  prefix_fits e =
      let size = then_gives (read_size s) _ (sym e) in
      let few = needs_gives (leb size.0 capacity) _ _ size.2 in
      let there = needs_gives (leb size.0 (length s - 2)) _ _ few.1 in
      let two = sized s (sym size.1) in
      let small = leb-true size.0 capacity few.0 in
      let fits = leb-true size.0 (length s - 2) there.0 in
      let is = gives_injective there.1 in
      omega arith

  pub prefix_is : {n : ℕ} → gives n ≡ prefix capacity s → n ≡ 2 + size_of s
  unfolding prefix read_size
  prefix_is e =
      let size = then_gives (read_size s) _ (sym e) in
      let few = needs_gives (leb size.0 capacity) _ _ size.2 in
      let there = needs_gives (leb size.0 (length s - 2)) _ _ few.1 in
      let two = needs_gives (leb 2 (length s)) _ _ size.1 in
      sym (gives_injective there.1) ∙ ap (λ (m : ℕ). 2 + m) (sym (gives_injective two.1))

  -- a size is a number of two bytes
  pub prefix_size : AreBytes s → {n : ℕ} → gives n ≡ prefix capacity s → n < 65538
  prefix_size p e =
      let fits = prefix_fits e in
      let is = prefix_is e in
      let two = number_lt (take 2 s) (are_bytes_take 2 s p) in
      let few : length (take 2 s) ≡ 2 = length-take-le 2 s (omega arith) in
      let small : size_of s < 65536 = rw few at two in
      omega arith

  module _ (n : ℕ) (e : gives n ≡ prefix capacity s) where
    pub whole_read : length s ≤ n → gives n ≡ whole capacity s
    unfolding whole
    whole_read h = rw (← e) (simp (le-leb (length s) n h))

  pub whole_fits : {n : ℕ} → gives n ≡ whole capacity s → n ≡ length s
  unfolding whole
  whole_fits e =
      let read = then_gives (prefix capacity s) _ (sym e) in
      let all = needs_gives (leb (length s) read.0) _ _ read.2 in
      let fits = prefix_fits (sym read.1) in
      let over = leb-true (length s) read.0 all.0 in
      let is = gives_injective all.1 in
      omega arith

  -- the range of a whole read is everything
  pub whole_range : gives tt ≡ done (whole capacity s) → gives (record { from = 0; to = length s }) ≡ up_to (whole capacity s)
  whole_range e = by (whole capacity s) refl e
    where
      by : (w : Said ℕ) → whole capacity s ≡ w → gives tt ≡ done w → gives (record { from = 0; to = length s }) ≡ up_to w
      by (gives n) q e = ap (λ (m : ℕ). up_to (gives m)) (sym (whole_fits (sym q)))
      by (refuses why) q e = absurd (gives≢refuses e)
