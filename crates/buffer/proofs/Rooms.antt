-- The cases of writing a record's bytes to lent room, and of equality, over any capacity.
-- Assumes nothing.
use mathlib.Core.Path.{◌≡◌, refl, sym, ◌∙◌, ap}
use mathlib.Core.Bool.{true, false≢true, and-eq-true_iff}
use mathlib.Core.List.{List, [], ◌∷◌, ◌++◌, append_assoc}
use Prim.Native.Nat.{ℕ, ◌+◌, ◌-◌, ◌≤◌, ◌<◌}
use native.Mathlib.Omega.{arith}
use borrow.Author.Tests.{le-leb, lt-leb, leb-true, eqb-true, eq-eqb}
use lib.Dec.{eqb, leb}
use lib.ListN.{length, take, drop}
use lib.Seq.{length-take-le, take_at, drop-append-add, drop-drop}
use Rattle.base.specs.Bytes.{bytes}
use Rattle.base.specs.Field.{laid}
use Rattle.base.specs.Said.{Why, no_area, Said, gives, refuses, after, done, then}
use Rattle.base.specs.Tpm2b.{tpm2b}
use Rattle.base.proofs.Bytes.{length_bytes}
use Rattle.base.proofs.Checks.{needs_gives, gives_injective}
use Rattle.base.proofs.Tpm2b.{length_tpm2b}
use Rattle.buffer.specs.Fixed.{Buffer, buffer, judged, put, new, count, emitted, over, equal, same_bytes, grown, extended, unmarshalled, size_said, room_after}
use Rattle.buffer.specs.View.{prefix}

-- a size that passed its capacity's test
pub judged_fits : (capacity size : ℕ) {n : ℕ} → gives n ≡ judged capacity size (gives size) → (n ≡ size) × (size ≤ capacity)
judged_fits capacity size e =
    let fits = needs_gives (leb size capacity) _ _ (sym e) in
    (sym (gives_injective fits.1), leb-true size capacity fits.0)

-- a record of the capacity is written wherever its bytes have room
module _ (capacity size : ℕ) (t lent : List ℕ) (small : size ≤ capacity) where
  pub emit_no_room : length lent < length t → refuses (no_area (9 ∷ 0 ∷ length t ∷ length lent ∷ [])) ≡ emitted capacity size t lent
  unfolding emitted
  emit_no_room h = simp (le-leb size capacity small, lt-leb (length t) (length lent) h)

  pub emitted_gives : length t ≤ length lent → emitted capacity size t lent ≡ gives (over t lent)
  unfolding emitted
  emitted_gives h = simp (le-leb size capacity small, le-leb (length t) (length lent) h)

-- t is k bytes where the record is one of the capacity
module _ (capacity size : ℕ) (t lent : List ℕ) (k n : ℕ) (e : size ≤ capacity → length t ≡ k) where
  pub emit_done : size ≤ capacity → k ≤ length lent
      → (gives n ≡ count n (emitted capacity size t lent)) × (over t lent ≡ after lent (emitted capacity size t lent))
  emit_done h r =
      let fits : length t ≤ length lent = rw (e h) r in
      let all = emitted_gives capacity size t lent h fits in
      (rw all refl, rw all refl)

pub length_held : (size : ℕ) (room : List ℕ) → size ≤ length room → length (take size room) ≡ size
length_held size room h = length-take-le size room h

pub length_wire : (size : ℕ) (room : List ℕ) → size ≤ length room → length (tpm2b (take size room)) ≡ 2 + size
length_wire size room h = length_tpm2b (take size room) ∙ ap (λ (n : ℕ). 2 + n) (length_held size room h)

-- the two bytes of the size over the first of the room, and some bytes behind them, are their TPM2B
pub wire_over : (size : ℕ) (t lent : List ℕ) → length t ≡ size → laid 2 t (laid 0 (bytes 2 size) lent) ≡ over (tpm2b t) lent
wire_over size t lent n =
    let two : length (bytes 2 size) ≡ 2 = length_bytes 2 size in
    let rest : drop (2 + length t) (bytes 2 size ++ drop 2 lent) ≡ drop (2 + length t) lent =
    ap (λ (k : ℕ). drop (k + length t) (bytes 2 size ++ drop 2 lent)) (sym two)
    ∙ drop-append-add (bytes 2 size) (drop 2 lent) (length t)
    ∙ drop-drop (length t) 2 lent in
    rw (two, take_at (bytes 2 size) (drop 2 lent) 2 two, rest, length_tpm2b t, n, append_assoc) refl

-- ---- equality

pub same_bytes_lem : (s t : List ℕ) → same_bytes s t ≡ true → s ≡ t
same_bytes_lem [] [] e = refl
same_bytes_lem [] (y ∷ t) e = absurd (false≢true e)
same_bytes_lem (x ∷ s) [] e = absurd (false≢true e)
same_bytes_lem (x ∷ s) (y ∷ t) e =
    let both = (and-eq-true_iff (eqb x y) (same_bytes s t)).0 e in
    λ i. eqb-true x y both.0 i ∷ same_bytes_lem s t both.1 i

pub bytes_same : (s : List ℕ) → same_bytes s s ≡ true
bytes_same [] = refl
bytes_same (x ∷ s) = (and-eq-true_iff (eqb x x) (same_bytes s s)).1 (eq-eqb x x refl, bytes_same s)

module _ (capacity : ℕ) (size : ℕ) (s : List ℕ) (other : ℕ) (t : List ℕ) where
  pub equal_read : size ≤ capacity → other ≤ capacity → gives (same_bytes (take size s) (take other t)) ≡ equal capacity (buffer size s) (buffer other t)
  unfolding equal
  equal_read h k = simp (le-leb size capacity h, le-leb other capacity k)

-- ---- extending

module _ (capacity size count : ℕ) where
  pub grown_size : {n : ℕ} → gives n ≡ grown capacity size count → (n ≡ size + count) × (n ≤ capacity)
  unfolding grown
  grown_size e =
      let small = needs_gives (leb size capacity) _ _ (sym e) in
      let fits = needs_gives (leb count (capacity - size)) _ _ small.1 in
      let few = leb-true size capacity small.0 in
      let room = leb-true count (capacity - size) fits.0 in
      let is = gives_injective fits.1 in
      (omega arith, omega arith)

module _ (capacity : ℕ) (given : List ℕ) (b : Buffer) where
  -- the bytes given, laid into the room from the size on, are with the new size the buffer extended
  pub extend_done : (n : ℕ) (room : List ℕ) → gives n ≡ grown capacity b.size (length given)
      → room ≡ take b.size b.room ++ (given ++ drop (b.size + length given) b.room)
      → (gives tt ≡ done (extended capacity given b)) × (buffer n room ≡ after b (extended capacity given b))
  unfolding extended
  extend_done n room e p =
      let size = grown_size capacity b.size (length given) e in
      rw (← e) (refl, λ i. buffer n ((p ∙ ap (λ (k : ℕ). take b.size b.room ++ (given ++ drop k b.room)) (sym size.0)) i))

  -- .. and where the room is lent they leave it as that has it
  pub extend_laid : (n : ℕ) → gives n ≡ grown capacity b.size (length given) → laid b.size given b.room ≡ room_after b.room (extended capacity given b)
  unfolding extended
  extend_laid n e =
      let size = grown_size capacity b.size (length given) e in
      let all : b.size + length given ≡ n = omega arith in
      rw (← e) (ap (λ (k : ℕ). take b.size b.room ++ (given ++ drop k b.room)) all)

  pub size_said_lem : grown capacity b.size (length given) ≡ size_said (extended capacity given b)
  unfolding extended
  size_said_lem = by (grown capacity b.size (length given))
    where
      by : (g : Said ℕ) → g ≡ size_said (then g λ n. gives (put given b n))
      by (gives n) = refl
      by (refuses why) = refl

-- ---- reading

module _ (capacity : ℕ) (s : List ℕ) where
  pub read_refused : {why : Why} → refuses why ≡ prefix capacity s → refuses why ≡ unmarshalled capacity s
  unfolding unmarshalled
  read_refused e = rw (← e)

  pub read_done : {n : ℕ} → gives n ≡ prefix capacity s → gives (put (take (n - 2) (drop 2 s)) (new capacity) (n - 2)) ≡ unmarshalled capacity s
  unfolding unmarshalled
  read_done e = rw (← e)
