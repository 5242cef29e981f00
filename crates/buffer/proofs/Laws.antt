-- The laws of the view and of the fixed buffer, over any capacity: a read passes exactly on the layout
-- of a TPM2B; a buffer written and read again is equal, and the tail is what stood behind it; a TPM2B read and written
-- again is the same bytes; an extended buffer holds what it held and then what was given.
-- Assumes nothing.
use mathlib.Core.Path.{◌≡◌, sym, ◌∙◌, ap}
use mathlib.Core.Bool.{true}
use mathlib.Core.List.{List, [], ◌++◌, append_assoc, append-nil}
use mathlib.Core.Logic.{◌↔◌}
use Prim.Native.Nat.{ℕ, ◌+◌, ◌-◌, ◌≤◌, ◌<◌}
use native.Mathlib.Omega.{arith}
use Rattle.std.proofs.Math.Nat.{min-eq_left, min-eq_right, min-le_left, min-le_right}
use lib.Dec.{leb}
use lib.ListN.{length, take, drop, replicate, length-append, length-drop, drop_of_length-le}
use lib.Seq.{length-take-le, take_at}
use Rattle.base.specs.Bytes.{AreBytes}
use Rattle.base.specs.Parts.{up_to, behind, part_in}
use Rattle.base.specs.Said.{Said, gives}
use Rattle.base.specs.Tpm2b.{tpm2b}
use Rattle.base.proofs.Checks.{needs_gives, then_gives, gives_injective}
use Rattle.base.proofs.Parts.{part_behind}
use Rattle.base.proofs.Tpm2b.{length_tpm2b, tpm2b_size, tpm2b_data, tpm2b_rest, tpm2b_again}
use Rattle.buffer.specs.Capacities.{most}
use Rattle.buffer.specs.Fixed.{Buffer, held, wire, put, new, over, grown, extended, marshalled, unmarshalled, equal, same_bytes}
use Rattle.buffer.specs.View.{read_size, prefix, whole}
use Rattle.buffer.proofs.Rooms.{emitted_gives, length_held, bytes_same, equal_read, grown_size, read_done}
use Rattle.buffer.proofs.Views.{size_is, prefix_read, prefix_fits, prefix_is, prefix_size, whole_read, whole_fits}

-- ---- the view

-- the TPM2B at the start of some bytes is read as it was laid out
pub prefix_tpm2b : (capacity : ℕ) (t rest : List ℕ) → length t ≤ capacity → length t < 65536 → gives (2 + length t) ≡ prefix capacity (tpm2b t ++ rest)
prefix_tpm2b capacity t rest h k =
    let long : length (tpm2b t ++ rest) ≡ 2 + length t + length rest = length-append (tpm2b t) rest ∙ ap (λ (m : ℕ). m + length rest) (length_tpm2b t) in
    let size : gives (length t) ≡ read_size (tpm2b t ++ rest) = ap gives (sym (tpm2b_size t rest k)) ∙ size_is (tpm2b t ++ rest) (omega arith) in
    prefix_read capacity (tpm2b t ++ rest) (length t) size h (omega arith)

-- s starts with the layout of t, of no more than the capacity and no more than a size can tell, and goes on with rest
abbrev pub Divides : ℕ → List ℕ → List ℕ → List ℕ → Type 0
Divides capacity s t rest = (s ≡ tpm2b t ++ rest) × (length t ≤ capacity) × (length t < 65536)

module _ (capacity : ℕ) (s : List ℕ) (p : AreBytes s) where
  divided : (n : ℕ) → prefix capacity s ≡ gives n → Divides capacity s (take (n - 2) (drop 2 s)) (drop n s) × (length (take (n - 2) (drop 2 s)) ≡ n - 2)
  divided n e =
      let fits = prefix_fits capacity s (sym e) in
      let is = prefix_is capacity s (sym e) in
      let small = prefix_size capacity s p (sym e) in
      let there : n - 2 ≤ length (drop 2 s) = rw length-drop (omega arith) in
      let long : length (take (n - 2) (drop 2 s)) ≡ n - 2 = length-take-le (n - 2) (drop 2 s) there in
      let all : 2 + (n - 2) ≡ n = omega arith in
      let again : tpm2b (take (n - 2) (drop 2 s)) ++ drop (2 + (n - 2)) s ≡ s = tpm2b_again s (n - 2) p (omega arith) (omega arith) in
      ((sym again ∙ ap (λ (m : ℕ). tpm2b (take (n - 2) (drop 2 s)) ++ drop m s) all, omega arith, omega arith), long)

  -- a prefix read passes exactly where the bytes start with a TPM2B of no more than the capacity
  pub prefix_exactly : (n : ℕ) → (prefix capacity s ≡ gives n) ↔ ((t : List ℕ) × (rest : List ℕ) × Divides capacity s t rest × (n ≡ 2 + length t))
  prefix_exactly n = (
    (λ e. let d = divided n e in let fits = prefix_fits capacity s (sym e) in let long = d.1 in (take (n - 2) (drop 2 s), drop n s, d.0, omega arith)),
    (λ d. ap (prefix capacity) d.2.0 ∙ sym (prefix_tpm2b capacity d.0 d.1 d.2.1 d.2.2) ∙ ap gives (sym d.3)),
  )

  -- and a whole read where nothing stands behind it
  pub whole_exactly : (n : ℕ) → (whole capacity s ≡ gives n) ↔ ((t : List ℕ) × Divides capacity s t [] × (n ≡ 2 + length t))
  unfolding whole
  whole_exactly n = (there, back)
    where
      there : whole capacity s ≡ gives n → (t : List ℕ) × Divides capacity s t [] × (n ≡ 2 + length t)
      there e =
          let t : List ℕ = take (n - 2) (drop 2 s) in
          let read = then_gives (prefix capacity s) _ e in
          let all = needs_gives (leb (length s) read.0) _ _ read.2 in
          let pre : prefix capacity s ≡ gives n = read.1 ∙ ap gives (gives_injective all.1) in
          let fits = prefix_fits capacity s (sym pre) in
          let is = whole_fits capacity s (sym e) in
          let d = divided n pre in
          let long = d.1 in
          (t, (d.0.0 ∙ ap (λ (l : List ℕ). tpm2b t ++ l) (drop_of_length-le s {i = n} (omega arith)), d.0.1, d.0.2), omega arith)

      back : (t : List ℕ) × Divides capacity s t [] × (n ≡ 2 + length t) → whole capacity s ≡ gives n
      back d =
          let t : List ℕ = d.0 in
          let pre : gives (2 + length t) ≡ prefix capacity s = prefix_tpm2b capacity t [] d.1.1 d.1.2 ∙ ap (prefix capacity) (sym d.1.0) in
          let long : length s ≡ 2 + length t = ap length (d.1.0 ∙ append-nil (tpm2b t)) ∙ length_tpm2b t in
          sym (whole_read capacity s (2 + length t) pre (omega arith)) ∙ ap gives (sym d.2)

-- ---- the fixed buffer

-- a record of the capacity, whose size is a number of 16 bits
abbrev pub OfSize : ℕ → Buffer → Type 0
OfSize capacity b = (b.size ≤ capacity) × (length b.room ≡ capacity) × (b.size < 65536)

-- .. as each is of a capacity that a size can tell
abbrev pub OfCapacity : ℕ → Buffer → Type 0
OfCapacity capacity b = (b.size ≤ capacity) × (length b.room ≡ capacity) × (capacity < 65536)

pub of_capacity : (capacity : ℕ) (b : Buffer) → OfCapacity capacity b → OfSize capacity b
of_capacity capacity b w = (w.0, w.1, omega arith)

-- marshal into room, then unmarshal: an equal buffer, and what stood behind it
module _ (capacity : ℕ) (b : Buffer) (lent : List ℕ) (w : OfSize capacity b) (room : 2 + b.size ≤ length lent) where
  size_held : length (held b) ≡ b.size
  size_held = length_held b.size b.room (omega arith)

  pub marshal_unmarshal :
      (later : List ℕ) × (marshalled capacity b lent ≡ gives later)
      × (c : Buffer) × (unmarshalled capacity later ≡ gives c) × (equal capacity c b ≡ gives true)
      × (part_in (behind (up_to (prefix capacity later)) (length later)) later ≡ drop (2 + b.size) lent)
  marshal_unmarshal =
      let size = size_held in
      let rest : List ℕ = drop (length (wire b)) lent in
      let later : List ℕ = over (wire b) lent in
      let read : gives (2 + length (held b)) ≡ prefix capacity later = prefix_tpm2b capacity (held b) rest (omega arith) (omega arith) in
      let all : length (wire b) ≡ 2 + b.size = length_tpm2b (held b) ∙ ap (λ (m : ℕ). 2 + m) size in
      let t : List ℕ = take (2 + length (held b) - 2) (drop 2 later) in
      let two : 2 + length (held b) - 2 ≡ length (held b) = omega arith in
      let back : t ≡ held b = ap (λ (m : ℕ). take m (drop 2 later)) two ∙ tpm2b_data (held b) rest (omega arith) in
      let c : Buffer = put t (new capacity) (2 + length (held b) - 2) in
      let same : held c ≡ held b = take_at t (drop (2 + length (held b) - 2) (replicate capacity 0)) (2 + length (held b) - 2) (ap length back ∙ sym two) ∙ back in (
        later,
        emitted_gives capacity b.size (wire b) lent (omega arith) (omega arith),
        c,
        sym (read_done capacity later read),
        sym (equal_read capacity c.size c.room b.size b.room (omega arith) (omega arith)) ∙ ap gives (ap (λ (l : List ℕ). same_bytes l (held b)) same ∙ bytes_same (held b)),
        ap (λ (s : Said ℕ). part_in (behind (up_to s) (length later)) later) (sym read)
            ∙ part_behind later (2 + length (held b)) (prefix_fits capacity later read).1 ∙ tpm2b_rest (held b) rest (omega arith) ∙ ap (λ (m : ℕ). drop m lent) all,
      )

-- unmarshal, then marshal: the bytes that were read
module _ (capacity : ℕ) (s : List ℕ) (p : AreBytes s) where
  pub unmarshal_marshal : (n : ℕ) (b : Buffer) (lent : List ℕ) → prefix capacity s ≡ gives n → unmarshalled capacity s ≡ gives b → n ≤ length lent
      → marshalled capacity b lent ≡ gives (over (take n s) lent)
  unmarshal_marshal n b lent e u room =
      let t : List ℕ = take (n - 2) (drop 2 s) in
      let fits = prefix_fits capacity s (sym e) in
      let d = divided capacity s p n e in
      let long = d.1 in
      let found : put t (new capacity) (n - 2) ≡ b = gives_injective (read_done capacity s (sym e) ∙ u) in
      let size : b.size ≡ n - 2 = ap (λ (c : Buffer). c.size) (sym found) in
      let same : held b ≡ t = ap held (sym found) ∙ take_at t (drop (n - 2) (replicate capacity 0)) (n - 2) long in
      let all : length (tpm2b t) ≡ n = length_tpm2b t ∙ omega arith in
      let laid : wire b ≡ take n s = ap tpm2b same ∙ sym (ap (take n) d.0.0 ∙ take_at (tpm2b t) (drop n s) n all) in
      let short : length (wire b) ≡ n = ap (λ (l : List ℕ). length (tpm2b l)) same ∙ all in
      emitted_gives capacity b.size (wire b) lent (omega arith) (omega arith) ∙ ap (λ (l : List ℕ). gives (over l lent)) laid

-- an extended buffer holds what it held, and then what was given, by any capacity that its room has
pub held_extended : (capacity : ℕ) (given : List ℕ) (b c : Buffer) → capacity ≤ length b.room → extended capacity given b ≡ gives c → held c ≡ held b ++ given
unfolding extended
held_extended capacity given b c w e =
    let g = then_gives (grown capacity b.size (length given)) _ e in
    let size = grown_size capacity b.size (length given) (sym g.1) in
    let kept : length (held b) ≡ b.size = length_held b.size b.room (omega arith) in
    let all : length (held b ++ given) ≡ g.0 = length-append (held b) given ∙ omega arith in
    ap held (sym (gives_injective g.2)) ∙ ap (take g.0) (sym (append_assoc (held b) given (drop g.0 b.room)))
    ∙ take_at (held b ++ given) (drop g.0 b.room) g.0 all

-- ---- the most bytes that a room holds, by which a buffer is extended: all of it, and no more than a size can tell

pub all_held : (n : ℕ) → n < 65536 → most n ≡ n
all_held n h = min-eq_left (omega arith)

pub no_more : (n : ℕ) → most n ≤ 65535
no_more n = min-le_right n 65535

-- a larger one is filled up to that
pub filled : (n : ℕ) → 65535 ≤ n → most n ≡ 65535
filled n h = min-eq_right h

-- so it has room for them
pub most_inside : (n : ℕ) → most n ≤ n
most_inside n = min-le_left n 65535
