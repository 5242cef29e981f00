-- A TPM2B at the start of some bytes: its size, its data and what stands behind it are those it was laid out from, and
-- laid out again they give the same bytes. So it divides in one way.
-- Assumes nothing.
use mathlib.Core.Path.{◌≡◌, refl, sym, ◌∙◌, ap}
use mathlib.Core.List.{List, ◌++◌, append_assoc}
use Prim.Native.Nat.{ℕ, ◌+◌, ◌≤◌, ◌<◌}
use native.Mathlib.Omega.{arith}
use lib.ListN.{length, take, drop, length-append, length-drop, take-append-drop}
use lib.Seq.{take_at, drop_at, drop-drop, length-take-le}
use Rattle.base.specs.Bytes.{AreBytes, number, bytes}
use Rattle.base.specs.Tpm2b.{tpm2b}
use Rattle.base.proofs.Bytes.{length_bytes, number_bytes, bytes_number, are_bytes_take}

pub length_tpm2b : (t : List ℕ) → length (tpm2b t) ≡ 2 + length t
length_tpm2b t = simp (length-append, length_bytes)

module _ (t rest : List ℕ) (h : length t < 65536) where
  head : take 2 (tpm2b t ++ rest) ≡ bytes 2 (length t)
  head = rw append_assoc (take_at (bytes 2 (length t)) (t ++ rest) 2 (length_bytes 2 (length t)))

  behind : drop 2 (tpm2b t ++ rest) ≡ t ++ rest
  behind = rw append_assoc (drop_at (bytes 2 (length t)) (t ++ rest) 2 (length_bytes 2 (length t)))

  pub tpm2b_size : number (take 2 (tpm2b t ++ rest)) ≡ length t
  tpm2b_size = ap number head ∙ number_bytes 2 (length t) h

  pub tpm2b_data : take (length t) (drop 2 (tpm2b t ++ rest)) ≡ t
  tpm2b_data = ap (take (length t)) behind ∙ take_at t rest (length t) refl

  pub tpm2b_rest : drop (2 + length t) (tpm2b t ++ rest) ≡ rest
  tpm2b_rest = drop_at (tpm2b t) rest (2 + length t) (length_tpm2b t)

-- what was read, laid out again
pub tpm2b_again : (s : List ℕ) (n : ℕ) → AreBytes s → n ≡ number (take 2 s) → 2 + n ≤ length s
    → tpm2b (take n (drop 2 s)) ++ drop (2 + n) s ≡ s
tpm2b_again s n b e h =
    let there : n ≤ length (drop 2 s) = rw length-drop (omega arith) in
    let size : length (take n (drop 2 s)) ≡ n = length-take-le n (drop 2 s) there in
    let two : bytes 2 n ≡ take 2 s =
    ap (bytes 2) e ∙ ap (λ (k : ℕ). bytes k (number (take 2 s))) (sym (length-take-le 2 s (omega arith)))
    ∙ bytes_number (take 2 s) (are_bytes_take 2 s b) in
    rw (size, two, append_assoc, ← drop-drop n 2 s, take-append-drop n (drop 2 s)) (take-append-drop 2 s)

pub one_division : (t u r q : List ℕ) → length t < 65536 → length u < 65536 → tpm2b t ++ r ≡ tpm2b u ++ q → (t ≡ u) × (r ≡ q)
one_division t u r q h k e =
    let size : length t ≡ length u = sym (tpm2b_size t r h) ∙ ap (λ (s : List ℕ). number (take 2 s)) e ∙ tpm2b_size u q k in (
      sym (tpm2b_data t r h) ∙ (λ i. take (size i) (drop 2 (e i))) ∙ tpm2b_data u q k,
      sym (tpm2b_rest t r h) ∙ (λ i. drop (2 + size i) (e i)) ∙ tpm2b_rest u q k,
    )
