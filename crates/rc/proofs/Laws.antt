-- What reads is exactly what Part 2's layout has, in one way, and a code that was read has the value it was read from.
-- Assumes nothing.
use mathlib.Core.Path.{◌≡◌, refl, sym, ◌∙◌, ap, subst}
use mathlib.Core.Bool.{Bool, true, false, ◌&&◌, ◌||◌, not, cond, and-eq-true_iff}
use mathlib.Core.List.{[], ◌∷◌}
use mathlib.Core.Logic.{⊎_elim, ◌↔◌}
use Prim.Native.Nat.{ℕ, ◌+◌, ◌-◌, ◌*◌, ◌/◌, ◌%◌, ◌^◌, ◌≤◌, ◌<◌}
use native.Mathlib.Omega.{arith}
use borrow.Author.Tests.{eqb-true, eqb-false, leb-true, ltb-true, ltb-false, le-leb, lt-ltb, eq-eqb, not-true}
use lib.Bits.{bit_or, or_block, or_zero_r, or_shifted_r}
use lib.Dec.{eqb, leb, ltb}
use lib.Pow.{shr-shr}
use Rattle.std.specs.Prelude.{Result, Ok, Err}
use Rattle.base.specs.Said.{Why, no_area, gives, Only}
use Rattle.base.proofs.Checks.{needs_gives, cond_gives, gives_injective}
use Rattle.base.proofs.Only.{by_gives, by_needs, by_cond}
use Rattle.rc.specs.declared.code.Code.{Code}
use Rattle.rc.specs.declared.code.Code.TheVariants.{Fmt0, Warn, Fmt1, Parameter, Handle, Session}
use Rattle.rc.specs.declared.code.Kind.{Kind}
use Rattle.rc.specs.declared.code.Kind.TheVariants as kind
use Rattle.rc.specs.declared.code.UnknownKind.{UnknownKind}
use Rattle.rc.specs.Known.{in_some, tpm12, ver1, fmt1, warn, is_known}
use Rattle.rc.specs.Code.{bit, base, read_index, read_fmt1, read_fmt0, read_code, value_of, kind_of, kind_number, IsKindOf, base_of, index_of, of_parts}
use Rattle.rc.specs.Layout.{OfFmt0, OfFmt1, WellFormed}
use Rattle.rc.proofs.Cases.{format_one, fmt1_open, parameter, no_index, handle, session}
use Rattle.rc.proofs.Groups.{fmt0_bits, fmt1_bits, warn_bits}

-- ---- the bits of a value do not meet, so that joining them is adding them

with_index : (b n : ℕ) → b < 256 → bit_or b (n % 16 * 256) ≡ n % 16 * 256 + b
with_index b n h = or_shifted_r (n % 16) 8 b h

with_parameter : (b n : ℕ) → 128 ≤ b → b < 192 → bit_or (bit_or b 64) (n % 16 * 256) ≡ n % 16 * 256 + (b + 64)
with_parameter b n h k =
    let e : b ≡ 2 * 2 ^ 6 + (b - 128) = omega arith in
    let joined : bit_or b 64 ≡ b + 64 =
    ap (λ (x : ℕ). bit_or x 64) e ∙ or_block 6 2 1 (b - 128) 0 (omega arith) (omega arith)
    ∙ ap (λ (x : ℕ). 192 + x) (or_zero_r (b - 128)) ∙ omega arith in
    ap (λ (x : ℕ). bit_or x (n % 16 * 256)) joined ∙ or_shifted_r (n % 16) 8 (b + 64) (omega arith)

-- a value of format one is its parts, weighed
parts : (value p : ℕ) → value < 4096 → value / 128 % 2 ≡ 1 → value / 64 % 2 ≡ p → value ≡ value / 256 % 16 * 256 + (128 + value % 64 + p * 64)
parts value p h t e =
    let by-128 : value / 64 / 2 ≡ value / 128 = shr-shr value 6 1 in
    let by-256 : value / 64 / 4 ≡ value / 256 = shr-shr value 6 2 in
    omega arith

-- ---- sound: what a value reads as is well formed and has that value

abbrev Sound : ℕ → Code → Type 0
Sound value c = WellFormed c × (value_of c ≡ value)

module _ (value : ℕ) where
  sound_parameter : (b n : ℕ) → OfFmt1 b → n < 16 → value ≡ n * 256 + (b + 64) → (c : Code) → read_index value b true n ≡ gives c → Sound value c
  unfolding read_index
  sound_parameter b n w h v c e =
      let checked = needs_gives (ltb 0 n) _ _ e in
      let positive = ltb-true 0 n checked.0 in
      subst (Sound value) (gives_injective checked.1)
      ((w, omega arith, omega arith), with_parameter b n w.1 w.2 ∙ omega arith)

  sound_index : (b n : ℕ) → OfFmt1 b → n < 16 → value ≡ n * 256 + b → (c : Code) → read_index value b false n ≡ gives c → Sound value c
  unfolding read_index
  sound_index b n w h v c e =
      ⊎_elim none (λ some. ⊎_elim (of_handle (eqb-false n 0 some.0)) of_session (cond_gives (ltb n 8) _ _ some.1)) (cond_gives (eqb n 0) _ _ e)
    where
      none : (eqb n 0 ≡ true) × (gives (Fmt1 (base b)) ≡ gives c) → Sound value c
      none p =
          let zero = eqb-true n 0 p.0 in
          subst (Sound value) (gives_injective p.1) (w, omega arith)

      of_handle : (n ≡ 0 → ⊥) → (ltb n 8 ≡ true) × (gives (Handle (base b) n) ≡ gives c) → Sound value c
      of_handle some p =
          let few = ltb-true n 8 p.0 in
          subst (Sound value) (gives_injective p.1) ((w, omega arith, omega arith), with_index b n (omega arith) ∙ omega arith)

      of_session : (ltb n 8 ≡ false) × (gives (Session (base b) (n - 8)) ≡ gives c) → Sound value c
      of_session p =
          let many = ltb-false n 8 p.0 in
          subst (Sound value) (gives_injective p.1) ((w, omega arith), with_index b (n - 8 + 8) (omega arith) ∙ omega arith)

  sound_fmt1 : value / 128 % 2 ≡ 1 → (c : Code) → read_fmt1 value ≡ gives c → Sound value c
  unfolding read_fmt1
  sound_fmt1 t c e =
      let low = needs_gives (ltb value 4096) _ _ e in
      let found = needs_gives (is_known (128 + value % 64)) _ _ low.1 in
      let bound = ltb-true value 4096 low.0 in
      by found.0 bound (bit 64 value) refl found.1
    where
      by : is_known (128 + value % 64) ≡ true → value < 4096 → (p : Bool) → bit 64 value ≡ p
          → read_index value (128 + value % 64) p (value / 256 % 16) ≡ gives c → Sound value c
      by k h true p r =
          let whole = parts value 1 h t (eqb-true (value / 64 % 2) 1 p) in
          sound_parameter (128 + value % 64) (value / 256 % 16) (k, omega arith, omega arith) (omega arith) (omega arith) c r
      by k h false p r =
          let clear = eqb-false (value / 64 % 2) 1 p in
          let whole = parts value 0 h t (omega arith) in
          sound_index (128 + value % 64) (value / 256 % 16) (k, omega arith, omega arith) (omega arith) (omega arith) c r

  sound_fmt0 : bit 128 value ≡ false → (c : Code) → read_fmt0 value ≡ gives c → Sound value c
  unfolding read_fmt0
  sound_fmt0 t c e =
      let found = needs_gives (is_known value) _ _ e in
      by found.0 (bit 256 value && bit 2048 value) refl found.1
    where
      by : is_known value ≡ true → (p : Bool) → (bit 256 value && bit 2048 value) ≡ p
          → gives (cond p (Warn (base value)) (Fmt0 (base value))) ≡ gives c → Sound value c
      by k true p r = subst (Sound value) (gives_injective r) (((k, t), p), refl)
      by k false p r = subst (Sound value) (gives_injective r) (((k, t), p), refl)

  pub sound : (c : Code) → read_code value ≡ gives c → WellFormed c × (value_of c ≡ value)
  unfolding read_code
  sound c e =
      ⊎_elim (λ p. sound_fmt1 (eqb-true (value / 128 % 2) 1 p.0) c p.1) (λ p. sound_fmt0 p.0 c p.1)
      (cond_gives (bit 128 value) _ _ e)

-- ---- complete: a well-formed code is what its value reads as

-- of a value with the bits of format one, what its index says
opened : (value b n : ℕ) → value < 4096 → value / 128 % 2 ≡ 1 → 128 + value % 64 ≡ b → is_known b ≡ true → value / 256 % 16 ≡ n
    → read_code value ≡ read_index value b (bit 64 value) n
opened value b n h t p k q =
    sym (format_one value (eq-eqb (value / 128 % 2) 1 t)) ∙ fmt1_open value h (rw p k)
    ∙ (λ i. read_index value (p i) (bit 64 value) (q i))

complete_fmt0 : (value : ℕ) → OfFmt0 value → (p : Bool) → (bit 256 value && bit 2048 value) ≡ p
    → read_code value ≡ gives (cond p (Warn (base value)) (Fmt0 (base value)))
unfolding read_code read_fmt0
complete_fmt0 value w p e = simp (w.1, w.0, e)

pub complete : (c : Code) → WellFormed c → read_code (value_of c) ≡ gives c
complete (Fmt0 b) w = complete_fmt0 b.0 w.0 false w.1
complete (Warn b) w = complete_fmt0 b.0 w.0 true w.1
complete (Fmt1 b) w =
    opened b.0 b.0 0 (omega arith) (omega arith) (omega arith) w.0 (omega arith) ∙ sym (no_index b.0 b.0 0 (λ u. omega arith) refl)
complete (Parameter b n) w =
    let v : value_of (Parameter b n) ≡ n * 256 + (b.0 + 64) = with_parameter b.0 n w.0.1 w.0.2 ∙ omega arith in
    opened _ b.0 n (omega arith) (omega arith) (omega arith) w.0.0 (omega arith) ∙ sym (parameter _ b.0 n (omega arith) (λ u. omega arith))
complete (Handle b n) w =
    let v : value_of (Handle b n) ≡ n * 256 + b.0 = with_index b.0 n (omega arith) ∙ omega arith in
    opened _ b.0 n (omega arith) (omega arith) (omega arith) w.0.0 (omega arith) ∙ sym (handle _ b.0 n (λ u. omega arith) (λ u. omega arith) (omega arith))
complete (Session b n) w =
    let v : value_of (Session b n) ≡ (n + 8) * 256 + b.0 = with_index b.0 (n + 8) (omega arith) ∙ omega arith in
    opened _ b.0 (n + 8) (omega arith) (omega arith) (omega arith) w.0.0 (omega arith) ∙ sym (session _ b.0 (n + 8) (λ u. omega arith) (λ u. omega arith) (omega arith))
    ∙ ap (λ (k : ℕ). gives (Session b k)) (omega arith)

-- ---- what follows

-- a value reads as a code exactly when the code is well formed and has that value
pub reads_exactly : (value : ℕ) (c : Code) → (read_code value ≡ gives c) ↔ (WellFormed c × (value_of c ≡ value))
reads_exactly value c = (sound value c, λ r. subst (λ (v : ℕ). read_code v ≡ gives c) r.1 (complete c r.0))

-- the group of a code says what it reads as: a code of RC_WARN, and no other, is a warning, one of RC_FMT1 is of format one and has no
-- index, and the others are of format zero, success among them
module _ (code : ℕ) where
  pub reads_warn : (in_some code warn ≡ true) ↔ (read_code code ≡ gives (Warn (base code)))
  reads_warn = (
    λ h.
        let known = (and-eq-true_iff (is_known code) _).0 (sym (warn_bits code) ∙ h) in
        let bits = (and-eq-true_iff (not (bit 128 code)) _).0 known.1 in
        complete (Warn (base code)) ((known.0, not-true (bit 128 code) bits.0), bits.1),
    λ e.
        let formed = (sound code (Warn (base code)) e).0 in
        warn_bits code ∙ simp (formed.0.0, formed.0.1, formed.1),
  )

  pub reads_fmt1 : (in_some code fmt1 ≡ true) ↔ (read_code code ≡ gives (Fmt1 (base code)))
  reads_fmt1 = (
    λ h.
        let known = (and-eq-true_iff (is_known code) _).0 (sym (fmt1_bits code) ∙ h) in
        let bits = (and-eq-true_iff (leb 128 code) _).0 known.1 in
        complete (Fmt1 (base code)) (known.0, leb-true 128 code bits.0, ltb-true code 192 bits.1),
    λ e.
        let formed = (sound code (Fmt1 (base code)) e).0 in
        fmt1_bits code ∙ simp (formed.0, le-leb 128 code formed.1, lt-ltb code 192 formed.2),
  )

  pub reads_fmt0 : ((in_some code tpm12 || in_some code ver1) ≡ true) ↔ (read_code code ≡ gives (Fmt0 (base code)))
  reads_fmt0 = (
    λ h.
        let known = (and-eq-true_iff (is_known code) _).0 (sym (fmt0_bits code) ∙ h) in
        let bits = (and-eq-true_iff (not (bit 128 code)) _).0 known.1 in
        complete (Fmt0 (base code)) ((known.0, not-true (bit 128 code) bits.0), not-true (bit 256 code && bit 2048 code) bits.1),
    λ e.
        let formed = (sound code (Fmt0 (base code)) e).0 in
        fmt0_bits code ∙ simp (formed.0.0, formed.0.1, formed.1),
  )

-- every refusal is 5(0,value), in no area
abbrev pub Five : ℕ → Why → Type 0
Five value why = why ≡ no_area (5 ∷ 0 ∷ value ∷ [])

module _ (value : ℕ) where
  five_index : (b : ℕ) (p : Bool) (n : ℕ) → Only (Five value) (read_index value b p n)
  unfolding read_index
  five_index b p n =
      by_cond p (by_needs (ltb 0 n) _ refl by_gives)
      (by_cond (eqb n 0) by_gives
      (by_cond (ltb n 8) by_gives by_gives))

  pub only_five : Only (Five value) (read_code value)
  unfolding read_code read_fmt1 read_fmt0
  only_five =
      by_cond (bit 128 value)
      (by_needs (ltb value 4096) _ refl
      (by_needs (is_known (128 + value % 64)) _ refl (five_index (128 + value % 64) (bit 64 value) (value / 256 % 16))))
      (by_needs (is_known value) _ refl by_gives)

-- two well-formed codes of one value are one
pub one_reading : (c d : Code) → WellFormed c → WellFormed d → value_of c ≡ value_of d → c ≡ d
one_reading c d w u e = gives_injective (sym (complete c w) ∙ ap read_code e ∙ complete d u)

-- writing a code that was read gives the value that it was read from, and reading it again the code
pub read_again : (value : ℕ) (c : Code) → read_code value ≡ gives c → (value_of c ≡ value) × (read_code (value_of c) ≡ gives c)
read_again value c e = let s = sound value c e in (s.1, complete c s.0)

-- a code is told whole by its kind, its base and the number of its part
pub told_by_parts : (c : Code) → of_parts (kind_of c) (base_of c) (index_of c) ≡ c
told_by_parts (Fmt0 b) = refl
told_by_parts (Warn b) = refl
told_by_parts (Fmt1 b) = refl
told_by_parts (Parameter b n) = refl
told_by_parts (Handle b n) = refl
told_by_parts (Session b n) = refl

-- the number of a kind names it
kind_named : ℕ → Kind
kind_named n =
    cond (eqb n 1) kind.Warn
    (cond (eqb n 2) kind.Fmt1
    (cond (eqb n 3) kind.Parameter
    (cond (eqb n 4) kind.Handle
    (cond (eqb n 5) kind.Session
    kind.Fmt0))))

kind_named_numbered : (k : Kind) → kind_named (kind_number k) ≡ k
unfolding kind_named
kind_named_numbered kind.Fmt0 = refl
kind_named_numbered kind.Warn = refl
kind_named_numbered kind.Fmt1 = refl
kind_named_numbered kind.Parameter = refl
kind_named_numbered kind.Handle = refl
kind_named_numbered kind.Session = refl

kind_number_low : (k : Kind) → kind_number k ≤ 5
kind_number_low kind.Fmt0 = omega arith
kind_number_low kind.Warn = omega arith
kind_number_low kind.Fmt1 = omega arith
kind_number_low kind.Parameter = omega arith
kind_number_low kind.Handle = omega arith
kind_number_low kind.Session = omega arith

-- a number is that of one kind, or of none
pub one_kind : (n : ℕ) (a b : Result Kind UnknownKind) → IsKindOf n a → IsKindOf n b → a ≡ b
one_kind n (Ok k) (Ok l) e f = ap Ok (sym (kind_named_numbered k) ∙ ap kind_named (e ∙ sym f) ∙ kind_named_numbered l)
one_kind n (Ok k) (Err u) e f = absurd (let low = kind_number_low k in omega arith)
one_kind n (Err u) (Ok l) e f = absurd (let low = kind_number_low l in omega arith)
one_kind n (Err u) (Err v) e f = ap Err (λ i. record { 0 = (e.0 ∙ sym f.0) i })
