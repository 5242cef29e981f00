-- The groups of the known codes: each lies where Part 2 puts it, its ranges rise with a hole between two, and what the ranges have is
-- what was listed code by code.
-- Assumes nothing.
use mathlib.Core.Path.{◌≡◌, refl, sym, ◌∙◌}
use mathlib.Core.Bool.{Bool, true, false, ◌&&◌, ◌||◌, not, beq}
use mathlib.Core.List.{[], ◌∷◌}
use Prim.Native.Nat.{ℕ, ◌+◌, ◌≤◌, ◌<◌, zero-le}
use native.Mathlib.Omega.{arith}
use borrow.Author.Tests.{ltb-true, ltb-false}
use lib.Dec.{leb, ltb}
use Rattle.base.proofs.Tables.{below, at_member, on_stretch}
use Rattle.rc.specs.Code.{bit}
use Rattle.rc.specs.Known.{Ranges, in_some, tpm12, ver1, fmt1, warn, in_groups, known_codes, is_known}
use Rattle.rc.proofs.Ranges.{in_some_lem, behind}

-- Part 2: a code of format zero of TPM 1.2's kind is below 0x080, one of RC_VER1 or RC_WARN has seven bits beside its group's, one of RC_FMT1 six
module _ (code : ℕ) where
  pub tpm12_lies : in_some code tpm12 ≡ true → code < 0x080
  tpm12_lies h = (in_some_lem 0x000 0x080 tpm12 refl code h).1

  pub ver1_lies : in_some code ver1 ≡ true → (0x100 ≤ code) × (code < 0x180)
  ver1_lies = in_some_lem 0x100 0x180 ver1 refl code

  pub fmt1_lies : in_some code fmt1 ≡ true → (0x080 ≤ code) × (code < 0x0C0)
  fmt1_lies = in_some_lem 0x080 0x0C0 fmt1 refl code

  pub warn_lies : in_some code warn ≡ true → (0x900 ≤ code) × (code < 0x980)
  warn_lies = in_some_lem 0x900 0x980 warn refl code

-- each range has a code, and between two of a group there is a hole
abbrev pub spaced : Ranges → Bool
spaced [] = true
spaced (range ∷ []) = leb range.0 range.1
spaced (range ∷ next ∷ more) = (leb range.0 range.1 && ltb (range.1 + 1) next.0) && spaced (next ∷ more)

pub holes : (spaced tpm12 ≡ true) × (spaced ver1 ≡ true) × (spaced fmt1 ≡ true) × (spaced warn ≡ true)
holes = (refl, refl, refl, refl)

-- ---- what is known

pub success_known : (code : ℕ) → code ≡ 0 → true ≡ is_known code
unfolding is_known known_codes
success_known code e = rw e

pub not_known : (code : ℕ) → 0x980 ≤ code → false ≡ is_known code
unfolding is_known known_codes
not_known code h = by (is_known code) refl
  where
    by : (t : Bool) → is_known code ≡ t → false ≡ t
    by true e = absurd (let low = ltb-true code 0x980 (at_member (λ (k : ℕ). ltb k 0x980) known_codes refl code e) in omega arith)
    by false e = refl

-- a test below 0x980, and nothing from there on, is a test of every code
everywhere : (f g : ℕ → Bool) → below (λ (k : ℕ). beq (f (0 + k)) (g (0 + k))) 0x980 ≡ true → ((code : ℕ) → 0x980 ≤ code → f code ≡ g code)
    → (code : ℕ) → f code ≡ g code
everywhere f g e past code = by (ltb code 0x980) refl
  where
    by : (t : Bool) → ltb code 0x980 ≡ t → f code ≡ g code
    by true h = on_stretch f g 0 0x980 e code zero-le (ltb-true code 0x980 h)
    by false h = past code (ltb-false code 0x980 h)

-- ---- the groups and the list

-- at every number, so at every value of 32 bits
pub as_listed : (code : ℕ) → in_groups code ≡ is_known code
unfolding in_groups is_known known_codes
as_listed =
    everywhere in_groups is_known refl
    λ code h.
    (simp (
      sym (behind 0x080 tpm12 refl code (omega arith)),
      sym (behind 0x180 ver1 refl code (omega arith)),
      sym (behind 0x0C0 fmt1 refl code (omega arith)),
      sym (behind 0x980 warn refl code h),
    ))
    ∙ not_known code h

-- ---- where a group lies, it alone decides

pub tpm12_decides : (code : ℕ) → code < 0x080 → in_some code tpm12 ≡ is_known code
unfolding is_known known_codes
tpm12_decides code h = on_stretch (λ (c : ℕ). in_some c tpm12) is_known 0 0x080 refl code (omega arith) h

pub fmt1_decides : (code : ℕ) → 0x080 ≤ code → code < 0x100 → in_some code fmt1 ≡ is_known code
unfolding is_known known_codes
fmt1_decides = on_stretch (λ (c : ℕ). in_some c fmt1) is_known 0x080 0x100 refl

pub ver1_decides : (code : ℕ) → 0x100 ≤ code → code < 0x180 → in_some code ver1 ≡ is_known code
unfolding is_known known_codes
ver1_decides = on_stretch (λ (c : ℕ). in_some c ver1) is_known 0x100 0x180 refl

pub warn_decides : (code : ℕ) → 0x900 ≤ code → code < 0x980 → in_some code warn ≡ is_known code
unfolding is_known known_codes
warn_decides = on_stretch (λ (c : ℕ). in_some c warn) is_known 0x900 0x980 refl

pub none_between : (code : ℕ) → 0x180 ≤ code → code < 0x900 → false ≡ is_known code
unfolding is_known known_codes
none_between = on_stretch (λ (c : ℕ). false) is_known 0x180 0x900 refl

-- what base_known and grouped are proved by
pub ruleset known_by_group = (success_known, tpm12_decides, fmt1_decides, ver1_decides, warn_decides, none_between, not_known)

-- ---- what the bits of a known code say of its group

by_bits : (group bits : ℕ → Bool) → below (λ (k : ℕ). beq (group (0 + k)) (is_known (0 + k) && bits (0 + k))) 0x980 ≡ true
    → ((code : ℕ) → 0x980 ≤ code → false ≡ group code) → (code : ℕ) → group code ≡ (is_known code && bits code)
by_bits group bits e past = everywhere group (λ (c : ℕ). is_known c && bits c) e (λ code h. sym (past code h) ∙ simp (sym (not_known code h)))

pub fmt0_bits : (code : ℕ) → (in_some code tpm12 || in_some code ver1) ≡ (is_known code && (not (bit 128 code) && not (bit 256 code && bit 2048 code)))
unfolding is_known known_codes
fmt0_bits =
    by_bits (λ (c : ℕ). in_some c tpm12 || in_some c ver1) (λ (c : ℕ). not (bit 128 c) && not (bit 256 c && bit 2048 c)) refl
    (λ code h. simp (sym (behind 0x080 tpm12 refl code (omega arith)), sym (behind 0x180 ver1 refl code (omega arith))))

pub fmt1_bits : (code : ℕ) → in_some code fmt1 ≡ (is_known code && (leb 128 code && ltb code 192))
unfolding is_known known_codes
fmt1_bits = by_bits (λ (c : ℕ). in_some c fmt1) (λ (c : ℕ). leb 128 c && ltb c 192) refl (λ code h. behind 0x0C0 fmt1 refl code (omega arith))

pub warn_bits : (code : ℕ) → in_some code warn ≡ (is_known code && (not (bit 128 code) && (bit 256 code && bit 2048 code)))
unfolding is_known known_codes
warn_bits = by_bits (λ (c : ℕ). in_some c warn) (λ (c : ℕ). not (bit 128 c) && (bit 256 c && bit 2048 c)) refl (behind 0x980 warn refl)
