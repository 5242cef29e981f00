-- What a response code says (document 01, "Response code"; Part 2, TPM_RC and its format one), and the value of what is said.
-- Assumes nothing: these are definitions.
use Rattle.std.specs.Prelude.{ℕ, ◌+◌, ◌-◌, ◌*◌, ◌/◌, ◌%◌, Bool, ◌&&◌, cond, [], ◌∷◌, Option, Some, None, Result, MatchResult, ◌≡◌, ◌<◌, eqb, ltb}
use Rattle.std.specs.Int.Bits.{bit_or}
use Rattle.base.specs.Said.{no_area, Said, gives, refuses, needs}
use Rattle.rc.specs.declared.code.TpmRcBase.{TpmRcBase}
use Rattle.rc.specs.declared.code.Code.{Code}
use Rattle.rc.specs.declared.code.Code.TheVariants.{Fmt0, Warn, Fmt1, Parameter, Handle, Session}
use Rattle.rc.specs.declared.code.Kind.{Kind}
use Rattle.rc.specs.declared.code.Kind.TheVariants as k
use Rattle.rc.specs.declared.code.UnknownKind.{UnknownKind}
use Rattle.rc.specs.Known.{is_known}

-- bit k of a value, told by 2 ^ k
abbrev pub bit : ℕ → ℕ → Bool
bit weight value = eqb (value / weight % 2) 1

abbrev pub base : ℕ → TpmRcBase
base b = record { 0 = b }

-- format one, bit 7 set: P, bit 6, with N, bits 8 to 11, says which part the code speaks of
unfoldable pub read_index : ℕ → ℕ → Bool → ℕ → Said Code
read_index value b p n =
    cond p
    (needs (ltb 0 n) (no_area (5 ∷ 0 ∷ value ∷ [])) (gives (Parameter (base b) n)))
    (cond (eqb n 0) (gives (Fmt1 (base b)))
    (cond (ltb n 8) (gives (Handle (base b) n))
    (gives (Session (base b) (n - 8)))))

unfoldable pub read_fmt1 : ℕ → Said Code
read_fmt1 value =
    needs (ltb value 4096) (no_area (5 ∷ 0 ∷ value ∷ []))
    (needs (is_known (128 + value % 64)) (no_area (5 ∷ 0 ∷ value ∷ []))
    (read_index value (128 + value % 64) (bit 64 value) (value / 256 % 16)))

-- format zero: the whole value is the base code; bits 8 and 11 both set make it a warning
unfoldable pub read_fmt0 : ℕ → Said Code
read_fmt0 value =
    needs (is_known value) (no_area (5 ∷ 0 ∷ value ∷ []))
    (gives (cond (bit 256 value && bit 2048 value) (Warn (base value)) (Fmt0 (base value))))

unfoldable pub read_code : ℕ → Said Code
read_code value = cond (bit 128 value) (read_fmt1 value) (read_fmt0 value)

-- the value of a code: the base, P at bit 6, the index at bits 8 to 11, masked to four bits
abbrev pub value_of : Code → ℕ
value_of (Fmt0 b) = b.0
value_of (Warn b) = b.0
value_of (Fmt1 b) = b.0
value_of (Parameter b n) = bit_or (bit_or b.0 64) (n % 16 * 256)
value_of (Handle b n) = bit_or b.0 (n % 16 * 256)
value_of (Session b n) = bit_or b.0 ((n + 8) % 16 * 256)

abbrev pub base_of : Code → ℕ
base_of (Fmt0 b) = b.0
base_of (Warn b) = b.0
base_of (Fmt1 b) = b.0
base_of (Parameter b n) = b.0
base_of (Handle b n) = b.0
base_of (Session b n) = b.0

abbrev pub kind_of : Code → Kind
kind_of (Fmt0 b) = k.Fmt0
kind_of (Warn b) = k.Warn
kind_of (Fmt1 b) = k.Fmt1
kind_of (Parameter b n) = k.Parameter
kind_of (Handle b n) = k.Handle
kind_of (Session b n) = k.Session

abbrev pub kind_number : Kind → ℕ
kind_number k.Fmt0 = 0
kind_number k.Warn = 1
kind_number k.Fmt1 = 2
kind_number k.Parameter = 3
kind_number k.Handle = 4
kind_number k.Session = 5

-- the result is the kind of a number, or the number that is no kind's
abbrev pub IsKindOf : ℕ → Result Kind UnknownKind → Type 0
IsKindOf n r = MatchResult r (λ kind. kind_number kind ≡ n) (λ e. (e.0 ≡ n) × (5 < n))

-- the number of the part that a code speaks of, 0 for none
abbrev pub index_of : Code → ℕ
index_of (Fmt0 b) = 0
index_of (Warn b) = 0
index_of (Fmt1 b) = 0
index_of (Parameter b n) = n
index_of (Handle b n) = n
index_of (Session b n) = n

-- the code of a kind; those without an index take no notice of it
abbrev pub of_parts : Kind → ℕ → ℕ → Code
of_parts k.Fmt0 b n = Fmt0 (base b)
of_parts k.Warn b n = Warn (base b)
of_parts k.Fmt1 b n = Fmt1 (base b)
of_parts k.Parameter b n = Parameter (base b) n
of_parts k.Handle b n = Handle (base b) n
of_parts k.Session b n = Session (base b) n

-- what was found of a value: its code, or none, which is refused
abbrev pub found : ℕ → Option Code → Said Code
found value (Some c) = gives c
found value None = refuses (no_area (5 ∷ 0 ∷ value ∷ []))
