-- An answer of document 01, and how an order of checks is put together, a line a check: each says its refusal's area (document 02, W2) and number.
-- Assumes nothing: these are definitions.
use Rattle.std.specs.Prelude.{ℕ, ◌≡◌, List, Bool, true, false, eqb, get_or}
use Rattle.base.specs.declared.error.Area.{Area}
use Rattle.base.specs.declared.error.Area.TheVariants.{None}
use Rattle.base.specs.Members.{is_in}

-- a refusal: the area of the frame that it speaks of, and its number, then its fields
pub record Why : Type 0 where
  pub area : Area
  pub numbers : List ℕ

abbrev pub in_area : Area → List ℕ → Why
in_area area numbers = record { area = area; numbers = numbers }

-- that of a writer, or of a call without a frame
abbrev pub no_area : List ℕ → Why
no_area = in_area None

-- every refusal has a number; those up to 9 have an offset next
abbrev pub number_of : Why → ℕ
number_of why = get_or why.numbers 0 0

abbrev pub offset_of : Why → ℕ
offset_of why = get_or why.numbers 1 0

-- what was asked for, or a refusal
pub data Said (A : Type 0) : Type 0 where
  gives : A → Said A
  refuses : Why → Said A

-- one check: where the test holds, what follows; else the refusal
abbrev pub needs : {A : Type 0} → Bool → Why → Said A → Said A
needs true why rest = rest
needs false why rest = refuses why

-- a step that may refuse, and what follows it
abbrev pub then : {A B : Type 0} → Said A → (A → Said B) → Said B
then (gives a) f = f a
then (refuses why) f = refuses why

-- a step that has no frame of its own, taken in an area of one
abbrev pub within : {A : Type 0} → Area → Said A → Said A
within area (gives a) = gives a
within area (refuses why) = refuses (in_area area why.numbers)

-- whether something is given
abbrev pub given : {A : Type 0} → Said A → Bool
given (gives a) = true
given (refuses why) = false

-- of a call that changes lent bytes: what it answers ..
abbrev pub done : {A : Type 0} → Said A → Said (Unit {0})
done (gives a) = gives tt
done (refuses why) = refuses why

-- .. and what they are later: a refused call changes none
abbrev pub after : {A : Type 0} → A → Said A → A
after old (gives new) = new
after old (refuses why) = old

-- an answer all of whose refusals are of a kind; so that none has a number (document 02, W7)
pub record Only {A : Type 0} (kind : Why → Type 0) (said : Said A) : Type 0 where
  pub each : (why : Why) → said ≡ refuses why → kind why

abbrev pub other_than : ℕ → Why → Type 0
other_than n why = eqb (number_of why) n ≡ false

abbrev pub Never : {A : Type 0} → ℕ → Said A → Type 0
Never n said = Only (other_than n) said

-- a refusal of a writer or of a call without a frame, by one of these numbers: in no area (document 02, W2)
pub record NoFrame (numbers : List ℕ) (why : Why) : Type 0 where
  pub nowhere : why.area ≡ None
  pub number : is_in (number_of why) numbers ≡ true
