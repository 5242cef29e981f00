-- What a refusal of a frame says beside its number (document 02, W2): which numbers stand with which area, and where in the frame the offset stands, as far
-- as the frame divides.
-- Assumes nothing: these are definitions.
use Rattle.std.specs.Prelude.{ℕ, ◌≤◌, ◌<◌, ◌≡◌, true, cond, List, [], ◌∷◌, ◌⊎◌, eqb, length, take}
use Rattle.base.specs.declared.error.Area.{Area}
use Rattle.base.specs.declared.error.Area.TheVariants.{None, Header, Handles, Authorization, Parameters}
use Rattle.base.specs.Bytes.{AreBytes}
use Rattle.base.specs.Members.{is_in}
use Rattle.base.specs.Said.{Why, number_of, offset_of, gives, then}
use Rattle.table.specs.Table.{row_for}
use Rattle.frame.specs.declared.areas.Areas.{Areas}
use Rattle.frame.specs.Areas.{handle_area}
use Rattle.frame.specs.Command.{command_handles, command_areas}
use Rattle.frame.specs.Header.{size_of}
use Rattle.frame.specs.Response.{response_areas}
use Rattle.frame.specs.Rules.{Rulebook, unlimited}

-- ---- the header

-- the places of its own that a number names: the start or the size field (1), the end, where an error has bytes behind it (2), the tag (3), the code, or 0 where
-- it is the caller's (4 and 5)
abbrev pub header_places : ℕ → List ℕ
header_places number = cond (eqb number 1) (0 ∷ 2 ∷ []) (cond (eqb number 2) (10 ∷ []) (cond (eqb number 3) (0 ∷ []) (0 ∷ 6 ∷ [])))

-- at one of these; at the end of bytes that are fewer than the frame's (1), or of a frame that has bytes behind it (2)
abbrev pub AtHeader : List ℕ → ℕ → ℕ → Type 0
AtHeader s number offset =
    (is_in offset (header_places number) ≡ true)
    ⊎ (((number ≡ 1) × (offset ≡ length s) × (length s < size_of s))
    ⊎ ((number ≡ 2) × (offset ≡ size_of s) × (size_of s < length s)))

-- a refusal of the header, by one of these numbers
pub record OfHeader (numbers s : List ℕ) (why : Why) : Type 0 where
  pub in_header : why.area ≡ Header
  pub number : is_in (number_of why) numbers ≡ true
  pub place : AtHeader s (number_of why) (offset_of why)

-- ---- the tables; 8 is of rules that limit a nonce and an HMAC

abbrev pub command_numbers : Area → List ℕ
command_numbers None = []
command_numbers Header = 1 ∷ 2 ∷ 3 ∷ 4 ∷ []
command_numbers Handles = 1 ∷ []
command_numbers Authorization = 1 ∷ 6 ∷ 8 ∷ []
command_numbers Parameters = []

abbrev pub response_numbers : Area → List ℕ
response_numbers None = []
response_numbers Header = 1 ∷ 2 ∷ 3 ∷ 4 ∷ 5 ∷ []
response_numbers Handles = 1 ∷ []
response_numbers Authorization = 1 ∷ 6 ∷ 8 ∷ []
response_numbers Parameters = 1 ∷ []

-- a refusal that stands in such a table, at a place that its area has
pub record Tabled (numbers : Area → List ℕ) (place : Area → ℕ → ℕ → Type 0) (longest : ℕ) (s : List ℕ) (why : Why) : Type 0 where
  pub number : is_in (number_of why) (numbers why.area) ≡ true
  pub at : place why.area (number_of why) (offset_of why)
  pub limited : AreBytes s → number_of why ≡ 8 → longest < unlimited

-- ---- a command

module _ (book : Rulebook) (s : List ℕ) where
  -- the entries and their size: from the end of the handles on, no further than the bytes, nor than the area where it divides
  pub record AtAuthorization (offset : ℕ) : Type 0 where
    pub handles : ℕ
    pub handles_end : command_handles book s ≡ gives handles
    pub behind_handles : handles ≤ offset
    pub inside : offset ≤ length s
    pub before_parameters : (areas : Areas) → command_areas book s ≡ gives areas → offset ≤ areas.to

  abbrev pub command_place : Area → ℕ → ℕ → Type 0
  command_place None number offset = ⊥
  command_place Header number offset = AtHeader s number offset
  command_place Handles number offset = offset ≡ 10
  command_place Authorization number offset = AtAuthorization offset
  command_place Parameters number offset = ⊥

  abbrev pub OfCommand : Why → Type 0
  OfCommand why = Tabled command_numbers command_place book.longest s why

-- ---- a response to the command of a code

module _ (book : Rulebook) (cc : ℕ) (s : List ℕ) where
  -- the parameters and their size: from the end of the handles on
  pub record AtParameters (offset : ℕ) : Type 0 where
    pub handles : ℕ
    pub handles_end : (then (row_for book.rows cc) λ row. handle_area row.responses s) ≡ gives handles
    pub behind_handles : handles ≤ offset
    pub inside : offset ≤ length s

  -- the entries: from the end of the parameters on
  pub record AtEntries (offset : ℕ) : Type 0 where
    pub areas : Areas
    pub divided : response_areas book cc s ≡ gives areas
    pub behind_parameters : areas.to ≤ offset
    pub inside : offset ≤ length s

  abbrev pub response_place : Area → ℕ → ℕ → Type 0
  response_place None number offset = ⊥
  response_place Header number offset = AtHeader s number offset
  response_place Handles number offset = offset ≡ 10
  response_place Authorization number offset = AtEntries offset
  response_place Parameters number offset = AtParameters offset

  abbrev pub OfResponse : Why → Type 0
  OfResponse why = Tabled response_numbers response_place book.longest s why

-- ---- a frame at the start of bytes: the envelope's refusals are of the bytes, the others of the frame

abbrev pub AtStart : (List ℕ → Why → Type 0) → List ℕ → Why → Type 0
AtStart ofFrame s why = OfHeader (1 ∷ []) s why ⊎ ofFrame (take (size_of s) s) why
