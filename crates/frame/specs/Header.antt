-- The header of a frame: its fields, the reads and setters of one field, and the envelope (document 01, "Layout" and "Order of
-- checks"; Part 1, command and response formats).
-- Assumes nothing: these are definitions.
use Rattle.std.specs.Prelude.{ℕ, ◌-◌, Bool, ◌&&◌, ◌||◌, cond, List, [], ◌∷◌, eqb, leb, length, take, drop}
use Rattle.base.specs.declared.error.Area.TheVariants.{Header}
use Rattle.base.specs.Bytes.{number}
use Rattle.base.specs.Field.{write_field}
use Rattle.base.specs.Members.{is_in}
use Rattle.base.specs.Said.{in_area, Said, gives, needs, then, within, given}
use Rattle.rc.specs.Code.{read_code}
use Rattle.table.specs.Table.{row_for}
use Rattle.table.specs.Tags.{tags}
use Rattle.frame.specs.Rules.{Rulebook}

-- bytes 0 and 1 are the tag, 2 to 5 the size of the whole frame, 6 to 9 the code
unfoldable pub tag_of : List ℕ → ℕ
tag_of s = number (take 2 s)

unfoldable pub size_of : List ℕ → ℕ
size_of s = number (take 4 (drop 2 s))

unfoldable pub code_of : List ℕ → ℕ
code_of s = number (take 4 (drop 6 s))

-- the tags of a frame without sessions and of one with them
abbrev pub plain : ℕ
plain = 0x8001

abbrev pub sessions : ℕ
sessions = 0x8002

-- the tag and the code of the answer to a bad tag (Part 2, TPM_ST_RSP_COMMAND and TPM_RC_BAD_TAG)
abbrev pub rsp_command : ℕ
rsp_command = 0x00c4

abbrev pub bad_tag : ℕ
bad_tag = 0x1e

-- by rules that have it, that tag stands over that answer and nothing else
abbrev pub is_rsp_command : Rulebook → ℕ → Bool
is_rsp_command book tag = book.answers_bad_tag && eqb tag rsp_command

-- a response code that reads under a tag (document 02, W5): what the list of known codes has is not asked of that answer
abbrev pub reads : Rulebook → ℕ → ℕ → Bool
reads book tag code = cond (is_rsp_command book tag) (eqb code bad_tag) (given (read_code code))

-- the ten bytes of the header are there
abbrev pub header : {A : Type 0} → List ℕ → Said A → Said A
header s rest = needs (leb 10 (length s)) (in_area Header (1 ∷ 0 ∷ 10 ∷ length s ∷ [])) rest

-- ---- one field read; the size is not judged

-- the tag, one of those that pass a test
abbrev pub tag_of_those : (ℕ → Bool) → List ℕ → Said ℕ
tag_of_those isOne s = header s (needs (isOne (tag_of s)) (in_area Header (3 ∷ 0 ∷ tag_of s ∷ [])) (gives (tag_of s)))

unfoldable pub read_tag : List ℕ → Said ℕ
read_tag = tag_of_those λ tag. is_in tag tags

unfoldable pub read_size : List ℕ → Said ℕ
read_size s = header s (gives (size_of s))

unfoldable pub read_cc : Rulebook → List ℕ → Said ℕ
read_cc book s = header s (needs (is_in (code_of s) book.known) (in_area Header (4 ∷ 6 ∷ code_of s ∷ [])) (gives (code_of s)))

unfoldable pub read_rc : Rulebook → List ℕ → Said ℕ
read_rc book s = header s (needs (reads book (tag_of s) (code_of s)) (in_area Header (5 ∷ 6 ∷ code_of s ∷ [])) (gives (code_of s)))

-- ---- one field set: the bytes later

unfoldable pub set_tag : ℕ → List ℕ → Said (List ℕ)
set_tag tag s = header s (needs (is_in tag tags) (in_area Header (3 ∷ 0 ∷ tag ∷ [])) (write_field 2 0 tag s))

unfoldable pub set_cc : Rulebook → ℕ → List ℕ → Said (List ℕ)
set_cc book code s = header s (then (within Header (row_for book.rows code)) λ r. write_field 4 6 code s)

unfoldable pub set_rc : Rulebook → ℕ → List ℕ → Said (List ℕ)
set_rc book code s = header s (needs (reads book (tag_of s) code) (in_area Header (5 ∷ 0 ∷ code ∷ [])) (write_field 4 6 code s))

-- ---- the envelope

-- the bytes of the frame at the start, by its size field
unfoldable pub frame_prefix : List ℕ → Said ℕ
frame_prefix s =
    header s
    (needs (leb 10 (size_of s)) (in_area Header (1 ∷ 2 ∷ 10 ∷ size_of s ∷ []))
    (needs (leb (size_of s) (length s)) (in_area Header (1 ∷ length s ∷ (size_of s - length s) ∷ 0 ∷ []))
    (gives (size_of s))))

-- a whole frame leaves nothing behind it
unfoldable pub frame_whole : List ℕ → Said ℕ
frame_whole s = then (frame_prefix s) λ n. needs (leb (length s) n) (in_area Header (2 ∷ n ∷ (length s - n) ∷ [])) (gives n)

-- a command's tag is one of the two; a response's also that of the answer to a bad tag, by rules that have it
abbrev pub is_of_two : ℕ → Bool
is_of_two tag = eqb tag plain || eqb tag sessions

abbrev pub is_response_tag : Rulebook → ℕ → Bool
is_response_tag book tag = is_of_two tag || is_rsp_command book tag

unfoldable pub read_command_tag : List ℕ → Said ℕ
read_command_tag = tag_of_those is_of_two

unfoldable pub read_response_tag : Rulebook → List ℕ → Said ℕ
read_response_tag book = tag_of_those (is_response_tag book)
