-- The layout of commands and responses (Part 1, command and response formats; Part 2, TPMS_AUTH_COMMAND and TPMS_AUTH_RESPONSE;
-- Part 3, handle counts): from parts to bytes, and which parts are well formed. Nothing here knows of refusals.
-- Assumes nothing: these are definitions.
use Rattle.std.specs.Prelude.{ℕ, ◌+◌, ◌*◌, ◌^◌, ◌≤◌, ◌<◌, true, false, cond, List, [], ◌∷◌, ◌++◌, ◌⊎◌, ◌≡◌, eqb, length}
use Rattle.base.specs.Bytes.{AreBytes, bytes}
use Rattle.base.specs.Said.{gives, given}
use Rattle.base.specs.Tpm2b.{tpm2b}
use Rattle.rc.specs.Code.{read_code}
use Rattle.table.specs.Table.{row_for}
use Rattle.table.specs.declared.row.Row.{Row}
use Rattle.frame.specs.Header.{plain, sessions, rsp_command, bad_tag}
use Rattle.frame.specs.Rules.{Rulebook}

-- an entry of an authorization area; in a response it has no handle
pub record Entry : Type 0 where
  pub handle : ℕ
  pub nonce : List ℕ
  pub attributes : ℕ
  pub hmac : List ℕ

-- the parts of a frame; the handles are all their bytes
pub record Frame : Type 0 where
  pub tag : ℕ
  pub code : ℕ
  pub handles : List ℕ
  pub entries : List Entry
  pub parameters : List ℕ

-- ---- from parts to bytes

-- a handle of so many bytes, the nonce, the attribute byte and the HMAC
abbrev pub layout_entry : ℕ → Entry → List ℕ
layout_entry width e = bytes width e.handle ++ (tpm2b e.nonce ++ (e.attributes ∷ tpm2b e.hmac))

abbrev pub layout_entries : ℕ → List Entry → List ℕ
layout_entries width [] = []
layout_entries width (e ∷ es) = layout_entry width e ++ layout_entries width es

-- header, handles, under the sessions tag the size of what comes next, that, and the rest
abbrev pub size_field : ℕ → List ℕ → List ℕ
size_field tag sized = cond (eqb tag sessions) (bytes 4 (length sized)) []

abbrev pub layout_body : ℕ → List ℕ → List ℕ → List ℕ → List ℕ
layout_body tag handles sized rest = handles ++ (size_field tag sized ++ (sized ++ rest))

abbrev pub layout_frame : ℕ → ℕ → List ℕ → List ℕ
layout_frame tag code body = bytes 2 tag ++ (bytes 4 (10 + length body) ++ (bytes 4 code ++ body))

-- a command: the authorization size and the entries stand before the parameters
unfoldable pub layout_command : Frame → List ℕ
layout_command f = layout_frame f.tag f.code (layout_body f.tag f.handles (layout_entries 4 f.entries) f.parameters)

-- a response: the parameter size and the parameters stand before the entries
unfoldable pub layout_response : Frame → List ℕ
layout_response f = layout_frame f.tag f.code (layout_body f.tag f.handles f.parameters (layout_entries 0 f.entries))

-- ---- which parts are well formed

-- a nonce or an HMAC: its length fits two bytes and is within the limit
abbrev pub WholeField : ℕ → List ℕ → Type 0
WholeField limit t = AreBytes t × (length t < 65536) × (length t ≤ limit)

abbrev pub WholeEntry : ℕ → ℕ → Entry → Type 0
WholeEntry limit width e = (e.handle < 256 ^ width) × WholeField limit e.nonce × (e.attributes < 256) × WholeField limit e.hmac

abbrev pub WholeEntries : ℕ → ℕ → List Entry → Type 0
WholeEntries limit width [] = Unit {0}
WholeEntries limit width (e ∷ es) = WholeEntry limit width e × WholeEntries limit width es

-- what commands and success responses share: a tag of the two, as many handle bytes as the row says, at most three entries and none
-- under the plain tag, whose nonces and HMACs are within the limit, and a size that fits its field
pub record WellFormed (limit width handles : ℕ) (f : Frame) : Type 0 where
  pub tag_of_two : (f.tag ≡ plain) ⊎ (f.tag ≡ sessions)
  pub code_fits : f.code < 4294967296
  pub handle_bytes : AreBytes f.handles
  pub handle_count : length f.handles ≡ 4 * handles
  pub whole_entries : WholeEntries limit width f.entries
  pub three_entries : length f.entries ≤ 3
  pub plain_entries : eqb f.tag sessions ≡ false → f.entries ≡ []
  pub parameter_bytes : AreBytes f.parameters

-- a command whose code has a row
pub record CommandParts (book : Rulebook) (f : Frame) : Type 0 where
  pub row : Row
  pub has_row : row_for book.rows f.code ≡ gives row
  pub well_formed : WellFormed book.longest 4 row.handles f
  pub size_fits : length (layout_command f) < 4294967296

-- an error under the plain tag: a code that reads and is not success
abbrev pub PlainError : Frame → Type 0
PlainError f = (f.tag ≡ plain) × (given (read_code f.code) ≡ true) × (eqb f.code 0 ≡ false)

-- the answer to a bad tag, by rules that have it: a tag and a code of its own
abbrev pub BadTagAnswer : Rulebook → Frame → Type 0
BadTagAnswer book f = (book.answers_bad_tag ≡ true) × (f.tag ≡ rsp_command) × (f.code ≡ bad_tag)

-- an error response is one of these and has no other part
pub record ErrorParts (book : Rulebook) (f : Frame) : Type 0 where
  pub either_error : PlainError f ⊎ BadTagAnswer book f
  pub code_fits : f.code < 4294967296
  pub no_handles : f.handles ≡ []
  pub no_entries : f.entries ≡ []
  pub no_parameters : f.parameters ≡ []

pub record SuccessParts (book : Rulebook) (responses : ℕ) (f : Frame) : Type 0 where
  pub success : f.code ≡ 0
  pub well_formed : WellFormed book.longest 0 responses f
  pub size_fits : length (layout_response f) < 4294967296

-- a response to a command whose code has a row
pub record ResponseParts (book : Rulebook) (cc : ℕ) (f : Frame) : Type 0 where
  pub row : Row
  pub has_row : row_for book.rows cc ≡ gives row
  pub either_kind : SuccessParts book row.responses f ⊎ ErrorParts book f
