-- Document 01's worked frames, and what the definitions answer to a call in the Rust reading, in the numbers that callers see. The
-- starred rows are proved together where the writers are known (marshal, proofs/Worked.antt).
-- Assumes nothing.
use mathlib.Core.Path.{◌≡◌, refl}
use mathlib.Core.List.{List, [], ◌∷◌, ◌++◌}
use Prim.Native.Nat.{ℕ, ◌-◌}
use lib.ListN.{replicate}
use Rattle.base.specs.declared.error.Area.TheVariants.{Header, Handles, Authorization, Parameters}
use Rattle.base.specs.Bytes.{number}
use Rattle.base.specs.Said.{in_area, Said, gives, refuses, then, done}
use Rattle.rc.specs.Code.{read_code, read_fmt1, read_fmt0, read_index, base_of, kind_number, kind_of, index_of}
use Rattle.rc.specs.Known.{is_known, known_codes}
use Rattle.table.specs.declared.revision.Revision.TheVariants as revision
use Rattle.table.specs.Dispatch.{table_of}
use Rattle.table.specs.Tags.{tags}
use Rattle.base.specs.declared.part.Span.{Span}
use Rattle.frame.specs.Answer.{command_by_value, response_by_value, whole}
use Rattle.frame.specs.Areas.{handle_area, sized_area}
use Rattle.frame.specs.Command.{command_handles, command_areas, judge_command, cast_command, read_command}
use Rattle.frame.specs.Header.{tag_of, size_of, code_of, read_cc, read_rc, frame_prefix, frame_whole, read_command_tag, read_response_tag}
use Rattle.frame.specs.Response.{judge_response, cast_response, error_areas, success_areas, response_areas, read_response}
use Rattle.frame.specs.Rules.{Rulebook, book_of}
use Rattle.frame.specs.declared.rules.Reading.TheVariants as reading
use Rattle.frame.specs.Walk.{read_tpm2b, read_signed, read_entry, walk}

-- ---- the calls

-- the two readings
abbrev pub rust : Rulebook
rust = book_of (record { reading = reading.Rust; revision = revision.Crate })

abbrev pub standard : Rulebook
standard = book_of (record { reading = reading.Standard; revision = revision.Crate })

-- a call with what it is given; a response with the code of the command that it answers
pub data Asked : Type 0 where
  cast-command validate-command parts-of-command : List ℕ → Asked
  validate-response parts-of-response : ℕ → List ℕ → Asked
  read_code_lem : ℕ → Asked

-- of all parts the areas, each by its two ends: handles, entries, parameters
abbrev pub places : Span → Span → Span → List ℕ
places handles entries parameters =
    handles.from ∷ handles.to ∷ entries.from ∷ entries.to ∷ parameters.from ∷ parameters.to ∷ []

-- what the call answers: a range by its two ends, a code by its base, the number of its kind and its index, a check by nothing
abbrev pub answer : Asked → Said (List ℕ)
answer (cast-command s) = then (whole s (cast_command rust s)) λ p. gives (p.from ∷ p.to ∷ [])
answer (validate-command s) = then (read_command rust s) λ d. gives []
answer (parts-of-command s) =
    then (command_by_value s (read_command rust s)) λ c. gives (places c.handles c.auth c.parameters)
answer (validate-response cc s) = then (read_response rust cc s) λ d. gives []
answer (parts-of-response cc s) =
    then (response_by_value s (read_response rust cc s)) λ r. gives (places r.handles r.auth r.parameters)
answer (read_code_lem n) = then (read_code n) λ c. gives (base_of c ∷ kind_number (kind_of c) ∷ index_of c ∷ [])

-- ---- the frames

-- A: Startup, two parameter bytes, with its size field
abbrev pub A : ℕ → List ℕ
A size = 0x80 ∷ 0x01 ∷ 0 ∷ 0 ∷ 0 ∷ size ∷ 0 ∷ 0 ∷ 0x01 ∷ 0x44 ∷ 0 ∷ 0 ∷ []

-- B: Unseal, one handle, with its size field, its authorization size and its entries
abbrev pub B : ℕ → ℕ → List ℕ → List ℕ
B size auth entries =
    0x80 ∷ 0x02 ∷ 0 ∷ 0 ∷ 0 ∷ size ∷ 0 ∷ 0 ∷ 0x01 ∷ 0x5e ∷ 0x80 ∷ 0 ∷ 0 ∷ 0 ∷ 0 ∷ 0 ∷ 0 ∷ auth ∷ entries

abbrev pub entry : List ℕ
entry = 0x40 ∷ 0 ∷ 0 ∷ 0x09 ∷ 0 ∷ 0 ∷ 0 ∷ 0 ∷ 0 ∷ []

-- the same less its last byte
abbrev pub cut_entry : List ℕ
cut_entry = 0x40 ∷ 0 ∷ 0 ∷ 0x09 ∷ 0 ∷ 0 ∷ 0 ∷ 0 ∷ []

-- an error response, and C: a response to GetRandom with its parameter size
abbrev pub failed : List ℕ
failed = 0x80 ∷ 0x01 ∷ 0 ∷ 0 ∷ 0 ∷ 0x0a ∷ 0 ∷ 0 ∷ 0x01 ∷ 0x01 ∷ []

abbrev pub C : ℕ → List ℕ
C size =
    0x80 ∷ 0x02 ∷ 0 ∷ 0 ∷ 0 ∷ 0x17 ∷ 0 ∷ 0 ∷ 0 ∷ 0 ∷ 0 ∷ 0 ∷ 0 ∷ size ∷ 0 ∷ 0x02 ∷ 0xaa ∷ 0xbb ∷ 0 ∷ 0 ∷ 0x01 ∷ 0 ∷ 0 ∷ []

-- ---- a fourth entry is refused before it is read: 01's row of B with three entries and a byte, which has no star

pub fourth_entry : answer (validate-command (B 0x2e 28 (entry ++ (entry ++ (entry ++ (0 ∷ [])))))) ≡ refuses (in_area Authorization (6 ∷ 45 ∷ 3 ∷ 4 ∷ []))
unfolding number table_of tags tag_of size_of code_of read_cc frame_prefix frame_whole read_command_tag handle_area sized_area command_handles command_areas judge_command cast_command read_command read_tpm2b read_signed read_entry walk
fourth_entry = refl

-- ---- the answer to a bad tag (document 02, W5)

-- bytes under that tag: so long, by their size field, with the last two bytes of their code, and what stands behind the header
abbrev under_rsp_command : ℕ → ℕ → ℕ → List ℕ → List ℕ
under_rsp_command size high low rest = 0 ∷ 0xc4 ∷ 0 ∷ 0 ∷ 0 ∷ size ∷ 0 ∷ 0 ∷ high ∷ low ∷ rest

-- whether `cast` and `validate` pass a response to the command of a code, and if not, why
abbrev judged_by : Rulebook → ℕ → List ℕ → List (Said (Unit {0}))
judged_by book cc s = done (cast_response book s) ∷ done (read_response book cc s) ∷ []

-- in the Rust reading, in the standard one; with codes other than its own; longer; for a command that has no row
pub bad_tag_rows : judged_by rust 0x15e (under_rsp_command 10 0 0x1e [])
    ∷ judged_by standard 0x15e (under_rsp_command 10 0 0x1e [])
    ∷ judged_by standard 0x15e (under_rsp_command 10 1 0x01 [])
    ∷ judged_by standard 0x15e (under_rsp_command 10 0 0 [])
    ∷ judged_by standard 0x15e (under_rsp_command 10 0 0x30 [])
    ∷ judged_by standard 0x15e (under_rsp_command 11 0 0x1e (0 ∷ []))
    ∷ judged_by standard 0x197 (under_rsp_command 10 0 0x1e [])
    ∷ judged_by standard 0x197 (under_rsp_command 11 0 0x1e (0 ∷ []))
    ∷ []
    ≡ (refuses (in_area Header (3 ∷ 0 ∷ 196 ∷ [])) ∷ refuses (in_area Header (3 ∷ 0 ∷ 196 ∷ [])) ∷ [])
    ∷ (gives tt ∷ gives tt ∷ [])
    ∷ (refuses (in_area Header (5 ∷ 6 ∷ 0x101 ∷ [])) ∷ refuses (in_area Header (5 ∷ 6 ∷ 0x101 ∷ [])) ∷ [])
    ∷ (refuses (in_area Header (5 ∷ 6 ∷ 0 ∷ [])) ∷ refuses (in_area Header (5 ∷ 6 ∷ 0 ∷ [])) ∷ [])
    ∷ (refuses (in_area Header (5 ∷ 6 ∷ 48 ∷ [])) ∷ refuses (in_area Header (5 ∷ 6 ∷ 48 ∷ [])) ∷ [])
    ∷ (gives tt ∷ refuses (in_area Header (2 ∷ 10 ∷ 1 ∷ [])) ∷ [])
    ∷ (gives tt ∷ refuses (in_area Header (4 ∷ 0 ∷ 0x197 ∷ [])) ∷ [])
    ∷ (gives tt ∷ refuses (in_area Header (4 ∷ 0 ∷ 0x197 ∷ [])) ∷ [])
    ∷ []
unfolding number table_of tag_of size_of code_of frame_prefix frame_whole read_response_tag read_rc judge_response cast_response error_areas response_areas read_response walk
bad_tag_rows = refl

-- ---- nonces and HMACs of at most 64 bytes (document 02, W6)

-- a nonce or an HMAC that says so many bytes, of which so many are there
abbrev field : ℕ → ℕ → List ℕ
field size count = 0 ∷ size ∷ replicate count 0

-- B and C, with their size field, and one entry behind its handle
abbrev command_with : ℕ → List ℕ → List ℕ
command_with size signed = B size (size - 18) (0x40 ∷ 0 ∷ 0 ∷ 0x09 ∷ signed)

abbrev response_with : ℕ → List ℕ → List ℕ
response_with size signed =
    0x80 ∷ 0x02 ∷ 0 ∷ 0 ∷ 0 ∷ size ∷ 0 ∷ 0 ∷ 0 ∷ 0 ∷ 0 ∷ 0 ∷ 0 ∷ 0x04 ∷ 0 ∷ 0x02 ∷ 0xaa ∷ 0xbb ∷ signed

-- whether they pass in the Rust reading and in the standard one, and if not, why
abbrev command_both : List ℕ → List (Said (Unit {0}))
command_both s = done (read_command rust s) ∷ done (read_command standard s) ∷ []

-- of a response to the command of a code
abbrev response_to : ℕ → List ℕ → List (Said (Unit {0}))
response_to cc s = done (read_response rust cc s) ∷ done (read_response standard cc s) ∷ []

-- a nonce of 64 bytes, of 65, an HMAC of 64, of 65; a nonce that says 65 and has one; half a length; and of a response a nonce and an HMAC of 65
pub limit_rows : command_both (command_with 91 (field 64 64 ++ (0 ∷ field 0 0)))
    ∷ command_both (command_with 92 (field 65 65 ++ (0 ∷ field 0 0)))
    ∷ command_both (command_with 91 (field 0 0 ++ (0 ∷ field 64 64)))
    ∷ command_both (command_with 92 (field 0 0 ++ (0 ∷ field 65 65)))
    ∷ command_both (command_with 25 (field 65 1))
    ∷ command_both (command_with 23 (65 ∷ []))
    ∷ response_to 0x17b (response_with 88 (field 65 65 ++ (0 ∷ field 0 0)))
    ∷ response_to 0x17b (response_with 88 (field 0 0 ++ (0 ∷ field 65 65)))
    ∷ []
    ≡ (gives tt ∷ gives tt ∷ [])
    ∷ (gives tt ∷ refuses (in_area Authorization (8 ∷ 22 ∷ 64 ∷ 65 ∷ [])) ∷ [])
    ∷ (gives tt ∷ gives tt ∷ [])
    ∷ (gives tt ∷ refuses (in_area Authorization (8 ∷ 25 ∷ 64 ∷ 65 ∷ [])) ∷ [])
    ∷ (refuses (in_area Authorization (1 ∷ 22 ∷ 67 ∷ 3 ∷ [])) ∷ refuses (in_area Authorization (8 ∷ 22 ∷ 64 ∷ 65 ∷ [])) ∷ [])
    ∷ (refuses (in_area Authorization (1 ∷ 22 ∷ 2 ∷ 1 ∷ [])) ∷ refuses (in_area Authorization (1 ∷ 22 ∷ 2 ∷ 1 ∷ [])) ∷ [])
    ∷ (gives tt ∷ refuses (in_area Authorization (8 ∷ 18 ∷ 64 ∷ 65 ∷ [])) ∷ [])
    ∷ (gives tt ∷ refuses (in_area Authorization (8 ∷ 21 ∷ 64 ∷ 65 ∷ [])) ∷ [])
    ∷ []
unfolding number table_of tags tag_of size_of code_of read_cc read_rc frame_prefix frame_whole read_command_tag read_response_tag handle_area sized_area command_handles command_areas judge_command cast_command read_command judge_response cast_response success_areas response_areas read_response read_code read_fmt0 is_known known_codes read_tpm2b read_signed read_entry walk
limit_rows = refl

-- ---- each line of the tables of refusals occurs (document 02, W2)

-- a frame without sessions: so long, by its size field, with the last two bytes of its code, and what stands behind the header
abbrev bare : ℕ → ℕ → ℕ → List ℕ → List ℕ
bare size high low rest = 0x80 ∷ 0x01 ∷ 0 ∷ 0 ∷ 0 ∷ size ∷ 0 ∷ 0 ∷ high ∷ low ∷ rest

-- in the standard reading
abbrev refused_command : List ℕ → Said (Unit {0})
refused_command s = done (read_command standard s)

abbrev refused_response : ℕ → List ℕ → Said (Unit {0})
refused_response cc s = done (read_response standard cc s)

-- of a command: the header by 1, 2, 3 and 4; the handles by 1; the authorization area by 1, by 6 and by 8. All but the last are refused so in the Rust reading
-- too (`command_refused`, Readings)
pub command_pairs : refused_command []
    ∷ refused_command (bare 10 0x01 0x44 (0 ∷ []))
    ∷ refused_command (under_rsp_command 10 0x01 0x44 [])
    ∷ refused_command (bare 10 0x01 0x97 [])
    ∷ refused_command (bare 10 0x01 0x5e [])
    ∷ refused_command (B 0x1a 8 cut_entry)
    ∷ refused_command (B 0x2e 28 (entry ++ (entry ++ (entry ++ (0 ∷ [])))))
    ∷ refused_command (command_with 92 (field 65 65 ++ (0 ∷ field 0 0)))
    ∷ []
    ≡ refuses (in_area Header (1 ∷ 0 ∷ 10 ∷ 0 ∷ []))
    ∷ refuses (in_area Header (2 ∷ 10 ∷ 1 ∷ []))
    ∷ refuses (in_area Header (3 ∷ 0 ∷ 196 ∷ []))
    ∷ refuses (in_area Header (4 ∷ 6 ∷ 0x197 ∷ []))
    ∷ refuses (in_area Handles (1 ∷ 10 ∷ 4 ∷ 0 ∷ []))
    ∷ refuses (in_area Authorization (1 ∷ 25 ∷ 2 ∷ 1 ∷ []))
    ∷ refuses (in_area Authorization (6 ∷ 45 ∷ 3 ∷ 4 ∷ []))
    ∷ refuses (in_area Authorization (8 ∷ 22 ∷ 64 ∷ 65 ∷ []))
    ∷ []
unfolding number table_of tags tag_of size_of code_of read_cc frame_prefix frame_whole read_command_tag handle_area sized_area command_handles command_areas judge_command cast_command read_command read_tpm2b read_signed read_entry walk
command_pairs = refl

-- an entry of a response
abbrev ending : List ℕ
ending = 0 ∷ 0 ∷ 1 ∷ 0 ∷ 0 ∷ []

-- the header by 1, 2, 3, 4 and 5; the handles, of a response to Load, by 1; the parameters by 1; the authorization area as in a command. None stands under
-- 0x00C4, and all but the last are refused so in the Rust reading too (`response_refused`)
pub response_pairs : refused_response 0x17b []
    ∷ refused_response 0x17b (bare 11 0x01 0x01 (0 ∷ []))
    ∷ refused_response 0x17b (0 ∷ 0xc5 ∷ 0 ∷ 0 ∷ 0 ∷ 10 ∷ 0 ∷ 0 ∷ 0 ∷ 0 ∷ [])
    ∷ refused_response 0x197 (bare 10 0 0 [])
    ∷ refused_response 0x17b (bare 10 0 0xc4 [])
    ∷ refused_response 0x157 (bare 10 0 0 [])
    ∷ refused_response 0x17b (C 0x0a)
    ∷ refused_response 0x17b (response_with 20 (0 ∷ 0 ∷ []))
    ∷ refused_response 0x17b (response_with 34 (ending ++ (ending ++ (ending ++ (0 ∷ [])))))
    ∷ refused_response 0x17b (response_with 88 (field 65 65 ++ (0 ∷ field 0 0)))
    ∷ []
    ≡ refuses (in_area Header (1 ∷ 0 ∷ 10 ∷ 0 ∷ []))
    ∷ refuses (in_area Header (2 ∷ 10 ∷ 1 ∷ []))
    ∷ refuses (in_area Header (3 ∷ 0 ∷ 197 ∷ []))
    ∷ refuses (in_area Header (4 ∷ 0 ∷ 0x197 ∷ []))
    ∷ refuses (in_area Header (5 ∷ 6 ∷ 0xc4 ∷ []))
    ∷ refuses (in_area Handles (1 ∷ 10 ∷ 4 ∷ 0 ∷ []))
    ∷ refuses (in_area Parameters (1 ∷ 14 ∷ 10 ∷ 9 ∷ []))
    ∷ refuses (in_area Authorization (1 ∷ 20 ∷ 1 ∷ 0 ∷ []))
    ∷ refuses (in_area Authorization (6 ∷ 33 ∷ 3 ∷ 4 ∷ []))
    ∷ refuses (in_area Authorization (8 ∷ 18 ∷ 64 ∷ 65 ∷ []))
    ∷ []
unfolding number table_of tags tag_of size_of code_of read_rc frame_prefix frame_whole read_response_tag handle_area sized_area judge_response cast_response error_areas success_areas response_areas read_response read_code read_fmt1 read_fmt0 read_index is_known known_codes read_tpm2b read_signed read_entry walk
response_pairs = refl
