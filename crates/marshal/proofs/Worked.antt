-- The starred rows of document 01's worked frames, together: what the definitions answer to each in the Rust reading, in the numbers
-- that callers see. The frames and the calls that read are frame's; here the writers come to them. And the writers' order of checks.
-- Assumes nothing.
use mathlib.Core.Path.{◌≡◌, refl}
use mathlib.Core.List.{List, [], ◌∷◌}
use Prim.Native.Nat.{ℕ}
use lib.Dec.{eqb}
use mathlib.Core.Bool.{cond}
use Rattle.base.specs.declared.error.Area.TheVariants.{Header, Authorization, Parameters}
use Rattle.base.specs.Bytes.{bytes, number}
use Rattle.base.specs.Said.{in_area, no_area, Said, gives, refuses, then}
use Rattle.rc.specs.Code.{read_index, read_fmt1, read_fmt0, read_code}
use Rattle.rc.specs.Known.{is_known, known_codes}
use Rattle.table.specs.declared.revision.Revision.TheVariants as revision
use Rattle.table.specs.Dispatch.{table_of}
use Rattle.table.specs.Tags.{tags}
use Rattle.frame.specs.declared.session.Session.{Session}
use Rattle.frame.specs.Answer.{command_by_value, response_by_value}
use Rattle.frame.specs.Areas.{handle_area, sized_area}
use Rattle.frame.specs.Command.{command_handles, command_areas, judge_command, cast_command, read_command}
use Rattle.frame.specs.Header.{tag_of, size_of, code_of, rsp_command, read_cc, read_rc, frame_prefix, frame_whole, read_command_tag, read_response_tag}
use Rattle.frame.specs.Layout.{layout_command, layout_response}
use Rattle.frame.specs.Response.{judge_response, cast_response, error_areas, success_areas, response_areas, read_response}
use Rattle.frame.specs.Walk.{read_tpm2b, read_signed, read_entry, walk, by_value}
use Rattle.frame.proofs.Readings.{bad_tag_bytes}
use Rattle.frame.proofs.Worked as frame
use Rattle.frame.proofs.Worked.{
  Asked,
  cast-command,
  validate-command,
  parts-of-command,
  validate-response,
  parts-of-response,
  read_code_lem,
  rust,
  standard,
  A,
  B,
  C,
  failed,
  entry,
  cut_entry,
}
use Rattle.marshal.specs.Handed.{Handed, handed}
use Rattle.frame.specs.Rules.{book_of}
use Rattle.frame.specs.declared.rules.Reading.{Reading}
use Rattle.frame.specs.declared.rules.Reading.TheVariants as reading
use Rattle.marshal.specs.Mode.{asked, book_for}
use Rattle.marshal.specs.declared.mode.Mode.{Mode}
use Rattle.marshal.specs.declared.mode.Mode.TheVariants as mode
use Rattle.marshal.specs.declared.mode.ResponseRules.{ResponseRules}
use Rattle.marshal.specs.Write.{sessions_there, judged, write_command, write_success, write_error, write_bad_tag, write_response}
use Rattle.marshal.proofs.CommandWriting.{command_handed}
use Rattle.marshal.proofs.ResponseWriting.{response_handed}

-- ---- the calls

-- a call that reads; a frame read, and its parts handed to the writer with so much room; a command of some tag and code, and a response
-- to the command of a code, written from what is handed over
pub data Call : Type 0 where
  reads : Asked → Call
  again_command : List ℕ → ℕ → Call
  again_response : ℕ → List ℕ → ℕ → Call
  write_command_lem : Reading → ℕ → ℕ → Handed → ℕ → Call
  write_response_lem : Mode → ℕ → ℕ → Handed → ℕ → Call
  again_standard : ℕ → List ℕ → ℕ → Call

-- a response written in a mode, by the rules and the tag that go with it
abbrev by : Mode → ResponseRules
by m = record { mode = m; revision = revision.Crate }

abbrev in_mode : Mode → ℕ → ℕ → Handed → ℕ → Said (List ℕ)
in_mode m = write_response (book_for (by m)) (asked (by m))

-- what the call answers; a writer by the bytes that it writes
abbrev pub answer : Call → Said (List ℕ)
answer (reads asked) = frame.answer asked
answer (again_command s room) =
    then (command_by_value s (read_command rust s)) λ c.
    write_command rust c.tag.0 c.cc.0 (command_handed s c) room
answer (again_response cc s room) =
    then (response_by_value s (read_response rust cc s)) λ r.
    in_mode mode.Rust cc r.rc.0 (response_handed s r) room
answer (write_command_lem r tag code h room) = write_command (book_of (record { reading = r; revision = revision.Crate })) tag code h room
answer (write_response_lem m cc code h room) = in_mode m cc code h room
-- in the standard mode, with the tag of the answer to a bad tag asked for where it was read
answer (again_standard cc s room) =
    then (response_by_value s (read_response standard cc s)) λ r.
    in_mode (cond (eqb r.tag.0 rsp_command) mode.BadTag mode.Standard) cc r.rc.0 (response_handed s r) room

-- ---- the table

pub record Row : Type 0 where
  pub input : Call
  pub result : Said (List ℕ)

abbrev pub row : Call → Said (List ℕ) → Row
row input result = record { input = input; result = result }

abbrev pub passes : Said (List ℕ)
passes = gives []

-- the twelve rows, in document 01's order; and beside them that B, C and the error response come out of their parts, and that an
-- error ignores the others
abbrev pub rows : List Row
rows =
    row (reads (validate-command [])) (refuses (in_area Header (1 ∷ 0 ∷ 10 ∷ 0 ∷ [])))
    ∷ row (reads (validate-command (A 0x0c))) passes
    ∷ row (reads (parts-of-command (A 0x0c))) (gives (10 ∷ 10 ∷ 10 ∷ 10 ∷ 10 ∷ 12 ∷ []))
    ∷ row (reads (validate-command (A 0x0b))) (refuses (in_area Header (2 ∷ 11 ∷ 1 ∷ [])))
    ∷ row (reads (validate-command (A 0x0d))) (refuses (in_area Header (1 ∷ 12 ∷ 1 ∷ 0 ∷ [])))
    ∷ row (reads (parts-of-command (B 0x1b 9 entry))) (gives (10 ∷ 14 ∷ 18 ∷ 27 ∷ 27 ∷ 27 ∷ []))
    ∷ row (reads (validate-command (B 0x12 0 []))) passes
    ∷ row (again_command (B 0x12 0 []) 18) (refuses (no_area (3 ∷ 0 ∷ 32770 ∷ [])))
    ∷ row (reads (cast-command (B 0x1a 8 cut_entry))) (gives (0 ∷ 26 ∷ []))
    ∷ row (reads (validate-command (B 0x1a 8 cut_entry))) (refuses (in_area Authorization (1 ∷ 25 ∷ 2 ∷ 1 ∷ [])))
    ∷ row (reads (validate-response 0x15e failed)) passes
    ∷ row (reads (parts-of-response 0x17b (C 0x04))) (gives (10 ∷ 10 ∷ 18 ∷ 23 ∷ 14 ∷ 18 ∷ []))
    ∷ row (reads (validate-response 0x17b (C 0x0a))) (refuses (in_area Parameters (1 ∷ 14 ∷ 10 ∷ 9 ∷ [])))
    ∷ row (reads (read_code_lem 0x1c4)) (gives (0x84 ∷ 3 ∷ 1 ∷ []))
    ∷ row (reads (read_code_lem 0x184)) (gives (0x84 ∷ 4 ∷ 1 ∷ []))
    ∷ row (reads (read_code_lem 0x984)) (gives (0x84 ∷ 5 ∷ 1 ∷ []))
    ∷ row (reads (read_code_lem 0xc4)) (refuses (no_area (5 ∷ 0 ∷ 0xc4 ∷ [])))
    ∷ row (reads (read_code_lem 0x10c4)) (refuses (no_area (5 ∷ 0 ∷ 0x10c4 ∷ [])))
    ∷ row (again_command (B 0x1b 9 entry) 27) (gives (B 0x1b 9 entry))
    ∷ row (again_response 0x17b (C 0x04) 23) (gives (C 0x04))
    ∷ row (again_response 0x15e failed 10) (gives failed)
    ∷ row (write_response_lem mode.Rust 0x15e 0x101 (handed (0x80 ∷ 0 ∷ 0 ∷ 0 ∷ []) (by_value []) [] (0xaa ∷ [])) 10) (gives failed)
    ∷ []

abbrev pub answers : List Row → List (Said (List ℕ))
answers [] = []
answers (r ∷ rs) = answer r.input ∷ answers rs

abbrev pub results : List Row → List (Said (List ℕ))
results [] = []
results (r ∷ rs) = r.result ∷ results rs

pub starred : answers rows ≡ results rows
unfolding bytes number table_of tags tag_of size_of code_of read_cc read_rc frame_prefix frame_whole read_command_tag read_response_tag handle_area sized_area command_handles command_areas judge_command cast_command read_command judge_response cast_response error_areas success_areas response_areas read_response read_tpm2b read_signed read_entry walk read_code read_fmt1 read_fmt0 read_index is_known known_codes layout_command layout_response sessions_there judged write_command write_success write_error write_response
starred = refl

-- ---- the order of checks: in each row all that is judged later and can be refused beside it would be; 7 has laws of its own (TooLarge)

-- a nonce and an HMAC by position and length
abbrev pub session : ℕ → ℕ → ℕ → ℕ → Session
session nonce-at nonce-size hmac-at hmac-size = record {
  handle = 0x40000009;
  nonce = record { at = nonce-at; size = nonce-size };
  attributes = 0;
  hmac = record { at = hmac-at; size = hmac-size };
}

-- of five lent bytes: both end within; both pass the end; the HMAC passes it
abbrev pub whole : Session
whole = session 0 2 2 3

abbrev pub past : Session
past = session 6 1 9 2

abbrev pub half : Session
half = session 3 2 4 3

-- both above 64 bytes and past the end; the HMAC is, and of the nonce nothing or its end
abbrev pub long : Session
long = session 6 65 9 66

abbrev pub long_hmac : Session
long_hmac = session 0 2 9 66

abbrev pub past_and_long : Session
past_and_long = session 6 64 9 66

abbrev pub given : List ℕ → ℕ → Session → Session → Session → Handed
given handles count first second third =
    handed handles (record { count = count; first = first; second = second; third = third }) (1 ∷ 2 ∷ 3 ∷ 4 ∷ 5 ∷ []) []

abbrev pub handle : List ℕ
handle = 0x80 ∷ 0 ∷ 0 ∷ 0 ∷ []

-- the code of the answer to a bad tag, under the plain tag
abbrev plain_bytes : List ℕ
plain_bytes = 0x80 ∷ 1 ∷ 0 ∷ 0 ∷ 0 ∷ 0x0a ∷ 0 ∷ 0 ∷ 0 ∷ 0x1e ∷ []

abbrev pub refusals : List Row
refusals =
    row (write_command_lem reading.Rust 0xc4 0 (given [] 4 past past past) 0) (refuses (no_area (3 ∷ 0 ∷ 0xc4 ∷ [])))
    ∷ row (write_command_lem reading.Rust 0x8001 0 (given [] 4 past past past) 0) (refuses (no_area (3 ∷ 0 ∷ 0x8001 ∷ [])))
    ∷ row (write_command_lem reading.Rust 0x8002 0 (given [] 0 past past past) 0) (refuses (no_area (3 ∷ 0 ∷ 0x8002 ∷ [])))
    ∷ row (write_command_lem reading.Rust 0x8002 0 (given [] 4 past past past) 0) (refuses (no_area (6 ∷ 0 ∷ 3 ∷ 4 ∷ [])))
    ∷ row (write_command_lem reading.Rust 0x8002 0 (given [] 3 past past past) 0) (refuses (no_area (4 ∷ 0 ∷ 0 ∷ [])))
    ∷ row (write_command_lem reading.Rust 0x8002 0x15e (given [] 3 past past past) 0) (refuses (no_area (1 ∷ 0 ∷ 4 ∷ 0 ∷ [])))
    ∷ row (write_command_lem reading.Rust 0x8002 0x15e (given (0 ∷ handle) 3 past past past) 0) (refuses (no_area (2 ∷ 4 ∷ 1 ∷ [])))
    ∷ row (write_command_lem reading.Rust 0x8002 0x15e (given handle 3 past half half) 0) (refuses (no_area (1 ∷ 6 ∷ 1 ∷ 0 ∷ [])))
    ∷ row (write_command_lem reading.Rust 0x8002 0x15e (given handle 3 half past past) 0) (refuses (no_area (1 ∷ 4 ∷ 3 ∷ 1 ∷ [])))
    ∷ row (write_command_lem reading.Rust 0x8002 0x15e (given handle 3 whole past half) 0) (refuses (no_area (1 ∷ 6 ∷ 1 ∷ 0 ∷ [])))
    ∷ row (write_command_lem reading.Rust 0x8002 0x15e (given handle 3 whole whole half) 0) (refuses (no_area (1 ∷ 4 ∷ 3 ∷ 1 ∷ [])))
    ∷ row (write_command_lem reading.Rust 0x8002 0x15e (given handle 2 whole whole half) 45) (refuses (no_area (9 ∷ 0 ∷ 46 ∷ 45 ∷ [])))
    ∷ row (write_command_lem reading.Rust 0x8002 0x15e (given handle 3 long half half) 0) (refuses (no_area (1 ∷ 6 ∷ 65 ∷ 0 ∷ [])))
    ∷ row (write_command_lem reading.Standard 0x8002 0x15e (given [] 3 long long long) 0) (refuses (no_area (1 ∷ 0 ∷ 4 ∷ 0 ∷ [])))
    ∷ row (write_command_lem reading.Standard 0x8002 0x15e (given handle 3 long half half) 0) (refuses (no_area (8 ∷ 0 ∷ 64 ∷ 65 ∷ [])))
    ∷ row (write_command_lem reading.Standard 0x8002 0x15e (given handle 3 past_and_long long long) 0) (refuses (no_area (1 ∷ 6 ∷ 64 ∷ 0 ∷ [])))
    ∷ row (write_command_lem reading.Standard 0x8002 0x15e (given handle 3 long_hmac long past) 0) (refuses (no_area (8 ∷ 0 ∷ 64 ∷ 66 ∷ [])))
    ∷ row (write_command_lem reading.Standard 0x8002 0x15e (given handle 3 whole long past) 0) (refuses (no_area (8 ∷ 0 ∷ 64 ∷ 65 ∷ [])))
    ∷ row (write_command_lem reading.Standard 0x8002 0x15e (given handle 2 whole whole long) 45) (refuses (no_area (9 ∷ 0 ∷ 46 ∷ 45 ∷ [])))
    ∷ row (write_response_lem mode.Rust 0 0xc4 (given [] 4 past past past) 0) (refuses (no_area (6 ∷ 0 ∷ 3 ∷ 4 ∷ [])))
    ∷ row (write_response_lem mode.Rust 0 0xc4 (given [] 3 past past past) 0) (refuses (no_area (4 ∷ 0 ∷ 0 ∷ [])))
    ∷ row (write_response_lem mode.Rust 0x131 0xc4 (given [] 3 past past past) 0) (refuses (no_area (5 ∷ 0 ∷ 0xc4 ∷ [])))
    ∷ row (write_response_lem mode.Rust 0x131 0x101 (given [] 3 past past past) 0) (refuses (no_area (3 ∷ 0 ∷ 0x8002 ∷ [])))
    ∷ row (write_response_lem mode.Rust 0x131 0x101 (given [] 0 past past past) 9) (refuses (no_area (9 ∷ 0 ∷ 10 ∷ 9 ∷ [])))
    ∷ row (write_response_lem mode.Rust 0x131 0 (given [] 3 past past past) 0) (refuses (no_area (1 ∷ 0 ∷ 4 ∷ 0 ∷ [])))
    ∷ row (write_response_lem mode.Rust 0x131 0 (given (0 ∷ handle) 3 past past past) 0) (refuses (no_area (2 ∷ 4 ∷ 1 ∷ [])))
    ∷ row (write_response_lem mode.Rust 0x131 0 (given handle 3 half past past) 0) (refuses (no_area (1 ∷ 4 ∷ 3 ∷ 1 ∷ [])))
    ∷ row (write_response_lem mode.Rust 0x131 0 (given handle 2 whole whole half) 37) (refuses (no_area (9 ∷ 0 ∷ 38 ∷ 37 ∷ [])))
    ∷ row (write_response_lem mode.Rust 0x131 0 (given handle 3 long past past) 0) (refuses (no_area (1 ∷ 6 ∷ 65 ∷ 0 ∷ [])))
    ∷ row (write_response_lem mode.Standard 0x131 0 (given handle 3 long past past) 0) (refuses (no_area (8 ∷ 0 ∷ 64 ∷ 65 ∷ [])))
    ∷ row (write_response_lem mode.Standard 0x131 0 (given handle 3 past_and_long long long) 0) (refuses (no_area (1 ∷ 6 ∷ 64 ∷ 0 ∷ [])))
    ∷ row (write_response_lem mode.Standard 0x131 0 (given handle 3 long_hmac long past) 0) (refuses (no_area (8 ∷ 0 ∷ 64 ∷ 66 ∷ [])))
    ∷ row (write_response_lem mode.BadTag 0 0x31 (given [] 4 past past past) 0) (refuses (no_area (6 ∷ 0 ∷ 3 ∷ 4 ∷ [])))
    ∷ row (write_response_lem mode.BadTag 0 0x31 (given [] 3 past past past) 0) (refuses (no_area (4 ∷ 0 ∷ 0 ∷ [])))
    ∷ row (write_response_lem mode.BadTag 0x131 0x31 (given [] 3 past past past) 0) (refuses (no_area (5 ∷ 0 ∷ 0x31 ∷ [])))
    ∷ row (write_response_lem mode.BadTag 0x131 0x1e (given [] 3 past past past) 0) (refuses (no_area (3 ∷ 0 ∷ 0x8002 ∷ [])))
    ∷ row (write_response_lem mode.BadTag 0x131 0x101 (given [] 1 past past past) 0) (refuses (no_area (3 ∷ 0 ∷ 0x8002 ∷ [])))
    ∷ row (write_response_lem mode.BadTag 0x131 0 (given [] 3 past past past) 0) (refuses (no_area (5 ∷ 0 ∷ 0 ∷ [])))
    ∷ row (write_response_lem mode.BadTag 0x131 0x101 (given [] 0 past past past) 0) (refuses (no_area (5 ∷ 0 ∷ 0x101 ∷ [])))
    ∷ row (write_response_lem mode.BadTag 0x131 0x1e (given [] 0 past past past) 9) (refuses (no_area (9 ∷ 0 ∷ 10 ∷ 9 ∷ [])))
    ∷ row (write_response_lem mode.BadTag 0x131 0x1e (given [] 0 past past past) 10) (gives bad_tag_bytes)
    ∷ row (again_standard 0x15e bad_tag_bytes 10) (gives bad_tag_bytes)
    ∷ row (again_standard 0x15e plain_bytes 10) (gives plain_bytes)
    ∷ row (write_response_lem mode.Standard 0x131 0x1e (given [] 0 past past past) 10) (gives plain_bytes)
    ∷ row (write_response_lem mode.Rust 0x131 0x1e (given [] 0 past past past) 10) (gives plain_bytes)
    ∷ []

pub order : answers refusals ≡ results refusals
unfolding bytes number table_of tag_of size_of code_of read_rc frame_prefix frame_whole read_response_tag judge_response cast_response error_areas response_areas read_response walk read_code read_fmt1 read_fmt0 read_index is_known known_codes layout_response sessions_there judged write_command write_success write_error write_bad_tag write_response
order = refl
