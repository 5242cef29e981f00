-- For whoever copies nonces and HMACs in C: by the standard rules at each table, numbers 0x01, 0x11 and 0x21, each that the calls for all parts give has at most 64 bytes and
-- lies within the frame. Of a refused frame there are none.
-- Assumes nothing.
use mathlib.Core.Path.{◌≡◌, refl}
use mathlib.Core.List.{List}
use Prim.Native.Nat.{ℕ, ◌/◌, ◌%◌}
use lib.ListN.{length}
use Rattle.base.specs.Said.{Said, gives, refuses, after}
use Rattle.table.specs.declared.revision.Revision.{Revision}
use Rattle.table.specs.declared.revision.Revision.TheVariants as revision
use Rattle.frame.specs.declared.command.Command.{Command}
use Rattle.frame.specs.declared.response.Response.{Response}
use Rattle.frame.specs.declared.rules.Reading.TheVariants as reading
use Rattle.frame.specs.declared.session.Entries.{Entries}
use Rattle.frame.specs.Answer.{command_by_value, response_by_value}
use Rattle.frame.specs.Command.{read_command}
use Rattle.frame.specs.Parts.{Kept, EachField, entries_of}
use Rattle.frame.specs.Response.{read_response}
use Rattle.frame.specs.Rules.{Rulebook, book_of}
use Rattle.frame.proofs.CommandLaws.{command_fields}
use Rattle.frame.proofs.Laws.{Promised}
use Rattle.frame.proofs.ResponseLaws.{response_fields}
use Rattle.capi.specs.Frame.{no_command, no_response}
use Rattle.capi.specs.Rules.{table_named, rules_numbered}
use Rattle.capi.proofs.command.skein_command_parts.Kinds as command-kinds
use Rattle.capi.proofs.command.skein_command_parts.Reads as command_reads
use Rattle.capi.proofs.response.skein_response_parts.Kinds as response-kinds
use Rattle.capi.proofs.response.skein_response_parts.Reads as response_reads

abbrev standard : Revision → Rulebook
standard table = book_of (record { reading = reading.Standard; revision = table })

-- what stands for a refused frame has no entry
kept_after : {A : Type 0} (entries : A → Entries) (len : ℕ) (nothing : A) (said : Said A) → EachField (Kept 64 len) (entries_of (entries nothing))
    → ((a : A) → said ≡ gives a → EachField (Kept 64 len) (entries_of (entries a))) → EachField (Kept 64 len) (entries_of (entries (after nothing said)))
kept_after entries len nothing (gives a) none each = each a refl
kept_after entries len nothing (refuses why) none each = none

-- what number names the standard rules at a table
standard_is : (n : ℕ) (table : Revision) → table_named n (n / 16) ≡ gives table → n % 16 ≡ 1
    → rules_numbered n ≡ gives (record { reading = reading.Standard; revision = table })
unfolding rules_numbered
standard_is n table at one = rw (at, one) refl

pub command_parts_fields : Promised 2 command-kinds.ps command-kinds.r command_reads.Post
    (λ κs a x later. (table : Revision) → table_named a.0 (a.0 / 16) ≡ gives table → a.0 % 16 ≡ 1
    → EachField (Kept 64 (length a.1.0.now)) (entries_of x.command.entries))
command_parts_fields κs a x v met table at one =
    let s : List ℕ = a.1.0.now in
    let is : x.command ≡ after no_command (command_by_value s (read_command (standard table) s)) = rw (standard_is a.0 table at one) at met.1 in
    rw is (kept_after (λ (c : Command). c.entries) (length s) no_command (command_by_value s (read_command (standard table) s)) tt (command_fields (standard table) s))

pub response_parts_fields : Promised 2 response-kinds.ps response-kinds.r response_reads.Post
    (λ κs a x later. (table : Revision) → table_named a.0 (a.0 / 16) ≡ gives table → a.0 % 16 ≡ 1
    → EachField (Kept 64 (length a.1.1.0.now)) (entries_of x.response.entries))
response_parts_fields κs a x v met table at one =
    let cc : ℕ = a.1.0 in
    let s : List ℕ = a.1.1.0.now in
    let is : x.response ≡ after no_response (response_by_value s (read_response (standard table) cc s)) = rw (standard_is a.0 table at one) at met.1 in
    rw is (kept_after (λ (r : Response). r.entries) (length s) no_response (response_by_value s (read_response (standard table) cc s)) tt (response_fields (standard table) cc s))

-- the standard rules have a number at each table, and these are they
pub standard_numbers : (rules_numbered 0x01 ≡ gives (record { reading = reading.Standard; revision = revision.Crate }))
    × (rules_numbered 0x11 ≡ gives (record { reading = reading.Standard; revision = revision.Lib138 }))
    × (rules_numbered 0x21 ≡ gives (record { reading = reading.Standard; revision = revision.Lib159 }))
unfolding rules_numbered
standard_numbers = (refl, refl, refl)
