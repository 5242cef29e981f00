-- The last sentence of demand 3, by the rules that a caller names: what a writer takes is a passing frame, and reading it gives the parts handed
-- over; the parts read from a passing frame, written into enough room, give the same bytes, but under the sessions tag with no entry;
-- a writer refuses with 7 exactly where document 01 says; and a refused call leaves the room as it was. First the laws of the
-- definitions, then of what callers are answered; these also say which frames are taken.
-- The laws themselves hold by any rules, and for commands by any table (CommandWriting,
-- ResponseWriting, Taking, TooLarge).
-- Assumes nothing.
use mathlib.Core.Path.{◌≡◌, refl, ◌∙◌, ap}
use mathlib.Core.Bool.{Bool, true, false≢true}
use mathlib.Core.List.{List, [], ◌∷◌, ◌++◌}
use mathlib.Core.Logic.{◌↔◌}
use Prim.Native.Nat.{ℕ, ◌+◌, ◌-◌, ◌≤◌, ◌<◌}
use borrow.Author.Tests.{eqb-true}
use lib.Dec.{eqb}
use lib.ListN.{length, take, drop}
use Rattle.std.specs.Prelude.{Result, Err}
use Rattle.base.specs.declared.error.WriteError.TheVariants.{IntegerTooLarge}
use Rattle.base.specs.declared.error.WriteError.{WriteError}
use Rattle.base.specs.Answer.{said_total}
use Rattle.base.specs.Bytes.{AreBytes}
use Rattle.base.specs.Said.{Why, no_area, Said, gives, refuses}
use Rattle.table.specs.Table.{IsTable}
use Rattle.table.proofs.Table.{is_table}
use Rattle.frame.specs.declared.command.Command.{Command}
use Rattle.frame.specs.declared.response.Response.{Response}
use Rattle.frame.specs.Answer.{command_by_value, response_by_value}
use Rattle.frame.specs.Command.{read_command}
use Rattle.frame.specs.Header.{sessions, rsp_command}
use Rattle.frame.specs.Layout.{ResponseParts, layout_command, layout_response}
use Rattle.frame.specs.Parts.{command_parts, response_parts}
use Rattle.frame.specs.Response.{read_response}
use Rattle.frame.specs.Rules.{Rulebook, admits_bad_tag, book_of}
use Rattle.frame.specs.declared.rules.Rules.{Rules}
use Rattle.frame.proofs.Laws.{Promised}
use Rattle.marshal.specs.Handed.{Handed, handed, command_frame}
use Rattle.marshal.specs.Mode.{asked, asks_bad_tag, book_for, reading_of}
use Rattle.marshal.specs.declared.mode.Mode.{Mode}
use Rattle.marshal.specs.declared.mode.Mode.TheVariants as mode
use Rattle.marshal.specs.declared.mode.ResponseRules.{ResponseRules}
use Rattle.marshal.specs.Write.{counted, room_after, write_command, write_response}
use Rattle.marshal.proofs.Calls.{Writes, Written, Refused, writes, is_written, is_refused, refused_exactly}
use Rattle.marshal.proofs.CommandWriting as command
use Rattle.marshal.proofs.CommandWriting.{command_handed}
use Rattle.marshal.proofs.Parts.{OfTypes}
use Rattle.marshal.proofs.ResponseWriting as response
use Rattle.marshal.proofs.ResponseWriting.{response_frame, response_handed, shorter}
use Rattle.marshal.proofs.Taking.{CommandFormed, command_taken, taken_command, response_taken, taken_response}
use Rattle.marshal.proofs.TooLarge as large
use Rattle.marshal.proofs.TooLarge.{CommandTooLarge, ResponseTooLarge}
use Rattle.marshal.proofs.Writers.{room_is, room_start}
use Rattle.marshal.proofs.command.write.Kinds as command-write-kinds
use Rattle.marshal.proofs.command.write.Reads as command-write-reads
use Rattle.marshal.proofs.response.write.Kinds as response-write-kinds
use Rattle.marshal.proofs.response.write.Reads as response-write-reads

-- what is asked for in a mode is there in the rules that go with it
mode_may : (m : Mode) → asks_bad_tag m ≡ true → admits_bad_tag (reading_of m) ≡ true
mode_may mode.Rust e = e
mode_may mode.Standard e = absurd (false≢true e)
mode_may mode.BadTag e = refl

may_ask : (rules : ResponseRules) → asked rules ≡ true → (book_for rules).answers_bad_tag ≡ true
may_ask rules = mode_may rules.mode

-- a call answers `counted` and leaves `room_after` of what its definition gives for the length of the room
module _ (room : List ℕ) where
  abbrev Wrote : Said (List ℕ) → List ℕ → Type 0
  Wrote said t = (counted said ≡ gives (length t)) × (room_after room said ≡ t ++ drop (length t) room)

  -- ---- commands

  module _ (rules : Rules) where
    abbrev command_book : Rulebook
    command_book = book_of rules

    pub command_reads : (tag code : ℕ) (h : Handed) {n : ℕ} → counted (write_command command_book tag code h (length room)) ≡ gives n
        → OfTypes h → code < 4294967296
        → let t = take n (room_after room (write_command command_book tag code h (length room))) in
        (c : Command) × (command_by_value t (read_command command_book t) ≡ gives c) × (command_parts t c ≡ command_frame tag code h)
    command_reads tag code h answer types fits =
        let start = room_start room (write_command command_book tag code h (length room)) answer in
        rw start.2 (command.command_reads command_book (is_table rules.revision) tag code h (length room) start.1 types fits)

    module _ (s : List ℕ) (are : AreBytes s) (c : Command) (read : command_by_value s (read_command command_book s) ≡ gives c) where
      pub command_again : length s ≤ length room → (eqb c.tag.0 sessions ≡ true → c.entries.count ≡ 0 → ⊥)
          → Wrote (write_command command_book c.tag.0 c.cc.0 (command_handed s c) (length room)) s
      command_again enough some = room_is room (command.command_again command_book (is_table rules.revision) s c read are (length room) enough some)

      pub command_empty : c.tag.0 ≡ sessions → c.entries.count ≡ 0
          → write_command command_book c.tag.0 c.cc.0 (command_handed s c) (length room) ≡ refuses (no_area (3 ∷ 0 ∷ 0x8002 ∷ []))
      command_empty = command.command_empty command_book s c (length room)

  -- ---- responses to the command of a code

  module _ (rules : ResponseRules) (cc : ℕ) where
    abbrev response_book : Rulebook
    response_book = book_for rules

    pub response_reads : (code : ℕ) (h : Handed) {n : ℕ} → counted (write_response response_book (asked rules) cc code h (length room)) ≡ gives n
        → OfTypes h → code < 4294967296
        → let t = take n (room_after room (write_response response_book (asked rules) cc code h (length room))) in
        (r : Response) × (response_by_value t (read_response response_book cc t) ≡ gives r) × (response_parts t r ≡ response_frame (asked rules) code h)
    response_reads code h answer types fits =
        let start = room_start room (write_response response_book (asked rules) cc code h (length room)) answer in
        rw start.2 (response.response_reads response_book cc (asked rules) (may_ask rules) code h (length room) start.1 types fits)

    module _ (s : List ℕ) (are : AreBytes s) (r : Response) (read : response_by_value s (read_response response_book cc s) ≡ gives r)
        (same : asked rules ≡ eqb r.tag.0 rsp_command) where
      pub response_again : length s ≤ length room → (eqb r.tag.0 sessions ≡ true → r.entries.count ≡ 0 → ⊥)
          → Wrote (write_response response_book (asked rules) cc r.rc.0 (response_handed s r) (length room)) s
      response_again enough some =
          room_is room
          (ap (λ (b : Bool). write_response response_book b cc r.rc.0 (response_handed s r) (length room)) same
          ∙ response.response_again response_book cc s are r read (length room) enough some)

      pub response_shorter : length s - 4 ≤ length room → r.tag.0 ≡ sessions → r.entries.count ≡ 0
          → Wrote (write_response response_book (asked rules) cc r.rc.0 (response_handed s r) (length room)) (shorter s r)
          × (length (shorter s r) + 4 ≡ length s)
      response_shorter enough tag none =
          let wrote = response.response_shorter response_book cc s are r read (length room) enough tag none in (
            room_is room (ap (λ (b : Bool). write_response response_book b cc r.rc.0 (response_handed s r) (length room)) same ∙ wrote.0),
            wrote.1,
          )

-- ---- what a refused call leaves

pub refused_leaves : (room : List ℕ) {said : Said (List ℕ)} {why : Why} → said ≡ refuses why → room_after room said ≡ room
refused_leaves room e = ap (room_after room) e

-- ---- what callers are answered, by the contracts of `command::write` and `response::write`

-- the sessions tag with no entry
abbrev Bare : ℕ → ℕ → Type 0
Bare tag count = (tag ≡ sessions) × (count ≡ 0)

module _ (book : Rulebook) (tag code : ℕ) (h : Handed) (room : List ℕ) (x : Result ℕ WriteError) (later : List ℕ) where
  abbrev CommandFrom : List ℕ → Command → Type 0
  CommandFrom s c = (tag ≡ c.tag.0) × (code ≡ c.cc.0) × (h ≡ command_handed s c)

  -- a bare command is refused, and 7 is the answer exactly where the total is too large
  abbrev pub CommandWrites : Type 0
  CommandWrites =
      Writes book.longest (λ s. command_by_value s (read_command book s)) command_parts layout_command (CommandFormed book)
      CommandFrom (λ c. Bare c.tag.0 c.entries.count) h code (command_frame tag code h) room x later
      × ((s : List ℕ) (c : Command) → CommandFrom s c → Bare c.tag.0 c.entries.count → Refused room x later (no_area (3 ∷ 0 ∷ 0x8002 ∷ [])))
      × ((n : ℕ) → (x ≡ Err (IntegerTooLarge 0 n)) ↔ CommandTooLarge book tag code h n)

  abbrev command_said : Said (List ℕ)
  command_said = write_command book tag code h (length room)

  command_writes : IsTable book.rows book.known → said_total x ≡ counted command_said → later ≡ room_after room command_said → CommandWrites
  command_writes table answer bytes =
      let back : (s : List ℕ) (c : Command) → CommandFrom s c
      → command_said ≡ write_command book c.tag.0 c.cc.0 (command_handed s c) (length room) =
      λ s c from i. write_command book (from.0 i) (from.1 i) (from.2 i) (length room) in (
        writes room x later command_said answer bytes book.longest _ command_parts layout_command (CommandFormed book) CommandFrom _ h code _
            (λ t given types fits. command_taken book tag code h (length room) given types fits)
            (taken_command book tag code h (length room))
            (λ t given types fits. command.command_reads book table tag code h (length room) given types fits)
            (λ s are c read from enough some. back s c from
            ∙ command.command_again book table s c read are (length room) enough
            (λ under none. some (eqb-true c.tag.0 sessions under, none))),
        (λ s c from bare. is_refused room x later command_said answer bytes
            (back s c from ∙ command.command_empty book s c (length room) bare.0 bare.1)),
        (λ n.
            let told = refused_exactly room x later command_said answer bytes (IntegerTooLarge 0 n) in
            let too_large = large.command_too_large book tag code h (length room) n in
            ((λ e. too_large.0 (told.0 e)), (λ e. told.1 (too_large.1 e)))),
      )

pub command_write : Promised 4 command-write-kinds.ps command-write-kinds.r command-write-reads.Post
    (λ κs a x later.
    let h : Handed = handed a.1.1.1.0.now a.1.1.1.1.0 a.1.1.1.1.1.0.now a.1.1.1.1.1.1.0.now in
    CommandWrites (book_of a.0) a.1.0.0 a.1.1.0.0 h a.1.1.1.1.1.1.1.0.now x later.1.1.1.1.1.1.1.0.now)
command_write κs a x v met = command_writes (book_of a.0) a.1.0.0 a.1.1.0.0 _ _ x _ (is_table a.0.revision) met.0 met.1

module _ (book : Rulebook) (asks : Bool) (cc code : ℕ) (h : Handed) (room : List ℕ) (x : Result ℕ WriteError) (later : List ℕ) where
  -- the tag of the answer to a bad tag is asked for where it was read
  abbrev ResponseFrom : List ℕ → Response → Type 0
  ResponseFrom s r = (asks ≡ eqb r.tag.0 rsp_command) × (code ≡ r.rc.0) × (h ≡ response_handed s r)

  -- a bare response comes out four bytes shorter, and 7 is the answer exactly where the total is too large
  abbrev pub ResponseWrites : Type 0
  ResponseWrites =
      Writes book.longest (λ s. response_by_value s (read_response book cc s)) response_parts layout_response (ResponseParts book cc)
      ResponseFrom (λ r. Bare r.tag.0 r.entries.count) h code (response_frame asks code h) room x later
      × ((s : List ℕ) → AreBytes s → (r : Response) → response_by_value s (read_response book cc s) ≡ gives r → ResponseFrom s r
      → Bare r.tag.0 r.entries.count → length s - 4 ≤ length room
      → Written room x later (shorter s r) × (length (shorter s r) + 4 ≡ length s))
      × ((n : ℕ) → (x ≡ Err (IntegerTooLarge 0 n)) ↔ ResponseTooLarge book asks cc code h n)

  abbrev response_said : Said (List ℕ)
  response_said = write_response book asks cc code h (length room)

  response_writes : (asks ≡ true → book.answers_bad_tag ≡ true) → said_total x ≡ counted response_said → later ≡ room_after room response_said → ResponseWrites
  response_writes may answer bytes =
      let back : (s : List ℕ) (r : Response) → ResponseFrom s r
      → response_said ≡ write_response book (eqb r.tag.0 rsp_command) cc r.rc.0 (response_handed s r) (length room) =
      λ s r from i. write_response book (from.0 i) cc (from.1 i) (from.2 i) (length room) in (
        writes room x later response_said answer bytes book.longest _ response_parts layout_response (ResponseParts book cc) ResponseFrom _ h code _
            (λ t given types fits. response_taken book asks cc code h (length room) may given types fits)
            (taken_response book asks cc code h (length room))
            (λ t given types fits. response.response_reads book cc asks may code h (length room) given types fits)
            (λ s are r read from enough some. back s r from
            ∙ response.response_again book cc s are r read (length room) enough
            (λ under none. some (eqb-true r.tag.0 sessions under, none))),
        (λ s are r read from bare enough.
            let short = response.response_shorter book cc s are r read (length room) enough bare.0 bare.1 in
            (is_written room x later response_said answer bytes (back s r from ∙ short.0), short.1)),
        (λ n.
            let told = refused_exactly room x later response_said answer bytes (IntegerTooLarge 0 n) in
            let too_large = large.response_too_large book asks cc code h (length room) n in
            ((λ e. too_large.0 (told.0 e)), (λ e. told.1 (too_large.1 e)))),
      )

pub response_write : Promised 4 response-write-kinds.ps response-write-kinds.r response-write-reads.Post
    (λ κs a x later.
    let h : Handed = handed a.1.1.1.0.now a.1.1.1.1.0 a.1.1.1.1.1.0.now a.1.1.1.1.1.1.0.now in
    ResponseWrites (book_for a.0) (asked a.0) a.1.1.0.0 a.1.0.0 h a.1.1.1.1.1.1.1.0.now x
    later.1.1.1.1.1.1.1.0.now)
response_write κs a x v met =
    response_writes (book_for a.0) (asked a.0) a.1.1.0.0 a.1.0.0 _ _ x _ (may_ask a.0) met.0 met.1
