-- Demand 3 by the rules that a caller names, of what is given back by value and of what callers are answered. The laws of what is read
-- hold by any rules, and for commands by any table (CommandLaws, ResponseLaws).
-- Assumes nothing.
use mathlib.Core.Path.{◌≡◌, refl, sym, ◌∙◌, ap}
use mathlib.Core.List.{List}
use mathlib.Core.Logic.{◌↔◌}
use Prim.Native.Nat.{ℕ}
use borrow.Fn.Kinds.{ParamKind, ResultKind, Out, Dens, res_t, ended_of}
use contract.Lifetimes.{Lfts}
use lib.ListN.{length}
use denote.Triple.Clauses.{Lasts, at_exit}
use Rattle.std.specs.Prelude.{Ok}
use Rattle.base.specs.Bytes.{AreBytes}
use Rattle.base.specs.Parts.{held_at}
use Rattle.base.specs.Answer.{said}
use Rattle.base.specs.Said.{gives}
use Rattle.frame.specs.declared.rules.Reading.TheVariants as reading
use Rattle.frame.specs.declared.rules.Rules.{Rules}
use Rattle.table.proofs.Table.{is_table}
use Rattle.frame.specs.declared.command.Command.{Command}
use Rattle.frame.specs.declared.response.Response.{Response}
use Rattle.frame.specs.Answer.{command_of, response_of, frame_of, command_by_value, response_by_value}
use Rattle.frame.specs.Command.{read_command, handles_range, auth_range, parameters_range}
use Rattle.frame.specs.Layout.{Frame, CommandParts, ResponseParts, layout_entries, layout_command, layout_response}
use Rattle.frame.specs.Parts.{ranged, Kept, EachField, entries_of, command_parts, response_parts}
use Rattle.frame.specs.Response.{read_response}
use Rattle.frame.specs.Rules.{book_of}
use Rattle.frame.proofs.CommandLaws as over
use Rattle.frame.proofs.ResponseLaws as over-one
use Rattle.frame.proofs.Divides.{Divides, Tells, tells, done_exactly, done_valued}
use Rattle.base.proofs.Answers.{said_injective}
use Rattle.frame.proofs.command.validate.Kinds as command-validate-kinds
use Rattle.frame.proofs.command.validate.Reads as command-validate-reads
use Rattle.frame.proofs.command.parts.Kinds as command-parts-kinds
use Rattle.frame.proofs.command.parts.Reads as command-parts-reads
use Rattle.frame.proofs.response.validate.Kinds as response-validate-kinds
use Rattle.frame.proofs.response.validate.Reads as response-validate-reads
use Rattle.frame.proofs.response.parts.Kinds as response-parts-kinds
use Rattle.frame.proofs.response.parts.Reads as response-parts-reads

-- ---- what is read: it divides as the layout says, and the authorization area holds the entries

module _ (rules : Rules) where
  pub command_divides : Divides (λ s. command_by_value s (read_command (book_of rules) s)) command_parts layout_command (CommandParts (book_of rules))
  command_divides = over.command_divides (book_of rules) (is_table rules.revision)

  pub command_auth : (s : List ℕ) → AreBytes s → (c : Command) → command_by_value s (read_command (book_of rules) s) ≡ gives c
      → held_at c.auth s ≡ layout_entries 4 (command_parts s c).entries
  command_auth = over.command_auth (book_of rules)

  -- and the three reads of one area give the areas of a passing command
  pub command_ranges : (s : List ℕ) (c : Command) → command_by_value s (read_command (book_of rules) s) ≡ gives c
      → (handles_range (book_of rules) s ≡ gives (ranged c.handles))
      × (auth_range (book_of rules) s ≡ gives (ranged c.auth))
      × (parameters_range (book_of rules) s ≡ gives (ranged c.parameters))
  command_ranges = over.command_ranges (book_of rules)

  -- of responses to the command of a code
  module _ (cc : ℕ) where
    pub response_divides : Divides (λ s. response_by_value s (read_response (book_of rules) cc s)) response_parts layout_response (ResponseParts (book_of rules) cc)
    response_divides = over-one.response_divides (book_of rules) cc

    pub response_auth : (s : List ℕ) → AreBytes s → (r : Response) → response_by_value s (read_response (book_of rules) cc s) ≡ gives r
        → held_at r.auth s ≡ layout_entries 0 (response_parts s r).entries
    response_auth = over-one.response_auth (book_of rules) cc

-- ---- what callers are answered: whatever arguments, result and later state of what was lent meet a function's contract, the claim
-- holds of them

abbrev pub Promised : (n : ℕ) (ps : List (ParamKind n)) (r : ResultKind n) → Out n ps r → Out n ps r → Type 0
Promised n ps r Post Claim =
    (κs : Lfts n) (a : Dens κs ps) (x : (res_t r κs).Denot) (v : Lasts (ended_of n ps r) κs a) →
    Post κs a x (at_exit (ended_of n ps r) κs a v) →
    Claim κs a x (at_exit (ended_of n ps r) κs a v)

-- `validate` is done exactly when the bytes are the layout of well-formed parts
pub command_validate : Promised 1 command-validate-kinds.ps command-validate-kinds.r command-validate-reads.Post
    (λ κs a x later. AreBytes a.1.0.now → (x ≡ Ok tt) ↔ ((f : Frame) × CommandParts (book_of a.0) f × (layout_command f ≡ a.1.0.now)))
command_validate κs a x v met p =
    let s : List ℕ = a.1.0.now in
    done_exactly (command_divides a.0) s p x (met ∙ done_valued (frame_of command_of s) (read_command (book_of a.0) s))

pub response_validate : Promised 1 response-validate-kinds.ps response-validate-kinds.r response-validate-reads.Post
    (λ κs a x later. AreBytes a.1.1.0.now
    → (x ≡ Ok tt) ↔ ((f : Frame) × ResponseParts (book_of a.0) a.1.0.0 f × (layout_response f ≡ a.1.1.0.now)))
response_validate κs a x v met p =
    let s : List ℕ = a.1.1.0.now in
    done_exactly (response_divides a.0 a.1.0.0) s p x (met ∙ done_valued (frame_of response_of s) (read_response (book_of a.0) a.1.0.0 s))

-- `parts` gives what tells these parts, and then the authorization area is the layout of the entries
pub command_parts_lem : Promised 1 command-parts-kinds.ps command-parts-kinds.r command-parts-reads.Post
    (λ κs a x later. AreBytes a.1.0.now
    → Tells Ok command_parts layout_command (CommandParts (book_of a.0)) a.1.0.now x
    × ((c : Command) → x ≡ Ok c → held_at c.auth a.1.0.now ≡ layout_entries 4 (command_parts a.1.0.now c).entries))
command_parts_lem κs a x v met p =
    let s : List ℕ = a.1.0.now in (
      tells (command_divides a.0) s p said Ok (λ c. refl) said_injective x met,
      (λ c is. command_auth a.0 s p c (sym met ∙ ap said is)),
    )

pub response_parts_lem : Promised 1 response-parts-kinds.ps response-parts-kinds.r response-parts-reads.Post
    (λ κs a x later. AreBytes a.1.1.0.now
    → Tells Ok response_parts layout_response (ResponseParts (book_of a.0) a.1.0.0) a.1.1.0.now x
    × ((r : Response) → x ≡ Ok r → held_at r.auth a.1.1.0.now ≡ layout_entries 0 (response_parts a.1.1.0.now r).entries))
response_parts_lem κs a x v met p =
    let s : List ℕ = a.1.1.0.now in (
      tells (response_divides a.0 a.1.0.0) s p said Ok (λ r. refl) said_injective x met,
      (λ r is. response_auth a.0 a.1.0.0 s p r (sym met ∙ ap said is)),
    )

-- ---- for whoever copies them: in the standard reading every nonce and every HMAC that `parts` gives has at most 64 bytes, and lies within the
-- frame

pub command_parts_fields : Promised 1 command-parts-kinds.ps command-parts-kinds.r command-parts-reads.Post
    (λ κs a x later. a.0.reading ≡ reading.Standard → (c : Command) → x ≡ Ok c
    → EachField (Kept 64 (length a.1.0.now)) (entries_of c.entries))
command_parts_fields κs a x v met by c is =
    rw by at (over.command_fields (book_of a.0) a.1.0.now c (sym met ∙ ap said is))

pub response_parts_fields : Promised 1 response-parts-kinds.ps response-parts-kinds.r response-parts-reads.Post
    (λ κs a x later. a.0.reading ≡ reading.Standard → (r : Response) → x ≡ Ok r
    → EachField (Kept 64 (length a.1.1.0.now)) (entries_of r.entries))
response_parts_fields κs a x v met by r is =
    rw by at (over-one.response_fields (book_of a.0) a.1.0.0 a.1.1.0.now r (sym met ∙ ap said is))
