-- The cases of an answer, from what was said of the sessions of the two frames.
-- Assumes nothing.
use mathlib.Core.Path.{◌≡◌, refl, subst, sym, ◌∙◌, ap}
use mathlib.Core.Bool.{Bool, true, false, not, cond}
use mathlib.Core.List.{List, [], ◌∷◌}
use Prim.Native.Nat.{ℕ, ◌≤◌}
use native.Mathlib.Omega.{arith}
use borrow.Author.Tests.{eq-eqb, ne_eqb}
use lib.Dec.{eqb}
use lib.ListN.{length}
use Rattle.base.specs.Said.{Why, Said, gives, refuses, then, done, after}
use Rattle.base.proofs.Checks.{needs_gives, then_gives, gives_injective, gives≢refuses}
use Rattle.frame.specs.declared.session.Entries.{Entries}
use Rattle.frame.specs.declared.session.Session.{Session}
use Rattle.frame.specs.Answer.{Signed, signed}
use Rattle.frame.specs.Command.{Division, read_command}
use Rattle.frame.specs.Header.{code_of}
use Rattle.frame.specs.Parts.{Kept, EachField, entries_of}
use Rattle.frame.specs.Response.{read_response}
use Rattle.frame.specs.Walk.{by_value}
use Rattle.frame.proofs.CommandLaws.{signed_command}
use Rattle.frame.proofs.Divisions.{entries_of_lem}
use Rattle.frame.proofs.ResponseLaws.{signed_response, response_division_fields}
use Rattle.frame.proofs.Walks.{step_refused}
use Rattle.table.specs.declared.revision.Revision.{Revision}
use Rattle.keeper.specs.Keeper.{Open, standard, Exchange, exchange, repeated, moves, settling, moving, moved, answered}
use Rattle.keeper.specs.History.{moves_of}
use Rattle.keeper.specs.State.{held, moved_in}
use Rattle.keeper.proofs.Calls.{Does}
use Rattle.keeper.proofs.Moves.{Short, field_short, held_moved}

abbrev signed_by : ℕ → Entries → Signed
signed_by code entries = record { code = code; entries = entries }

-- ---- what is moved

-- the moves that are made are those of the two frames, and there is room for each nonce
module _ (table : Revision) (command response : List ℕ) where
  settled_moves : (named given : List Session) (xs ms : List Open) → settling response named given xs ≡ gives ms → ms ≡ moves response named given
  unfolding settling
  settled_moves named given xs ms e =
      let first = needs_gives (not (repeated named xs)) _ _ e in
      let second = needs_gives (eqb (length named) (length given)) _ _ first.1 in
      sym (gives_injective second.1)

  short_moves : (limit : ℕ) → limit ≤ 64 → (named given : List Session) → EachField (Kept limit (length response)) given → Short (moves response named given)
  unfolding moves
  short_moves limit few [] given each = tt
  short_moves limit few (e ∷ es) [] each = tt
  short_moves limit few (e ∷ es) (f ∷ fs) each =
      let kept = each.0.0.0 in
      (field_short response f.nonce (omega arith), short_moves limit few es fs each.1)

  exchange_short : (e : Exchange) → exchange table command response ≡ gives e → Short (moves response e.named e.given)
  unfolding exchange
  exchange_short e told =
      let first = then_gives (read_command (standard table) command) _ told in
      let second = then_gives (read_response (standard table) (code_of command) response) _ first.2 in
      let fields = response_division_fields (standard table) (code_of command) response second.0 second.1 in
      subst (λ (x : Exchange). Short (moves response x.named x.given)) (gives_injective second.2)
      (short_moves 64 (omega arith) first.0.entries second.0.entries fields.1)

  pub moving_told : (xs ms : List Open) → moving table command response xs ≡ gives ms → (ms ≡ moves_of response (exchange table command response)) × Short ms
  unfolding moving
  moving_told xs ms told = by (exchange table command response) refl told
    where
      success : (e : Exchange) → exchange table command response ≡ gives e → (b : Bool)
          → cond b (settling response e.named e.given xs) (gives []) ≡ gives ms → (ms ≡ cond b (moves response e.named e.given) []) × Short ms
      success e is true told =
          let this = settled_moves e.named e.given xs ms told in
          (this, rw this (exchange_short e is))
      success e is false told = let none = gives_injective told in (sym none, rw (← none) tt)

      by : (said : Said Exchange) → exchange table command response ≡ said → then said (λ e. cond e.success (settling response e.named e.given xs) (gives [])) ≡ gives ms
          → (ms ≡ moves_of response said) × Short ms
      by (gives e) is told = success e is e.success told
      by (refuses why) is told = absurd (gives≢refuses (sym told))

-- ---- what is said of the sessions, of the bytes too

module _ (table : Revision) (command response s : List ℕ) (all : length s ≡ 4424) where
  abbrev Answers : Said (Unit {0}) → List ℕ → Type 0
  Answers answer later = Does answer s later (answered table command response (held s)) (moving table command response (held s)) (λ ms. moved_in ms s)

  pub answers_as : (said : Said (List Open)) → said ≡ moving table command response (held s) → {answer : Said (Unit {0})} {later : List ℕ}
      → answer ≡ done said → later ≡ after s (then said λ ms. gives (moved_in ms s)) → Answers answer later
  unfolding answered
  answers_as (gives ms) e {answer} {later} a l =
      let short = (moving_told table command response (held s) ms (sym e)).1 in
      rw (← e) (a, (ap held l ∙ (held_moved ms short s all).0, l))
  answers_as (refuses why) e {answer} {later} a l = rw (← e) (a, (ap held l, l))

-- a refused one, and one that moves nothing, leave the bytes as they were, whatever they are
module _ (table : Revision) (command response s : List ℕ) where
  pub answers_none : {why : Why} → refuses why ≡ moving table command response (held s)
      → Does (refuses why) s s (answered table command response (held s)) (moving table command response (held s)) (λ ms. moved_in ms s)
  unfolding answered
  answers_none e = rw (← e) (refl, (refl, refl))

  pub answers_idle : gives [] ≡ moving table command response (held s)
      → Does (gives tt) s s (answered table command response (held s)) (moving table command response (held s)) (λ ms. moved_in ms s)
  unfolding answered moved moved_in
  answers_idle e = rw (← e) (refl, (refl, refl))

-- ---- the two frames

module _ (table : Revision) (command response : List ℕ) where
  pub command_refused : {why : Why} → refuses why ≡ signed command (read_command (standard table) command) → (xs : List Open) → refuses why ≡ moving table command response xs
  unfolding moving exchange
  command_refused said xs =
      let read = step_refused (λ (d : Division). signed_by (code_of command) (by_value d.entries)) (read_command (standard table) command) said in
      rw (← read) refl

  module _ {cc : ℕ} {named : Entries} (first : gives (signed_by cc named) ≡ signed command (read_command (standard table) command)) where
    command_told : (d : Division) × (read_command (standard table) command ≡ gives d) × (length d.entries ≤ 3) × (signed_by cc named ≡ signed_by (code_of command) (by_value d.entries))
    command_told = signed_command (standard table) command (signed_by cc named) (sym first)

    command_code : cc ≡ code_of command
    command_code = ap (λ (x : Signed). x.code) command_told.3

    pub command_few : named.count ≤ 3
    command_few = rw (ap (λ (x : Signed). x.entries.count) command_told.3) command_told.2

    command_entries : entries_of named ≡ command_told.0.entries
    command_entries = ap (λ (x : Signed). entries_of x.entries) command_told.3 ∙ entries_of_lem command_told.0.entries command_told.2

    pub response_refused : {why : Why} → refuses why ≡ signed response (read_response (standard table) cc response) → (xs : List Open) → refuses why ≡ moving table command response xs
    unfolding moving exchange
    response_refused said xs =
        let read = step_refused (λ (d : Division). signed_by (code_of response) (by_value d.entries)) (read_response (standard table) cc response) said in
        rw (command_told.1, ← command_code, ← read) refl

    module _ {rc : ℕ} {given : Entries} (second : gives (signed_by rc given) ≡ signed response (read_response (standard table) cc response)) where
      response_told : (d : Division) × (read_response (standard table) cc response ≡ gives d) × (length d.entries ≤ 3) × (signed_by rc given ≡ signed_by (code_of response) (by_value d.entries))
      response_told = signed_response (standard table) cc response (signed_by rc given) (sym second)

      pub response_few : given.count ≤ 3
      response_few = rw (ap (λ (x : Signed). x.entries.count) response_told.3) response_told.2

      response_entries : entries_of given ≡ response_told.0.entries
      response_entries = ap (λ (x : Signed). entries_of x.entries) response_told.3 ∙ entries_of_lem response_told.0.entries response_told.2

      pub response_kept : EachField (Kept 64 (length response)) (entries_of given)
      response_kept = rw response_entries (response_division_fields (standard table) cc response response_told.0 response_told.1).1

      exchanged : gives (record { success = eqb rc 0; named = entries_of named; given = entries_of given }) ≡ exchange table command response
      unfolding exchange
      exchanged =
          rw (command_told.1, ← command_code, response_told.1)
          (λ k. gives (record {
            success = eqb (ap (λ (x : Signed). x.code) response_told.3 k) 0;
            named = command_entries k;
            given = response_entries k;
          }))

      pub answered_success : rc ≡ 0 → (xs : List Open) → settling response (entries_of named) (entries_of given) xs ≡ moving table command response xs
      unfolding moving
      answered_success e xs = rw (← exchanged, eq-eqb rc 0 e) refl

      pub answered_error : (rc ≡ 0 → ⊥) → (xs : List Open) → gives [] ≡ moving table command response xs
      unfolding moving
      answered_error e xs = rw (← exchanged, ne_eqb rc 0 e) refl
