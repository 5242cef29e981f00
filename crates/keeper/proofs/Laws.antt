-- What is promised of the keeper, for a reviewer: each call does as its history event says, and what a history tells is what is kept.
-- Assumes nothing.
use mathlib.Core.Path.{◌≡◌, refl, sym, ◌∙◌, ap}
use mathlib.Core.Bool.{Bool, true, false, not, ◌&&◌, ◌||◌, cond, false≢true}
use mathlib.Core.List.{List, [], ◌∷◌}
use mathlib.Core.Logic.{◌↔◌}
use Prim.Native.Nat.{ℕ, zero, suc, ◌+◌, ◌-◌, ◌≤◌, ◌<◌}
use native.Mathlib.Omega.{arith}
use borrow.Author.Tests.{eqb-true, eq-eqb, ne_eqb, le-leb, le-ltb, lt-ltb, leb-true, ltb-false, not-true}
use borrow.Fn.Kinds.{Dens, res_t, ended_of}
use contract.Lifetimes.{Lfts}
use denote.Triple.Clauses.{Lasts, at_exit}
use lib.Dec.{eqb, leb, ltb}
use lib.ListN.{length, get_or, set, replicate}
use Rattle.base.specs.Said.{number_of, no_area, Said, gives, refuses, needs, then, given, done, after}
use Rattle.base.proofs.Checks.{needs_gives, then_gives, refuses_injective, gives≢refuses}
use Rattle.frame.specs.declared.session.Session.{Session}
use Rattle.frame.specs.Command.{Division, read_command}
use Rattle.frame.specs.Header.{code_of}
use Rattle.frame.specs.Parts.{field_in}
use Rattle.frame.specs.Response.{read_response}
use Rattle.frame.specs.Walk as walked
use Rattle.table.specs.declared.revision.Revision.{Revision}
use Rattle.table.specs.Dispatch.{table_of}
use Rattle.table.specs.Table.{row_for, Alike}
use Rattle.table.specs.declared.row.Row.{Row}
use Rattle.table.proofs.Table.{is_table}
use Rattle.frame.specs.declared.rules.Reading.TheVariants as reading
use Rattle.frame.proofs.ResponseLaws.{response_row}
use Rattle.frame.proofs.Revisions.{same_command, same_response}
use Rattle.keeper.specs.Keeper.{Open, session, already_open, all_open, is_open, asked, opened, closed, standard, Exchange, exchange, is_named, repeated, moves, settling, moving, moved, answered}
use Rattle.keeper.specs.State.{count_of, held, place_of, put, shifted, opened_in, closed_in, moved_in, answered_in, bytes_of}
use Rattle.keeper.specs.History.{Call, opening, answering, closing, asking, counting, silently, says, leaves, Event, Fits, Ran, fresh, next, moves_of, last_of, changed, told, recount, open_told, names}
use Rattle.keeper.specs.Refusal.{said_done, said_asked}
use Rattle.keeper.proofs.Found.{length_held}
use Rattle.keeper.proofs.Places.{count_most}
use Rattle.keeper.proofs.Runs.{opened_tests, ran_sound, none_held, kept_told, length_after}
use Rattle.keeper.proofs.Sessions.{neither, open_answers}
use Rattle.keeper.proofs.session.new.Kinds as new-kinds
use Rattle.keeper.proofs.session.new.Reads as new-reads
use Rattle.keeper.proofs.session.len.Kinds as len-kinds
use Rattle.keeper.proofs.session.len.Reads as len-reads
use Rattle.keeper.proofs.session.open.Kinds as open-kinds
use Rattle.keeper.proofs.session.open.Reads as open-reads
use Rattle.keeper.proofs.session.close.Kinds as close-kinds
use Rattle.keeper.proofs.session.close.Reads as close-reads
use Rattle.keeper.proofs.session.ask.Kinds as ask-kinds
use Rattle.keeper.proofs.session.ask.Reads as ask-reads
use Rattle.keeper.proofs.answer.answer.Kinds as answer-kinds
use Rattle.keeper.proofs.answer.answer.Reads as answer-reads

-- ---- each call is an event: whatever result and later bytes meet its contract, it says and leaves what the event does

silent_done : {A : Type 0} (said : Said A) → silently (done said) ≡ silently said
silent_done (gives a) = refl
silent_done (refuses why) = refl

pub new_starts : (κs : Lfts 1) (a : Dens κs new-kinds.ps) (x : (res_t new-kinds.r κs).Denot) (v : Lasts (ended_of 1 new-kinds.ps new-kinds.r) κs a)
    → new-reads.Post κs a x (at_exit (ended_of 1 new-kinds.ps new-kinds.r) κs a v) → v.0 ≡ replicate 4424 0
new_starts κs a x v met = met

pub open_steps : (κs : Lfts 2) (a : Dens κs open-kinds.ps) (x : (res_t open-kinds.r κs).Denot) (v : Lasts (ended_of 2 open-kinds.ps open-kinds.r) κs a)
    → open-reads.Post κs a x (at_exit (ended_of 2 open-kinds.ps open-kinds.r) κs a v)
    → (silently (said_done x) ≡ says (opening a.1.0 a.1.1.0.now) (held a.0.now)) × (v.0 ≡ leaves (opening a.1.0 a.1.1.0.now) a.0.now)
open_steps κs a x v met = (ap silently met.0 ∙ silent_done (opened a.1.0 a.1.1.0.now (held a.0.now)), met.1.1)

pub close_steps : (κs : Lfts 1) (a : Dens κs close-kinds.ps) (x : (res_t close-kinds.r κs).Denot) (v : Lasts (ended_of 1 close-kinds.ps close-kinds.r) κs a)
    → close-reads.Post κs a x (at_exit (ended_of 1 close-kinds.ps close-kinds.r) κs a v)
    → (silently (said_done x) ≡ says (closing a.1.0) (held a.0.now)) × (v.0 ≡ leaves (closing a.1.0) a.0.now)
close_steps κs a x v met = (ap silently met.0 ∙ silent_done (closed a.1.0 (held a.0.now)), met.1.1)

pub answer_steps : (κs : Lfts 3) (a : Dens κs answer-kinds.ps) (x : (res_t answer-kinds.r κs).Denot) (v : Lasts (ended_of 3 answer-kinds.ps answer-kinds.r) κs a)
    → answer-reads.Post κs a x (at_exit (ended_of 3 answer-kinds.ps answer-kinds.r) κs a v)
    → (silently (said_done x) ≡ says (answering a.0 a.1.1.0.now a.1.1.1.0.now) (held a.1.0.now))
    × (v.1.0 ≡ leaves (answering a.0 a.1.1.0.now a.1.1.1.0.now) a.1.0.now)
answer_steps κs a x v met = (ap silently met.0 ∙ silent_done (answered a.0 a.1.1.0.now a.1.1.1.0.now (held a.1.0.now)), met.1.1)

pub ask_says : (κs : Lfts 1) (a : Dens κs ask-kinds.ps) (x : (res_t ask-kinds.r κs).Denot) (v : Lasts (ended_of 1 ask-kinds.ps ask-kinds.r) κs a)
    → ask-reads.Post κs a x (at_exit (ended_of 1 ask-kinds.ps ask-kinds.r) κs a v)
    → bytes_of (said_asked x) a.0.now ≡ says (asking a.1.0) (held a.0.now)
ask_says κs a x v met = met.0

pub len_says : (κs : Lfts 1) (a : Dens κs len-kinds.ps) (x : (res_t len-kinds.r κs).Denot) (v : Lasts (ended_of 1 len-kinds.ps len-kinds.r) κs a)
    → len-reads.Post κs a x (at_exit (ended_of 1 len-kinds.ps len-kinds.r) κs a v) → gives (x ∷ []) ≡ says counting (held a.0.now)
len_says κs a x v met = ap (λ (n : ℕ). gives (n ∷ [])) met

-- ---- the theorem of the keeper: after any run from a new one, what is answered for a handle is what the history tells of it

pub keeper_tells : (past : List Event) (s : List ℕ) → Ran past s → (handle : ℕ) → says (asking handle) (held s) ≡ told handle past
keeper_tells = kept_told

-- a handle is open exactly when the history tells a nonce for it
pub open_told_lem : (past : List Event) (s : List ℕ) → Ran past s → (handle : ℕ) → is_open handle (held s) ≡ given (told handle past)
open_told_lem past s ran handle = open_answers handle (held s) ∙ ap given (kept_told past s ran handle)

-- two runs with the same calls and the same answers keep the same
pub alike : (past : List Event) (s other : List ℕ) → Ran past s → Ran past other → (handle : ℕ) → asked handle (held s) ≡ asked handle (held other)
alike past s other ran runs handle = kept_told past s ran handle ∙ sym (kept_told past other runs handle)

-- as many are open as the history tells
pub count_told : (past : List Event) (s : List ℕ) → Ran past s → length (held s) ≡ open_told past
unfolding open_told
count_told [] s fresh = ap length none_held
count_told (e ∷ past) s (next {s = before} ran call fits) =
    length_after before (ran_sound past before ran) call fits
    ∙ ap (λ (n : ℕ). cond (given (says call (held before))) (recount call n) n) (count_told past before ran)

-- ---- 16 exactly when 64 are open, for a handle that is not, with a nonce that is not too long

module _ (handle : ℕ) (nonce : List ℕ) (xs : List Open) (most : length xs ≤ 64) where
  full_tests : opened handle nonce xs ≡ refuses all_open → (is_open handle xs ≡ false) × (length nonce ≤ 64) × (length xs ≡ 64)
  unfolding opened
  full_tests e = by (is_open handle xs) refl (leb (length nonce) 64) refl (ltb (length xs) 64) refl e
    where
      by : (a : Bool) → is_open handle xs ≡ a → (b : Bool) → leb (length nonce) 64 ≡ b → (c : Bool) → ltb (length xs) 64 ≡ c
          → needs (not a) already_open (needs b (no_area (8 ∷ 0 ∷ 64 ∷ length nonce ∷ [])) (needs c all_open (gives (session handle nonce ∷ xs)))) ≡ refuses all_open
          → (is_open handle xs ≡ false) × (length nonce ≤ 64) × (length xs ≡ 64)
      by true a b e c f told = absurd (let same : ◌≡◌ {A = ℕ} 15 16 = ap number_of (refuses_injective told) in omega arith)
      by false a false e c f told = absurd (let same : ◌≡◌ {A = ℕ} 8 16 = ap number_of (refuses_injective told) in omega arith)
      by false a true e true f told = absurd (gives≢refuses told)
      by false a true e false f told = (a, leb-true (length nonce) 64 e, (let many = ltb-false (length xs) 64 f in omega arith))

  full_given : (is_open handle xs ≡ false) × (length nonce ≤ 64) × (length xs ≡ 64) → opened handle nonce xs ≡ refuses all_open
  unfolding opened
  full_given t = let all = t.2 in rw (t.0, le-leb (length nonce) 64 t.1, le-ltb (length xs) 64 (omega arith)) refl

  pub full_exactly : (opened handle nonce xs ≡ refuses all_open) ↔ ((is_open handle xs ≡ false) × (length nonce ≤ 64) × (length xs ≡ 64))
  full_exactly = (full_tests, full_given)

-- in a run, by the history
pub full_told : (past : List Event) (s : List ℕ) → Ran past s → (handle : ℕ) (nonce : List ℕ)
    → (opened handle nonce (held s) ≡ refuses all_open) ↔ ((given (told handle past) ≡ false) × (length nonce ≤ 64) × (open_told past ≡ 64))
full_told past s ran handle nonce =
    let most : length (held s) ≤ 64 = rw (length_held s) (count_most s) in
    let both = full_exactly handle nonce (held s) most in (
      (λ e. let t = both.0 e in (sym (open_told_lem past s ran handle) ∙ t.0, t.1, sym (count_told past s ran) ∙ t.2)),
      (λ t. both.1 (open_told_lem past s ran handle ∙ t.0, t.1, count_told past s ran ∙ t.2)),
    )

-- ---- what moves nothing, whatever the bytes

untouched : (s later : List ℕ) (said : Said (List Open)) → given (silently said) ≡ false → after s (then said λ xs. gives later) ≡ s
untouched s later (gives xs) e = absurd (false≢true (sym e))
untouched s later (refuses why) e = refl

-- a refused call
pub refused_leaves : (call : Call) (s : List ℕ) → given (says call (held s)) ≡ false → leaves call s ≡ s
unfolding opened_in closed_in answered_in answered
refused_leaves (opening handle nonce) s e = untouched s (set (put (count_of s) handle nonce s) 0 (count_of s + 1)) (opened handle nonce (held s)) e
refused_leaves (answering table command response) s e = by (moving table command response (held s)) e
  where
    by : (said : Said (List Open)) → given (silently (then said λ ms. gives (moved ms (held s)))) ≡ false → after s (then said λ ms. gives (moved_in ms s)) ≡ s
    by (gives xs) e = absurd (false≢true (sym e))
    by (refuses why) e = refl
refused_leaves (closing handle) s e = untouched s (set (shifted (count_of s - 1) (place_of s handle - 1) s) 0 (count_of s - 1)) (closed handle (held s)) e
refused_leaves (asking handle) s e = refl
refused_leaves counting s e = refl

-- an error response that passes, which is accepted
pub error_leaves : (table : Revision) (command response s : List ℕ) (e : Exchange) → exchange table command response ≡ gives e → e.success ≡ false
    → (says (answering table command response) (held s) ≡ gives []) × (leaves (answering table command response) s ≡ s)
unfolding answered answered_in moving moved moved_in
error_leaves table command response s e is error = rw (is, error) (refl, refl)

-- what is kept for a handle that the call does not name
unnamed_last : (handle : ℕ) (ms : List Open) → is_open handle ms ≡ false → (before : List ℕ) → last_of handle ms before ≡ before
unfolding is_open last_of
unnamed_last handle [] e before = refl
unnamed_last handle (m ∷ ms) e before = by (eqb m.handle handle) e (unnamed_last handle ms)
  where
    by : (b : Bool) → (b || is_open handle ms) ≡ false → (is_open handle ms ≡ false → (old : List ℕ) → last_of handle ms old ≡ old)
        → last_of handle ms (cond b m.nonce before) ≡ before
    by true e rest = absurd (false≢true (sym e))
    by false e rest = rest e before

unnamed_same : (handle : ℕ) (call : Call) (before : Said (List ℕ)) → names handle call ≡ false → changed handle call before ≡ before
unnamed_same handle (opening other nonce) before e = rw e refl
unnamed_same handle (answering table command response) (gives nonce) e = ap gives (unnamed_last handle (moves_of response (exchange table command response)) e nonce)
unnamed_same handle (answering table command response) (refuses why) e = refl
unnamed_same handle (closing other) before e = rw e refl
unnamed_same handle (asking other) before e = refl
unnamed_same handle counting before e = refl

pub others_stay : (past : List Event) (s : List ℕ) → Ran past s → (call : Call) → Fits call → (handle : ℕ) → names handle call ≡ false
    → asked handle (held (leaves call s)) ≡ asked handle (held s)
unfolding told
others_stay past s ran call fits handle e =
    kept_told _ (leaves call s) (next ran call fits) handle ∙ by (given (says call (held s))) ∙ sym (kept_told past s ran handle)
  where
    by : (b : Bool) → cond b (changed handle call (told handle past)) (told handle past) ≡ told handle past
    by true = unnamed_same handle call (told handle past) e
    by false = refl

-- ---- in an accepted success an open handle stands once, and gets the nonce at its own position

unnamed_among : (response : List ℕ) (handle : ℕ) (es fs : List Session) → is_named handle es ≡ false → is_open handle (moves response es fs) ≡ false
unfolding is_named is_open moves
unnamed_among response handle [] fs e = refl
unnamed_among response handle (x ∷ es) [] e = refl
unnamed_among response handle (x ∷ es) (f ∷ fs) e = by (eqb x.handle handle) e (unnamed_among response handle es fs)
  where
    by : (b : Bool) → (b || is_named handle es) ≡ false → (is_named handle es ≡ false → is_open handle (moves response es fs) ≡ false)
        → (b || is_open handle (moves response es fs)) ≡ false
    by true e rest = absurd (false≢true (sym e))
    by false e rest = rest e

other_false : (a b : Bool) → a ≡ true → (a && b) ≡ false → b ≡ false
other_false true b e f = f
other_false false b e f = absurd (false≢true e)

pub at_position : (response : List ℕ) (xs : List Open) (handle : ℕ) → is_open handle xs ≡ true
    → (named given : List Session) → repeated named xs ≡ false → length named ≡ length given
    → (i : ℕ) → i < length named → (get_or named i walked.none).handle ≡ handle
    → (before : List ℕ) → last_of handle (moves response named given) before ≡ field_in response (get_or given i walked.none).nonce
unfolding repeated moves last_of
at_position response xs handle was [] given once long i h at before = absurd (omega arith)
at_position response xs handle was (e ∷ es) [] once long i h at before = absurd (omega arith)
at_position response xs handle was (e ∷ es) (f ∷ fs) once long zero h at before =
    let apart = neither (is_open e.handle xs && is_named e.handle es) (repeated es xs) once in
    let alone : is_named handle es ≡ false = rw at at (other_false (is_open e.handle xs) (is_named e.handle es) (rw at was) apart.0) in
    ap (λ (b : Bool). last_of handle (moves response es fs) (cond b (field_in response f.nonce) before)) (eq-eqb e.handle handle at)
    ∙ unnamed_last handle (moves response es fs) (unnamed_among response handle es fs alone) (field_in response f.nonce)
at_position response xs handle was (e ∷ es) (f ∷ fs) once long (suc i) h at before =
    at_position response xs handle was es fs (neither (is_open e.handle xs && is_named e.handle es) (repeated es xs) once).1 (omega arith) i (omega arith) at
    (cond (eqb e.handle handle) (field_in response f.nonce) before)

-- ---- by the frames alone: what the two readings give, the code of the response, and the entries of both

module _ (table : Revision) (command response : List ℕ) (c r : Division) (first : read_command (standard table) command ≡ gives c)
    (second : read_response (standard table) (code_of command) response ≡ gives r) where
  both_read : exchange table command response ≡ gives (record { success = eqb (code_of response) 0; named = c.entries; given = r.entries })
  unfolding exchange
  both_read = rw (first, second) refl

  -- a code other than success moves nothing
  pub error_code_leaves : (code_of response ≡ 0 → ⊥) → (s : List ℕ)
      → (says (answering table command response) (held s) ≡ gives []) × (leaves (answering table command response) s ≡ s)
  error_code_leaves other s =
      error_leaves table command response s (record { success = eqb (code_of response) 0; named = c.entries; given = r.entries }) both_read
      (ne_eqb (code_of response) 0 other)

  module _ (success : code_of response ≡ 0) where
    these : moves_of response (exchange table command response) ≡ moves response c.entries r.entries
    these = ap (moves_of response) both_read ∙ ap (λ (b : Bool). cond b (moves response c.entries r.entries) []) (eq-eqb (code_of response) 0 success)

    settled : (xs : List Open) → says (answering table command response) xs ≡ gives [] → (repeated c.entries xs ≡ false) × (length c.entries ≡ length r.entries)
    unfolding answered moving settling
    settled xs e =
        let done = then_gives (answered table command response xs) _ e in
        let made = then_gives (moving table command response xs) _ done.1 in
        let judged : settling response c.entries r.entries xs ≡ gives made.0 =
        ap (λ (b : Bool). cond b (settling response c.entries r.entries xs) (gives [])) (sym (eq-eqb (code_of response) 0 success))
        ∙ ap (λ (x : Said Exchange). then x λ e. cond e.success (settling response e.named e.given xs) (gives [])) (sym both_read) ∙ made.1 in
        let once = needs_gives (not (repeated c.entries xs)) _ _ judged in
        let alike = needs_gives (eqb (length c.entries) (length r.entries)) _ _ once.1 in
        (not-true (repeated c.entries xs) once.0, eqb-true (length c.entries) (length r.entries) alike.0)

    -- success that is accepted moves each open session of the command to the nonce at the same position of the response
    pub success_moves : (past : List Event) (s : List ℕ) → Ran past s → says (answering table command response) (held s) ≡ gives []
        → (handle : ℕ) → is_open handle (held s) ≡ true → (i : ℕ) → i < length c.entries → (get_or c.entries i walked.none).handle ≡ handle
        → asked handle (held (leaves (answering table command response) s)) ≡ gives (field_in response (get_or r.entries i walked.none).nonce)
    unfolding told
    success_moves past s ran said handle was i inside at =
        let judged = settled (held s) said in
        kept_told _ (leaves (answering table command response) s) (next ran (answering table command response) tt) handle
        ∙ ap (λ (x : Said (List ℕ)). cond (given x) (changed handle (answering table command response) (told handle past)) (told handle past)) said
        ∙ ap (changed handle (answering table command response)) (sym (kept_told past s ran handle))
        ∙ by (asked handle (held s)) (sym (open_answers handle (held s)) ∙ was) judged
      where
        by : (before : Said (List ℕ)) → given before ≡ true → (repeated c.entries (held s) ≡ false) × (length c.entries ≡ length r.entries)
            → changed handle (answering table command response) before ≡ gives (field_in response (get_or r.entries i walked.none).nonce)
        by (gives old) e judged =
            ap (λ (ms : List Open). gives (last_of handle ms old)) these
            ∙ ap gives (at_position response (held s) handle was c.entries r.entries judged.0 judged.1 i inside at old)
        by (refuses why) e judged = absurd (false≢true e)

-- ---- opening is done exactly where the handle is not open, the nonce is not too long and there is a place

module _ (handle : ℕ) (nonce : List ℕ) (xs : List Open) where
  opens_only : opened handle nonce xs ≡ gives (session handle nonce ∷ xs) → (is_open handle xs ≡ false) × (length nonce ≤ 64) × (length xs < 64)
  opens_only e = let test = opened_tests handle nonce xs (session handle nonce ∷ xs) e in (test.0, test.1, test.2)

  opens_where : (is_open handle xs ≡ false) × (length nonce ≤ 64) × (length xs < 64) → opened handle nonce xs ≡ gives (session handle nonce ∷ xs)
  unfolding opened
  opens_where t = rw (t.0, le-leb (length nonce) 64 t.1, lt-ltb (length xs) 64 t.2) refl

  pub opens_exactly : (opened handle nonce xs ≡ gives (session handle nonce ∷ xs)) ↔ ((is_open handle xs ≡ false) × (length nonce ≤ 64) × (length xs < 64))
  opens_exactly = (opens_only, opens_where)

-- ---- an answer that is accepted at a table is to a command of that table (document 02, W10)

pub accepted_row : (table : Revision) (command response : List ℕ) (xs : List Open) → says (answering table command response) xs ≡ gives []
    → (row : Row) × (row_for (table_of table) (code_of command) ≡ gives row)
unfolding answered moving exchange
accepted_row table command response xs e =
    let done = then_gives (answered table command response xs) _ e in
    let made = then_gives (moving table command response xs) _ done.1 in
    let both = then_gives (exchange table command response) _ made.1 in
    let first = then_gives (read_command (standard table) command) _ both.1 in
    let second = then_gives (read_response (standard table) (code_of command) response) _ first.2 in
    response_row (standard table) (code_of command) response second.0 second.1

-- ---- two tables in which the command's code stands with equal counts: an answer is judged the same, and moves the same

module _ (table other : Revision) (command response : List ℕ) (same : Alike (table_of table) (table_of other) (code_of command)) where
  same_exchange : exchange table command response ≡ exchange other command response
  unfolding exchange
  same_exchange =
      rw (
        same_command (is_table table) (is_table other) reading.Standard (code_of command) same command refl,
        same_response (is_table table) (is_table other) reading.Standard (code_of command) same response,
      ) refl

  pub same_answer : (s : List ℕ) → (says (answering table command response) (held s) ≡ says (answering other command response) (held s))
      × (leaves (answering table command response) s ≡ leaves (answering other command response) s)
  unfolding answered answered_in moving
  same_answer s = (rw same_exchange refl, rw same_exchange refl)
