-- The cases of what the writers judge, each from the tests that lead to it.
-- Assumes nothing.
use mathlib.Core.Path.{◌≡◌, refl, ◌∙◌, ap}
use mathlib.Core.Bool.{Bool, true, false, cond}
use mathlib.Core.List.{List, [], ◌∷◌}
use Prim.Native.Nat.{ℕ, ◌+◌, ◌*◌, ◌≤◌, ◌<◌}
use native.Mathlib.Omega.{arith}
use borrow.Author.Tests.{le-leb, lt-leb, leb-true, leb-false}
use lib.Dec.{eqb, leb}
use lib.ListN.{length}
use Rattle.std.specs.Prelude.{min}
use Rattle.std.proofs.Math.Nat.{min-eq_left, min-eq_right, min-le_left}
use Rattle.base.specs.declared.error.TpmError.{TpmError}
use Rattle.base.specs.declared.error.WriteError.{WriteError}
use Rattle.base.specs.declared.error.WriteError.TheVariants.{Common}
use Rattle.base.specs.Error.{numbered, writer_numbered}
use Rattle.base.specs.Said.{Why, no_area, Said, gives, refuses, needs, then}
use Rattle.base.proofs.Checks.{passes, fails, goes_on, stops}
use Rattle.frame.specs.declared.session.Session.{Session}
use Rattle.frame.specs.Answer.{handle_width}
use Rattle.frame.specs.Header.{sessions}
use Rattle.frame.specs.Parts.{entries_of}
use Rattle.marshal.specs.Handed.{Handed}
use Rattle.marshal.specs.Looked.{handles_there, sized}
use Rattle.marshal.specs.Write.{capped, session_there, sessions_there, entries_length, total_size, fitted, judged}

pub handle_width_lem : (b : Bool) → handle_width b ≤ 4
handle_width_lem true = omega arith
handle_width_lem false = omega arith

-- what a writer refuses with in common with readers is told as readers tell it
pub told : {A : Type 0} {w : WriteError} {e : TpmError} {why : Why} → w ≡ Common e → numbered e ≡ why → ◌≡◌ {A = Said A} (refuses (writer_numbered w)) (refuses why)
told is tells = ap (λ (w : WriteError). refuses (writer_numbered w)) is ∙ ap refuses tells

-- ---- what is found of the sessions

module _ (limit len : ℕ) where
  pub none_there : gives tt ≡ sessions_there limit len []
  unfolding sessions_there
  none_there = refl

  module _ (e : Session) (es : List Session) where
    pub first_missing : {why : Why} → refuses why ≡ session_there limit len e → refuses why ≡ sessions_there limit len (e ∷ es)
    unfolding sessions_there
    first_missing missing = stops (session_there limit len e) _ missing

    pub first_there : gives tt ≡ session_there limit len e → sessions_there limit len es ≡ sessions_there limit len (e ∷ es)
    unfolding sessions_there
    first_there there = goes_on (session_there limit len e) _ there

  pub last_there : (e : Session) → session_there limit len e ≡ sessions_there limit len (e ∷ [])
  unfolding sessions_there
  last_there e = by (session_there limit len e)
    where
      by : (s : Said (Unit {0})) → s ≡ then s (λ first. gives tt)
      by (gives u) = refl
      by (refuses why) = refl

-- ---- the total

-- a sum that stops at the largest number
pub sum_capped : (n : ℕ) → min n 18446744073709551615 ≡ capped n
sum_capped n = by (leb n 18446744073709551615) refl
  where
    by : (b : Bool) → leb n 18446744073709551615 ≡ b → min n 18446744073709551615 ≡ cond b n 18446744073709551615
    by true e = min-eq_left (leb-true n 18446744073709551615 e)
    by false e = let more = leb-false n 18446744073709551615 e in min-eq_right (omega arith)

module _ (n room : ℕ) {total : ℕ} (sum : total ≡ min n 18446744073709551615) where
  pub too_large : 4294967295 < total → refuses (no_area (7 ∷ 0 ∷ total ∷ [])) ≡ sized n room
  too_large large =
      let most = min-le_left n 18446744073709551615 in
      ap (λ (k : ℕ). refuses (no_area (7 ∷ 0 ∷ k ∷ []))) (sum ∙ sum_capped n)
      ∙ fails (leb n 4294967295) _ (fitted n room) (lt-leb n 4294967295 (omega arith))

  pub total_fits : total ≤ 4294967295 → fitted total room ≡ sized n room
  total_fits small =
      let whole : total ≡ n = by (leb n 18446744073709551615) refl in
      ap (λ (k : ℕ). fitted k room) whole ∙ passes (leb n 4294967295) _ (fitted n room) (le-leb n 4294967295 (omega arith))
    where
      by : (b : Bool) → leb n 18446744073709551615 ≡ b → total ≡ n
      by true e = sum ∙ min-eq_left (leb-true n 18446744073709551615 e)
      by false e =
          let more = leb-false n 18446744073709551615 e in
          let most : total ≡ 18446744073709551615 = sum ∙ min-eq_right (omega arith) in
          absurd (omega arith)

-- ---- what is judged from the handles on, step by step

module _ (limit width tag handles : ℕ) (h : Handed) (room : ℕ) where
  abbrev behind_handles : Said ℕ
  behind_handles = then (sessions_there limit (length h.lent) (entries_of h.sessions)) λ there. sized (total_size width tag h) room

  from_handles : then (handles_there handles (length h.handles)) (λ there. behind_handles) ≡ judged limit width tag handles h room
  unfolding judged
  from_handles = by (leb (4 * handles) (length h.handles)) (leb (length h.handles) (4 * handles)) _ _ behind_handles
    where
      by : {A : Type 0} (a b : Bool) (v w : Why) (rest : Said A) → then (needs a v (needs b w (gives (tt {0})))) (λ there. rest) ≡ needs a v (needs b w rest)
      by true true v w rest = refl
      by true false v w rest = refl
      by false b v w rest = refl

  pub handles_missing : {why : Why} → refuses why ≡ handles_there handles (length h.handles) → refuses why ≡ judged limit width tag handles h room
  handles_missing missing = stops (handles_there handles (length h.handles)) _ missing ∙ from_handles

  module _ (all : gives tt ≡ handles_there handles (length h.handles)) where
    handles_found : behind_handles ≡ judged limit width tag handles h room
    handles_found = goes_on (handles_there handles (length h.handles)) _ all ∙ from_handles

    pub field_missing : {why : Why} → refuses why ≡ sessions_there limit (length h.lent) (entries_of h.sessions) → refuses why ≡ judged limit width tag handles h room
    field_missing missing = stops (sessions_there limit (length h.lent) (entries_of h.sessions)) _ missing ∙ handles_found

    pub all_there : gives tt ≡ sessions_there limit (length h.lent) (entries_of h.sessions) → {entries : ℕ} → entries ≡ entries_length width (entries_of h.sessions)
        → sized (10 + length h.handles + cond (eqb tag sessions) 4 0 + entries + length h.parameters) room ≡ judged limit width tag handles h room
    all_there there is =
        ap (λ (n : ℕ). sized (10 + length h.handles + cond (eqb tag sessions) 4 0 + n + length h.parameters) room) is
        ∙ goes_on (sessions_there limit (length h.lent) (entries_of h.sessions)) _ there ∙ handles_found
