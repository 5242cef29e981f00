-- Which numbers stand with which area, and where in the frame the offset of a refusal stands (document 02, W2): of each reading and each setter of a frame, by
-- any rules, whatever the bytes. Each proof is its definition's text, with a law in the place of each check.
-- Assumes nothing.
use mathlib.Core.Path.{refl, sym}
use mathlib.Core.List.{List, [], ◌∷◌}
use Prim.Native.Nat.{ℕ, ◌≤◌}
use native.Mathlib.Omega.{arith}
use borrow.Author.Tests.{ne_eqb}
use lib.Dec.{eqb}
use Rattle.base.specs.declared.error.Area.{Area}
use Rattle.base.specs.declared.error.Area.TheVariants.{Header}
use Rattle.base.specs.Bytes.{AreBytes}
use Rattle.base.specs.Said.{Why, number_of, other_than, Only, Never}
use Rattle.base.proofs.Checks.{within_gives}
use Rattle.base.proofs.Only.{by_cond, by_step_to, by_step, by_wider}
use Rattle.table.specs.Table.{row_for}
use Rattle.frame.specs.Command.{read_command}
use Rattle.frame.specs.Response.{response_areas, read_response}
use Rattle.frame.specs.Rules.{Rulebook, unlimited}
use Rattle.frame.specs.Where.{Tabled, OfResponse}
use Rattle.frame.proofs.Divisions.{response_header}
pub use Rattle.frame.proofs.WhereSteps.{only_tag, only_size, only_body, only_set_tag, only_command_tag, only_response_tag, only_cc, only_rc, only_set_cc, only_set_rc, only_prefix, only_whole, only_command_areas, only_command_handles, only_judge_command, only_cast_command, only_command, only_cast_command_prefix, only_cast_response, only_judge_response, only_cast_response_prefix}
use Rattle.frame.proofs.WhereSteps.{by_row, of_header, only_walk, only_error, parameters_end}
use Rattle.frame.proofs.WhereSuccess.{only_success}

-- ---- responses

module _ (book : Rulebook) (s : List ℕ) where
  module _ (cc : ℕ) where
    pub only_response_areas : Only (OfResponse book cc s) (response_areas book cc s)
    unfolding response_areas
    only_response_areas =
        by_step_to (of_header (1 ∷ 2 ∷ 3 ∷ 5 ∷ []) refl (λ number offset at. at) (only_cast_response book s)) λ code cast.
        by_step_to (of_header (4 ∷ []) refl (λ number offset at. at) (by_row book.rows cc refl)) λ row found.
        by_cond (eqb code 0)
        (only_success book s cc row (within_gives Header (row_for book.rows cc) found) (response_header book s (sym cast)))
        (of_header (2 ∷ 3 ∷ []) refl (λ number offset at. at) (only_error book s))

    pub only_response : Only (OfResponse book cc s) (read_response book cc s)
    unfolding read_response
    only_response =
        by_step_to only_response_areas λ areas e.
        let ends = parameters_end book s cc e in
        by_step _ (only_walk s (λ b. b) areas.to refl refl refl
        (λ number offset low high. record { areas = areas; divided = e; behind_parameters = low; inside = high })
        3 0 areas.to (omega arith) ends)

-- ---- 8 stands in the tables for rules that limit a nonce and an HMAC: by others no bytes are refused so

module _ (book : Rulebook) (none : unlimited ≤ book.longest) (s : List ℕ) (b : AreBytes s) where
  no_limit : {table : Area → List ℕ} {place : Area → ℕ → ℕ → Type 0} (why : Why) → Tabled table place book.longest s why → other_than 8 why
  no_limit why p = ne_eqb (number_of why) 8 (λ is. let below = p.limited b is in absurd (omega arith))

  pub never_8_command : Never 8 (read_command book s)
  never_8_command = by_wider no_limit (only_command book s)

  pub never_8_response : (cc : ℕ) → Never 8 (read_response book cc s)
  never_8_response cc = by_wider no_limit (only_response book s cc)
