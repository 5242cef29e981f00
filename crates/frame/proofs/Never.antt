-- No reading of a frame is refused by 7, a number too large (document 02, W7): no field that is read or set, no area, no cast, no command and no response, by
-- any rules, whatever the bytes. 7 stands in none of the tables of their refusals.
-- Assumes nothing.
use mathlib.Core.Path.{◌≡◌, refl}
use mathlib.Core.Bool.{Bool, true, false, beq}
use mathlib.Core.List.{List}
use mathlib.Core.Logic.{⊎_elim}
use Prim.Native.Nat.{ℕ}
use lib.Dec.{eqb}
use Rattle.base.specs.declared.error.Area.{Area}
use Rattle.base.specs.declared.error.Area.TheVariants.{None, Header, Handles, Authorization, Parameters}
use Rattle.base.specs.Said.{Why, number_of, other_than, Never}
use Rattle.base.proofs.Only.{by_step, by_wider}
use Rattle.base.proofs.Tables.{every, at_member, agree}
use Rattle.frame.specs.Command.{cast_command, cast_command_prefix, read_command, handles_range, auth_range, parameters_range}
use Rattle.frame.specs.Header.{read_tag, read_size, read_cc, read_rc, set_tag, set_cc, set_rc}
use Rattle.frame.specs.Response.{cast_response, cast_response_prefix, read_response, body_range}
use Rattle.frame.specs.Rules.{Rulebook}
use Rattle.frame.specs.Where.{OfHeader, Tabled, command_numbers, response_numbers}
use Rattle.frame.proofs.Where as only

-- a list without 7
abbrev without : List ℕ → Bool
without = every (λ n. beq (eqb n 7) false)

of_header : {xs s : List ℕ} → without xs ≡ true → (why : Why) → OfHeader xs s why → other_than 7 why
of_header {xs} e why p = agree _ _ (at_member (λ n. beq (eqb n 7) false) xs e (number_of why) p.number)

pub of_table : {table : Area → List ℕ} {place : Area → ℕ → ℕ → Type 0} {longest : ℕ} {s : List ℕ} → ((area : Area) → without (table area) ≡ true)
    → (why : Why) → Tabled table place longest s why → other_than 7 why
of_table {table} e why p = agree _ _ (at_member (λ n. beq (eqb n 7) false) (table why.area) (e why.area) (number_of why) p.number)

pub in_commands : (area : Area) → without (command_numbers area) ≡ true
in_commands None = refl
in_commands Header = refl
in_commands Handles = refl
in_commands Authorization = refl
in_commands Parameters = refl

pub in_responses : (area : Area) → without (response_numbers area) ≡ true
in_responses None = refl
in_responses Header = refl
in_responses Handles = refl
in_responses Authorization = refl
in_responses Parameters = refl

module _ (s : List ℕ) where
  pub never_tag : Never 7 (read_tag s)
  never_tag = by_wider (of_header refl) (only.only_tag s)

  pub never_size : Never 7 (read_size s)
  never_size = by_wider (of_header refl) (only.only_size s)

  pub never_set_tag : (tag : ℕ) → Never 7 (set_tag tag s)
  never_set_tag tag = by_wider (of_header refl) (only.only_set_tag s tag)

  pub never_body : Never 7 (body_range s)
  never_body = by_wider (of_header refl) (only.only_body s)

module _ (book : Rulebook) (s : List ℕ) where
  pub never_cc : Never 7 (read_cc book s)
  never_cc = by_wider (of_header refl) (only.only_cc s book)

  pub never_rc : Never 7 (read_rc book s)
  never_rc = by_wider (of_header refl) (only.only_rc s book)

  pub never_set_cc : (code : ℕ) → Never 7 (set_cc book code s)
  never_set_cc code = by_wider (of_header refl) (only.only_set_cc s book code)

  pub never_set_rc : (code : ℕ) → Never 7 (set_rc book code s)
  never_set_rc code = by_wider (of_header refl) (only.only_set_rc s book code)

  pub never_handles_range : Never 7 (handles_range book s)
  unfolding handles_range
  never_handles_range = by_step _ (by_wider (of_table in_commands) (only.only_command_handles book s))

  pub never_auth_range : Never 7 (auth_range book s)
  unfolding auth_range
  never_auth_range = by_step _ (by_wider (of_table in_commands) (only.only_command_areas book s))

  pub never_parameters_range : Never 7 (parameters_range book s)
  unfolding parameters_range
  never_parameters_range = by_step _ (by_wider (of_table in_commands) (only.only_command_areas book s))

  pub never_cast_command : Never 7 (cast_command book s)
  never_cast_command = by_wider (of_table in_commands) (only.only_cast_command book s)

  pub never_cast_command_prefix : Never 7 (cast_command_prefix book s)
  never_cast_command_prefix =
      by_wider (λ why. ⊎_elim (of_header refl why) (of_table in_commands why)) (only.only_cast_command_prefix book s)

  pub never_command : Never 7 (read_command book s)
  never_command = by_wider (of_table in_commands) (only.only_command book s)

  pub never_cast_response : Never 7 (cast_response book s)
  never_cast_response = by_wider (of_header refl) (only.only_cast_response book s)

  pub never_cast_response_prefix : Never 7 (cast_response_prefix book s)
  never_cast_response_prefix = by_wider (λ why. ⊎_elim (of_header refl why) (of_header refl why)) (only.only_cast_response_prefix book s)

  pub never_response : (cc : ℕ) → Never 7 (read_response book cc s)
  never_response cc = by_wider (of_table in_responses) (only.only_response book s cc)
