-- Reading a command (document 01, "Order of checks"), over any rules.
-- Assumes nothing: these are definitions.
use Rattle.std.specs.Prelude.{ℕ, List, [], ◌∷◌, eqb, length, take}
use Rattle.base.specs.declared.error.Area.TheVariants.{Header, Authorization}
use Rattle.base.specs.Answer.{Part}
use Rattle.base.specs.Members.{is_in}
use Rattle.base.specs.Said.{in_area, Said, gives, needs, then, within}
use Rattle.table.specs.Table.{row_for}
use Rattle.table.specs.Tags.{tags}
use Rattle.frame.specs.declared.areas.Areas.{Areas}
use Rattle.frame.specs.declared.session.Session.{Session}
use Rattle.frame.specs.Areas.{handle_area, sized_area}
use Rattle.frame.specs.Header.{tag_of, sessions, read_cc, frame_prefix, frame_whole, read_command_tag}
use Rattle.frame.specs.Rules.{Rulebook}
use Rattle.frame.specs.Walk.{walk}

-- a frame taken apart: its areas and its entries
pub record Division : Type 0 where
  pub areas : Areas
  pub entries : List Session

module _ (book : Rulebook) where
  -- where the handles end, of bytes that no cast has seen
  unfoldable pub command_handles : List ℕ → Said ℕ
  command_handles s =
      then (read_cc book s) λ code.
      then (within Header (row_for book.rows code)) λ row.
      handle_area row.handles s

  -- the areas, of bytes that no cast has seen: any known tag but the sessions tag counts as plain
  unfoldable pub command_areas : List ℕ → Said Areas
  command_areas s =
      then (command_handles s) λ handles.
      needs (is_in (tag_of s) tags) (in_area Header (3 ∷ 0 ∷ tag_of s ∷ []))
      (sized_area Authorization (eqb (tag_of s) sessions) handles s handles)

  -- what is judged of a command behind its size
  unfoldable pub judge_command : List ℕ → Said Areas
  judge_command s = then (read_command_tag s) λ tag. command_areas s

  unfoldable pub cast_command : List ℕ → Said Areas
  cast_command s = then (frame_whole s) λ n. judge_command s

  -- the bytes of the command at the start
  unfoldable pub cast_command_prefix : List ℕ → Said ℕ
  cast_command_prefix s = then (frame_prefix s) λ n. then (judge_command (take n s)) λ areas. gives n

  -- the full check, which walks the entries
  unfoldable pub read_command : List ℕ → Said Division
  read_command s =
      then (cast_command s) λ areas.
      then (walk book.longest 3 4 (take areas.to s) areas.from) λ entries.
      gives (record { areas = areas; entries = entries })

  -- the three areas as parts of the bytes, each with its own checks and no more
  unfoldable pub handles_range : List ℕ → Said Part
  handles_range s = then (command_handles s) λ handles. gives (record { from = 10; to = handles })

  unfoldable pub auth_range : List ℕ → Said Part
  auth_range s = then (command_areas s) λ areas. gives (record { from = areas.from; to = areas.to })

  unfoldable pub parameters_range : List ℕ → Said Part
  parameters_range s = then (command_areas s) λ areas. gives (record { from = areas.to; to = length s })
