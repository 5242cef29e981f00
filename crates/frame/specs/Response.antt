-- Reading a response to one command (document 01, "Order of checks"), over any rules.
-- Assumes nothing: these are definitions.
use Rattle.std.specs.Prelude.{ℕ, ◌-◌, ◌||◌, cond, List, [], ◌∷◌, eqb, leb, length, take}
use Rattle.base.specs.declared.error.Area.TheVariants.{Header, Parameters}
use Rattle.base.specs.Answer.{Part}
use Rattle.base.specs.Said.{in_area, Said, gives, needs, then, within}
use Rattle.table.specs.Table.{row_for}
use Rattle.frame.specs.declared.areas.Areas.{Areas}
use Rattle.frame.specs.Areas.{handle_area, sized_area}
use Rattle.frame.specs.Command.{Division}
use Rattle.frame.specs.Header.{tag_of, plain, sessions, is_rsp_command, header, read_rc, frame_prefix, frame_whole, read_response_tag}
use Rattle.frame.specs.Rules.{Rulebook}
use Rattle.frame.specs.Walk.{walk}

-- success, in a row of so many response handles: under the plain tag all behind them is parameters
unfoldable pub success_areas : ℕ → List ℕ → Said Areas
success_areas responses s =
    then (handle_area responses s) λ handles.
    sized_area Parameters (eqb (tag_of s) sessions) (length s) s handles

module _ (book : Rulebook) where
  -- what is judged of a response behind its size
  unfoldable pub judge_response : List ℕ → Said ℕ
  judge_response s = then (read_response_tag book s) λ tag. read_rc book s

  unfoldable pub cast_response : List ℕ → Said ℕ
  cast_response s = then (frame_whole s) λ n. judge_response s

  -- the bytes of the response at the start
  unfoldable pub cast_response_prefix : List ℕ → Said ℕ
  cast_response_prefix s = then (frame_prefix s) λ n. then (judge_response (take n s)) λ code. gives n

  -- a code other than success: a bare header, under the plain tag or as the answer to a bad tag
  unfoldable pub error_areas : List ℕ → Said Areas
  error_areas s =
      needs (eqb (tag_of s) plain || is_rsp_command book (tag_of s)) (in_area Header (3 ∷ 0 ∷ tag_of s ∷ []))
      (needs (leb (length s) 10) (in_area Header (2 ∷ 10 ∷ (length s - 10) ∷ []))
      (gives (record { handles = 10; from = 10; to = 10 })))

  module _ (cc : ℕ) where
    unfoldable pub response_areas : List ℕ → Said Areas
    response_areas s =
        then (cast_response s) λ code.
        then (within Header (row_for book.rows cc)) λ row.
        cond (eqb code 0) (success_areas row.responses s) (error_areas s)

    -- the full check of a response to the command of a code
    unfoldable pub read_response : List ℕ → Said Division
    read_response s =
        then (response_areas s) λ areas.
        then (walk book.longest 3 0 s areas.to) λ entries.
        gives (record { areas = areas; entries = entries })

-- all behind the header
unfoldable pub body_range : List ℕ → Said Part
body_range s = header s (gives (record { from = 10; to = length s }))
