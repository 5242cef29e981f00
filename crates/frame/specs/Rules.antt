-- The rules by which a frame is judged (document 02, W5, W6 and W10): what the definitions of reading, layout and writing take, and which rules
-- a caller names.
-- Assumes nothing: these are definitions.
use Rattle.std.specs.Prelude.{ℕ, Bool, true, false, List}
use Rattle.table.specs.Dispatch.{codes_of, table_of}
use Rattle.table.specs.declared.row.Row.{Row}
use Rattle.frame.specs.declared.rules.Reading.{Reading}
use Rattle.frame.specs.declared.rules.Reading.TheVariants as reading
use Rattle.frame.specs.declared.rules.Rules.{Rules}

-- the rows of the dispatch table, the known command codes, whether the answer to a bad tag is a response, and the most bytes of a
-- nonce or an HMAC
pub record Rulebook : Type 0 where
  pub rows : List Row
  pub known : List ℕ
  pub answers_bad_tag : Bool
  pub longest : ℕ

-- the Rust admits two tags only; Part 2 gives a third to the answer to a bad tag
abbrev pub admits_bad_tag : Reading → Bool
admits_bad_tag reading.Rust = false
admits_bad_tag reading.Standard = true

-- all that a length of two bytes can say, which is no limit; the longest digest of Part 2 (TPMU_HA) has 64 bytes
abbrev pub unlimited : ℕ
unlimited = 65535

abbrev pub longest_of : Reading → ℕ
longest_of reading.Rust = unlimited
longest_of reading.Standard = 64

-- the rules of a reading, at any table
abbrev pub book_at : List Row → List ℕ → Reading → Rulebook
book_at rows known by = record { rows = rows; known = known; answers_bad_tag = admits_bad_tag by; longest = longest_of by }

-- the rules that a caller names: a reading, at a table (W10)
abbrev pub book_of : Rules → Rulebook
book_of rules = book_at (table_of rules.revision) (codes_of rules.revision) rules.reading
