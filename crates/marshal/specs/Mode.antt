-- The modes of the response writer (document 02, W5): the Rust's, and the standard one with the tag of the answer to a bad tag asked
-- for or not.
-- Assumes nothing: these are definitions.
use Rattle.std.specs.Prelude.{Bool, true, false}
use Rattle.frame.specs.declared.rules.Reading.{Reading}
use Rattle.frame.specs.declared.rules.Reading.TheVariants as reading
use Rattle.frame.specs.declared.rules.Rules.{Rules}
use Rattle.frame.specs.Rules.{Rulebook, book_of}
use Rattle.marshal.specs.declared.mode.Mode.{Mode}
use Rattle.marshal.specs.declared.mode.Mode.TheVariants as mode
use Rattle.marshal.specs.declared.mode.ResponseRules.{ResponseRules}

-- the reading by which what is written in a mode is read again; the table is the same
abbrev pub reading_of : Mode → Reading
reading_of mode.Rust = reading.Rust
reading_of mode.Standard = reading.Standard
reading_of mode.BadTag = reading.Standard

abbrev pub rules_for : ResponseRules → Rules
rules_for rules = record { reading = reading_of rules.mode; revision = rules.revision }

abbrev pub book_for : ResponseRules → Rulebook
book_for rules = book_of (rules_for rules)

-- whether the tag of the answer to a bad tag is asked for
abbrev pub asks_bad_tag : Mode → Bool
asks_bad_tag mode.Rust = false
asks_bad_tag mode.Standard = false
asks_bad_tag mode.BadTag = true

abbrev pub asked : ResponseRules → Bool
asked rules = asks_bad_tag rules.mode
