-- The rules that a number names; one that names none is refused with a number from 100 on, as document 01's own say nothing of it.
-- Assumes nothing: these are definitions.
use Rattle.std.specs.Prelude.{ℕ, ◌/◌, ◌%◌, Bool, cond, [], ◌∷◌, eqb, Result}
use Rattle.base.specs.Answer.{said_by}
use Rattle.base.specs.Said.{Why, no_area, Said, gives, refuses, needs, then}
use Rattle.table.specs.declared.revision.Revision.{Revision}
use Rattle.table.specs.declared.revision.Revision.TheVariants as revision
use Rattle.frame.specs.declared.rules.Reading.{Reading}
use Rattle.frame.specs.declared.rules.Reading.TheVariants as reading
use Rattle.frame.specs.declared.rules.Rules.{Rules}
use Rattle.frame.specs.Rules.{Rulebook, book_of}
use Rattle.marshal.specs.declared.mode.Mode.{Mode}
use Rattle.marshal.specs.declared.mode.Mode.TheVariants as mode
use Rattle.marshal.specs.declared.mode.ResponseRules.{ResponseRules}
use Rattle.marshal.specs.Mode.{asked, book_for}
use Rattle.capi.specs.declared.rules.Unknown.{Unknown}
use Rattle.capi.specs.declared.rules.Unknown.TheVariants as number

abbrev pub no_rules : ℕ → Why
no_rules n = no_area (101 ∷ 0 ∷ n ∷ [])

abbrev pub unnamed : {A : Type 0} → ℕ → Said A
unnamed n = refuses (no_rules n)

-- ---- a number is sixteen times the table's place, and the reading's or the mode's

-- the crate's table is 0, those of the Library's revisions 1.38 and 1.59 are 1 and 2 (document 02, W10)
abbrev pub table_named : ℕ → ℕ → Said Revision
table_named n place =
    cond (eqb place 0) (gives revision.Crate)
    (cond (eqb place 1) (gives revision.Lib138)
    (cond (eqb place 2) (gives revision.Lib159)
    (unnamed n)))

-- the Rust reading is 0, the standard one 1
abbrev pub reading_named : ℕ → ℕ → Said Reading
reading_named n place =
    cond (eqb place 0) (gives reading.Rust)
    (cond (eqb place 1) (gives reading.Standard)
    (unnamed n))

-- in the writer of responses 2 is the standard mode with the tag of the answer to a bad tag asked for
abbrev pub mode_named : ℕ → ℕ → Said Mode
mode_named n place =
    cond (eqb place 0) (gives mode.Rust)
    (cond (eqb place 1) (gives mode.Standard)
    (cond (eqb place 2) (gives mode.BadTag)
    (unnamed n)))

unfoldable pub rules_numbered : ℕ → Said Rules
rules_numbered n =
    then (table_named n (n / 16)) λ table.
    then (reading_named n (n % 16)) λ reading.
    gives (record { reading = reading; revision = table })

unfoldable pub mode_numbered : ℕ → Said ResponseRules
mode_numbered n =
    then (table_named n (n / 16)) λ table.
    then (mode_named n (n % 16)) λ mode.
    gives (record { mode = mode; revision = table })

-- a call that takes a table alone
unfoldable pub revision_numbered : ℕ → Said Revision
revision_numbered n = needs (eqb (n % 16) 0) (no_rules n) (table_named n (n / 16))

-- what a number in a call was found to name, a kind of response code (specs/Code.antt) among it
abbrev pub unknown : Unknown → Why
unknown (number.Kind n) = no_area (100 ∷ 0 ∷ n ∷ [])
unknown (number.Rules n) = no_rules n

abbrev pub named : {A : Type 0} → Result A Unknown → Said A
named = said_by (λ x. x) unknown

-- what is said by the rules that a number names, or at the table
abbrev pub under : {A : Type 0} → ℕ → (Rulebook → Said A) → Said A
under n say = then (rules_numbered n) λ rules. say (book_of rules)

abbrev pub under_mode : {A : Type 0} → ℕ → (Rulebook → Bool → Said A) → Said A
under_mode n say = then (mode_numbered n) λ rules. say (book_for rules) (asked rules)

abbrev pub at_table : {A : Type 0} → ℕ → (Revision → Said A) → Said A
at_table n say = then (revision_numbered n) say
