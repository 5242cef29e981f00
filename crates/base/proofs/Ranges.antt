-- What walks by hand ask of the type of a range that was read, `Result<Span, TpmError>`: its row, its laws, and its machine values.
-- Assumes nothing.
use denote.Lowered.{Lowered}
use denote.Param.Laws.{Laws, Told}
use denote.RattleType.{RattleType}
use Rattle.std.specs.Prelude.{Result}
use Rattle.std.specs.contracts.result.Result as result
use Rattle.std.proofs.result.Result.TheLaws as result-laws
use Rattle.base.specs.declared.error.TpmError.{TpmError}
use Rattle.base.specs.declared.part.Span.{Span}
use Rattle.base.specs.contracts.error.TpmError as error
use Rattle.base.specs.contracts.part.Span as span
use Rattle.base.proofs.error.TpmError.TheLaws as error-laws
use Rattle.base.proofs.part.Span.TheLaws as span-laws

abbrev pub Range : Type 0
Range = Result Span TpmError

abbrev pub the_row : RattleType
the_row = result.the_row span.the_row error.the_row

abbrev span_told : Told span.the_row
span_told = record { val = span-laws.lowered; tells = (span-laws.lowers).val_is }

abbrev error_told : Told error.the_row
error_told = record { val = error-laws.lowered; tells = (error-laws.lowers).val_is }

abbrev pub the_laws : Laws the_row
the_laws = result-laws.the_row_laws span.the_row error.the_row span-laws.the_row_laws error-laws.the_row_laws

abbrev pub lowers : Lowered the_row
lowers = result-laws.lowers span.the_row error.the_row span-laws.the_row_laws error-laws.the_row_laws span_told error_told
