-- The answers of calls, in the paper's terms: what was asked for, or the refusal.
-- Assumes nothing: these are definitions.
use Rattle.std.specs.Prelude.{ℕ, Result, Ok, Err}
use Rattle.base.specs.declared.code.TpmSt.{TpmSt}
use Rattle.base.specs.declared.code.TpmCc.{TpmCc}
use Rattle.base.specs.declared.code.TpmRc.{TpmRc}
use Rattle.base.specs.declared.error.TpmError.{TpmError}
use Rattle.base.specs.declared.error.WriteError.{WriteError}
use Rattle.base.specs.declared.part.Span.{Span}
use Rattle.base.specs.Error.{numbered, writer_numbered}
use Rattle.base.specs.Said.{Said, Why, gives, refuses}

-- an answer, by what stands for its value and for its refusal
abbrev pub said_by : {A B E : Type 0} → (A → B) → (E → Why) → Result A E → Said B
said_by value why (Ok x) = gives (value x)
said_by value why (Err e) = refuses (why e)

-- a number, a flag, or nothing but that it was done
abbrev pub said : {A : Type 0} → Result A TpmError → Said A
said = said_by (λ x. x) numbered

-- a tag and the two codes, by their numbers
abbrev pub said_tag : Result TpmSt TpmError → Said ℕ
said_tag = said_by (λ t. t.0) numbered

abbrev pub said_command_code : Result TpmCc TpmError → Said ℕ
said_command_code = said_by (λ c. c.0) numbered

abbrev pub said_response_code : Result TpmRc TpmError → Said ℕ
said_response_code = said_by (λ c. c.0) numbered

-- a part of lent bytes: from its start up to its end
pub record Part : Type 0 where
  pub from : ℕ
  pub to : ℕ

abbrev pub said_range : Result Span TpmError → Said Part
said_range = said_by (λ p. record { from = p.from; to = p.to }) numbered

-- of a writer
abbrev pub said_total : Result ℕ WriteError → Said ℕ
said_total = said_by (λ n. n) writer_numbered
