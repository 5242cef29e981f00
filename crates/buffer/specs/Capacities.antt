-- The buffer of the code, as a buffer of the definitions, and what its calls answer.
-- Assumes nothing: these are definitions.
use Rattle.std.specs.Prelude.{ℕ, min, Result}
use Rattle.base.specs.declared.error.TpmError.{TpmError}
use Rattle.base.specs.Answer.{said_by}
use Rattle.base.specs.Error.{numbered}
use Rattle.base.specs.Said.{Said}
use Rattle.buffer.specs.declared.fixed.TpmBuffer.{TpmBuffer}
use Rattle.buffer.specs.Fixed.{Buffer}

-- the most bytes that room of so many holds: a size is 16 bits
abbrev pub most : ℕ → ℕ
most n = min n 65535

abbrev pub of : {N : ℕ} → TpmBuffer N → Buffer
of b = record { size = b.size; room = b.«data» }

-- a buffer
abbrev pub said_buffer : {N : ℕ} → Result (TpmBuffer N) TpmError → Said Buffer
said_buffer = said_by of numbered

-- a buffer that was read, and how many bytes it took
abbrev pub said_read : {N : ℕ} → Result (TpmBuffer N × ℕ) TpmError → Said Buffer
said_read = said_by (λ r. of r.0) numbered

abbrev pub said_taken : {N : ℕ} → Result (TpmBuffer N × ℕ) TpmError → Said ℕ
said_taken = said_by (λ r. r.1) numbered
