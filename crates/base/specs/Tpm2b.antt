-- The layout of a TPM2B (Part 1): a 2-byte length and that many bytes.
-- Assumes nothing: these are definitions.
use Rattle.std.specs.Prelude.{ℕ, List, ◌++◌, length}
use Rattle.base.specs.Bytes.{bytes}

abbrev pub tpm2b : List ℕ → List ℕ
tpm2b t = bytes 2 (length t) ++ t
