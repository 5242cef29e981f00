-- The codes that Part 2's layout of the bits has (TPM_RC, format zero and format one). Nothing here knows of refusals.
-- Assumes nothing: these are definitions.
use Rattle.std.specs.Prelude.{ℕ, ◌≤◌, ◌<◌, ◌≡◌, true, false, ◌&&◌}
use Rattle.rc.specs.declared.code.Code.{Code}
use Rattle.rc.specs.declared.code.Code.TheVariants.{Fmt0, Warn, Fmt1, Parameter, Handle, Session}
use Rattle.rc.specs.Known.{is_known}
use Rattle.rc.specs.Code.{bit}

-- a known base whose bit 7 is clear, a warning where bits 8 and 11 are both set
abbrev pub OfFmt0 : ℕ → Type 0
OfFmt0 b = (is_known b ≡ true) × (bit 128 b ≡ false)

-- a known base whose bit 7 is set and of whose other bits only 0 to 5 may be
abbrev pub OfFmt1 : ℕ → Type 0
OfFmt1 b = (is_known b ≡ true) × (128 ≤ b) × (b < 192)

-- a parameter's number is 1 to 15, a handle's 1 to 7, a session's 0 to 7
abbrev pub WellFormed : Code → Type 0
WellFormed (Fmt0 b) = OfFmt0 b.0 × ((bit 256 b.0 && bit 2048 b.0) ≡ false)
WellFormed (Warn b) = OfFmt0 b.0 × ((bit 256 b.0 && bit 2048 b.0) ≡ true)
WellFormed (Fmt1 b) = OfFmt1 b.0
WellFormed (Parameter b n) = OfFmt1 b.0 × (1 ≤ n) × (n ≤ 15)
WellFormed (Handle b n) = OfFmt1 b.0 × (1 ≤ n) × (n ≤ 7)
WellFormed (Session b n) = OfFmt1 b.0 × (n ≤ 7)
