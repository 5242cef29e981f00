-- The known base codes (Part 2, TPM_RC; document 02, W3): those of them that the crate's TpmRcBase has, in Part 2's groups and its order. A
-- range has its first code and its last; the names are theirs, without TPM_RC_. What lies between two ranges is a hole.
-- Part 2's TPM_RC_NOT_USED, RC_WARN + 0x07F, is none: the crate has it as 0xFFFFFFFF, which does not read.
-- Assumes nothing: these are definitions.
use Rattle.std.specs.Prelude.{ℕ, Bool, false, ◌&&◌, ◌||◌, List, [], ◌∷◌, leb}
use Rattle.base.specs.Members.{is_in}

abbrev pub Ranges : Type 0
Ranges = List (ℕ × ℕ)

abbrev pub in_some : ℕ → Ranges → Bool
in_some code [] = false
in_some code (range ∷ more) = (leb range.0 code && leb code range.1) || in_some code more

-- format zero of TPM 1.2's kind
abbrev pub tpm12 : Ranges
tpm12 =
    (0x000, 0x000) ∷  -- SUCCESS
    (0x01E, 0x01E) ∷  -- BAD_TAG
    []

-- format zero, errors: RC_VER1, 0x100
abbrev pub ver1 : Ranges
ver1 =
    (0x100, 0x101) ∷  -- INITIALIZE to FAILURE
    (0x103, 0x103) ∷  -- SEQUENCE
    (0x10B, 0x10B) ∷  -- PRIVATE
    (0x119, 0x119) ∷  -- HMAC
    (0x120, 0x121) ∷  -- DISABLED to EXCLUSIVE
    (0x124, 0x128) ∷  -- AUTH_TYPE to PCR_CHANGED
    (0x12D, 0x131) ∷  -- UPGRADE to UNBALANCED
    (0x142, 0x14C) ∷  -- COMMAND_SIZE to NV_DEFINED
    (0x150, 0x156) ∷  -- BAD_CONTEXT to READ_ONLY
    []

-- format one: RC_FMT1, 0x080
abbrev pub fmt1 : Ranges
fmt1 =
    (0x081, 0x085) ∷  -- ASYMMETRIC to HIERARCHY
    (0x087, 0x090) ∷  -- KEY_SIZE to PP
    (0x092, 0x092) ∷  -- SCHEME
    (0x095, 0x098) ∷  -- SIZE to SELECTOR
    (0x09A, 0x09D) ∷  -- INSUFFICIENT to POLICY_FAIL
    (0x09F, 0x0A9) ∷  -- INTEGRITY to SVN_LIMITED
    (0x0B0, 0x0B1) ∷  -- CHANNEL to CHANNEL_KEY
    []

-- warnings: RC_WARN, 0x900
abbrev pub warn : Ranges
warn =
    (0x901, 0x90A) ∷  -- CONTEXT_GAP to TESTING
    (0x910, 0x916) ∷  -- REFERENCE_H0 to REFERENCE_H6
    (0x918, 0x91E) ∷  -- REFERENCE_S0 to REFERENCE_S6
    (0x920, 0x923) ∷  -- NV_RATE to NV_UNAVAILABLE
    []

-- a range of a group has the code
unfoldable pub in_groups : ℕ → Bool
in_groups code = in_some code tpm12 || in_some code ver1 || in_some code fmt1 || in_some code warn

-- ---- the known codes one by one: a code is known exactly when it is listed

unfoldable pub known_codes : List ℕ
known_codes =
    -- success, and the answer to a bad tag
    0x0 ∷ 0x1e ∷
    -- format one
    0x81 ∷ 0x82 ∷ 0x83 ∷ 0x84 ∷ 0x85 ∷ 0x87 ∷ 0x88 ∷ 0x89 ∷ 0x8a ∷ 0x8b ∷ 0x8c ∷ 0x8d ∷
    0x8e ∷ 0x8f ∷ 0x90 ∷ 0x92 ∷ 0x95 ∷ 0x96 ∷ 0x97 ∷ 0x98 ∷ 0x9a ∷ 0x9b ∷ 0x9c ∷ 0x9d ∷
    0x9f ∷ 0xa0 ∷ 0xa1 ∷ 0xa2 ∷ 0xa3 ∷ 0xa4 ∷ 0xa5 ∷ 0xa6 ∷ 0xa7 ∷ 0xa8 ∷ 0xa9 ∷ 0xb0 ∷
    0xb1 ∷
    -- format zero, errors
    0x100 ∷ 0x101 ∷ 0x103 ∷ 0x10b ∷ 0x119 ∷ 0x120 ∷ 0x121 ∷ 0x124 ∷ 0x125 ∷ 0x126 ∷ 0x127 ∷ 0x128 ∷
    0x12d ∷ 0x12e ∷ 0x12f ∷ 0x130 ∷ 0x131 ∷ 0x142 ∷ 0x143 ∷ 0x144 ∷ 0x145 ∷ 0x146 ∷ 0x147 ∷ 0x148 ∷
    0x149 ∷ 0x14a ∷ 0x14b ∷ 0x14c ∷ 0x150 ∷ 0x151 ∷ 0x152 ∷ 0x153 ∷ 0x154 ∷ 0x155 ∷ 0x156 ∷
    -- format zero, warnings
    0x901 ∷ 0x902 ∷ 0x903 ∷ 0x904 ∷ 0x905 ∷ 0x906 ∷ 0x907 ∷ 0x908 ∷ 0x909 ∷ 0x90a ∷ 0x910 ∷ 0x911 ∷
    0x912 ∷ 0x913 ∷ 0x914 ∷ 0x915 ∷ 0x916 ∷ 0x918 ∷ 0x919 ∷ 0x91a ∷ 0x91b ∷ 0x91c ∷ 0x91d ∷ 0x91e ∷
    0x920 ∷ 0x921 ∷ 0x922 ∷ 0x923 ∷
    []

unfoldable pub is_known : ℕ → Bool
is_known code = is_in code known_codes
