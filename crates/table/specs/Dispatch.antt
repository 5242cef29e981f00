-- The tables of commands: for each command its code, its handles and the handles of its response (document 01, "Layout"; Part 3). The
-- crate's TPM_DISPATCH_TABLE, and those of the Library's revisions 1.38 and 1.59 (document 02, W10). The definitions above take any
-- rows; these are the ones that a caller can name.
-- Assumes nothing: these are definitions.
use Rattle.std.specs.Prelude.{ℕ, ◌-◌, cond, leb, List, [], ◌∷◌, ◌++◌}
use Rattle.table.specs.declared.revision.Revision.{Revision}
use Rattle.table.specs.declared.revision.Revision.TheVariants as revision
use Rattle.table.specs.declared.row.Row.{Row}
use Rattle.table.specs.Table.{row, codes}

-- the rows of all three, up to TPM2_EncryptDecrypt2; written out, so that the code's parts are held against them
abbrev pub shared : List Row
shared =
    row 0x11f 2 0 ∷ row 0x120 2 0 ∷ row 0x121 1 0 ∷ row 0x122 2 0 ∷ row 0x124 1 0 ∷ row 0x125 1 0 ∷ row 0x126 1 0 ∷
    row 0x127 1 0 ∷ row 0x128 1 0 ∷ row 0x129 1 0 ∷ row 0x12a 1 0 ∷ row 0x12b 1 0 ∷ row 0x12c 1 0 ∷ row 0x12d 1 0 ∷
    row 0x12e 1 0 ∷ row 0x12f 2 0 ∷ row 0x130 1 0 ∷ row 0x131 1 1 ∷ row 0x132 1 0 ∷ row 0x133 2 0 ∷ row 0x134 2 0 ∷
    row 0x135 2 0 ∷ row 0x136 2 0 ∷ row 0x137 2 0 ∷ row 0x138 2 0 ∷ row 0x139 1 0 ∷ row 0x13a 1 0 ∷ row 0x13b 1 0 ∷
    row 0x13c 1 0 ∷ row 0x13d 1 0 ∷ row 0x13e 1 0 ∷ row 0x13f 1 0 ∷ row 0x140 1 0 ∷ row 0x141 0 0 ∷ row 0x142 0 0 ∷
    row 0x143 0 0 ∷ row 0x144 0 0 ∷ row 0x145 0 0 ∷ row 0x146 0 0 ∷ row 0x147 2 0 ∷ row 0x148 2 0 ∷ row 0x149 3 0 ∷
    row 0x14a 2 0 ∷ row 0x14b 2 0 ∷ row 0x14c 2 0 ∷ row 0x14d 3 0 ∷ row 0x14e 2 0 ∷ row 0x14f 2 0 ∷ row 0x150 2 0 ∷
    row 0x151 2 0 ∷ row 0x152 2 0 ∷ row 0x153 1 0 ∷ row 0x154 1 0 ∷ row 0x155 1 0 ∷ row 0x156 1 0 ∷ row 0x157 1 1 ∷
    row 0x158 1 0 ∷ row 0x159 1 0 ∷ row 0x15b 1 1 ∷ row 0x15c 1 0 ∷ row 0x15d 1 0 ∷ row 0x15e 1 0 ∷ row 0x160 2 0 ∷
    row 0x161 0 1 ∷ row 0x162 1 0 ∷ row 0x163 1 0 ∷ row 0x164 1 0 ∷ row 0x165 0 0 ∷ row 0x167 0 1 ∷ row 0x168 1 0 ∷
    row 0x169 1 0 ∷ row 0x16a 1 0 ∷ row 0x16b 1 0 ∷ row 0x16c 1 0 ∷ row 0x16d 1 0 ∷ row 0x16e 1 0 ∷ row 0x16f 1 0 ∷
    row 0x170 1 0 ∷ row 0x171 1 0 ∷ row 0x172 1 0 ∷ row 0x173 1 0 ∷ row 0x174 1 0 ∷ row 0x176 2 1 ∷ row 0x177 1 0 ∷
    row 0x178 0 0 ∷ row 0x179 0 0 ∷ row 0x17a 0 0 ∷ row 0x17b 0 0 ∷ row 0x17c 0 0 ∷ row 0x17d 0 0 ∷ row 0x17e 0 0 ∷
    row 0x17f 1 0 ∷ row 0x180 1 0 ∷ row 0x181 0 0 ∷ row 0x182 1 0 ∷ row 0x183 1 0 ∷ row 0x184 3 0 ∷ row 0x185 2 0 ∷
    row 0x186 0 1 ∷ row 0x187 1 0 ∷ row 0x188 1 0 ∷ row 0x189 1 0 ∷ row 0x18a 0 0 ∷ row 0x18b 1 0 ∷ row 0x18c 1 0 ∷
    row 0x18d 1 0 ∷ row 0x18e 0 0 ∷ row 0x18f 1 0 ∷ row 0x190 1 0 ∷ row 0x191 1 1 ∷ row 0x192 3 0 ∷ row 0x193 1 0 ∷ []

-- what the crate and revision 1.59 share behind them: TPM2_AC_GetCapability, TPM2_AC_Send and TPM2_Policy_AC_SendSelect before other rows, and
-- TPM2_ACT_SetTimeout
abbrev attached : List Row → List Row
attached rows = row 0x194 1 0 ∷ row 0x195 3 0 ∷ row 0x196 1 0 ∷ rows

abbrev timeout : Row
timeout = row 0x198 1 0

-- the last one of all three, TPM2_Vendor_TCG_Test
abbrev vendor : List Row
vendor = row 0x20000000 0 0 ∷ []

-- the rows behind the shared ones; 0x197 is TPM2_CertifyX509, which the crate lacks
abbrev pub own : Revision → List Row
own revision.Crate =
    attached
    (timeout ∷ row 0x199 1 0 ∷ row 0x19a 1 0 ∷ row 0x19b 1 0 ∷ row 0x19c 1 0 ∷ row 0x19d 1 0 ∷ row 0x19e 1 0 ∷ row 0x19f 1 0 ∷
    row 0x1a0 1 0 ∷ row 0x1a1 1 0 ∷ vendor)
own revision.Lib138 = vendor
own revision.Lib159 = attached (row 0x197 2 0 ∷ timeout ∷ vendor)

-- the tables: shut, so that what stands above goes by their laws
unfoldable pub table_of : Revision → List Row
table_of revision = shared ++ own revision

-- the codes that are known where a table judges: those that TpmCc has are the crate's table's, and a Library table has its own
abbrev pub codes_of : Revision → List ℕ
codes_of revision = codes (table_of revision)

-- ---- where the code looks

-- the place of a code's row, if it has one: as far from the first row as the code is from the first code, less the codes on the way that
-- have no row; another place if it has none
abbrev own_place : Revision → ℕ → ℕ
own_place revision.Crate code = cond (leb 0x1a2 code) 125 (cond (leb 0x197 code) (code - 0x125) (code - 0x124))
own_place revision.Lib138 code = 112
own_place revision.Lib159 code = cond (leb 0x199 code) 117 (code - 0x124)

abbrev pub place_of : Revision → ℕ → ℕ
place_of revision code =
    cond (leb 0x194 code) (own_place revision code)
    (cond (leb 0x175 code) (code - 0x124)
    (cond (leb 0x166 code) (code - 0x123)
    (cond (leb 0x15f code) (code - 0x122)
    (cond (leb 0x15a code) (code - 0x121)
    (cond (leb 0x123 code) (code - 0x120)
    (cond (leb 0x11f code) (code - 0x11f) 0))))))
