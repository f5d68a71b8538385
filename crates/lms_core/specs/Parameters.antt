-- The parameter sets of LM-OTS and LMS with SHA-256 and 32-byte hashes (RFC 8554, 4.1 and 5.1).
use Rattle.std.specs.Prelude.{◌≡◌, ℕ, ◌==◌, if◌then◌else◌, ◌⊎◌, Option, Some, None}
use Rattle.lms_core.specs.declared.parameters.OtsParams.{OtsParams}

-- LMOTS_SHA256_N32_W1, W2, W4 and W8 (RFC 8554, 4.1, table 1)
abbrev pub width_1 : OtsParams
width_1 = record { w = 1; p = 265; ls = 7 }

-- LMOTS_SHA256_N32_W2 (RFC 8554, 4.1)
abbrev pub width_2 : OtsParams
width_2 = record { w = 2; p = 133; ls = 6 }

-- LMOTS_SHA256_N32_W4 (RFC 8554, 4.1)
abbrev pub width_4 : OtsParams
width_4 = record { w = 4; p = 67; ls = 4 }

-- LMOTS_SHA256_N32_W8 (RFC 8554, 4.1)
abbrev pub width_8 : OtsParams
width_8 = record { w = 8; p = 34; ls = 0 }

-- the parameters of an LM-OTS type, by its registered number (RFC 8554, 4.1 and 8)
abbrev pub ots_table : ℕ → Option OtsParams
ots_table code =
    if code == 1 then Some width_1
    else if code == 2 then Some width_2
    else if code == 3 then Some width_4
    else if code == 4 then Some width_8
    else None

-- the height of an LMS type: LMS_SHA256_M32_H5, H10, H15, H20 and H25 (RFC 8554, 5.1, table 2, and 8)
abbrev pub lms_table : ℕ → Option ℕ
lms_table code =
    if code == 5 then Some 5
    else if code == 6 then Some 10
    else if code == 7 then Some 15
    else if code == 8 then Some 20
    else if code == 9 then Some 25
    else None

-- the parameters are a row of the table
abbrev pub IsOtsRow : OtsParams → Type 0
IsOtsRow params = (params ≡ width_1) ⊎ ((params ≡ width_2) ⊎ ((params ≡ width_4) ⊎ (params ≡ width_8)))

-- the widths of the table
abbrev pub IsWidth : ℕ → Type 0
IsWidth w = (w ≡ 1) ⊎ ((w ≡ 2) ⊎ ((w ≡ 4) ⊎ (w ≡ 8)))

-- the heights of the table
abbrev pub IsHeight : ℕ → Type 0
IsHeight h = (h ≡ 5) ⊎ ((h ≡ 10) ⊎ ((h ≡ 15) ⊎ ((h ≡ 20) ⊎ (h ≡ 25))))
