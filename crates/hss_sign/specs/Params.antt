-- The parameters that keys may have.
use Rattle.std.specs.Prelude.{◌≡◌, ◌⊎◌, ℕ, ◌*◌, ◌^◌, ◌==◌, if◌then◌else◌}
use Rattle.lms_core.specs.declared.parameters.OtsParams.{OtsParams}
use Rattle.lms_core.specs.Parameters.{width_4, width_8}
use Rattle.hss_sign.specs.declared.params.KeyParams.{KeyParams}

-- one or two levels, trees of height 5 or 10, and chains of 4 or 8 bits a digit
pub record IsProperParams (p : KeyParams) : Type 0 where
  pub levels : (p.levels ≡ 1) ⊎ (p.levels ≡ 2)
  pub height : (p.height ≡ 5) ⊎ (p.height ≡ 10)
  pub width : (p.width ≡ 4) ⊎ (p.width ≡ 8)

-- the LMS type of the trees' height (RFC 8554, 5.1)
abbrev pub lms_type : KeyParams → ℕ
lms_type p = if p.height == 5 then 5 else 6

-- the LM-OTS type of the width, and its parameters (RFC 8554, 4.1)
abbrev pub ots_type : KeyParams → ℕ
ots_type p = if p.width == 4 then 3 else 4

-- the one-time parameters of a width (RFC 8554, 4.1)
abbrev pub ots_params : KeyParams → OtsParams
ots_params p = if p.width == 4 then width_4 else width_8

-- how many messages a key signs, one a leaf
abbrev pub capacity : KeyParams → ℕ
capacity p = 2 ^ (p.levels * p.height)
