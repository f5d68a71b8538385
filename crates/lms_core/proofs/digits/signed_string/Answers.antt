use Rattle.std.proofs.Common.{◌≡◌, refl, ◌∙◌, arith}
use Rattle.lms_core.specs.Bytes.{u16_bytes}
use Rattle.lms_core.proofs.Sums.{two_parts}
use Rattle.lms_core.proofs.digits.signed_string.Goals as goal

pub returns : goal.returns
returns c =
    let back : c.copy_from_slice-2.new.self ≡ u16_bytes c.checksum.result = c.copy_from_slice-2.ensures.after ∙ c.to_be_bytes.ensures in
    rw (c.copy_from_slice.ensures.after, back, c.checksum.ensures) (two_parts _ _ (omega arith) refl)
