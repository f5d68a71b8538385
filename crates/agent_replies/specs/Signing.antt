-- A message that a device signs (RFC 9052, section 4.2).
use Rattle.std.specs.Prelude.{ℕ, List, [], ◌∷◌, Some}
use Rattle.cbor_core.specs.Spelling.{spelling}
use Rattle.cbor_core.specs.declared.item.Item.TheVariants as i
use Rattle.cbor_fields.specs.Written.{labelled}
use Rattle.cose_core.specs.declared.sign1.Sign1.{Sign1}
use Rattle.cose_core.specs.Signed.{signed_item}
use Rattle.hss_sign.specs.Kept.{HssKey}
use Rattle.hss_sign.specs.Sign.{signature_of}

-- the protected headers {1: -46}
abbrev pub protected : List ℕ
protected = 0xa1 ∷ 0x01 ∷ 0x38 ∷ 0x2d ∷ []

-- The payload, signed by the key at a leaf. The key identifier, label 4, is the number of the device.
abbrev pub signed : HssKey → List ℕ → ℕ → List ℕ → Sign1
signed key device leaf payload = record {
  protected = protected;
  unprotected = labelled 4 (i.Bytes device) ∷ [];
  payload = Some payload;
  signature = signature_of key.params key.seed leaf (spelling (signed_item protected payload));
}
