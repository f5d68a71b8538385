-- A signed payload by its parts.
use Rattle.std.specs.Prelude.{ℕ, List, [], ◌∷◌, Some}
use Rattle.cbor_core.specs.declared.item.Item.TheVariants as i
use Rattle.cbor_fields.specs.Written.{labelled}
use Rattle.cose_core.specs.declared.sign1.Sign1.{Sign1}
use Rattle.agent_replies.specs.Signing.{protected}

-- a payload with a signature, and the number of the device as the key identifier
abbrev pub enveloped : List ℕ → List ℕ → List ℕ → Sign1
enveloped device payload signature = record {
  protected = protected;
  unprotected = labelled 4 (i.Bytes device) ∷ [];
  payload = Some payload;
  signature = signature;
}
