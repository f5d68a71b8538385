-- The wrapper of an envelope: the digest of its manifest, and the blocks that sign it (draft-ietf-suit-manifest, "SUIT_Authentication").
use Rattle.std.specs.Prelude.{List, [], ◌∷◌, Result, Err}
use Rattle.cbor_core.specs.declared.item.Item.{Item}
use Rattle.cbor_core.specs.Views.{bytes_of}
use Rattle.item_codec.specs.Answers.{mapped}
use Rattle.item_codec.specs.Fields.{shaped, part, in_array}
use Rattle.item_codec.specs.Wrapped.{wrapped}
use Rattle.suit_commands.specs.Digests.{wrapped_digest_of}
use Rattle.suit_envelope.specs.declared.envelope.Wrapper.{Wrapper}
use Rattle.suit_envelope.specs.declared.fault.EnvelopeFault.{EnvelopeFault}
use Rattle.suit_envelope.specs.declared.fault.EnvelopeFault.TheVariants.{Shape}
use Rattle.suit_envelope.specs.Each.{each_read}

-- the digest that a byte string wraps, with these bytes, and the bytes of each block
abbrev pub wrapper_by : Item → List Item → Result Wrapper EnvelopeFault
wrapper_by digest blocks =
    part (shaped (Shape 2) wrapped_digest_of) digest (λ value.
    part (shaped (Shape 2) bytes_of) digest (λ digest_bytes.
    mapped (λ blocks. record { digest = value; digest_bytes = digest_bytes; blocks = blocks }) (each_read (shaped (Shape 2) bytes_of) blocks)))

-- [digest, block ..]
abbrev pub wrapper_in : List Item → Result Wrapper EnvelopeFault
wrapper_in [] = Err (Shape 2)
wrapper_in (digest ∷ blocks) = wrapper_by digest blocks

-- the wrapper of a byte string that wraps such an array
abbrev pub wrapper_of : Item → Result Wrapper EnvelopeFault
wrapper_of x = wrapped (Shape 2) (in_array (Shape 2) wrapper_in) x
