-- Parameters: which map they are, or its first refusal, and the map that they are written as.
use Rattle.std.specs.Prelude.{List, [], ◌∷◌, IfSome, Result}
use Rattle.cbor_core.specs.declared.item.Item.{Item, out-Item}
use Rattle.cbor_core.specs.declared.item.Item.TheOpen.{Item-F}
use Rattle.cbor_core.specs.declared.item.Item.TheVariants as i
use Rattle.cbor_core.specs.declared.item.Pair.{Pair}
use Rattle.cbor_core.specs.Views.{unsigned_of, bytes_of, text_of}
use Rattle.item_codec.specs.Fields.{shaped, in_map}
use Rattle.item_codec.specs.Ordered.{field, no_more, row}
use Rattle.item_codec.specs.InOrder.{Check, check}
use Rattle.item_codec.specs.Wrapped.{wrap}
use Rattle.suit_commands.specs.declared.fault.SequenceFault.{SequenceFault}
use Rattle.suit_commands.specs.declared.fault.SequenceFault.TheVariants.{Shape, Parameter}
use Rattle.suit_commands.specs.declared.parameters.Parameters.{Parameters}
use Rattle.suit_commands.specs.Digests.{wrapped_digest_of, digest_item, IsWrappableDigest}

-- ---- what is read

-- the refusal of a key that is not in the table, or not in its place
abbrev pub unknown_by : Item-F Item Pair → SequenceFault
unknown_by (Item-F.Unsigned n) = Parameter n
unknown_by _ = Shape

-- the refusal of a pair whose key is such
abbrev pub unknown : Pair → SequenceFault
unknown p = unknown_by (out-Item p.key)

-- the parameters of a map's pairs, or the first that is refused
abbrev pub parameters_in : List Pair → Result Parameters SequenceFault
parameters_in ps =
    field (shaped Shape bytes_of) 1 ps (λ vendor ps.
    field (shaped Shape bytes_of) 2 ps (λ class ps.
    field (shaped Shape wrapped_digest_of) 3 ps (λ digest ps.
    field (shaped Shape unsigned_of) 14 ps (λ size ps.
    field (shaped Shape bytes_of) 18 ps (λ content ps.
    field (shaped Shape text_of) 21 ps (λ uri ps.
    field (shaped Shape unsigned_of) 22 ps (λ source ps.
    field (shaped Shape bytes_of) 24 ps (λ device ps.
    no_more unknown ps (record {
      vendor = vendor;
      class = class;
      image_digest = digest;
      image_size = size;
      content = content;
      uri = uri;
      source = source;
      device = device;
    })))))))))

-- the parameters of an item, which is a map
abbrev pub parameters_of : Item → Result Parameters SequenceFault
parameters_of = in_map Shape parameters_in

-- the table of labels, each with what it may hold
abbrev pub table : List (Check SequenceFault)
table =
    check 1 (shaped Shape bytes_of) ∷
    check 2 (shaped Shape bytes_of) ∷
    check 3 (shaped Shape wrapped_digest_of) ∷
    check 14 (shaped Shape unsigned_of) ∷
    check 18 (shaped Shape bytes_of) ∷
    check 21 (shaped Shape text_of) ∷
    check 22 (shaped Shape unsigned_of) ∷
    check 24 (shaped Shape bytes_of) ∷
    []

-- ---- what is written

-- each parameter that is there under its label
abbrev pub rows : Parameters → List Pair
rows v =
    row (λ b. i.Bytes b) 1 v.vendor
    (row (λ b. i.Bytes b) 2 v.class
    (row (wrap digest_item) 3 v.image_digest
    (row (λ n. i.Unsigned n) 14 v.image_size
    (row (λ b. i.Bytes b) 18 v.content
    (row (λ t. i.Text t) 21 v.uri
    (row (λ n. i.Unsigned n) 22 v.source
    (row (λ b. i.Bytes b) 24 v.device
    [])))))))

-- the map of these
abbrev pub parameters_item : Parameters → Item
parameters_item v = i.Map (rows v)

-- the digest, where one is there, has its size and may be wrapped
abbrev pub AreProper : Parameters → Type 0
AreProper v = IfSome v.image_digest IsWrappableDigest
