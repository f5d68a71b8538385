-- Which envelope an item is, or its first refusal; and which envelope bytes are (draft-ietf-suit-manifest, "SUIT_Envelope").
use Rattle.std.specs.Prelude.{ℕ, ◌==◌, ◌&&◌, not, Bool, false, List, [], ◌∷◌, Option, Some, None, Result, Ok, if◌then◌else◌}
use Rattle.std.specs.List.{filter}
use Rattle.cbor_core.specs.declared.item.Item.{Item, out-Item}
use Rattle.cbor_core.specs.declared.item.Item.TheOpen.{Item-F}
use Rattle.cbor_core.specs.declared.item.Pair.{Pair}
use Rattle.cbor_core.specs.Views.{bytes_of, field}
use Rattle.cbor_fields.specs.Views.{is_other}
use Rattle.item_codec.specs.Fields.{shaped, required, in_map}
use Rattle.item_codec.specs.Wrapped.{wrapped}
use Rattle.item_codec.specs.Whole.{HasValue, HasRefusal}
use Rattle.suit_envelope.specs.declared.envelope.Attached.{Attached}
use Rattle.suit_envelope.specs.declared.envelope.Envelope.{Envelope}
use Rattle.suit_envelope.specs.declared.fault.EnvelopeFault.{EnvelopeFault}
use Rattle.suit_envelope.specs.declared.fault.EnvelopeFault.TheVariants.{Cbor, Shape}
use Rattle.suit_envelope.specs.Wrapper.{wrapper_of}
use Rattle.suit_envelope.specs.Manifests.{manifest_of}

-- ---- attached payloads

-- a text begins with `#`
abbrev pub is_marked : List ℕ → Bool
is_marked [] = false
is_marked (byte ∷ bytes) = byte == 35

-- the payload under a name, where the name begins with `#`
abbrev pub marked : List ℕ → List ℕ → Option Attached
marked name bytes = if is_marked name then Some (record { name = name; bytes = bytes }) else None

-- the payload that a byte string is under a text key, by the layers of key and value
abbrev pub attached_by : Item-F Item Pair → Item-F Item Pair → Option Attached
attached_by (Item-F.Text name) (Item-F.Bytes bytes) = marked name bytes
attached_by _ _ = None

-- the payload that is attached by a pair
abbrev pub attached_in : Pair → Option Attached
attached_in p = attached_by (out-Item p.key) (out-Item p.value)

-- one more before others, where there is one
abbrev pub before : {A : Type 0} → Option A → List A → List A
before None others = others
before (Some a) others = a ∷ others

-- the payloads that pairs attach, in their order
abbrev pub attached_of : List Pair → List Attached
attached_of [] = []
attached_of (p ∷ ps) = before (attached_in p) (attached_of ps)

-- a pair attaches a payload, by the layers of key and value
abbrev pub is_attached_by : Item-F Item Pair → Item-F Item Pair → Bool
is_attached_by (Item-F.Text name) (Item-F.Bytes bytes) = is_marked name
is_attached_by _ _ = false

-- a pair attaches a payload
abbrev pub is_attached : Pair → Bool
is_attached p = is_attached_by (out-Item p.key) (out-Item p.value)

-- the labels that are read
abbrev pub labels : List ℕ
labels = 2 ∷ 3 ∷ []

-- a pair is kept that has none of the labels and attaches no payload
abbrev pub is_kept : Pair → Bool
is_kept p = is_other labels p && not (is_attached p)

-- the pairs that are kept, in their order
abbrev pub kept_of : List Pair → List Pair
kept_of = filter is_kept

-- ---- the envelope

-- the envelope of a map's pairs: the wrapper, and then the manifest with its bytes
abbrev pub envelope_in : List Pair → Result Envelope EnvelopeFault
envelope_in ps =
    required wrapper_of (Shape 2) (field 2 ps) (λ wrapper.
    required (wrapped (Shape 3) manifest_of) (Shape 3) (field 3 ps) (λ manifest.
    required (shaped (Shape 3) bytes_of) (Shape 3) (field 3 ps) (λ manifest_bytes.
    Ok (record {
      digest = wrapper.digest;
      digest_bytes = wrapper.digest_bytes;
      blocks = wrapper.blocks;
      manifest_bytes = manifest_bytes;
      manifest = manifest;
      attached = attached_of ps;
      other = kept_of ps;
    }))))

-- an item without the tag of an envelope, where it has it, by its layer
abbrev pub content_by : Item → Item-F Item Pair → Item
content_by x (Item-F.Tag n y) = if n == 107 then y else x
content_by x _ = x

-- an item without the tag of an envelope, where it has it
abbrev pub content_of : Item → Item
content_of x = content_by x (out-Item x)

-- The envelope of a map, with the tag or without.
unfoldable pub envelope_of : Item → Result Envelope EnvelopeFault
envelope_of x = in_map (Shape 0) envelope_in (content_of x)

-- the bytes spell an item that is the envelope
abbrev pub EnvelopeIs : Envelope → List ℕ → Type 0
EnvelopeIs envelope bytes = HasValue envelope_of bytes envelope

-- the bytes spell no item, and Cbor says why, or an item that is refused so
abbrev pub RefusedAs : List ℕ → EnvelopeFault → Type 0
RefusedAs bytes fault = HasRefusal (λ f. Cbor f) envelope_of bytes fault
