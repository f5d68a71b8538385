-- The item that an envelope is written as, with the tag.
use Rattle.std.specs.Prelude.{ℕ, Bool, List, [], ◌∷◌, ◌++◌, map, take, drop}
use Rattle.std.specs.List.{prefix_len}
use Rattle.cbor_core.specs.declared.item.Item.{Item}
use Rattle.cbor_core.specs.declared.item.Item.TheVariants as i
use Rattle.cbor_core.specs.declared.item.Pair.{Pair}
use Rattle.cbor_core.specs.Spelling.{spelling, bytes_below}
use Rattle.cbor_fields.specs.Written.{put}
use Rattle.item_codec.specs.Wrapped.{wrap}
use Rattle.suit_envelope.specs.declared.envelope.Attached.{Attached}
use Rattle.suit_envelope.specs.declared.envelope.Envelope.{Envelope}

-- ---- the wrapper

-- the byte string of the digest's bytes, and that of each block
abbrev pub wrapper_members : Envelope → List Item
wrapper_members v = i.Bytes v.digest_bytes ∷ map (λ block. i.Bytes block) v.blocks

-- the array of these
abbrev pub wrapper_item : Envelope → Item
wrapper_item v = i.Array (wrapper_members v)

-- ---- attached payloads among the pairs that are kept

-- the bytes of a key
abbrev pub key_bytes : Pair → List ℕ
key_bytes p = spelling p.key

-- the key's bytes are below those of the name, so that the pair stands before it (RFC 8949, section 4.2.1)
abbrev pub stands_before : List ℕ → Pair → Bool
stands_before name p = bytes_below (key_bytes p) (spelling (i.Text name))

-- a payload under its name
abbrev pub attached_pair : Attached → Pair
attached_pair a = record { key = i.Text a.name; value = i.Bytes a.bytes }

-- how many of the first pairs stand before the name
abbrev pub place_of : List ℕ → List Pair → ℕ
place_of name ps = prefix_len (stands_before name) ps

-- each payload behind the pairs that stand before its name
abbrev pub merged : List Attached → List Pair → List Pair
merged [] ps = ps
merged (a ∷ payloads) ps = take (place_of a.name ps) ps ++ attached_pair a ∷ merged payloads (drop (place_of a.name ps) ps)

-- ---- the envelope

-- the payloads and the pairs that are kept, with the wrapper and the manifest put among them
abbrev pub envelope_pairs : Envelope → List Pair
envelope_pairs v = put 3 (i.Bytes v.manifest_bytes) (put 2 (wrap wrapper_item v) (merged v.attached v.other))

-- the map of these
abbrev pub untagged : Envelope → Item
untagged v = i.Map (envelope_pairs v)

-- with the tag of an envelope
abbrev pub tagged : Envelope → Item
tagged v = i.Tag 107 (untagged v)
