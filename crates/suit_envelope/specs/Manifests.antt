-- Which manifest an item is, or its first refusal (draft-ietf-suit-manifest, "SUIT_Manifest").
use Rattle.std.specs.Prelude.{ℕ, ◌==◌, ◌&&◌, nat_eq, nat_le, Bool, true, false, List, [], ◌∷◌, length, Option, Some, None, Result, Ok, Err, if◌then◌else◌}
use Rattle.std.specs.Cmp.Lexicographic.{pointwise}
use Rattle.base_types.specs.declared.limits.TheConstants.{COMPONENTS_LIMIT, COMPONENT_ID_LIMIT}
use Rattle.cbor_core.specs.declared.item.Item.{Item, out-Item}
use Rattle.cbor_core.specs.declared.item.Item.TheOpen.{Item-F}
use Rattle.cbor_core.specs.declared.item.Pair.{Pair}
use Rattle.cbor_core.specs.Views.{unsigned_of, bytes_of, field}
use Rattle.cbor_fields.specs.Views.{id_of, others}
use Rattle.item_codec.specs.Answers.{and_then}
use Rattle.item_codec.specs.Fields.{shaped, within, known, required, in_array, in_map}
use Rattle.item_codec.specs.Wrapped.{wrapped}
use Rattle.suit_envelope.specs.declared.fault.EnvelopeFault.{EnvelopeFault}
use Rattle.suit_envelope.specs.declared.fault.EnvelopeFault.TheVariants.{Shape}
use Rattle.suit_envelope.specs.declared.manifest.Manifest.{Manifest}
use Rattle.suit_envelope.specs.declared.manifest.Common.{Common}
use Rattle.suit_envelope.specs.Each.{each_read}

-- ---- identifiers

-- the encoding of an identifier, which is an array of one or more byte strings, of at most 128 bytes
abbrev pub identifier : EnvelopeFault → Item → Result (List ℕ) EnvelopeFault
identifier fault x = and_then (within 0 COMPONENT_ID_LIMIT fault) (shaped fault id_of x)

-- the bytes are one of these
abbrev pub is_one_of : List ℕ → List (List ℕ) → Bool
is_one_of bytes [] = false
is_one_of bytes (first ∷ others) = if pointwise nat_eq first bytes then true else is_one_of bytes others

-- no two are the same bytes
abbrev pub are_distinct : List (List ℕ) → Bool
are_distinct [] = true
are_distinct (first ∷ others) = if is_one_of first others then false else are_distinct others

-- ---- the common part

-- these, where no two are the same
abbrev pub distinct : List (List ℕ) → Result (List (List ℕ)) EnvelopeFault
distinct ids = if are_distinct ids then Ok ids else Err (Shape 13)

-- 1 to 16 identifiers, no two the same
abbrev pub components_in : List Item → Result (List (List ℕ)) EnvelopeFault
components_in xs =
    if nat_le 1 (length xs) && nat_le (length xs) COMPONENTS_LIMIT then and_then distinct (each_read (identifier (Shape 13)) xs)
    else Err (Shape 13)

-- the components of an array
abbrev pub components_of : Item → Result (List (List ℕ)) EnvelopeFault
components_of = in_array (Shape 13) components_in

-- the common part of a map's pairs: components, and a shared sequence where it is there (draft-ietf-suit-manifest, "SUIT_Common")
abbrev pub common_in : List Pair → Result Common EnvelopeFault
common_in ps =
    required components_of (Shape 13) (field 2 ps) (λ components.
    known (shaped (Shape 13) bytes_of) (field 4 ps) (λ shared.
    Ok (record { components = components; shared = shared; other = others (2 ∷ 4 ∷ []) ps })))

-- the common part that a byte string wraps
abbrev pub common_of : Item → Result Common EnvelopeFault
common_of x = wrapped (Shape 13) (in_map (Shape 13) common_in) x

-- ---- the manifest

-- the version is the number 1, by its layer
abbrev pub is_version_by : Item-F Item Pair → Bool
is_version_by (Item-F.Unsigned n) = n == 1
is_version_by _ = false

-- the version is there, and it is the number 1
abbrev pub is_version : Option Item → Bool
is_version None = false
is_version (Some x) = is_version_by (out-Item x)

-- the labels that are read; all other members are kept
abbrev pub labels : List ℕ
labels = 1 ∷ 2 ∷ 3 ∷ 5 ∷ []

-- what stands behind the version: sequence number, common part and identifier
abbrev pub versioned_in : List Pair → Result Manifest EnvelopeFault
versioned_in ps =
    required (shaped (Shape 12) unsigned_of) (Shape 12) (field 2 ps) (λ sequence.
    required common_of (Shape 13) (field 3 ps) (λ common.
    required (identifier (Shape 15)) (Shape 15) (field 5 ps) (λ id.
    Ok (record {
      id = id;
      sequence = sequence;
      components = common.components;
      shared = common.shared;
      members = others labels ps;
      common_other = common.other;
    }))))

-- the manifest of a map's pairs
abbrev pub manifest_in : List Pair → Result Manifest EnvelopeFault
manifest_in ps = if is_version (field 1 ps) then versioned_in ps else Err (Shape 3)

-- The manifest of an item, which is a map.
unfoldable pub manifest_of : Item → Result Manifest EnvelopeFault
manifest_of x = in_map (Shape 3) manifest_in x
