-- Manifests and their components as items.
use Rattle.std.specs.Prelude.{ℕ, List, [], ◌∷◌, map, Option, Some, None, option_map, Result, Ok, Err, if◌then◌else◌}
use Rattle.cbor_core.specs.declared.item.Item.{Item, out-Item}
use Rattle.cbor_core.specs.declared.item.Item.TheVariants as i
use Rattle.cbor_core.specs.Views.{unsigned_of, bytes_of, truth_of, is_null}
use Rattle.cbor_fields.specs.declared.fault.FormFault.{FormFault}
use Rattle.cbor_fields.specs.declared.fault.FormFault.TheVariants.{Shape}
use Rattle.cbor_fields.specs.Views.{list_of}
use Rattle.item_codec.specs.Answers.{value_of}
use Rattle.item_codec.specs.Fields.{shaped, part, in_array}
use Rattle.suit_commands.specs.Digests.{digest_of, digest_item}
use Rattle.device_state.specs.declared.rows.ComponentRow.{ComponentRow}
use Rattle.device_state.specs.declared.rows.ManifestRow.{ManifestRow}

-- ---- a value or null

-- null for no value, and every other item by this form
abbrev pub or_null : {V : Type 0} → (Item → Option V) → Item → Option (Option V)
or_null view x = if is_null (out-Item x) then Some None else option_map (λ v. Some v) (view x)

-- the item of a value, or null
abbrev pub null_or : {V : Type 0} → (V → Item) → Option V → Item
null_or item None = i.Null
null_or item (Some v) = item v

-- ---- components

-- [component id, content], as version 1 has it: no digest is kept
abbrev pub plain_in : List Item → Result ComponentRow FormFault
plain_in (id ∷ content ∷ []) =
    part (shaped Shape bytes_of) id (λ id.
    part (shaped Shape bytes_of) content (λ bytes.
    Ok (record { id = id; bytes = bytes; digest = None })))
plain_in _ = Err Shape

-- the component of such an array
abbrev pub plain_of : Item → Option ComponentRow
plain_of x = value_of (in_array Shape plain_in x)

-- the array of a component without its digest
abbrev pub plain_item : ComponentRow → Item
plain_item c = i.Array (i.Bytes c.id ∷ i.Bytes c.bytes ∷ [])

-- [component id, digest, content], as version 2 has it, the digest null or [alg, bytes]
abbrev pub component_in : List Item → Result ComponentRow FormFault
component_in (id ∷ digest ∷ content ∷ []) =
    part (shaped Shape bytes_of) id (λ id.
    part (shaped Shape (or_null digest_of)) digest (λ digest.
    part (shaped Shape bytes_of) content (λ bytes.
    Ok (record { id = id; bytes = bytes; digest = digest }))))
component_in _ = Err Shape

-- the component of such an array
abbrev pub component_of : Item → Option ComponentRow
component_of x = value_of (in_array Shape component_in x)

-- the parts of a component in version 2
abbrev pub component_members : ComponentRow → List Item
component_members c = i.Bytes c.id ∷ null_or digest_item c.digest ∷ i.Bytes c.bytes ∷ []

-- the array of these
abbrev pub component_item : ComponentRow → Item
component_item c = i.Array (component_members c)

-- ---- manifests

-- [id, sequence, present, [component, ..]], where components are read so
abbrev pub row_in : (Item → Option ComponentRow) → List Item → Result ManifestRow FormFault
row_in component (id ∷ sequence ∷ present ∷ components ∷ []) =
    part (shaped Shape bytes_of) id (λ id.
    part (shaped Shape unsigned_of) sequence (λ sequence.
    part (shaped Shape truth_of) present (λ present.
    part (shaped Shape (list_of component)) components (λ components.
    Ok (record { id = id; sequence = sequence; present = present; components = components })))))
row_in component _ = Err Shape

-- the row of such an array
abbrev pub row_of : (Item → Option ComponentRow) → Item → Option ManifestRow
row_of component x = value_of (in_array Shape (row_in component) x)

-- the parts of a row, its components written so
abbrev pub row_members : (ComponentRow → Item) → ManifestRow → List Item
row_members component row = i.Bytes row.id ∷ i.Unsigned row.sequence ∷ i.Truth row.present ∷ i.Array (map component row.components) ∷ []

-- the array of these
abbrev pub row_item : (ComponentRow → Item) → ManifestRow → Item
row_item component row = i.Array (row_members component row)
