-- What is written of manifests and components is read as these.
use Rattle.std.proofs.Common.{◌≡◌, ℕ, Bool, true, false, cond, List, [], ◌∷◌, map, Option, Some, None, refl, sym, ap, ◌∙◌}
use Rattle.std.specs.Prelude.{Result, Ok, Err, IfSome, option_map}
use Rattle.std.specs.List.{AllByRecursion}
use Rattle.cbor_core.specs.declared.item.Item.{Item, out-Item}
use Rattle.cbor_core.specs.declared.item.Item.TheVariants as i
use Rattle.cbor_core.specs.Views.{unsigned_of, bytes_of, truth_of, array_of, is_null}
use Rattle.cbor_fields.specs.declared.fault.FormFault.{FormFault}
use Rattle.cbor_fields.specs.declared.fault.FormFault.TheVariants.{Shape}
use Rattle.cbor_fields.specs.Views.{list_of}
use Rattle.cbor_fields.proofs.Public.Placed.{list_seen}
use Rattle.item_codec.specs.Answers.{and_then, or_fault, value_of}
use Rattle.item_codec.specs.Fields.{in_array}
use Rattle.suit_commands.specs.declared.digest.Digest.{Digest}
use Rattle.suit_commands.specs.Digests.{digest_of, digest_item, digest_members, IsProperDigest}
use Rattle.suit_commands.proofs.Public.Digests.{digest_exact}
use Rattle.device_state.specs.declared.rows.ComponentRow.{ComponentRow}
use Rattle.device_state.specs.declared.rows.ManifestRow.{ManifestRow}
use Rattle.commit_records.specs.Rows.{or_null, null_or, component_in, component_of, component_members, component_item, row_in, row_of, row_members, row_item}
use Rattle.commit_records.specs.Changes.{HasDigest, HaveDigests}

-- one part more
part_again : {V S : Type 0} (o : Option V) (v : V) (others : V → Result S FormFault) (value : S) → o ≡ Some v → others v ≡ Ok value → and_then others (or_fault Shape o) ≡ Ok value
part_again o v others value is more = ap (λ p. and_then others (or_fault Shape p)) is ∙ more

bytes_again : (bytes : List ℕ) → bytes_of (i.Bytes bytes) ≡ Some bytes
bytes_again bytes = rw i.outs-Bytes refl

unsigned_again : (n : ℕ) → unsigned_of (i.Unsigned n) ≡ Some n
unsigned_again n = rw i.outs-Unsigned refl

truth_again : (b : Bool) → truth_of (i.Truth b) ≡ Some b
truth_again b = rw i.outs-Truth refl

pub array_again : (xs : List Item) → array_of (i.Array xs) ≡ Some xs
array_again xs = rw i.outs-Array refl

by_null : {V : Type 0} (null : Bool) (o : Option V) → null ≡ false → cond null (Some None) (option_map (λ v. Some v) o) ≡ option_map (λ v. Some v) o
by_null true o is = absurd cc
by_null false o is = refl

digest_again : (o : Option Digest) → IfSome o IsProperDigest → or_null digest_of (null_or digest_item o) ≡ Some o
digest_again None is = rw i.outs-Null refl
digest_again (Some d) is =
    let other : is_null (out-Item (digest_item d)) ≡ false = rw i.outs-Array refl in
    by_null (is_null (out-Item (digest_item d))) (digest_of (digest_item d)) other ∙ ap (λ (o : Option Digest). option_map (λ v. Some v) o) (digest_exact.seen d is)

-- an array whose members are read so
members_again : {S : Type 0} (read : List Item → Result S FormFault) (xs : List Item) (value : S) → read xs ≡ Ok value → value_of (in_array Shape read (i.Array xs)) ≡ Some value
members_again read xs value is = ap (λ o. value_of (and_then read (or_fault Shape o))) (array_again xs) ∙ ap value_of is

component_again : (c : ComponentRow) → HasDigest c → component_of (component_item c) ≡ Some c
component_again c has = members_again component_in (component_members c) c (
    part_again (bytes_of (i.Bytes c.id)) c.id _ c (bytes_again c.id) (
    part_again (or_null digest_of (null_or digest_item c.digest)) c.digest _ c (digest_again c.digest has) (
    part_again (bytes_of (i.Bytes c.bytes)) c.bytes _ c (bytes_again c.bytes) refl)))

components_again : (cs : List ComponentRow) → AllByRecursion HasDigest cs → AllByRecursion (λ c. component_of (component_item c) ≡ Some c) cs
components_again [] all = tt
components_again (c ∷ cs) all = (component_again c all.0, components_again cs all.1)

row_again : (row : ManifestRow) → HaveDigests row → row_of component_of (row_item component_item row) ≡ Some row
row_again row have = members_again (row_in component_of) (row_members component_item row) row (
    part_again (bytes_of (i.Bytes row.id)) row.id _ row (bytes_again row.id) (
    part_again (unsigned_of (i.Unsigned row.sequence)) row.sequence _ row (unsigned_again row.sequence) (
    part_again (truth_of (i.Truth row.present)) row.present _ row (truth_again row.present) (
    part_again (list_of component_of (i.Array (map component_item row.components))) row.components _ row
    (list_seen component_of component_item row.components (components_again row.components have)) refl))))

each_again : (rows : List ManifestRow) → AllByRecursion HaveDigests rows → AllByRecursion (λ row. row_of component_of (row_item component_item row) ≡ Some row) rows
each_again [] all = tt
each_again (row ∷ rows) all = (row_again row all.0, each_again rows all.1)

pub rows_again : (rows : List ManifestRow) → AllByRecursion HaveDigests rows → list_of (row_of component_of) (i.Array (map (row_item component_item) rows)) ≡ Some rows
rows_again rows all = list_seen (row_of component_of) (row_item component_item) rows (each_again rows all)
