-- The values of options and parts: read as they were written, and written as they were read.
use Rattle.std.proofs.Common.{◌≡◌, ℕ, List, [], ◌∷◌, refl}
use Rattle.std.specs.Prelude.{Result, Ok, Err}
use Rattle.std.specs.List.{AllByRecursion}
use Rattle.cbor_core.specs.declared.item.Item.{Item}
use Rattle.cbor_core.specs.Views.{unsigned_of, bytes_of, truth_of}
use Rattle.cbor_fields.specs.declared.fault.FormFault.TheVariants.{Shape, NoMemory}
use Rattle.cbor_fields.specs.Views.{id_of, list_of}
use Rattle.cbor_fields.specs.Written.{IsSpelled, decoded}
use Rattle.cbor_fields.proofs.Public.Forms.{id_determines}
use Rattle.cbor_fields.proofs.Public.Placed.{id_seen}
use Rattle.cbor_fields.proofs.Public.Values.{id_gives}
use Rattle.item_codec.specs.Part.{Any, Part, Exact}
use Rattle.item_codec.specs.Fields.{shaped, in_map, in_array}
use Rattle.item_codec.proofs.Public.Forms.{any, unsigned_exact, truth_exact, list_exact, shaped_part, item_part, part_exact}
use Rattle.item_codec.proofs.Public.Ordered.{Reads, field_reads, needed_reads, none_reads, first_needed, next_needed, next_row, no_rows, map_part}
use Rattle.item_codec.proofs.Public.Arrays.{Makes, part_makes, all_made, none_made, part_seen, array_part}
use Rattle.teep_messages.specs.declared.reported.Reported.{Reported}
use Rattle.teep_messages.specs.declared.requested.Requested.{Requested}
use Rattle.teep_messages.specs.declared.operation.Operation.{Operation}
use Rattle.teep_messages.specs.Forms.{reported_in, reported_of, requested_in, requested_of, operation_in, operation_of, suite_of, profile_in, profile_of}
use Rattle.teep_messages.specs.Written.{unsigned, reported_rows, reported, requested_rows, requested, operation_members, operation, suite, profile}
use Rattle.cbor_fields.specs.Views.{IsIdentifier}
use Rattle.teep_messages.specs.Proper.{HasAlgorithm}

told : Shape ≡ NoMemory → ⊥
told e = cc

pub id_exact : Exact id_of decoded IsIdentifier
id_exact = record {
  fixes = id_determines;
  proper = λ x bytes s e. (x, id_gives x bytes s e);
  seen = λ bytes is. id_seen bytes is.0 is.1.0 is.1.1;
}

id : Part NoMemory (shaped Shape id_of) decoded IsIdentifier
id = shaped_part NoMemory Shape told id_exact

number : Part NoMemory (shaped Shape unsigned_of) unsigned Any
number = shaped_part NoMemory Shape told unsigned_exact

-- ---- {16: id, 17: sequence}

reported_reads : Reads NoMemory reported_rows reported_in (λ ps. ps) (λ v. IsIdentifier v.id)
reported_reads =
    needed_reads id Shape told 16 reported_rows _ _ (λ _.
    needed_reads number Shape told 17 reported_rows _ _ (λ _.
    none_reads NoMemory reported_rows (λ _. Shape) (λ _. told) _ _ refl (λ sequence id. id)))

reported_seen : (v : Reported) → IsIdentifier v.id → reported_in (reported_rows v) ≡ Ok v
reported_seen v is =
    first_needed id 16 Shape _ v.id _ v is
    (next_needed number 17 Shape _ v.sequence _ v tt 16 refl
    (no_rows 17 (λ _. Shape) v))

pub reported_exact : Exact reported_of reported (λ v. IsIdentifier v.id)
reported_exact = part_exact (map_part NoMemory Shape reported_in reported_rows (λ v. IsIdentifier v.id) told reported_reads reported_seen)

-- ---- {16: id}, with 17 and 18 where they are there

requested_reads : Reads NoMemory requested_rows requested_in (λ ps. ps) (λ v. IsIdentifier v.id)
requested_reads =
    needed_reads id Shape told 16 requested_rows _ _ (λ _.
    field_reads number 17 requested_rows _ _ (λ _.
    field_reads (shaped_part NoMemory Shape told truth_exact) 18 requested_rows _ _ (λ _.
    none_reads NoMemory requested_rows (λ _. Shape) (λ _. told) _ _ refl (λ flag sequence id. id))))

requested_seen : (v : Requested) → IsIdentifier v.id → requested_in (requested_rows v) ≡ Ok v
requested_seen v is =
    first_needed id 16 Shape _ v.id _ v is
    (next_row number 17 _ _ v v.sequence (any v.sequence) 16 refl
    (next_row (shaped_part NoMemory Shape told truth_exact) 18 _ _ v v.flag (any v.flag) 17 refl
    (no_rows 18 (λ _. Shape) v)))

pub requested_exact : Exact requested_of requested (λ v. IsIdentifier v.id)
requested_exact = part_exact (map_part NoMemory Shape requested_in requested_rows (λ v. IsIdentifier v.id) told requested_reads requested_seen)

-- ---- [tag, alg]

operation_makes : (xs : List Item) → Makes NoMemory operation_members (operation_in xs) xs Any
operation_makes (tag ∷ alg ∷ []) =
    part_makes number tag operation_members _ (λ x. x ∷ alg ∷ []) (λ all. all.0) (λ number.
    all_made NoMemory operation_members _ _ refl (λ _. tt))
operation_makes xs = none_made NoMemory operation_members Shape xs told

operation_seen : (v : Operation) → Any v → operation_in (operation_members v) ≡ Ok v
operation_seen v is = part_seen number v.tag _ _ tt refl

pub suite_exact : Exact suite_of suite (AllByRecursion Any)
suite_exact = list_exact (part_exact (array_part NoMemory Shape operation_in operation_members Any told operation_makes operation_seen))

-- ---- items of any kind, one or more

profile_makes : (xs : List Item) → Makes NoMemory (λ v. v) (profile_in xs) xs HasAlgorithm
profile_makes [] = none_made NoMemory (λ v. v) Shape [] told
profile_makes (x ∷ xs) = all_made NoMemory (λ v. v) (x ∷ xs) (x ∷ xs) refl tt

profile_seen : (v : List Item) → HasAlgorithm v → profile_in v ≡ Ok v
profile_seen [] is = absurd is
profile_seen (x ∷ xs) is = refl

pub profile_exact : Exact profile_of profile HasAlgorithm
profile_exact = part_exact (array_part NoMemory Shape profile_in (λ v. v) HasAlgorithm told profile_makes profile_seen)
