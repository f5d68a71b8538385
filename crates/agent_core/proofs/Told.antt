-- What is said to a question is proper.
use Rattle.std.proofs.Common.{◌≡◌, ℕ, List, [], ◌∷◌, Option, Some, None, map, sym, subst, refl, arith}
use Rattle.std.specs.Prelude.{IfSome}
use Rattle.std.specs.List.{AllByRecursion}
use Rattle.base_types.specs.declared.limits.TheConstants.{TOKEN_LEAST, TOKEN_LIMIT}
use Rattle.cbor_core.specs.declared.item.Item.{Item}
use Rattle.cbor_core.specs.declared.item.Pair.{Pair}
use Rattle.cbor_core.specs.declared.item.Item.TheVariants as i
use Rattle.cbor_core.specs.Spelling.{IsProper, IsProperWithin}
use Rattle.cbor_core.proofs.Public.KeyOrder.{layers}
use Rattle.cbor_core.proofs.Public.Proper.{number_proper, array_proper}
use Rattle.cbor_fields.specs.Views.{IsIdentifier}
use Rattle.cbor_fields.specs.Written.{decoded, put, put_if}
use Rattle.item_codec.specs.Ordered.{row, needed_row}
use Rattle.teep_messages.specs.declared.reported.Reported.{Reported}
use Rattle.teep_messages.specs.Options.{IsSized, no_options}
use Rattle.teep_messages.specs.Proper.{IsProperMessage}
use Rattle.teep_messages.specs.Written as out
use Rattle.agent_replies.specs.Parts.{error_of, response_of}
use Rattle.agent_core.proofs.Identifiers.{decoded_proper}

-- ---- the manifests

-- each has an identifier
abbrev pub AreIdentified : List Reported → Type 0
AreIdentified = AllByRecursion (λ r. IsIdentifier r.id)

row_proper : (one : Reported) → IsProperWithin 12 (decoded one.id) → IsProperWithin 13 (out.reported one)
row_proper one is = grind (arith, layers)

rows_proper : (rows : List Reported) → AreIdentified rows → AllByRecursion (IsProperWithin 13) (map out.reported rows)
rows_proper [] all = tt
rows_proper (one ∷ rows) all = (row_proper one (decoded_proper 10 one.id all.0), rows_proper rows all.1)

list_proper : (rows : Option (List Reported)) → IfSome rows AreIdentified → IfSome rows (λ rows. IsProperWithin 14 (out.array out.reported rows))
list_proper None all = tt
list_proper (Some rows) all = array_proper 13 (map out.reported rows) (rows_proper rows all)

-- ---- the response

-- {6: 0, 7: evidence, 8: reported, 13: format, 20: token}, of which three may be missing
abbrev pub response_pairs : Option (List ℕ) → Option (List Reported) → Option (List ℕ) → List ℕ → List Pair
response_pairs evidence reported format token =
    needed_row out.unsigned 6 0 (row out.bytes 7 evidence (row (out.array out.reported) 8 reported (row out.text 13 format (needed_row out.bytes 20 token []))))

pairs_are : (evidence : Option (List ℕ)) (reported : Option (List Reported)) (format : Option (List ℕ)) (token : List ℕ)
    → out.option_pairs (record no_options { selected = Some 0; evidence = evidence; reported = reported; evidence_format = format; token = Some token }) ≡ response_pairs evidence reported format token
unfolding put put_if
pairs_are None None None token = simp i.outs-Unsigned
pairs_are (Some e) None None token = simp i.outs-Unsigned
pairs_are None (Some r) None token = simp i.outs-Unsigned
pairs_are (Some e) (Some r) None token = simp i.outs-Unsigned
pairs_are None None (Some f) token = simp i.outs-Unsigned
pairs_are (Some e) None (Some f) token = simp i.outs-Unsigned
pairs_are None (Some r) (Some f) token = simp i.outs-Unsigned
pairs_are (Some e) (Some r) (Some f) token = simp i.outs-Unsigned

abbrev pub response_item : List Pair → Item
response_item pairs = i.Array (out.unsigned 2 ∷ i.Map pairs ∷ [])

-- the item of a response
pub response_is : (evidence : Option (List ℕ)) (reported : Option (List Reported)) (format : Option (List ℕ)) (token : List ℕ)
    → out.written (response_of evidence reported format token) ≡ response_item (response_pairs evidence reported format token)
response_is evidence reported format token = rw (pairs_are evidence reported format token) refl

item_proper : (evidence : Option (List ℕ)) (reported : Option (List Reported)) (format : Option (List ℕ)) (token : List ℕ)
    → IfSome reported (λ rows. IsProperWithin 14 (out.array out.reported rows)) → IsProper (response_item (response_pairs evidence reported format token))
item_proper None None None token is = grind (arith, layers)
item_proper (Some e) None None token is = grind (arith, layers)
item_proper None (Some r) None token is = grind (arith, layers)
item_proper (Some e) (Some r) None token is = grind (arith, layers)
item_proper None None (Some f) token is = grind (arith, layers)
item_proper (Some e) None (Some f) token is = grind (arith, layers)
item_proper None (Some r) (Some f) token is = grind (arith, layers)
item_proper (Some e) (Some r) (Some f) token is = grind (arith, layers)

pub response_proper : (evidence : Option (List ℕ)) (reported : Option (List Reported)) (format : Option (List ℕ)) (token : List ℕ)
    → IsSized TOKEN_LEAST TOKEN_LIMIT (Some token) → IfSome reported AreIdentified → IsProperMessage (response_of evidence reported format token)
response_proper evidence reported format token sized all = record {
  fields = record { challenge_size = tt; token_size = sized; reported = all; requested = tt; unneeded = tt; other = tt };
  item = subst IsProper (sym (response_is evidence reported format token)) (item_proper evidence reported format token (list_proper reported all));
}

-- ---- an error

-- {3: versions, 20: token}, of which the first may be missing
abbrev pub error_pairs : Option (List ℕ) → List ℕ → List Pair
error_pairs versions token = row (out.array out.unsigned) 3 versions (needed_row out.bytes 20 token [])

error_pairs_are : (versions : Option (List ℕ)) (token : List ℕ)
    → out.option_pairs (record no_options { versions = versions; token = Some token }) ≡ error_pairs versions token
unfolding put put_if
error_pairs_are None token = refl
error_pairs_are (Some versions) token = simp i.outs-Unsigned

abbrev pub error_item : List Pair → ℕ → Item
error_item pairs code = i.Array (out.unsigned 6 ∷ i.Map pairs ∷ out.unsigned code ∷ [])

-- the item of an error
pub error_is : (versions : Option (List ℕ)) (token : List ℕ) (code : ℕ) → out.written (error_of versions token code) ≡ error_item (error_pairs versions token) code
error_is versions token code = rw (error_pairs_are versions token) refl

numbers_proper : (numbers : List ℕ) → AllByRecursion (IsProperWithin 13) (map out.unsigned numbers)
numbers_proper [] = tt
numbers_proper (n ∷ numbers) = (number_proper 13 n, numbers_proper numbers)

error_item_proper : (versions : Option (List ℕ)) (token : List ℕ) (code : ℕ) → IfSome versions (λ numbers. IsProperWithin 14 (out.array out.unsigned numbers))
    → IsProper (error_item (error_pairs versions token) code)
error_item_proper None token code is = grind (arith, layers)
error_item_proper (Some versions) token code is = grind (arith, layers)

versions_proper : (versions : Option (List ℕ)) → IfSome versions (λ numbers. IsProperWithin 14 (out.array out.unsigned numbers))
versions_proper None = tt
versions_proper (Some numbers) = array_proper 13 (map out.unsigned numbers) (numbers_proper numbers)

pub error_proper : (versions : Option (List ℕ)) (token : List ℕ) (code : ℕ) → IsSized TOKEN_LEAST TOKEN_LIMIT (Some token)
    → IsProperMessage (error_of versions token code)
error_proper versions token code sized = record {
  fields = record { challenge_size = tt; token_size = sized; reported = tt; requested = tt; unneeded = tt; other = tt };
  item = subst IsProper (sym (error_is versions token code)) (error_item_proper versions token code (versions_proper versions));
}
