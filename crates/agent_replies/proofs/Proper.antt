-- What is said to a question is proper.
use Rattle.std.proofs.Common.{◌≡◌, ℕ, Bool, true, false, cond, List, [], ◌∷◌, ◌++◌, Option, Some, None, Result, map, refl, sym, subst, arith}
use Rattle.std.specs.Prelude.{IfOk, IfSome}
use Rattle.std.specs.List.{AllByRecursion, filter}
use Rattle.base_types.specs.declared.limits.TheConstants.{TOKEN_LEAST, TOKEN_LIMIT}
use Rattle.base_types.specs.declared.memory.NoMemory.{NoMemory}
use Rattle.cbor_core.specs.declared.item.Item.{Item}
use Rattle.cbor_core.specs.declared.item.Pair.{Pair}
use Rattle.cbor_core.specs.declared.item.Item.TheVariants as i
use Rattle.cbor_core.specs.Spelling.{IsProper, IsProperWithin}
use Rattle.cbor_core.proofs.Public.KeyOrder.{layers}
use Rattle.cbor_core.proofs.Public.Proper.{number_proper, array_proper}
use Rattle.cbor_fields.specs.Views.{IsIdentifier}
use Rattle.cbor_fields.specs.Written.{decoded, put, put_if}
use Rattle.device_state.specs.declared.heads.RowHead.{RowHead}
use Rattle.evidence.specs.declared.ids.DeviceIds.{DeviceIds}
use Rattle.item_codec.specs.Ordered.{row, needed_row}
use Rattle.teep_messages.specs.declared.message.Message.{Message}
use Rattle.teep_messages.specs.declared.options.Options.{Options}
use Rattle.teep_messages.specs.declared.reported.Reported.{Reported}
use Rattle.teep_messages.specs.Messages.{MessageIs}
use Rattle.teep_messages.specs.Options.{IsSized, no_options}
use Rattle.teep_messages.specs.Proper.{IsProperMessage}
use Rattle.teep_messages.specs.Written as out
use Rattle.agent_replies.specs.Parts.{error_of, response_of}
use Rattle.agent_replies.specs.Question.{asks_manifests}
use Rattle.agent_replies.specs.Saying.{bound_to, evidence_for, format_for, reported, reported_for, response, where_any, wrong_suite, wrong_version}
use Rattle.agent_replies.proofs.Identifiers.{decoded_proper}

-- ---- the manifests

-- each has an identifier
abbrev pub AreIdentified : List Reported → Type 0
AreIdentified = AllByRecursion (λ r. IsIdentifier r.id)

row_proper : (row : Reported) → IsProperWithin 12 (decoded row.id) → IsProperWithin 13 (out.reported row)
row_proper row is = grind (arith, layers)

rows_proper : (rows : List Reported) → AreIdentified rows → AllByRecursion (IsProperWithin 13) (map out.reported rows)
rows_proper [] all = tt
rows_proper (row ∷ rows) all = (row_proper row (decoded_proper 10 row.id all.0), rows_proper rows all.1)

list_proper : (rows : List Reported) → AreIdentified rows → IsProperWithin 14 (out.array out.reported rows)
list_proper rows all = array_proper 13 (map out.reported rows) (rows_proper rows all)

-- ---- the response

-- {6: 0, 7: evidence, 8: reported, 13: format, 20: token}, of which three may be missing
abbrev response_pairs : Option (List ℕ) → Option (List Reported) → Option (List ℕ) → List ℕ → List Pair
response_pairs evidence reported format token =
    needed_row out.unsigned 6 0 (row out.bytes 7 evidence (row (out.array out.reported) 8 reported (row out.text 13 format (needed_row out.bytes 20 token []))))

pairs_are : (evidence : Option (List ℕ)) (reported : Option (List Reported)) (format : Option (List ℕ)) (token : List ℕ)
    → out.option_pairs (record no_options { selected = Some 0; evidence = evidence; reported = reported; evidence_format = format; token = Some token }) ≡ response_pairs evidence reported format token
unfolding put put_if
pairs_are None None None token = simp i.outs-Unsigned
pairs_are (Some e) None None token = simp i.outs-Unsigned
pairs_are None (Some r) None token = simp i.outs-Unsigned
pairs_are (Some e) (Some r) None token = simp i.outs-Unsigned
pairs_are None None (Some f) token = simp i.outs-Unsigned
pairs_are (Some e) None (Some f) token = simp i.outs-Unsigned
pairs_are None (Some r) (Some f) token = simp i.outs-Unsigned
pairs_are (Some e) (Some r) (Some f) token = simp i.outs-Unsigned

abbrev response_item : Option (List ℕ) → Option (List Reported) → Option (List ℕ) → List ℕ → Item
response_item evidence reported format token = i.Array (out.unsigned 2 ∷ i.Map (response_pairs evidence reported format token) ∷ [])

item_proper : (evidence : Option (List ℕ)) (reported : Option (List Reported)) (format : Option (List ℕ)) (token : List ℕ)
    → IfSome reported (λ rows. IsProperWithin 14 (out.array out.reported rows)) → IsProper (response_item evidence reported format token)
item_proper None None None token is = grind (arith, layers)
item_proper (Some e) None None token is = grind (arith, layers)
item_proper None (Some r) None token is = grind (arith, layers)
item_proper (Some e) (Some r) None token is = grind (arith, layers)
item_proper None None (Some f) token is = grind (arith, layers)
item_proper (Some e) None (Some f) token is = grind (arith, layers)
item_proper None (Some r) (Some f) token is = grind (arith, layers)
item_proper (Some e) (Some r) (Some f) token is = grind (arith, layers)

reported_proper : (reported : Option (List Reported)) → IfSome reported AreIdentified → IfSome reported (λ rows. IsProperWithin 14 (out.array out.reported rows))
reported_proper None all = tt
reported_proper (Some rows) all = list_proper rows all

pub response_proper : (evidence : Option (List ℕ)) (reported : Option (List Reported)) (format : Option (List ℕ)) (token : List ℕ)
    → IsSized TOKEN_LEAST TOKEN_LIMIT (Some token) → IfSome reported AreIdentified → IsProperMessage (response_of evidence reported format token)
response_proper evidence reported format token sized all = record {
  fields = record { challenge_size = tt; token_size = sized; reported = all; requested = tt; unneeded = tt; other = tt };
  item = subst (λ (ps : List Pair). IsProper (i.Array (out.unsigned 2 ∷ i.Map ps ∷ []))) (sym (pairs_are evidence reported format token))
      (item_proper evidence reported format token (reported_proper reported all));
}

-- ---- an error

-- {3: versions, 20: token}, of which the first may be missing
abbrev error_pairs : Option (List ℕ) → List ℕ → List Pair
error_pairs versions token = row (out.array out.unsigned) 3 versions (needed_row out.bytes 20 token [])

error_pairs_are : (versions : Option (List ℕ)) (token : List ℕ) → out.option_pairs (record no_options { versions = versions; token = Some token }) ≡ error_pairs versions token
unfolding put put_if
error_pairs_are None token = refl
error_pairs_are (Some versions) token = simp i.outs-Unsigned

numbers_proper : (numbers : List ℕ) → AllByRecursion (IsProperWithin 13) (map out.unsigned numbers)
numbers_proper [] = tt
numbers_proper (n ∷ numbers) = (number_proper 13 n, numbers_proper numbers)

error_item_proper : (versions : Option (List ℕ)) (token : List ℕ) (code : ℕ) → IfSome versions (λ numbers. IsProperWithin 14 (out.array out.unsigned numbers))
    → IsProper (i.Array (out.unsigned 6 ∷ i.Map (error_pairs versions token) ∷ out.unsigned code ∷ []))
error_item_proper None token code is = grind (arith, layers)
error_item_proper (Some versions) token code is = grind (arith, layers)

versions_proper : (versions : Option (List ℕ)) → IfSome versions (λ numbers. IsProperWithin 14 (out.array out.unsigned numbers))
versions_proper None = tt
versions_proper (Some numbers) = array_proper 13 (map out.unsigned numbers) (numbers_proper numbers)

pub error_proper : (versions : Option (List ℕ)) (token : List ℕ) (code : ℕ) → IsSized TOKEN_LEAST TOKEN_LIMIT (Some token) → IsProperMessage (error_of versions token code)
error_proper versions token code sized = record {
  fields = record { challenge_size = tt; token_size = sized; reported = tt; requested = tt; unneeded = tt; other = tt };
  item = subst (λ (ps : List Pair). IsProper (i.Array (out.unsigned 6 ∷ i.Map ps ∷ out.unsigned code ∷ []))) (sym (error_pairs_are versions token))
      (error_item_proper versions token code (versions_proper versions));
}

-- ---- the manifests that are reported have identifiers

-- where all rows have, those that are kept
kept : (rows : List RowHead) → AllByRecursion (λ row. IsIdentifier row.id) rows → AreIdentified (map reported (filter (λ row. row.present) rows))
kept [] all = tt
kept (row ∷ rows) all = by_present row.present (kept rows all.1) where
  by_present : (b : Bool) → AreIdentified (map reported (filter (λ row. row.present) rows)) → AreIdentified (map reported (cond b (row ∷ filter (λ row. row.present) rows) (filter (λ row. row.present) rows)))
  by_present true more = (all.0, more)
  by_present false more = more

where_some : (rows : List Reported) → AreIdentified rows → IfSome (where_any rows) AreIdentified
where_some [] all = tt
where_some (one ∷ more) all = all

asked_for : (b : Bool) (rows : List Reported) → AreIdentified rows → IfSome (cond b (where_any rows) None) AreIdentified
asked_for true rows all = where_some rows all
asked_for false rows all = tt

pub reported_identified : (items : ℕ) (rows : List RowHead) → AllByRecursion (λ row. IsIdentifier row.id) rows → IfSome (reported_for items rows) AreIdentified
reported_identified items rows all = asked_for (asks_manifests items) (map reported (filter (λ row. row.present) rows)) (kept rows all)

-- ---- the parts as they were seen

-- a response
pub response_is : (ids : DeviceIds) (rows : List RowHead) (asked : Options) (items : ℕ) (token bound echoed : List ℕ) (evidence : Option (List ℕ)) (list : Option (List Reported)) (format : Option (List ℕ)) (message : Message)
    → bound ≡ bound_to asked.challenge token → echoed ≡ token → evidence ≡ evidence_for items ids bound → list ≡ reported_for items rows → format ≡ format_for items
    → message ≡ response_of evidence list format echoed → message ≡ response ids rows asked items token
response_is ids rows asked items token bound echoed evidence list format message bound_is echoed_is evidence_is list_is format_is is =
    rw (is, echoed_is, evidence_is, bound_is, list_is, format_is) refl

-- an error with one version
pub wrong_version_is : (token echoed versions before : List ℕ) (message : Message) → echoed ≡ token → before ≡ [] → versions ≡ before ++ 0 ∷ [] → message ≡ error_of (Some versions) echoed 4 → message ≡ wrong_version token
wrong_version_is token echoed versions before message echoed_is none pushed is = rw (is, echoed_is, pushed, none) refl

-- an error with none
pub wrong_suite_is : (token echoed : List ℕ) (message : Message) → echoed ≡ token → message ≡ error_of None echoed 5 → message ≡ wrong_suite token
wrong_suite_is token echoed message echoed_is is = rw (is, echoed_is) refl

-- what is written of a message is so of the message that it is
pub is_written : (message said : Message) (result : Result (List ℕ) NoMemory) → message ≡ said → IfOk result (λ bytes. MessageIs message bytes) → IfOk result (λ bytes. MessageIs said bytes)
is_written message said result is written = subst (λ (m : Message). IfOk result (λ bytes. MessageIs m bytes)) is written
