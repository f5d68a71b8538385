-- What is said to a question is the message that some bytes are.
use Rattle.std.proofs.Common.{◌≡◌, ℕ, zero, suc, ◌+◌, ◌<◌, ◌^◌, Bool, true, false, cond, List, [], ◌∷◌, length, Option, Some, None, refl, sym, subst, get_or, codes, arith}
use Rattle.std.specs.Prelude.{IfSome, nat_lt, ◌&&◌}
use Rattle.std.specs.List.{AllByRecursion, list_all}
use Rattle.std.specs.Str.{IsAscii}
use Rattle.std.proofs.lemmas.Bool.{ltb-true}
use Rattle.std.proofs.lemmas.Str.{IsUtf8-from_ascii}
use Rattle.base_types.specs.Bytes.{IsBytes}
use Rattle.base_types.specs.declared.limits.TheConstants.{CHALLENGE_LEAST, CHALLENGE_LIMIT, TOKEN_LEAST, TOKEN_LIMIT}
use Rattle.cbor_core.specs.declared.item.Item.{Item}
use Rattle.cbor_core.specs.declared.item.Item.TheVariants as i
use Rattle.cbor_core.specs.Spelling.{HasRanges, spelling}
use Rattle.cbor_core.proofs.Public.Ranges.{number_ranges, array_ranges}
use Rattle.evidence.specs.declared.ids.DeviceIds.{DeviceIds}
use Rattle.evidence.specs.Claims.{evidence_item}
use Rattle.item_codec.specs.Fields.{IsWithin}
use Rattle.teep_messages.specs.declared.message.Message.{Message as TeepMessage}
use Rattle.teep_messages.specs.declared.operation.Operation.{Operation}
use Rattle.teep_messages.specs.declared.options.Options.{Options}
use Rattle.teep_messages.specs.declared.reported.Reported.{Reported}
use Rattle.teep_messages.specs.Messages.{MessageIs}
use Rattle.teep_messages.specs.Options.{IsSized}
use Rattle.teep_messages.specs.Proper.{IsProperMessage}
use Rattle.teep_messages.specs.Written as out
use Rattle.teep_messages.proofs.Public.Messages.{proper_are_spelled}
use Rattle.device_state.specs.State.{State, rows_weight, weight}
use Rattle.device_state.specs.Heads.{heads}
use Rattle.agent_replies.specs.Parts.{error_of, response_of}
use Rattle.agent_replies.specs.Question.{asks_evidence, knows_version, knows_suite, knows_profile}
use Rattle.agent_replies.specs.Saying.{answer_to, bound_to, evidence_for, format_for, reported_for, response, wrong_suite, wrong_version}
use Rattle.agent_core.specs.TurnLaw.{AreKnown, AreOctets, IsTold}
use Rattle.agent_core.proofs.Short.{IsShort}
use Rattle.agent_core.proofs.Spellings.{Takes, no_items, item, number, string, array, at_most}
use Rattle.agent_core.proofs.Fields.{IsField, IsWhole, AreFields, no_fields, number_field, string_field, text_field, field, perhaps_field, kind_and_map, kind_map_number}
use Rattle.agent_core.proofs.Manifests.{AreTold, reported_told, list_field}
use Rattle.agent_core.proofs.Told.{AreIdentified, response_pairs, response_is, response_proper, error_pairs, error_is, error_proper}

-- some bytes are the message, and they are not too many
pub record IsSayable (message : TeepMessage) : Type 0 where
  pub payload : List ℕ
  pub is : MessageIs message payload
  pub are : IsBytes payload
  pub len : length payload < 2 ^ 64

-- a proper message whose item is in range, and not too long
sayable : (message : TeepMessage) (x : Item) (n : ℕ) → IsProperMessage message → out.written message ≡ x → IsWhole n x → n < 2 ^ 64 → IsSayable message
sayable message x n proper is whole less =
    let takes : Takes n (out.written message) = subst (Takes n) (sym is) whole.takes in
    record {
      payload = spelling (out.written message);
      is = proper_are_spelled message proper (subst HasRanges (sym is) whole.ranges);
      are = takes.short.are;
      len = omega (arith, takes.short.len, less);
    }

-- ---- the parts of a response

of_octets : (bytes : List ℕ) → AreOctets bytes → IsShort 64 bytes
of_octets bytes octets = record { are = octets.are; len = octets.field.most }

of_token : (token : List ℕ) → IsWithin TOKEN_LEAST TOKEN_LIMIT token → IsShort 512 token
of_token token within = record { are = within.0; len = omega (arith, within.2) }

bound_short : (challenge : Option (List ℕ)) (token : List ℕ) → IsSized CHALLENGE_LEAST CHALLENGE_LIMIT challenge → IsWithin TOKEN_LEAST TOKEN_LIMIT token
    → IsShort 512 (bound_to challenge token)
bound_short None token sized within = of_token token within
bound_short (Some challenge) token sized within = record { are = sized.0; len = sized.2 }

evidence_short : (ids : DeviceIds) (bound : List ℕ) → AreKnown ids → IsShort 512 bound → IsShort 1024 (spelling (evidence_item ids bound))
evidence_short ids bound known short =
    let takes : Takes 1024 (evidence_item ids bound) = at_most 1024 (omega arith) (array (item (number 1) (item (string (of_octets ids.device known.device))
    (item (string (of_octets ids.vendor known.vendor)) (item (string (of_octets ids.class known.class)) (item (string short) no_items)))))) in
    takes.short

evidence_by : (b : Bool) (bytes : List ℕ) → IsShort 1024 bytes → IfSome (cond b (Some bytes) None) (λ e. IsField 1033 (out.bytes e))
evidence_by true bytes short = string_field 1024 bytes (omega arith) short
evidence_by false bytes short = tt

low_each : (b : ℕ) (bytes : List ℕ) (c : Bool) → nat_lt b 128 ≡ c → (list_all (λ b. nat_lt b 128) bytes ≡ true → IsAscii bytes)
    → (c && list_all (λ b. nat_lt b 128) bytes) ≡ true → (i : ℕ) → get_or (b ∷ bytes) i 0 < 128
low_each b bytes false low others is i = absurd cc
low_each b bytes true low others is zero = ltb-true b 128 low
low_each b bytes true low others is (suc i) = others is i

all_below : (bytes : List ℕ) → list_all (λ b. nat_lt b 128) bytes ≡ true → IsAscii bytes
all_below [] is = λ i. omega arith
all_below (b ∷ bytes) is = low_each b bytes (nat_lt b 128) refl (all_below bytes) is

abbrev media_type : List ℕ
media_type = codes "application/x-teep-profile-evidence"

media_type_ascii : IsAscii media_type
media_type_ascii = all_below media_type refl

format_by : (b : Bool) → IfSome (cond b (Some media_type) None) (λ f. IsField 73 (out.text f))
format_by true = text_field 64 media_type (omega arith) (IsUtf8-from_ascii media_type media_type_ascii) (record { are = λ i. omega (arith, media_type_ascii i); len = omega arith })
format_by false = tt

token_field : (token : List ℕ) → IsWithin TOKEN_LEAST TOKEN_LIMIT token → IsField 521 (out.bytes token)
token_field token within = string_field 512 token (omega arith) (of_token token within)

identified : (w : ℕ) (o : Option (List Reported)) → IfSome o (AreTold w) → IfSome o AreIdentified
identified w None told = tt
identified w (Some rows) told = told.ids

listed : (w : ℕ) (o : Option (List Reported)) → w < 2 ^ 64 → IfSome o (AreTold w) → IfSome o (λ rows. IsField (9 + w) (out.array out.reported rows))
listed w None less told = tt
listed w (Some rows) less told = list_field w rows less told

response_whole : (w : ℕ) (evidence : Option (List ℕ)) (reported : Option (List Reported)) (format : Option (List ℕ)) (token : List ℕ) → w < 2 ^ 63
    → IfSome evidence (λ e. IsField 1033 (out.bytes e))
    → IfSome reported (AreTold w) → IfSome format (λ f. IsField 73 (out.text f)) → IsWithin TOKEN_LEAST TOKEN_LIMIT token
    → IsSayable (response_of evidence reported format token)
response_whole w evidence reported format token less has told text within =
    let fields : AreFields 5 _ (response_pairs evidence reported format token) =
    field 6 (omega arith) (number_field 0 (omega arith)) (perhaps_field 1033 out.bytes 7 evidence (omega arith) has
    (perhaps_field (9 + w) (out.array out.reported) 8 reported (omega arith) (listed w reported (omega (arith, less)) told)
    (perhaps_field 73 out.text 13 format (omega arith) text (field 20 (omega arith) (token_field token within) no_fields)))) in
    sayable (response_of evidence reported format token) _ _ (response_proper evidence reported format token within (identified w reported told))
    (response_is evidence reported format token)
    (kind_and_map 2 5 _ (response_pairs evidence reported format token) (omega arith) (omega arith) fields) (omega (arith, less))

-- ---- errors

versions_field : (n : ℕ) → n < 2 ^ 64 → IsField 18 (out.array out.unsigned (n ∷ []))
versions_field n fits = record { ranges = array_ranges 13 (i.Unsigned n ∷ []) (number_ranges 13 n fits, tt) (omega arith); takes = array (item (number n) no_items) }

error_whole : (versions : Option (List ℕ)) (token : List ℕ) (code : ℕ) → code < 2 ^ 64 → IfSome versions (λ v. IsField 18 (out.array out.unsigned v))
    → IsWithin TOKEN_LEAST TOKEN_LIMIT token
    → IsSayable (error_of versions token code)
error_whole versions token code fits has within =
    let fields : AreFields 2 _ (error_pairs versions token) =
    perhaps_field 18 (out.array out.unsigned) 3 versions (omega arith) has (field 20 (omega arith) (token_field token within) no_fields) in
    sayable (error_of versions token code) _ _ (error_proper versions token code within) (error_is versions token code)
    (kind_map_number 6 2 _ code (error_pairs versions token) (omega arith) (omega arith) fits fields) (omega arith)

-- ---- the answer

by_known : (a b : Bool) (one two three : TeepMessage) → IsSayable one → IsSayable two → IsSayable three → IsSayable (cond a (cond b one two) three)
by_known true true one two three first second third = first
by_known true false one two three first second third = second
by_known false b one two three first second third = third

pub answer_sayable : (s : State) (asked : Options) (suites : List (List Operation)) (profiles : List (List Item)) (items : ℕ) (token : List ℕ)
    → AreKnown s.config.device → AllByRecursion IsTold s.rows
    → weight s < 2 ^ 63 → IsSized CHALLENGE_LEAST CHALLENGE_LIMIT asked.challenge → IsWithin TOKEN_LEAST TOKEN_LIMIT token
    → IsSayable (answer_to s.config.device (heads s.rows) asked suites profiles items token)
answer_sayable s asked suites profiles items token known told light sized within =
    let bound = bound_to asked.challenge token in
    by_known (knows_version asked.versions) (knows_suite suites && knows_profile profiles)
    (response s.config.device (heads s.rows) asked items token) (wrong_suite token) (wrong_version token)
    (response_whole (rows_weight s.rows) (evidence_for items s.config.device bound) (reported_for items (heads s.rows)) (format_for items) token light
    (evidence_by (asks_evidence items) (spelling (evidence_item s.config.device bound)) (evidence_short s.config.device bound known (bound_short asked.challenge token sized within)))
    (reported_told items s.rows told) (format_by (asks_evidence items)) within)
    (error_whole None token 5 (omega arith) tt within)
    (error_whole (Some (0 ∷ [])) token 4 (omega arith) (versions_field 0 (omega arith)) within)
