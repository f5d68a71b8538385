-- What an agent says to a question (draft-ietf-teep-protocol, "QueryResponse Message" and "Error Message").
use Rattle.std.specs.Prelude.{ℕ, Bool, ◌&&◌, List, [], ◌∷◌, Option, Some, None, map, codes, if◌then◌else◌}
use Rattle.std.specs.List.{filter}
use Rattle.cbor_core.specs.Spelling.{spelling}
use Rattle.cbor_core.specs.declared.item.Item.{Item}
use Rattle.evidence.specs.declared.ids.DeviceIds.{DeviceIds}
use Rattle.evidence.specs.Claims.{evidence_item}
use Rattle.teep_messages.specs.declared.message.Message.{Message}
use Rattle.teep_messages.specs.declared.message.Message.TheVariants.{QueryResponse, Error}
use Rattle.teep_messages.specs.declared.operation.Operation.{Operation}
use Rattle.teep_messages.specs.declared.options.Options.{Options}
use Rattle.teep_messages.specs.declared.reported.Reported.{Reported}
use Rattle.teep_messages.specs.Options.{no_options}
use Rattle.device_state.specs.declared.heads.RowHead.{RowHead}
use Rattle.agent_replies.specs.Question.{knows_version, knows_suite, knows_profile, asks_evidence, asks_manifests}

-- a manifest by its identifier and its sequence number
abbrev pub reported : RowHead → Reported
reported row = record { id = row.id; sequence = row.sequence }

-- these, where there are any
abbrev pub where_any : List Reported → Option (List Reported)
where_any [] = None
where_any (one ∷ more) = Some (one ∷ more)

-- the manifests that are present, in ascending order of their identifiers, where they are asked for and there are any
abbrev pub reported_for : ℕ → List RowHead → Option (List Reported)
reported_for items rows = if asks_manifests items then where_any (map reported (filter (λ row. row.present) rows)) else None

-- what the evidence is bound to: the challenge, or the token where there is none
abbrev pub bound_to : Option (List ℕ) → List ℕ → List ℕ
bound_to None token = token
bound_to (Some challenge) token = challenge

-- the evidence, where it is asked for
abbrev pub evidence_for : ℕ → DeviceIds → List ℕ → Option (List ℕ)
evidence_for items ids challenge = if asks_evidence items then Some (spelling (evidence_item ids challenge)) else None

-- the media type of it
abbrev pub format_for : ℕ → Option (List ℕ)
format_for items = if asks_evidence items then Some (codes "application/x-teep-profile-evidence") else None

-- the QueryResponse: version 0 is selected, and the token comes back with what is asked for
abbrev pub response : DeviceIds → List RowHead → Options → ℕ → List ℕ → Message
response ids rows asked items token = QueryResponse (record no_options {
  selected = Some 0;
  evidence = evidence_for items ids (bound_to asked.challenge token);
  reported = reported_for items rows;
  evidence_format = format_for items;
  token = Some token;
})

-- Error 4: the one version that is known, and the token
abbrev pub wrong_version : List ℕ → Message
wrong_version token = Error (record no_options { versions = Some (0 ∷ []); token = Some token }) 4

-- Error 5: no suite or profile is known
abbrev pub wrong_suite : List ℕ → Message
wrong_suite token = Error (record no_options { token = Some token }) 5

-- who asks can be talked to
abbrev pub is_known : Options → List (List Operation) → List (List Item) → Bool
is_known asked suites profiles = knows_version asked.versions && (knows_suite suites && knows_profile profiles)

-- what is said: the versions are looked at first, then the suites and profiles
abbrev pub answer_to : DeviceIds → List RowHead → Options → List (List Operation) → List (List Item) → ℕ → List ℕ → Message
answer_to ids rows asked suites profiles items token =
    if knows_version asked.versions
    then (if knows_suite suites && knows_profile profiles then response ids rows asked items token else wrong_suite token)
    else wrong_version token
