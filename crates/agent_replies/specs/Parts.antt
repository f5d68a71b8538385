-- Messages by their parts.
use Rattle.std.specs.Prelude.{ℕ, List, Option, Some}
use Rattle.teep_messages.specs.declared.message.Message.{Message}
use Rattle.teep_messages.specs.declared.message.Message.TheVariants.{QueryResponse, Error}
use Rattle.teep_messages.specs.declared.reported.Reported.{Reported}
use Rattle.teep_messages.specs.Options.{no_options}

-- the QueryResponse with this evidence, these manifests, this media type and this token
abbrev pub response_of : Option (List ℕ) → Option (List Reported) → Option (List ℕ) → List ℕ → Message
response_of evidence reported format token = QueryResponse (record no_options {
  selected = Some 0;
  evidence = evidence;
  reported = reported;
  evidence_format = format;
  token = Some token;
})

-- the Error with these versions, this token and this number
abbrev pub error_of : Option (List ℕ) → List ℕ → ℕ → Message
error_of versions token code = Error (record no_options { versions = versions; token = Some token }) code
