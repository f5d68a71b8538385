-- Whether an agent can talk to who asks (draft-ietf-teep-protocol, "QueryRequest Message").
use Rattle.std.specs.Prelude.{ℕ, Bool, true, false, ◌==◌, ◌&&◌, ◌/◌, ◌%◌, List, [], ◌∷◌, Option, Some, None}
use Rattle.std.specs.List.{list_any}
use Rattle.cbor_core.specs.declared.item.Item.{Item}
use Rattle.cbor_core.specs.declared.item.Item.TheVariants as i
use Rattle.teep_messages.specs.declared.operation.Operation.{Operation}

-- the negative integer -1-n
abbrev pub is_negative : ℕ → Item → Bool
is_negative n (i.Negative m) = m == n
is_negative n _ = false

-- version 0 is among the versions that are offered; where none are named, any is
abbrev pub knows_version : Option (List ℕ) → Bool
knows_version None = true
knows_version (Some versions) = list_any (λ version. version == 0) versions

-- a COSE_Sign1, tag 18, with HSS-LMS, -46 (RFC 8778, section 5)
abbrev pub is_known_operation : Operation → Bool
is_known_operation operation = (operation.tag == 18) && is_negative 45 operation.alg

-- a suite with such an operation is offered
abbrev pub knows_suite : List (List Operation) → Bool
knows_suite suites = list_any (list_any is_known_operation) suites

-- the profile begins with SHA-256, -16, and HSS-LMS, -46
abbrev pub is_known_profile : List Item → Bool
is_known_profile [] = false
is_known_profile (digest ∷ []) = false
is_known_profile (digest ∷ signature ∷ more) = is_negative 15 digest && is_negative 45 signature

-- such a profile is offered
abbrev pub knows_profile : List (List Item) → Bool
knows_profile profiles = list_any is_known_profile profiles

-- bit 0 of the items asks for evidence
abbrev pub asks_evidence : ℕ → Bool
asks_evidence items = items % 2 == 1

-- and bit 1 for the manifests
abbrev pub asks_manifests : ℕ → Bool
asks_manifests items = items / 2 % 2 == 1
