-- Which messages may be written: those whose fields keep their rules, and whose item is proper.
use Rattle.std.specs.Prelude.{ℕ, ◌≡◌, true, List, [], ◌∷◌, IfSome}
use Rattle.std.specs.List.{AllByRecursion}
use Rattle.base_types.specs.declared.limits.TheConstants.{CHALLENGE_LEAST, CHALLENGE_LIMIT, TOKEN_LEAST, TOKEN_LIMIT}
use Rattle.cbor_core.specs.declared.item.Item.{Item}
use Rattle.cbor_core.specs.Spelling.{IsProper}
use Rattle.cbor_fields.specs.Views.{IsIdentifier, is_other}
use Rattle.teep_messages.specs.declared.options.Options.{Options}
use Rattle.teep_messages.specs.declared.message.Message.{Message}
use Rattle.teep_messages.specs.declared.message.Message.TheVariants.{QueryRequest, QueryResponse, Update, Success, Error}
use Rattle.teep_messages.specs.Options.{IsSized, labels}
use Rattle.teep_messages.specs.Written.{written}

-- byte strings have their sizes, identifiers are such, and what is kept of other labels has no label of the table
pub record AreProperOptions (v : Options) : Type 0 where
  pub challenge_size : IsSized CHALLENGE_LEAST CHALLENGE_LIMIT v.challenge
  pub token_size : IsSized TOKEN_LEAST TOKEN_LIMIT v.token
  pub reported : IfSome v.reported (AllByRecursion (λ r. IsIdentifier r.id))
  pub requested : IfSome v.requested (AllByRecursion (λ r. IsIdentifier r.id))
  pub unneeded : IfSome v.unneeded (AllByRecursion IsIdentifier)
  pub other : AllByRecursion (λ p. is_other labels p ≡ true) v.other

-- a profile is not empty
abbrev pub HasAlgorithm : List Item → Type 0
HasAlgorithm [] = ⊥
HasAlgorithm (algorithm ∷ more) = Unit {0}

-- the options are proper, and no profile of a question is empty
abbrev pub HasProperFields : Message → Type 0
HasProperFields (QueryRequest options suites profiles items) = AreProperOptions options × AllByRecursion HasAlgorithm profiles
HasProperFields (QueryResponse options) = AreProperOptions options
HasProperFields (Update options) = AreProperOptions options
HasProperFields (Success options) = AreProperOptions options
HasProperFields (Error options code) = AreProperOptions options

-- The fields keep their rules, and the item that is written is proper: at most 16 containers stand inside one another,
-- and keys ascend (RFC 8949, section 4.2.1), so those of `other` do.
pub record IsProperMessage (message : Message) : Type 0 where
  pub fields : HasProperFields message
  pub item : IsProper (written message)
