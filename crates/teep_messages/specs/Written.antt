-- The item that a message is written as: of the items that bytes spell, the only one that is the message.
use Rattle.std.specs.Prelude.{ℕ, List, [], ◌∷◌, map}
use Rattle.cbor_core.specs.declared.item.Item.{Item}
use Rattle.cbor_core.specs.declared.item.Item.TheVariants as i
use Rattle.cbor_core.specs.declared.item.Pair.{Pair}
use Rattle.cbor_fields.specs.Written.{decoded, put_if}
use Rattle.item_codec.specs.Ordered.{row, needed_row}
use Rattle.teep_messages.specs.declared.reported.Reported.{Reported}
use Rattle.teep_messages.specs.declared.requested.Requested.{Requested}
use Rattle.teep_messages.specs.declared.operation.Operation.{Operation}
use Rattle.teep_messages.specs.declared.options.Options.{Options}
use Rattle.teep_messages.specs.declared.message.Message.{Message}
use Rattle.teep_messages.specs.declared.message.Message.TheVariants.{QueryRequest, QueryResponse, Update, Success, Error}

-- ---- values

-- an unsigned integer
abbrev pub unsigned : ℕ → Item
unsigned n = i.Unsigned n

-- a byte string
abbrev pub bytes : List ℕ → Item
bytes b = i.Bytes b

-- a text string
abbrev pub text : List ℕ → Item
text t = i.Text t

-- an array of values that are written so
abbrev pub array : {V : Type 0} → (V → Item) → List V → Item
array item values = i.Array (map item values)

-- ---- forms

-- {16: id, 17: sequence}
abbrev pub reported_rows : Reported → List Pair
reported_rows v = needed_row decoded 16 v.id (needed_row unsigned 17 v.sequence [])

-- a manifest that an agent has, a map of its fields
abbrev pub reported : Reported → Item
reported v = i.Map (reported_rows v)

-- {16: id}, with 17 and 18 where they are there
abbrev pub requested_rows : Requested → List Pair
requested_rows v = needed_row decoded 16 v.id (row unsigned 17 v.sequence (row (λ b. i.Truth b) 18 v.flag []))

-- a manifest that an agent asks for, a map of its fields
abbrev pub requested : Requested → Item
requested v = i.Map (requested_rows v)

-- [tag, alg]
abbrev pub operation_members : Operation → List Item
operation_members v = unsigned v.tag ∷ v.alg ∷ []

-- an operation, an array of its members
abbrev pub operation : Operation → Item
operation v = i.Array (operation_members v)

-- a cipher suite, an array of its operations
abbrev pub suite : List Operation → Item
suite = array operation

-- a profile, an array of its algorithms
abbrev pub profile : List Item → Item
profile members = i.Array members

-- ---- options

-- the options that are kept, with each known one put among them under its label
abbrev pub option_pairs : Options → List Pair
option_pairs v =
    put_if bytes 20 v.token
    (put_if (array decoded) 15 v.unneeded
    (put_if (array requested) 14 v.requested
    (put_if text 13 v.evidence_format
    (put_if text 12 v.err_msg
    (put_if text 11 v.msg
    (put_if (array bytes) 10 v.manifests
    (put_if (array reported) 8 v.reported
    (put_if bytes 7 v.evidence
    (put_if unsigned 6 v.selected
    (put_if (array unsigned) 3 v.versions
    (put_if bytes 2 v.challenge
    v.other)))))))))))

-- a map of options
abbrev pub options_item : Options → Item
options_item v = i.Map (option_pairs v)

-- ---- messages

-- [1, options, suites, profiles, items]
abbrev pub question : Options → List (List Operation) → List (List Item) → ℕ → List Item
question options suites profiles items = unsigned 1 ∷ options_item options ∷ array suite suites ∷ array profile profiles ∷ unsigned items ∷ []

-- [kind, options]
abbrev pub plain : ℕ → Options → List Item
plain kind options = unsigned kind ∷ options_item options ∷ []

-- [6, options, code]
abbrev pub failure : Options → ℕ → List Item
failure options code = unsigned 6 ∷ options_item options ∷ unsigned code ∷ []

-- the number of the kind, and then its parts
abbrev pub members : Message → List Item
members (QueryRequest options suites profiles items) = question options suites profiles items
members (QueryResponse options) = plain 2 options
members (Update options) = plain 3 options
members (Success options) = plain 5 options
members (Error options code) = failure options code

-- the array of these
abbrev pub written : Message → Item
written message = i.Array (members message)
