-- Which message an item is, or its first refusal; and which message bytes are.
use Rattle.std.specs.Prelude.{ℕ, ◌==◌, List, [], ◌∷◌, Result, Ok, Err, if◌then◌else◌}
use Rattle.cbor_core.specs.declared.item.Item.{Item}
use Rattle.cbor_core.specs.Views.{unsigned_of}
use Rattle.cbor_fields.specs.Views.{list_of}
use Rattle.item_codec.specs.Answers.{mapped}
use Rattle.item_codec.specs.Fields.{shaped, part, in_array}
use Rattle.item_codec.specs.Whole.{HasValue, HasRefusal}
use Rattle.teep_messages.specs.declared.message.Message.{Message}
use Rattle.teep_messages.specs.declared.message.Message.TheVariants.{QueryRequest, QueryResponse, Update, Success, Error}
use Rattle.teep_messages.specs.declared.options.Options.{Options}
use Rattle.teep_messages.specs.declared.fault.MessageFault.{MessageFault}
use Rattle.teep_messages.specs.declared.fault.MessageFault.TheVariants.{Cbor, Kind, Shape}
use Rattle.teep_messages.specs.Forms.{suite_of, profile_of}
use Rattle.teep_messages.specs.Options.{options_of}

-- the question of four parts
abbrev pub question_of : Item → Item → Item → Item → Result Message MessageFault
question_of o s p n =
    part options_of o (λ options.
    part (shaped (Shape 102) (list_of suite_of)) s (λ suites.
    part (shaped (Shape 103) (list_of profile_of)) p (λ profiles.
    part (shaped (Shape 104) unsigned_of) n (λ items.
    Ok (QueryRequest options suites profiles items)))))

-- [options, suites, profiles, items]
abbrev pub question_in : List Item → Result Message MessageFault
question_in (o ∷ s ∷ p ∷ n ∷ []) = question_of o s p n
question_in _ = Err (Shape 100)

-- [options]
abbrev pub plain_in : List Item → Result Options MessageFault
plain_in (o ∷ []) = options_of o
plain_in _ = Err (Shape 100)

-- the error of two parts
abbrev pub error_of : Item → Item → Result Message MessageFault
error_of o c =
    part options_of o (λ options.
    part (shaped (Shape 105) unsigned_of) c (λ code.
    Ok (Error options code)))

-- [options, code]
abbrev pub error_in : List Item → Result Message MessageFault
error_in (o ∷ c ∷ []) = error_of o c
error_in _ = Err (Shape 100)

-- the message of a kind with these parts; the kind is judged before their number
abbrev pub parts_in : ℕ → List Item → Result Message MessageFault
parts_in kind parts =
    if kind == 1 then question_in parts
    else (if kind == 2 then mapped (λ options. QueryResponse options) (plain_in parts)
    else (if kind == 3 then mapped (λ options. Update options) (plain_in parts)
    else (if kind == 5 then mapped (λ options. Success options) (plain_in parts)
    else (if kind == 6 then error_in parts
    else Err (Kind kind)))))

-- the number of a kind, and then its parts
abbrev pub members_in : List Item → Result Message MessageFault
members_in [] = Err (Shape 100)
members_in (k ∷ parts) = part (shaped (Shape 100) unsigned_of) k (λ kind. parts_in kind parts)

-- the message of an item, which is an array
unfoldable pub message_of : Item → Result Message MessageFault
message_of x = in_array (Shape 100) members_in x

-- the bytes spell an item that is the message
abbrev pub MessageIs : Message → List ℕ → Type 0
MessageIs message bytes = HasValue message_of bytes message

-- the bytes spell no item, and Cbor says why, or an item that is refused so
abbrev pub RefusedAs : List ℕ → MessageFault → Type 0
RefusedAs bytes fault = HasRefusal (λ f. Cbor f) message_of bytes fault
