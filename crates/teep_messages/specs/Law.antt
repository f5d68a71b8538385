-- What bytes as a whole are: a message, or refused in one way.
use Rattle.std.specs.Prelude.{ℕ, ◌≡◌, List}
use Rattle.cbor_core.specs.Spelling.{HasRanges, spelling}
use Rattle.base_types.specs.Bytes.{IsBytes}
use Rattle.teep_messages.specs.declared.message.Message.{Message}
use Rattle.item_codec.specs.Whole.{OneAnswer}
use Rattle.teep_messages.specs.declared.fault.MessageFault.TheVariants.{Cbor, NoMemory}
use Rattle.teep_messages.specs.Messages.{message_of, MessageIs}
use Rattle.teep_messages.specs.Proper.{IsProperMessage}
use Rattle.teep_messages.specs.Written.{written}

-- bytes are exactly one message, or have exactly one refusal, and never both
abbrev pub ExactlyOne : Type 0
ExactlyOne = (bytes : List ℕ) → IsBytes bytes → OneAnswer NoMemory (λ f. Cbor f) message_of bytes

-- a message is one list of bytes at most
abbrev pub OneSpelling : Type 0
OneSpelling = (message : Message) (a b : List ℕ) → MessageIs message a → MessageIs message b → a ≡ b

-- a message that some bytes are is proper and in range, and the bytes are the spelling of its item
abbrev pub MessagesAreProper : Type 0
MessagesAreProper = (message : Message) (bytes : List ℕ) → MessageIs message bytes → IsProperMessage message × HasRanges (written message) × (bytes ≡ spelling (written message))

-- the spelling of the item of a proper message in range is the message
abbrev pub ProperAreSpelled : Type 0
ProperAreSpelled = (message : Message) → IsProperMessage message → HasRanges (written message) → MessageIs message (spelling (written message))
