-- Which message bytes are, and how bytes that are none are refused.
use Rattle.std.proofs.Common.{◌≡◌, ℕ, List, refl}
use Rattle.cbor_heads.specs.declared.fault.Fault.{Fault}
use Rattle.base_types.specs.Bytes.{IsBytes}
use Rattle.item_codec.specs.Part.{Part}
use Rattle.item_codec.proofs.Public.Whole as whole
use Rattle.teep_messages.specs.declared.message.Message.{Message}
use Rattle.teep_messages.specs.declared.fault.MessageFault.{MessageFault}
use Rattle.teep_messages.specs.declared.fault.MessageFault.TheVariants.{Cbor, NoMemory}
use Rattle.teep_messages.specs.Messages.{message_of, MessageIs, RefusedAs}
use Rattle.teep_messages.specs.Proper.{HasProperFields, IsProperMessage}
use Rattle.teep_messages.specs.Law.{ExactlyOne, OneSpelling, MessagesAreProper, ProperAreSpelled}
use Rattle.teep_messages.specs.Written.{written}
use Rattle.teep_messages.proofs.Parts.{message_part}

-- bytes are one message at most
pub one_message : (bytes : List ℕ) (v w : Message) → MessageIs v bytes → MessageIs w bytes → v ≡ w
one_message bytes v w is other = whole.one_value message_of bytes v w is other

-- and then they are not refused
pub not_both : (bytes : List ℕ) (v : Message) (e : MessageFault) → MessageIs v bytes → RefusedAs bytes e → ⊥
not_both bytes v e is refused = whole.not_both message_of bytes (λ f. Cbor f) v e is refused

cbor_told : (f : Fault) → Cbor f ≡ NoMemory → ⊥
cbor_told f e = cc

pub exactly_one : ExactlyOne
exactly_one bytes are = whole.one_answer NoMemory (λ f. Cbor f) cbor_told message_of message_part.settled bytes are

-- a message is one list of bytes at most
pub one_spelling : OneSpelling
one_spelling message a b is other = whole.one_spelling message_part message a b is other

-- a message that some bytes are is proper
pub messages_are_proper : MessagesAreProper
messages_are_proper message bytes is = let w = whole.value_written message_part message bytes is in (record { fields = w.fields; item = w.item_proper }, w.in_range, w.spelled)

-- a proper message is what it is written as
pub proper_are_spelled : ProperAreSpelled
proper_are_spelled message proper ranges = whole.written_value message_of written message (message_part.seen message proper.fields) _ (record { proper = proper.item; ranges = ranges; spelled = refl })
