-- What an event leads to, by the state of the device.
use Rattle.std.specs.Prelude.{◌≡◌, ◌⊎◌, ◌==◌, List, ℕ, Option, Some, None, if◌then◌else◌}
use Rattle.cbor_core.specs.declared.item.Item.{Item}
use Rattle.cose_core.specs.declared.sign1.Sign1.{Sign1}
use Rattle.cose_core.specs.declared.fault.CoseFault.{CoseFault}
use Rattle.cose_core.specs.Sign1.{Sign1Is}
use Rattle.cose_core.specs.Sign1 as Cose
use Rattle.hss_sign.specs.Params.{capacity}
use Rattle.teep_messages.specs.declared.message.Message.TheVariants as kinds
use Rattle.teep_messages.specs.declared.message.Message.{Message as TeepMessage}
use Rattle.teep_messages.specs.declared.operation.Operation.{Operation}
use Rattle.teep_messages.specs.declared.options.Options.{Options}
use Rattle.teep_messages.specs.declared.fault.MessageFault.{MessageFault}
use Rattle.teep_messages.specs.Messages.{MessageIs, RefusedAs}
use Rattle.trust_anchors.specs.declared.anchors.Anchors.{Anchors}
use Rattle.trust_anchors.specs.declared.role.Role.TheVariants as role
use Rattle.trust_anchors.specs.Verified.{Verified}
use Rattle.device_state.specs.State.{State}
use Rattle.device_state.specs.Heads.{heads}
use Rattle.agent_replies.specs.Saying.{answer_to, is_known}
use Rattle.agent_core.specs.declared.session.Session.{Session}
use Rattle.agent_core.specs.declared.session.Session.TheVariants.{Closed, Ready}
use Rattle.agent_core.specs.declared.refusal.Refusal.{Refusal}
use Rattle.agent_core.specs.declared.refusal.Refusal.TheVariants.{Kind, NotCose, NotSigned, NotMessage, NotForAgent, KeySpent}
use Rattle.agent_core.specs.declared.event.Event.{Event}
use Rattle.agent_core.specs.declared.event.Event.TheVariants.{Message, Payload, FetchFailed, Strange}

-- an event is refused, or a message is said, behind which the session is this
pub data Answer : Type 0 where
  Refused : Refusal → Answer
  Says : TeepMessage → Session → Answer

-- a question that can be answered makes the session ready with its token, and any other closes it
abbrev pub session_behind : Options → List (List Operation) → List (List Item) → List ℕ → Session
session_behind asked suites profiles token = if is_known asked suites profiles then Ready token else Closed

-- a question without a token is refused, and so is each where no leaf is left; any other is answered
abbrev pub question_answer : State → Options → List (List Operation) → List (List Item) → ℕ → Option (List ℕ) → Answer
question_answer s asked suites profiles items None = Refused NotMessage
question_answer s asked suites profiles items (Some token) =
    if s.leaf == capacity s.config.params then Refused KeySpent
    else Says (answer_to s.config.device (heads s.rows) asked suites profiles items token) (session_behind asked suites profiles token)

-- every message but a question is refused as not for an agent
abbrev pub message_answer : State → TeepMessage → Answer
message_answer s (kinds.QueryRequest options suites profiles items) = question_answer s options suites profiles items options.token
message_answer s (kinds.QueryResponse options) = Refused NotForAgent
message_answer s (kinds.Update options) = Refused NotForAgent
message_answer s (kinds.Success options) = Refused NotForAgent
message_answer s (kinds.Error options code) = Refused NotForAgent

-- the bytes are a message, and this is its answer
pub record AnswersBytes (s : State) (bytes : List ℕ) (answer : Answer) : Type 0 where
  pub message : TeepMessage
  pub message_is : MessageIs message bytes
  pub answer_is : answer ≡ message_answer s message

-- bytes that are no message are refused as such
pub record RefusesBytes (bytes : List ℕ) (answer : Answer) : Type 0 where
  pub fault : MessageFault
  pub refused : RefusedAs bytes fault
  pub answer_is : answer ≡ Refused NotMessage

-- the payload is a message, and this is its answer, or it is none and is refused
abbrev pub AnswersPayload : State → List ℕ → Answer → Type 0
AnswersPayload s payload answer = AnswersBytes s payload answer ⊎ RefusesBytes payload answer

-- ---- signed messages

-- one of the manager's keys signed this payload (RFC 9052, section 4.4)
abbrev pub IsSigned : Anchors → Sign1 → List ℕ → Type 0
IsSigned anchors envelope payload = (at : ℕ) × Verified anchors role.Manager envelope payload at

-- the payload is signed, and is answered
pub record AnswersSigned (s : State) (envelope : Sign1) (payload : List ℕ) (answer : Answer) : Type 0 where
  pub signed : IsSigned s.config.anchors envelope payload
  pub answers : AnswersPayload s payload answer

-- a payload that is not signed is refused as such, whatever it is
pub record RefusesUnsigned (anchors : Anchors) (envelope : Sign1) (payload : List ℕ) (answer : Answer) : Type 0 where
  pub unsigned : IsSigned anchors envelope payload → ⊥
  pub answer_is : answer ≡ Refused NotSigned

-- an envelope without a payload is refused as none
abbrev pub AnswersContent : State → Sign1 → Option (List ℕ) → Answer → Type 0
AnswersContent s envelope (Some payload) answer = AnswersSigned s envelope payload answer ⊎ RefusesUnsigned s.config.anchors envelope payload answer
AnswersContent s envelope None answer = answer ≡ Refused NotCose

-- the bytes are a COSE_Sign1 (RFC 9052, section 4.2), and this is its answer
pub record AnswersEnvelope (s : State) (bytes : List ℕ) (answer : Answer) : Type 0 where
  pub envelope : Sign1
  pub envelope_is : Sign1Is envelope bytes
  pub answers : AnswersContent s envelope envelope.payload answer

-- bytes that are none are refused as such
pub record RefusesEnvelope (bytes : List ℕ) (answer : Answer) : Type 0 where
  pub fault : CoseFault
  pub refused : Cose.RefusedAs bytes fault
  pub answer_is : answer ≡ Refused NotCose

-- A device in this state gives this answer to an event. One that is no message is refused for its kind.
abbrev pub Answers : State → Event → Answer → Type 0
Answers s (Message bytes) answer = AnswersEnvelope s bytes answer ⊎ RefusesEnvelope bytes answer
Answers s (Payload body) answer = answer ≡ Refused Kind
Answers s FetchFailed answer = answer ≡ Refused Kind
Answers s Strange answer = answer ≡ Refused Kind
