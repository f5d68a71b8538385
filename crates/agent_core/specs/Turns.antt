-- The turn of an agent: from its state an event leads to a state and a reply.
use Rattle.std.specs.Prelude.{◌≡◌, List, [], ◌∷◌, ℕ}
use Rattle.cbor_core.specs.Spelling.{Spells}
use Rattle.cose_core.specs.Sign1.{tagged}
use Rattle.frames.specs.Frames.{Frame}
use Rattle.hss_sign.specs.Kept.{HssKey}
use Rattle.teep_messages.specs.declared.message.Message.{Message as TeepMessage}
use Rattle.teep_messages.specs.Messages.{MessageIs}
use Rattle.device_config.specs.declared.config.Config.{Config}
use Rattle.device_state.specs.State.{State, next}
use Rattle.device_image.specs.Stands.{Stands}
use Rattle.agent_replies.specs.Signing.{signed}
use Rattle.agent_core.specs.declared.event.Event.{Event}
use Rattle.agent_core.specs.declared.refusal.Refusal.{Refusal}
use Rattle.agent_core.specs.declared.session.Session.{Session}
use Rattle.agent_core.specs.declared.session.Session.TheVariants.{Closed}
use Rattle.agent_core.specs.Answers.{Answer, Refused, Says, Answers}
use Rattle.agent_core.specs.Events.{event_in}
use Rattle.agent_core.specs.Refusals.{number_of}

-- what an agent is in: the state of its device, and the session with its manager, which no image keeps
pub record Standing : Type 0 where
  pub state : State
  pub session : Session

-- the agent of a device in this state, when it was just started
abbrev pub started : State → Standing
started s = record { state = s; session = Closed }

-- a frame of kind 0x81 carries a message
abbrev pub message_frame : List ℕ → Frame
message_frame body = record { kind = 0x81; body = body }

-- a frame of kind 0x82 carries the number of a refusal
abbrev pub refusal_frame : Refusal → Frame
refusal_frame refusal = record { kind = 0x82; body = number_of refusal ∷ [] }

-- the key of a device
abbrev pub key_of : Config → HssKey
key_of config = record { params = config.params; seed = config.key_seed }

-- the reply carries the message, signed by the device's key at the first leaf that is not used
pub record IsSaid (s : State) (message : TeepMessage) (reply : Frame) : Type 0 where
  pub payload : List ℕ
  pub message_is : MessageIs message payload
  pub body : List ℕ
  pub spelled : Spells (tagged (signed (key_of s.config) s.config.device.device s.leaf payload)) body
  pub reply_is : reply ≡ message_frame body

-- a refusal changes nothing; a message that is said uses a leaf
abbrev pub Leads : Standing → Answer → Standing → Frame → Type 0
Leads was (Refused refusal) becomes reply = (becomes ≡ was) × (reply ≡ refusal_frame refusal)
Leads was (Says message session) becomes reply = (becomes ≡ record { state = next was.state; session = session }) × IsSaid was.state message reply

-- the event leads to this standing and this reply
pub record EventTurn (was : Standing) (event : Event) (becomes : Standing) (reply : Frame) : Type 0 where
  pub answer : Answer
  pub answers : Answers was.state event answer
  pub leads : Leads was answer becomes reply

-- so does the frame that brings the event
abbrev pub Turn : Standing → Frame → Standing → Frame → Type 0
Turn was frame becomes reply = EventTurn was (event_in frame) becomes reply

-- an image stands for the state alone
abbrev pub StandsFor : List ℕ → Standing → Type 0
StandsFor image standing = Stands image standing.state
