-- What an agent makes of an event before anything of it is durable.
use Rattle.std.specs.Prelude.{◌≡◌, ◌<◌, ℕ, Bool, List, if◌then◌else◌}
use Rattle.base_types.specs.declared.limits.TheConstants.{TOKEN_LEAST, TOKEN_LIMIT}
use Rattle.hss_sign.specs.Params.{IsProperParams, capacity}
use Rattle.teep_messages.specs.declared.message.Message.{Message as TeepMessage}
use Rattle.teep_messages.specs.declared.message.Message.TheVariants as kinds
use Rattle.teep_messages.specs.Messages.{MessageIs}
use Rattle.teep_messages.specs.Options.{IsSized}
use Rattle.device_state.specs.State.{State}
use Rattle.agent_core.specs.declared.session.Session.{Session}
use Rattle.agent_core.specs.declared.session.Session.TheVariants.{Closed, Ready}
use Rattle.agent_core.specs.declared.hearing.Heard.{Heard}
use Rattle.agent_core.specs.declared.hearing.Heard.TheVariants as heard
use Rattle.agent_core.specs.Answers.{Answer, Refused, Says}

-- a token that a question has is of 8 to 64 bytes
abbrev pub HasSizedToken : TeepMessage → Type 0
HasSizedToken (kinds.QueryRequest options suites profiles items) = IsSized TOKEN_LEAST TOKEN_LIMIT options.token
HasSizedToken _ = Unit {0}

-- the session behind an answer, which makes it ready or closes it
abbrev pub session_of : Bool → List ℕ → Session
session_of ready token = if ready then Ready token else Closed

-- a leaf of the device's key is left
pub record HasLeaf (s : State) : Type 0 where
  pub proper : IsProperParams s.config.params
  pub left : s.leaf < capacity s.config.params

-- the payload is the message, the session is this, and there is a leaf for it
pub record IsToSay (s : State) (payload : List ℕ) (session : Session) (message : TeepMessage) (becomes : Session) : Type 0 where
  pub message_is : MessageIs message payload
  pub session_is : session ≡ becomes
  pub leaf : HasLeaf s

-- what was heard in this state is the answer
abbrev pub HeardIs : State → Heard → Answer → Type 0
HeardIs s (heard.Refused refusal) (Refused other) = refusal ≡ other
HeardIs s (heard.Refused refusal) (Says message becomes) = ⊥
HeardIs s (heard.Says payload session) (Refused other) = ⊥
HeardIs s (heard.Says payload session) (Says message becomes) = IsToSay s payload session message becomes

-- what was heard in this state is an answer that is so
pub record Hears (s : State) (IsAnswer : Answer → Type 0) (it : Heard) : Type 0 where
  pub answer : Answer
  pub is : IsAnswer answer
  pub heard_is : HeardIs s it answer
