-- An agent as contracts see it.
use Rattle.std.specs.Prelude.{Bool}
use Rattle.device_state.specs.State.{State}
use Rattle.agent_core.specs.declared.session.Session.{Session}
use Rattle.agent_core.specs.Turns.{Standing}

-- its store, its session, and whether it may be handed events
pub record AgentView (S : Type 0) : Type 0 where
  pub store : S
  pub session : Session
  pub live : Bool

-- what it is in, where its store is in this state
abbrev pub standing : {S : Type 0} → (S → State) → AgentView S → Standing
standing state agent = record { state = state agent.store; session = agent.session }
