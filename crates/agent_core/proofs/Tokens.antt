-- The token of a question that was read has its size.
use Rattle.std.proofs.Common.{List, ℕ}
use Rattle.teep_messages.specs.declared.message.Message.{Message}
use Rattle.teep_messages.specs.declared.message.Message.TheVariants as kinds
use Rattle.teep_messages.specs.Proper.{HasProperFields}
use Rattle.teep_messages.specs.Messages.{MessageIs}
use Rattle.teep_messages.proofs.Public.Messages.{messages_are_proper}
use Rattle.agent_core.specs.Hearing.{HasSizedToken}

-- the token of a question whose fields keep their rules has its size
token_sized : (message : Message) → HasProperFields message → HasSizedToken message
token_sized (kinds.QueryRequest options suites profiles items) fields = fields.0.token_size
token_sized (kinds.QueryResponse options) fields = tt
token_sized (kinds.Update options) fields = tt
token_sized (kinds.Success options) fields = tt
token_sized (kinds.Error options code) fields = tt

-- and so has that of a question which some bytes are
pub read_token : (message : Message) (bytes : List ℕ) → MessageIs message bytes → HasSizedToken message
read_token message bytes is = token_sized message (messages_are_proper message bytes is).0.fields
