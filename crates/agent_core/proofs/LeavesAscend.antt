-- Replies take the leaves of a key one behind the other.
use Rattle.std.proofs.Common.{List, [], ◌∷◌, ℕ, sym, ◌∙◌, ap, subst, inl, inr}
use Rattle.cbor_core.specs.Spelling.{Spells}
use Rattle.cose_core.specs.Sign1.{tagged}
use Rattle.frames.specs.Frames.{Frame}
use Rattle.teep_messages.specs.declared.message.Message.{Message as TeepMessage}
use Rattle.device_state.specs.State.{State}
use Rattle.agent_replies.specs.Signing.{signed}
use Rattle.agent_core.specs.Answers.{Answer, Refused, Says}
use Rattle.agent_core.specs.Leaves.{IsSignedAt, SignedFrom, TakesLeaves, LeavesAscend}
use Rattle.agent_core.specs.Turns.{Standing, IsSaid, Leads, key_of}

-- what is said is signed at the first leaf that is not used
signed_at : (s : State) (message : TeepMessage) (reply : Frame) → IsSaid s message reply → IsSignedAt s.config s.leaf reply
signed_at s message reply said = record {
  kind = ap (λ (f : Frame). f.kind) said.reply_is;
  payload = said.payload;
  spelled = subst (λ (body : List ℕ). Spells (tagged (signed (key_of s.config) s.config.device.device s.leaf said.payload)) body)
      (sym (ap (λ (f : Frame). f.body) said.reply_is)) said.spelled;
}

-- one turn in front of others
taken : (was between becomes : Standing) (answer : Answer) (reply : Frame) (more : List Frame) → Leads was answer between reply → TakesLeaves between becomes more
    → TakesLeaves was becomes (reply ∷ more)
taken was between becomes (Refused refusal) reply more leads rest = record {
  same = rest.same ∙ ap (λ (w : Standing). w.state.config) leads.0;
  signed_from = inl (ap (λ (f : Frame). f.kind) leads.1, subst (λ (w : Standing). SignedFrom w.state.config w.state.leaf becomes.state.leaf more) leads.0 rest.signed_from);
}
taken was between becomes (Says message session) reply more leads rest = record {
  same = rest.same ∙ ap (λ (w : Standing). w.state.config) leads.0;
  signed_from = inr (signed_at was.state message reply leads.1, subst (λ (w : Standing). SignedFrom w.state.config w.state.leaf becomes.state.leaf more) leads.0 rest.signed_from);
}

pub leaves_ascend : LeavesAscend
leaves_ascend was becomes [] [] same = record { same = ap (λ (w : Standing). w.state.config) same; signed_from = ap (λ (w : Standing). w.state.leaf) (sym same) }
leaves_ascend was becomes [] (reply ∷ more) never = absurd never
leaves_ascend was becomes (frame ∷ frames) [] never = absurd never
leaves_ascend was becomes (frame ∷ frames) (reply ∷ more) follows =
    taken was follows.0 becomes follows.1.answer reply more follows.1.leads (leaves_ascend follows.0 becomes frames more follows.2)
