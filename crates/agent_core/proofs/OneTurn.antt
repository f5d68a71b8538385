-- A frame leads to one standing and one reply at most.
use Rattle.std.proofs.Common.{◌≡◌, ◌⊎◌, List, ℕ, sym, ◌∙◌, ap, subst, inl, inr}
use Rattle.std.specs.Prelude.{Option, Some, None}
use Rattle.cbor_core.specs.Spelling.{spelling}
use Rattle.cose_core.specs.declared.sign1.Sign1.{Sign1}
use Rattle.cose_core.specs.Sign1.{tagged}
use Rattle.cose_core.proofs.Public.Envelopes.{one_envelope, not_refused}
use Rattle.frames.specs.Frames.{Frame}
use Rattle.teep_messages.specs.declared.message.Message.{Message as TeepMessage}
use Rattle.teep_messages.proofs.Public.Messages.{one_message, not_both, one_spelling}
use Rattle.device_state.specs.State.{State}
use Rattle.agent_replies.specs.Signing.{signed}
use Rattle.agent_core.specs.declared.event.Event.{Event}
use Rattle.agent_core.specs.declared.event.Event.TheVariants.{Message, Payload, FetchFailed, Strange}
use Rattle.agent_core.specs.Answers.{Answer, Refused, Says, Answers, AnswersBytes, RefusesBytes, AnswersSigned, RefusesUnsigned, AnswersContent, AnswersEnvelope, RefusesEnvelope, message_answer}
use Rattle.agent_core.specs.Turns.{Standing, Leads, IsSaid, message_frame, key_of}
use Rattle.agent_core.specs.Events.{event_in}
use Rattle.agent_core.specs.TurnLaw.{OneTurn}

to_bytes : (s : State) (bytes : List ℕ) (answer other : Answer) → AnswersBytes s bytes answer ⊎ RefusesBytes bytes answer → AnswersBytes s bytes other ⊎ RefusesBytes bytes other → answer ≡ other
to_bytes s bytes answer other (inl a) (inl b) =
    let same : a.message ≡ b.message = one_message bytes a.message b.message a.message_is b.message_is in
    a.answer_is ∙ ap (λ (m : TeepMessage). message_answer s m) same ∙ sym b.answer_is
to_bytes s bytes answer other (inl a) (inr b) = absurd (not_both bytes a.message b.fault a.message_is b.refused)
to_bytes s bytes answer other (inr a) (inl b) = absurd (not_both bytes b.message a.fault b.message_is a.refused)
to_bytes s bytes answer other (inr a) (inr b) = a.answer_is ∙ sym b.answer_is

by_signing : (s : State) (envelope : Sign1) (payload : List ℕ) (answer other : Answer)
    → AnswersSigned s envelope payload answer ⊎ RefusesUnsigned s.config.anchors envelope payload answer
    → AnswersSigned s envelope payload other ⊎ RefusesUnsigned s.config.anchors envelope payload other → answer ≡ other
by_signing s envelope payload answer other (inl a) (inl b) = to_bytes s payload answer other a.answers b.answers
by_signing s envelope payload answer other (inl a) (inr b) = absurd (b.unsigned a.signed)
by_signing s envelope payload answer other (inr a) (inl b) = absurd (a.unsigned b.signed)
by_signing s envelope payload answer other (inr a) (inr b) = a.answer_is ∙ sym b.answer_is

by_content : (s : State) (envelope : Sign1) (payload : Option (List ℕ)) (answer other : Answer)
    → AnswersContent s envelope payload answer → AnswersContent s envelope payload other → answer ≡ other
by_content s envelope None answer other a b = a ∙ sym b
by_content s envelope (Some payload) answer other a b = by_signing s envelope payload answer other a b

to_envelope : (s : State) (bytes : List ℕ) (answer other : Answer) → AnswersEnvelope s bytes answer ⊎ RefusesEnvelope bytes answer
    → AnswersEnvelope s bytes other ⊎ RefusesEnvelope bytes other → answer ≡ other
to_envelope s bytes answer other (inl a) (inl b) =
    let same : b.envelope ≡ a.envelope = one_envelope bytes b.envelope a.envelope b.envelope_is a.envelope_is in
    by_content s a.envelope a.envelope.payload answer other a.answers (subst (λ (m : Sign1). AnswersContent s m m.payload other) same b.answers)
to_envelope s bytes answer other (inl a) (inr b) = absurd (not_refused bytes a.envelope b.fault a.envelope_is b.refused)
to_envelope s bytes answer other (inr a) (inl b) = absurd (not_refused bytes b.envelope a.fault b.envelope_is a.refused)
to_envelope s bytes answer other (inr a) (inr b) = a.answer_is ∙ sym b.answer_is

-- an event has one answer at most
pub one_answer : (s : State) (event : Event) (answer other : Answer) → Answers s event answer → Answers s event other → answer ≡ other
one_answer s (Message bytes) answer other a b = to_envelope s bytes answer other a b
one_answer s (Payload body) answer other a b = a ∙ sym b
one_answer s FetchFailed answer other a b = a ∙ sym b
one_answer s Strange answer other a b = a ∙ sym b

-- a message is said by one reply
one_said : (s : State) (message : TeepMessage) (reply other : Frame) → IsSaid s message reply → IsSaid s message other → reply ≡ other
one_said s message reply other a b =
    let payloads : a.payload ≡ b.payload = one_spelling message a.payload b.payload a.message_is b.message_is in
    let bodies : a.body ≡ b.body = a.spelled.spelled ∙ ap (λ (p : List ℕ). spelling (tagged (signed (key_of s.config) s.config.device.device s.leaf p))) payloads ∙ sym b.spelled.spelled in
    a.reply_is ∙ ap message_frame bodies ∙ sym b.reply_is

-- an answer leads to one standing and one reply
one_lead : (was : Standing) (answer : Answer) (a b : Standing) (reply other : Frame) → Leads was answer a reply → Leads was answer b other → (a ≡ b) × (reply ≡ other)
one_lead was (Refused refusal) a b reply other first second = (first.0 ∙ sym second.0, first.1 ∙ sym second.1)
one_lead was (Says message session) a b reply other first second = (first.0 ∙ sym second.0, one_said was.state message reply other first.1 second.1)

pub one_turn : OneTurn
one_turn was frame a b reply other first second =
    let same : second.answer ≡ first.answer = one_answer was.state (event_in frame) second.answer first.answer second.answers first.answers in
    one_lead was first.answer a b reply other first.leads (subst (λ (it : Answer). Leads was it b other) same second.leads)
