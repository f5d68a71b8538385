-- A frame of bytes leads to a standing and a reply.
use Rattle.std.proofs.Common.{◌<◌, ◌^◌, List, [], ◌∷◌, ℕ, zero, suc, Bool, true, false, cond, length, get_or, refl, inl, inr, arith}
use Rattle.std.specs.Prelude.{◌==◌, Option, Some, None, Result, Ok, Err, IfSome}
use Rattle.base_types.specs.Bytes.{IsBytes}
use Rattle.base_types.specs.declared.limits.TheConstants.{TOKEN_LEAST, TOKEN_LIMIT}
use Rattle.cbor_core.specs.declared.item.Item.{Item}
use Rattle.cbor_core.specs.declared.item.Item.TheVariants as i
use Rattle.cbor_core.specs.Spelling.{IsProper, HasRanges, spelling}
use Rattle.cbor_core.proofs.Public.KeyOrder.{layers}
use Rattle.cbor_core.proofs.Public.Ranges.{number_ranges, string_ranges, array_ranges, map_ranges}
use Rattle.cbor_fields.specs.Written.{labelled}
use Rattle.cose_core.specs.declared.sign1.Sign1.{Sign1}
use Rattle.cose_core.specs.Sign1.{tagged}
use Rattle.cose_core.specs.Signed.{signed_item}
use Rattle.cose_core.proofs.Public.Envelopes.{envelope_or_refused, payload_is_bytes}
use Rattle.frames.specs.Frames.{Frame}
use Rattle.hss_sign.specs.Params.{capacity}
use Rattle.item_codec.specs.Whole.{BytesGive}
use Rattle.teep_messages.specs.declared.message.Message.{Message as TeepMessage}
use Rattle.teep_messages.specs.declared.message.Message.TheVariants as kinds
use Rattle.teep_messages.specs.declared.fault.MessageFault.{MessageFault}
use Rattle.teep_messages.specs.declared.fault.MessageFault.TheVariants.{Cbor}
use Rattle.teep_messages.specs.declared.operation.Operation.{Operation}
use Rattle.teep_messages.specs.declared.options.Options.{Options}
use Rattle.teep_messages.specs.Messages.{message_of}
use Rattle.teep_messages.specs.Options.{IsSized}
use Rattle.teep_messages.specs.Proper.{AreProperOptions, HasProperFields}
use Rattle.teep_messages.proofs.Public.Messages.{exactly_one, messages_are_proper}
use Rattle.trust_anchors.specs.declared.role.Role.TheVariants as role
use Rattle.trust_anchors.proofs.Public.Signers.{signed_or_not}
use Rattle.device_state.specs.State.{State, next}
use Rattle.device_state.specs.Heads.{heads}
use Rattle.agent_replies.specs.Saying.{answer_to}
use Rattle.agent_replies.specs.Signing.{protected, signed}
use Rattle.agent_core.specs.declared.event.Event.TheVariants.{Message, Payload, FetchFailed, Strange}
use Rattle.agent_core.specs.declared.refusal.Refusal.{Refusal}
use Rattle.agent_core.specs.declared.refusal.Refusal.TheVariants.{Kind, NotCose, NotSigned, NotMessage, KeySpent}
use Rattle.agent_core.specs.declared.session.Session.{Session}
use Rattle.agent_core.specs.Answers.{Answer, Refused, Says, Answers, AnswersPayload, AnswersContent, message_answer, question_answer, session_behind}
use Rattle.agent_core.specs.Events.{event_in}
use Rattle.agent_core.specs.Turns.{Standing, IsSaid, key_of, message_frame, refusal_frame}
use Rattle.agent_core.specs.TurnLaw.{IsInRange, LeadsOn, SomeTurn}
use Rattle.agent_core.proofs.SignatureBytes.{signature_short}
use Rattle.agent_core.proofs.Sayable.{IsSayable, answer_sayable}

-- what is to be said can be said
abbrev CanSay : Answer → Type 0
CanSay (Refused refusal) = Unit {0}
CanSay (Says message session) = IsSayable message

-- some answer is so, and can be given
record Given (Is : Answer → Type 0) : Type 0 where
  answer : Answer
  is : Is answer
  can : CanSay answer

refused : (Is : Answer → Type 0) (refusal : Refusal) → Is (Refused refusal) → Given Is
refused Is refusal is = record { answer = Refused refusal; is = is; can = tt }

-- ---- what is answered

module _ (was : Standing) (range : IsInRange was) where
  by_spent : (b : Bool) (message : TeepMessage) (session : Session) → IsSayable message → CanSay (cond b (Refused KeySpent) (Says message session))
  by_spent true message session can = tt
  by_spent false message session can = can

  question_can : (asked : Options) (suites : List (List Operation)) (profiles : List (List Item)) (items : ℕ) (token : Option (List ℕ)) → AreProperOptions asked
      → IsSized TOKEN_LEAST TOKEN_LIMIT token
      → CanSay (question_answer was.state asked suites profiles items token)
  question_can asked suites profiles items None proper sized = tt
  question_can asked suites profiles items (Some token) proper sized =
      by_spent (was.state.leaf == capacity was.state.config.params)
      (answer_to was.state.config.device (heads was.state.rows) asked suites profiles items token) (session_behind asked suites profiles token)
      (answer_sayable was.state asked suites profiles items token range.ids range.rows range.light proper.challenge_size sized)

  message_can : (message : TeepMessage) → HasProperFields message → CanSay (message_answer was.state message)
  message_can (kinds.QueryRequest options suites profiles items) fields = question_can options suites profiles items options.token fields.0 fields.0.token_size
  message_can (kinds.QueryResponse options) fields = tt
  message_can (kinds.Update options) fields = tt
  message_can (kinds.Success options) fields = tt
  message_can (kinds.Error options code) fields = tt

  by_read : (payload : List ℕ) (r : Result TeepMessage MessageFault) → BytesGive (λ f. Cbor f) message_of payload r → Given (AnswersPayload was.state payload)
  by_read payload (Ok message) is = record {
    answer = message_answer was.state message;
    is = inl (record { message = message; message_is = is; answer_is = refl });
    can = message_can message (messages_are_proper message payload is).0.fields;
  }
  by_read payload (Err fault) bad = refused (AnswersPayload was.state payload) NotMessage (inr (record { fault = fault; refused = bad; answer_is = refl }))

  payload_given : (payload : List ℕ) → IsBytes payload → Given (AnswersPayload was.state payload)
  payload_given payload are = let one = exactly_one payload are in by_read payload one.answer one.given

  content_given : (envelope : Sign1) (payload : Option (List ℕ)) → IfSome payload IsBytes → Given (AnswersContent was.state envelope payload)
  content_given envelope None are = refused (AnswersContent was.state envelope None) NotCose refl
  content_given envelope (Some payload) are = elim (signed_or_not was.state.config.anchors role.Manager envelope payload) [
    | inl by ↦ (let given = payload_given payload are in record { answer = given.answer; is = inl (record { signed = by; answers = given.is }); can = given.can })
    | inr never ↦ refused (AnswersContent was.state envelope (Some payload)) NotSigned (inr (record { unsigned = λ by. never by.0 by.1; answer_is = refl }))
  ]

  bytes_given : (bytes : List ℕ) → IsBytes bytes → Given (Answers was.state (Message bytes))
  bytes_given bytes are = elim (envelope_or_refused bytes are) [
    | inl one ↦ (let given = content_given one.value one.value.payload (payload_is_bytes bytes one.value one.is) in
        record { answer = given.answer; is = inl (record { envelope = one.value; envelope_is = one.is; answers = given.is }); can = given.can })
    | inr none ↦ refused (Answers was.state (Message bytes)) NotCose (inr (record { fault = none.fault; refused = none.refused; answer_is = refl }))
  ]

  -- by what a frame is: a message, a payload, a failed fetch or something strange
  by_kind : (body : List ℕ) (a b c : Bool) → IsBytes body → Given (Answers was.state (cond a (Message body) (cond b (Payload body) (cond c FetchFailed Strange))))
  by_kind body true b c are = bytes_given body are
  by_kind body false true c are = refused (Answers was.state (Payload body)) Kind refl
  by_kind body false false true are = refused (Answers was.state FetchFailed) Kind refl
  by_kind body false false false are = refused (Answers was.state Strange) Kind refl

  frame_given : (frame : Frame) → IsBytes frame.body → Given (Answers was.state (event_in frame))
  frame_given frame are = by_kind frame.body _ _ _ are

-- ---- what is said

envelope_proper : (device payload signature : List ℕ)
    → IsProper (tagged (record { protected = protected; unprotected = labelled 4 (i.Bytes device) ∷ []; payload = Some payload; signature = signature }))
envelope_proper device payload signature = grind (arith, layers)

-- bytes with a length
record IsString (bytes : List ℕ) : Type 0 where
  are : IsBytes bytes
  len : length bytes < 2 ^ 64

protected_string : IsString protected
protected_string = record { are = λ k. at k; len = omega arith } where
  at : (k : ℕ) → get_or protected k 0 < 256
  at zero = omega arith
  at (suc zero) = omega arith
  at (suc (suc zero)) = omega arith
  at (suc (suc (suc zero))) = omega arith
  at (suc (suc (suc (suc k)))) = omega arith

envelope_ranges : (device payload signature : List ℕ) → IsString device → IsString payload → IsString signature
    → HasRanges (tagged (record { protected = protected; unprotected = labelled 4 (i.Bytes device) ∷ []; payload = Some payload; signature = signature }))
envelope_ranges device payload signature number content sign = rw i.outs-Tag (
  array_ranges 14 (i.Bytes protected ∷ i.Map (labelled 4 (i.Bytes device) ∷ []) ∷ i.Bytes payload ∷ i.Bytes signature ∷ []) (
    string_ranges 14 protected protected_string.are protected_string.len,
    (
      map_ranges 13 (labelled 4 (i.Bytes device) ∷ []) ((number_ranges 13 4 (omega arith), string_ranges 13 device number.are number.len), tt) (omega arith),
      (string_ranges 14 payload content.are content.len, (string_ranges 14 signature sign.are sign.len, tt)),
    ),
  ) (omega arith),
  omega arith,
)

-- a message that can be said is said by a reply
record IsToldBy (s : State) (message : TeepMessage) : Type 0 where
  reply : Frame
  said : IsSaid s message reply

told_by : (was : Standing) → IsInRange was → (message : TeepMessage) → IsSayable message → IsToldBy was.state message
told_by was range message can =
    let s = was.state in
    let short = signature_short s.config.params s.config.key_seed s.leaf (spelling (signed_item protected can.payload)) range.params in
    let x : Item = tagged (signed (key_of s.config) s.config.device.device s.leaf can.payload) in
    record {
      reply = message_frame (spelling x);
      said = record {
        payload = can.payload;
        message_is = can.is;
        body = spelling x;
        spelled = record {
          proper = envelope_proper s.config.device.device can.payload _;
          ranges = envelope_ranges s.config.device.device can.payload _
              (record { are = range.ids.device.are; len = omega (arith, range.ids.device.field.most) })
              (record { are = can.are; len = can.len })
              (record { are = short.are; len = omega (arith, short.len) });
          spelled = refl;
        };
        reply_is = refl;
      };
    }

leads_on : (was : Standing) → IsInRange was → (frame : Frame) (answer : Answer) → Answers was.state (event_in frame) answer → CanSay answer → LeadsOn was frame
leads_on was range frame (Refused refusal) is can =
    record { becomes = was; reply = refusal_frame refusal; turn = record { answer = Refused refusal; answers = is; leads = (refl, refl) } }
leads_on was range frame (Says message session) is can =
    let told = told_by was range message can in
    record {
      becomes = record { state = next was.state; session = session };
      reply = told.reply;
      turn = record { answer = Says message session; answers = is; leads = (refl, told.said) };
    }

pub some_turn : SomeTurn
some_turn was frame range are = let given = frame_given was range frame are in leads_on was range frame given.answer given.is given.can
