-- What was heard, and what came of it, is a turn.
use Rattle.std.proofs.Common.{◌≡◌, List, ℕ, refl, sym, ap, subst, inl, inr}
use Rattle.std.specs.Prelude.{Result, Ok, Err, IfOk, OnOk}
use Rattle.board_core.specs.Contents.{View}
use Rattle.board_core.specs.Moments.{Passes}
use Rattle.board_core.proofs.Public.Chaining.{widened}
use Rattle.frames.specs.Frames.{Frame, frame_bytes}
use Rattle.device_state.specs.State.{next}
use Rattle.turn_loop.specs.Turning.{TurnsTo, WithinTurn}
use Rattle.agent_core.specs.declared.event.Event.{Event}
use Rattle.agent_core.specs.declared.refusal.Refusal.{Refusal}
use Rattle.agent_core.specs.declared.session.Session.{Session}
use Rattle.agent_core.specs.declared.hearing.Heard.TheVariants as heard
use Rattle.agent_core.specs.Answers.{Answer, Refused, Says, Answers}
use Rattle.agent_core.specs.Events.{event_in}
use Rattle.agent_core.specs.Hearing.{Hears, HeardIs}
use Rattle.agent_core.specs.Saying.{Carries, WithinSaying}
use Rattle.agent_core.specs.Turns.{Standing, Turn, EventTurn, StandsFor, message_frame, refusal_frame}

-- a standing with one leaf more used, and this session
abbrev behind : Standing → Session → Standing
behind was session = record { state = next was.state; session = session }

-- a refusal changes nothing
refused_turn : (was : Standing) (event : Event) (refusal : Refusal) (answer : Answer) → Answers was.state event answer → HeardIs was.state (heard.Refused refusal) answer
    → EventTurn was event was (refusal_frame refusal)
refused_turn was event refusal (Refused other) is same = record { answer = Refused other; answers = is; leads = (refl, ap refusal_frame same) }
refused_turn was event refusal (Says message session) is never = absurd never

-- a message that is said leads behind it
said_turn : (was : Standing) (event : Event) (payload bytes : List ℕ) (session : Session) (answer : Answer) → Answers was.state event answer
    → HeardIs was.state (heard.Says payload session) answer → (carries : Carries was.state payload bytes) → EventTurn was event (behind was session) (message_frame carries.body)
said_turn was event payload bytes session (Refused refusal) is never carries = absurd never
said_turn was event payload bytes session (Says message becomes) is said carries = record {
  answer = Says message becomes;
  answers = is;
  leads = (
    ap (λ (it : Session). behind was it) said.session_is,
    record { payload = payload; message_is = said.message_is; body = carries.body; spelled = carries.spelled; reply_is = refl },
  );
}

-- by each frame that brings the event
by_frame : {was becomes : Standing} {event : Event} {reply : Frame} (frame : Frame) → event_in frame ≡ event → EventTurn was event becomes reply → Turn was frame becomes reply
by_frame {was} {becomes} {event} {reply} frame brings turn = subst (λ (e : Event). EventTurn was e becomes reply) (sym brings) turn

-- the frame of a refusal is its turn's reply
pub refusal_turns : (was : Standing) (event : Event) (refusal : Refusal) (frame : Frame) {E : Type 0} (result : Result (List ℕ) E) → event_in frame ≡ event
    → Hears was.state (Answers was.state event) (heard.Refused refusal) → IfOk result (λ bytes. bytes ≡ frame_bytes (refusal_frame refusal)) → IfOk result (TurnsTo Turn was frame was)
refusal_turns was event refusal frame (Ok bytes) brings h is = record {
  reply = refusal_frame refusal;
  turns = by_frame frame brings (refused_turn was event refusal h.answer h.is h.heard_is);
  bytes_are = is;
}
refusal_turns was event refusal frame (Err e) brings h is = tt

-- the frame that carries the message is its turn's reply
pub message_turns : (was becomes : Standing) (event : Event) (payload : List ℕ) (session : Session) (frame : Frame) {E : Type 0} (result : Result (List ℕ) E) → event_in frame ≡ event
    → Hears was.state (Answers was.state event) (heard.Says payload session) → IfOk result (Carries was.state payload)
    → OnOk result (becomes ≡ record { state = next was.state; session = session }) → IfOk result (TurnsTo Turn was frame becomes)
message_turns was becomes event payload session frame (Ok bytes) brings h carries is = record {
  reply = message_frame carries.body;
  turns = rw is (by_frame frame brings (said_turn was event payload bytes session h.answer h.is h.heard_is carries));
  bytes_are = carries.bytes_are;
}
message_turns was becomes event payload session frame (Err e) brings h carries is = tt

-- each moment while it is said is one within its turn
pub message_moments : (was : Standing) (event : Event) (payload : List ℕ) (session : Session) (frame : Frame) (old new : View) → event_in frame ≡ event
    → Hears was.state (Answers was.state event) (heard.Says payload session) → Passes old new (WithinSaying was.state payload old) → Passes old new (WithinTurn Turn StandsFor was frame old)
message_moments was event payload session frame old new brings h moments =
    widened moments (λ sent image within. (
      within.0,
      elim within.1 [
        | inl before ↦ inl before
        | inr used ↦ inr (record {
          becomes = behind was session;
          reply = message_frame used.carries.body;
          turns = by_frame frame brings (said_turn was event payload used.bytes session h.answer h.is h.heard_is used.carries);
          image_stands = used.image_stands;
        })
      ],
    ))
