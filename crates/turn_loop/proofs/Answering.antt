-- The answer to one frame: a turn, and then a send.
use Rattle.std.proofs.Common.{◌≡◌, ◌∙◌, ℕ, List, [], IsTrue, Ok, Err, refl, sym, ap, subst, inl, inr}
use Rattle.std.proofs.lemmas.List.{append-nil}
use Rattle.outside_core.specs.Stream.{Stream, SendsSome, sends_on}
use Rattle.board_core.specs.Contents.{View, Disk, NothingPending, Silent, Same}
use Rattle.board_core.specs.Moments.{Passes, Lawful, WithinSend}
use Rattle.board_core.specs.Calls.{SendsOut}
use Rattle.board_core.proofs.Public.Chaining.{goes_on, widened, left_behind, send_moments}
use Rattle.frames.specs.Frames.{Frame, frame_bytes}
use Rattle.turn_loop.specs.Turning.{TurnsTo, WithinTurn}
use Rattle.turn_loop.specs.Turns.{WithinAnswer, Turned}
use Rattle.turn_loop.specs.declared.answer.Answer.TheVariants as turns

-- a front of the same bytes behind the same bytes
same_front : {bytes more before between sent : List ℕ} → bytes ≡ more → between ≡ before → SendsSome bytes between sent → SendsSome more before sent
same_front {bytes} {more} {before} {between} {sent} spelled silent is =
    subst (λ (l : List ℕ). SendsSome more l sent) silent (subst (λ (l : List ℕ). SendsSome l between sent) spelled is)

module _ {S : Type 0} (turn : S → Frame → S → Frame → Type 0) (stands : List ℕ → S → Type 0) (s : S) (frame : Frame) (becomes : S) (keeps : List ℕ → Type 0)
    (old mid : View) (moments : Passes old mid (WithinTurn turn stands s frame old)) where
  -- a moment within the turn lies within the answer, and nothing of the reply is out
  turn_within : (sent image : List ℕ) → WithinTurn turn stands s frame old sent image → WithinAnswer turn stands s frame old.now.stream.sent sent image
  turn_within sent image m = elim m.1 [
    | inl st ↦ inl (m.0, st)
    | inr b ↦ inr (record {
      becomes = b.becomes;
      reply = b.reply;
      turns = b.turns;
      front = ([], (frame_bytes b.reply, refl), m.0 ∙ sym (append-nil old.now.stream.sent));
      image_stands = b.image_stands;
    })
  ]

  turned_moments : Passes old mid (WithinAnswer turn stands s frame old.now.stream.sent)
  turned_moments = widened moments turn_within

  -- the disk failed in the turn
  pub disk_failed : Lawful old → Lawful mid → NothingPending old → stands old.now.disk.bytes s → Silent old mid → Turned turn stands s frame becomes keeps old mid turns.DiskFault
  disk_failed laws laws2 clean stood silent = record {
    ends = record {
      silent = silent;
      image_stands = λ sent image left.
          let within : WithinTurn turn stands s frame old sent image = left_behind laws2 moments (λ sent image was.
          (laws.sent_now sent image was, inl (subst (λ (l : List ℕ). stands l s) (sym (laws.clean_now clean sent image was)) stood))) sent image left in
          within.1;
    };
    moments = turned_moments;
  }

  -- there was no memory for the turn
  pub no_reply : Same old mid → Turned turn stands s frame becomes keeps old mid turns.NoMemory
  no_reply same = record { ends = same; moments = turned_moments }

  -- the turn gave a reply, and that was sent, all of it or a front
  module _ (bytes spelled : List ℕ) (is : bytes ≡ spelled) (to : TurnsTo turn s frame becomes spelled) (laws : Lawful mid) (clean : NothingPending mid) (silent : Silent old mid) (kept : keeps mid.now.disk.bytes)
      (law : (image : List ℕ) → keeps image → stands image becomes) (new : View) (sending : Passes mid new (WithinSend mid bytes)) where
    bytes_are : bytes ≡ frame_bytes to.reply
    bytes_are = is ∙ to.bytes_are

    answer_moments : Passes old new (WithinAnswer turn stands s frame old.now.stream.sent)
    answer_moments = goes_on turned_moments (send_moments laws clean sending) (λ sent image w. w) (λ sent image m. inr (record {
      becomes = becomes;
      reply = to.reply;
      turns = to.turns;
      front = same_front bytes_are (ap (λ (t : Stream). t.sent) silent) m.0;
      image_stands = subst (λ (l : List ℕ). stands l becomes) (sym m.1) (law mid.now.disk.bytes kept);
    }))

    pub sent_all : {E : Type 0} → SendsOut {T = Unit {0}} {E = E} bytes (Ok tt) mid new → Turned turn stands s frame becomes keeps old new turns.Sent
    sent_all out = record {
      ends = record {
        reply = to.reply;
        turns = to.turns;
        sent = out.stream ∙ ap (λ (l : List ℕ). sends_on l mid.now.stream) bytes_are ∙ ap (λ (t : Stream). sends_on (frame_bytes to.reply) t) silent;
        kept = subst (λ (d : Disk). keeps d.bytes) (sym out.disk) kept;
        clean = subst (λ (d : Disk). IsTrue d.clean) (sym out.disk) clean;
      };
      moments = answer_moments;
    }

    pub sent_front : {E : Type 0} {e : E} → SendsOut {T = Unit {0}} bytes (Err e) mid new → Turned turn stands s frame becomes keeps old new turns.SendFault
    sent_front {E} {e} out = record {
      ends = record {
        becomes = becomes;
        reply = to.reply;
        turns = to.turns;
        front = out.stream.0;
        begins = (out.stream.1.0, sym bytes_are ∙ out.stream.1.1);
        sent = out.stream.2 ∙ ap (λ (t : Stream). sends_on out.stream.0 t) silent;
        image_stands = subst (λ (d : Disk). stands d.bytes becomes) (sym out.disk) (law mid.now.disk.bytes kept);
        clean = subst (λ (d : Disk). IsTrue d.clean) (sym out.disk) clean;
      };
      moments = answer_moments;
    }
