-- What the answer to one frame leaves.
use Rattle.std.specs.Prelude.{◌≡◌, ◌⊎◌, List, ℕ}
use Rattle.base_types.specs.Causes.{CausedBy}
use Rattle.outside_core.specs.Stream.{Begins, SendsSome, sends_on}
use Rattle.board_core.specs.Contents.{View, NothingPending, Silent, Same}
use Rattle.board_core.specs.Moments.{Passes, LeftNow}
use Rattle.frames.specs.Frames.{Frame, frame_bytes}
use Rattle.turn_loop.specs.Turning.{BeforeOrBehind}
use Rattle.turn_loop.specs.declared.answer.Answer.{Answer}
use Rattle.turn_loop.specs.declared.answer.Answer.TheVariants.{Sent, SendFault, DiskFault, NoMemory}

-- the image stands for a state to which the frame leads, and a front of the reply is out, perhaps none of it
pub record BegunReply {S : Type 0} (turn : S → Frame → S → Frame → Type 0) (stands : List ℕ → S → Type 0) (s : S) (frame : Frame) (before sent image : List ℕ) : Type 0 where
  pub becomes : S
  pub reply : Frame
  pub turns : turn s frame becomes reply
  pub front : SendsSome (frame_bytes reply) before sent
  pub image_stands : stands image becomes

-- a moment within an answer: the image stands for the state before the frame and nothing is out, or for one behind it
abbrev pub WithinAnswer : {S : Type 0} → (S → Frame → S → Frame → Type 0) → (List ℕ → S → Type 0) → S → Frame → List ℕ → List ℕ → List ℕ → Type 0
WithinAnswer turn stands s frame before sent image = ((sent ≡ before) × stands image s) ⊎ BegunReply turn stands s frame before sent image

-- the reply is out, and the machine keeps the state that the frame led to
pub record SentOut {S : Type 0} (turn : S → Frame → S → Frame → Type 0) (s : S) (frame : Frame) (becomes : S) (keeps : List ℕ → Type 0) (old new : View) : Type 0 where
  pub reply : Frame
  pub turns : turn s frame becomes reply
  pub sent : new.now.stream ≡ sends_on (frame_bytes reply) old.now.stream
  pub kept : keeps new.now.disk.bytes
  pub clean : NothingPending new

-- a front of the reply is out, and the image stands for the state that the frame led to
pub record CutOut {S : Type 0} (turn : S → Frame → S → Frame → Type 0) (stands : List ℕ → S → Type 0) (s : S) (frame : Frame) (old new : View) : Type 0 where
  pub becomes : S
  pub reply : Frame
  pub turns : turn s frame becomes reply
  pub front : List ℕ
  pub begins : Begins front (frame_bytes reply)
  pub sent : new.now.stream ≡ sends_on front old.now.stream
  pub image_stands : stands new.now.disk.bytes becomes
  pub clean : NothingPending new

-- nothing is out, and a crash leaves the state before the frame or one behind it
pub record TornTurn {S : Type 0} (turn : S → Frame → S → Frame → Type 0) (stands : List ℕ → S → Type 0) (s : S) (frame : Frame) (old new : View) : Type 0 where
  pub silent : Silent old new
  pub image_stands : (sent image : List ℕ) → LeftNow new sent image → BeforeOrBehind turn stands s frame image

-- by how it ended: the state before the frame, the state and the images of the machine behind it, and the board
abbrev pub EndsSo : {S : Type 0} → (S → Frame → S → Frame → Type 0) → (List ℕ → S → Type 0) → S → Frame → S → (List ℕ → Type 0) → View → View → Answer → Type 0
EndsSo turn stands s frame becomes keeps old new Sent = SentOut turn s frame becomes keeps old new
EndsSo turn stands s frame becomes keeps old new SendFault = CutOut turn stands s frame old new
EndsSo turn stands s frame becomes keeps old new DiskFault = TornTurn turn stands s frame old new
EndsSo turn stands s frame becomes keeps old new NoMemory = Same old new

-- a frame is answered: so it ended, and each moment of it lies within the answer
pub record Turned {S : Type 0} (turn : S → Frame → S → Frame → Type 0) (stands : List ℕ → S → Type 0) (s : S) (frame : Frame) (becomes : S) (keeps : List ℕ → Type 0) (old new : View) (result : Answer) : Type 0 where
  pub ends : EndsSo turn stands s frame becomes keeps old new result
  pub moments : Passes old new (WithinAnswer turn stands s frame old.now.stream.sent)

-- the counts of failed sends and of failed disk calls rose where the answer blames them, and stand else; no other changed
pub record TurnCause (turn : Answer) (old new : View) : Type 0 where
  pub send : CausedBy (turn ≡ SendFault) old.faults.send new.faults.send
  pub disk : CausedBy (turn ≡ DiskFault) old.faults.disk new.faults.disk
  pub read : new.faults.read ≡ old.faults.read
  pub extent : new.extent ≡ old.extent
