-- What one turn of a machine leaves.
use Rattle.std.specs.Prelude.{◌≡◌, ◌⊎◌, List, ℕ}
use Rattle.board_core.specs.Contents.{View}
use Rattle.frames.specs.Frames.{Frame, frame_bytes}

-- the frame led to the state, and the bytes are the reply's
pub record TurnsTo {S : Type 0} (turn : S → Frame → S → Frame → Type 0) (s : S) (frame : Frame) (becomes : S) (bytes : List ℕ) : Type 0 where
  pub reply : Frame
  pub turns : turn s frame becomes reply
  pub bytes_are : bytes ≡ frame_bytes reply

-- the image stands for a state to which the frame leads
pub record StandsBehind {S : Type 0} (turn : S → Frame → S → Frame → Type 0) (stands : List ℕ → S → Type 0) (s : S) (frame : Frame) (image : List ℕ) : Type 0 where
  pub becomes : S
  pub reply : Frame
  pub turns : turn s frame becomes reply
  pub image_stands : stands image becomes

-- the image stands for the state before a frame or for one behind it
abbrev pub BeforeOrBehind : {S : Type 0} → (S → Frame → S → Frame → Type 0) → (List ℕ → S → Type 0) → S → Frame → List ℕ → Type 0
BeforeOrBehind turn stands s frame image = stands image s ⊎ StandsBehind turn stands s frame image

-- a moment within a turn: the image stands so, and no more was sent
abbrev pub WithinTurn : {S : Type 0} → (S → Frame → S → Frame → Type 0) → (List ℕ → S → Type 0) → S → Frame → View → List ℕ → List ℕ → Type 0
WithinTurn turn stands s frame old sent image = (sent ≡ old.now.stream.sent) × BeforeOrBehind turn stands s frame image
