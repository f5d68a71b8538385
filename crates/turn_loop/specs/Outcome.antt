-- How a run ends: what it took, what it sent, and what the image stands for.
use Rattle.std.specs.Prelude.{◌≡◌, ◌+◌, ◌≤◌, ◌⊎◌, ◌++◌, List, [], ◌∷◌, ℕ, length, take}
use Rattle.std.specs.List.{flat_map}
use Rattle.base_types.specs.Causes.{CausedBy, Rose}
use Rattle.outside_core.specs.Stream.{SendsSome}
use Rattle.board_core.specs.Contents.{View, NothingPending}
use Rattle.board_core.specs.Moments.{Passes, LeftNow}
use Rattle.frames.specs.Frames.{Frame, frame_bytes}
use Rattle.frames.specs.Reading.{End, Events}
use Rattle.frames.specs.Reading.End.{Whole as WholeEnd, Long as LongEnd, Cut as CutEnd, Spent as SpentEnd}
use Rattle.turn_loop.specs.Follows.{Follows}
use Rattle.turn_loop.specs.Promised.{Promised, Survives}
use Rattle.turn_loop.specs.Turning.{BeforeOrBehind}
use Rattle.turn_loop.specs.Stops.{stop_of}
use Rattle.turn_loop.specs.declared.stop.Stop.{Stop}
use Rattle.turn_loop.specs.declared.stop.Stop.TheVariants.{Whole, Cut, Long, Spent, ReadFault, SendFault, DiskFault, NoMemory}

-- the frames are answered: the replies went out, one behind the other, the image stands for the state behind them, and nothing is pending
pub record Answered {S : Type 0} (turn : S → Frame → S → Frame → Type 0) (stands : List ℕ → S → Type 0) (s : S) (frames : List Frame) (before : List ℕ) (new : View) : Type 0 where
  pub state : S
  pub replies : List Frame
  pub follows : Follows turn s frames state replies
  pub sent_is : new.now.stream.sent ≡ before ++ flat_map frame_bytes replies
  pub image_stands : stands new.now.disk.bytes state
  pub clean : NothingPending new

-- what was taken by an end: all of the input, or as much as may be, or the frames and the head of the long one
abbrev pub TakenBy : ℕ → List ℕ → List Frame → List ℕ → End → Type 0
TakenBy most input frames took WholeEnd = took ≡ input
TakenBy most input frames took CutEnd = took ≡ input
TakenBy most input frames took SpentEnd = took ≡ take most input
TakenBy most input frames took LongEnd = (head : List ℕ) × (length head ≡ 5) × (took ≡ flat_map frame_bytes frames ++ head)

-- the input ended so, and all its frames are answered
pub record EndedAs {S : Type 0} (turn : S → Frame → S → Frame → Type 0) (stands : List ℕ → S → Type 0) (s : S) (limit most : ℕ) (end : End) (input took : List ℕ) (frames : List Frame) (before : List ℕ) (new : View) : Type 0 where
  pub events : Events limit most input frames end
  pub taken : TakenBy most input frames took end
  pub answered : Answered turn stands s frames before new

-- all frames but the last are answered, and nothing came of the last
pub record LastLeft {S : Type 0} (turn : S → Frame → S → Frame → Type 0) (stands : List ℕ → S → Type 0) (s : S) (frames : List Frame) (before : List ℕ) (new : View) : Type 0 where
  pub first : List Frame
  pub last : Frame
  pub frames_are : frames ≡ first ++ last ∷ []
  pub answered : Answered turn stands s first before new

-- all frames but the last are answered; the image stands for the state behind the last, and a front of the last reply is out
pub record LastCut {S : Type 0} (turn : S → Frame → S → Frame → Type 0) (stands : List ℕ → S → Type 0) (s : S) (frames : List Frame) (before : List ℕ) (new : View) : Type 0 where
  pub state : S
  pub replies : List Frame
  pub last : Frame
  pub follows : Follows turn s frames state (replies ++ last ∷ [])
  pub front : SendsSome (frame_bytes last) (before ++ flat_map frame_bytes replies) new.now.stream.sent
  pub image_stands : stands new.now.disk.bytes state
  pub clean : NothingPending new

-- all frames but the last are answered, and nothing of the last reply is out; the image, also behind a crash, stands for the
-- state before the last frame or for one behind it
pub record LastTorn {S : Type 0} (turn : S → Frame → S → Frame → Type 0) (stands : List ℕ → S → Type 0) (s : S) (frames : List Frame) (before : List ℕ) (new : View) : Type 0 where
  pub first : List Frame
  pub last : Frame
  pub frames_are : frames ≡ first ++ last ∷ []
  pub state : S
  pub replies : List Frame
  pub follows : Follows turn s first state replies
  pub sent_is : new.now.stream.sent ≡ before ++ flat_map frame_bytes replies
  pub image_stands : (sent image : List ℕ) → LeftNow new sent image → BeforeOrBehind turn stands state last image

-- by the stop: the input, what was taken of it with its frames, what was sent before the run, and the board behind it
abbrev pub Outcome : {S : Type 0} → (S → Frame → S → Frame → Type 0) → (List ℕ → S → Type 0) → S → ℕ → ℕ → Stop → List ℕ → List ℕ → List Frame → List ℕ → View → Type 0
Outcome turn stands s limit most Whole input took frames before new = EndedAs turn stands s limit most WholeEnd input took frames before new
Outcome turn stands s limit most Cut input took frames before new = EndedAs turn stands s limit most CutEnd input took frames before new
Outcome turn stands s limit most Long input took frames before new = EndedAs turn stands s limit most LongEnd input took frames before new
Outcome turn stands s limit most Spent input took frames before new = EndedAs turn stands s limit most SpentEnd input took frames before new
Outcome turn stands s limit most ReadFault input took frames before new = Answered turn stands s frames before new
Outcome turn stands s limit most SendFault input took frames before new = LastCut turn stands s frames before new
Outcome turn stands s limit most DiskFault input took frames before new = LastTorn turn stands s frames before new
Outcome turn stands s limit most NoMemory input took frames before new = Answered turn stands s frames before new ⊎ LastLeft turn stands s frames before new

-- A run from a state, of which at most `most` bytes are taken: each moment of it is promised, it adds no others, and it ends so.
pub record Ran {S : Type 0} (turn : S → Frame → S → Frame → Type 0) (stands : List ℕ → S → Type 0) (s : S) (limit most : ℕ) (stop : Stop) (old new : View) : Type 0 where
  pub survives : Survives turn stands s limit old new
  pub moments : Passes old new (Promised turn stands s survives.frames old.now.stream.sent)
  pub taken : new.now.stream.taken ≡ old.now.stream.taken + length survives.took
  pub within : length survives.took ≤ most
  pub outcome : Outcome turn stands s limit most stop old.now.stream.rest survives.took survives.frames old.now.stream.sent new

-- each count rose where the stop blames it, and stands else
pub record StopCause (stop : Stop) (old new : View) : Type 0 where
  pub read : CausedBy (stop ≡ ReadFault) old.faults.read new.faults.read
  pub send : CausedBy (stop ≡ SendFault) old.faults.send new.faults.send
  pub disk : CausedBy (stop ≡ DiskFault) old.faults.disk new.faults.disk
  pub extent : new.extent ≡ old.extent

-- no count rose
pub record NothingFailed (old new : View) : Type 0 where
  pub read : Rose old.faults.read new.faults.read → ⊥
  pub send : Rose old.faults.send new.faults.send → ⊥
  pub disk : Rose old.faults.disk new.faults.disk → ⊥

-- the end of the input decides the stop, and all frames of the input are answered
pub record Completed {S : Type 0} (turn : S → Frame → S → Frame → Type 0) (stands : List ℕ → S → Type 0) (s : S) (stop : Stop) (end : End) (frames : List Frame) (before : List ℕ) (new : View) : Type 0 where
  pub stop_is : stop ≡ stop_of end
  pub answered : Answered turn stands s frames before new
