-- What a board holds, its counts of faults, and what a crash may leave.
use Rattle.std.specs.Prelude.{◌≡◌, List, ℕ, Bool, IsTrue}
use Rattle.outside_core.specs.Stream.{Stream}

-- the image, and what was put into it
pub record Disk : Type 0 where
  -- how many bytes puts were given
  pub stored : ℕ
  -- the image, as a load gives it
  pub bytes : List ℕ
  -- nothing is pending
  pub clean : Bool

-- what a board that tells its contents holds, and when
pub record Contents : Type 0 where
  pub stream : Stream
  pub disk : Disk
  pub clock : ℕ

-- how often the input, the output and the disk have failed
pub record Faults : Type 0 where
  pub read : ℕ
  pub send : ℕ
  pub disk : ℕ

-- a board as contracts see it; the faults and the extent are always told
pub record View : Type 1 where
  pub faults : Faults
  -- the length of the image
  pub extent : ℕ
  pub now : Contents
  -- what a crash at some moment from that time on might have left: the bytes sent, and the image
  pub left : ℕ → List ℕ → List ℕ → Type 0

-- no put waits for a sync
abbrev pub NothingPending : View → Type 0
NothingPending board = IsTrue board.now.disk.clean

-- input and output are as before
abbrev pub Silent : View → View → Type 0
Silent old new = new.now.stream ≡ old.now.stream

-- the image is as before, and as much of it is pending
abbrev pub SameDisk : View → View → Type 0
SameDisk old new = new.now.disk ≡ old.now.disk

-- all that the board holds is as before
pub record Same (old new : View) : Type 0 where
  pub stream : Silent old new
  pub disk : SameDisk old new
