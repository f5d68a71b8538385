-- The moments of a crash: what was sent by then, and the image that the disk may hold afterwards.
-- The disk model: each range that was put since the last good sync may hold any bytes, and every other byte is as a load gives it.
use Rattle.std.specs.Prelude.{◌≡◌, ◌+◌, ◌≤◌, ◌⊎◌, ◌++◌, List, ℕ, length, take, drop}
use Rattle.outside_core.specs.Stream.{SendsSome}
use Rattle.board_core.specs.Contents.{View, NothingPending}

-- the old with these bytes at this place
abbrev pub written : List ℕ → ℕ → List ℕ → List ℕ
written old at bytes = take at old ++ bytes ++ drop (at + length bytes) old

-- the new is the old but for some of the n bytes from `at` on
pub record SameOutside (at n : ℕ) (old new : List ℕ) : Type 0 where
  pub length_kept : length new ≡ length old
  pub before : take at new ≡ take at old
  pub behind : drop (at + n) new ≡ drop (at + n) old

-- what a crash now may leave
abbrev pub LeftNow : View → List ℕ → List ℕ → Type 0
LeftNow board sent image = board.left board.now.clock sent image

-- What a call did to a board beside its own effect: time went on; each moment since `t` is one that there was, or is one
-- within the call; and those that there were stay.
pub record Passes (old new : View) (within : List ℕ → List ℕ → Type 0) : Type 0 where
  pub later : old.now.clock ≤ new.now.clock
  pub nothing_else : (t : ℕ) (sent image : List ℕ) → t ≤ old.now.clock → new.left t sent image → old.left t sent image ⊎ within sent image
  pub keeps : (t : ℕ) (sent image : List ℕ) → t ≤ old.now.clock → old.left t sent image → new.left t sent image

-- a call that neither sends nor puts adds no moment
abbrev pub NoMoment : List ℕ → List ℕ → Type 0
NoMoment sent image = ⊥

-- a front of the bytes is out, and the image is one that a crash before the call might have left
abbrev pub WithinSend : View → List ℕ → List ℕ → List ℕ → Type 0
WithinSend old bytes sent image = SendsSome bytes old.now.stream.sent sent × LeftNow old old.now.stream.sent image

-- the image is one that a crash before the call might have left, with any bytes in the range
abbrev pub WithinPut : View → ℕ → ℕ → List ℕ → List ℕ → Type 0
WithinPut old at n sent image = (was : List ℕ) × LeftNow old sent was × SameOutside at n was image

-- The laws of a board that tells its contents.
pub record Lawful (board : View) : Type 0 where
  -- the board as it stands is one of its own images
  pub stands : LeftNow board board.now.stream.sent board.now.disk.bytes
  -- a crash now leaves what was sent
  pub sent_now : (sent image : List ℕ) → LeftNow board sent image → sent ≡ board.now.stream.sent
  -- where nothing is pending, a crash now leaves what a load gives
  pub clean_now : NothingPending board → (sent image : List ℕ) → LeftNow board sent image → image ≡ board.now.disk.bytes
  -- what is left since a later moment is left since an earlier one
  pub earlier : (t u : ℕ) (sent image : List ℕ) → t ≤ u → board.left u sent image → board.left t sent image
  -- the image that is told has the length that is told
  pub measured : length board.now.disk.bytes ≡ board.extent

-- no more was sent, and the image is as it was but for a range
abbrev pub OnlyWithin : ℕ → ℕ → View → List ℕ → List ℕ → Type 0
OnlyWithin at n old sent image = (sent ≡ old.now.stream.sent) × SameOutside at n old.now.disk.bytes image

-- no more was sent, and the image stands for the old value or for the new one
abbrev pub OldOrNew : {S : Type 0} → (List ℕ → S → Type 0) → S → S → View → List ℕ → List ℕ → Type 0
OldOrNew stands was becomes old sent image = (sent ≡ old.now.stream.sent) × (stands image was ⊎ stands image becomes)
