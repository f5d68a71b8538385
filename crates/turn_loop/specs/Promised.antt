-- What a run promises of each moment of it.
use Rattle.std.specs.Prelude.{◌≡◌, ◌+◌, ◌-◌, ◌≤◌, ◌⊎◌, ◌++◌, ltb, if◌then◌else◌, List, [], ◌∷◌, ℕ, length, take}
use Rattle.std.specs.List.{flat_map}
use Rattle.outside_core.specs.Stream.{Begins}
use Rattle.board_core.specs.Contents.{View}
use Rattle.frames.specs.Frames.{Frame, frame_bytes}
use Rattle.frames.specs.Reading.{IsPart, IsLong, Splits}
use Rattle.turn_loop.specs.Follows.{Follows}

-- of these frames, those of which at least one byte is among the first n
abbrev pub begun : List Frame → ℕ → ℕ
begun [] n = 0
begun (frame ∷ frames) n = if ltb 0 n then 1 + begun frames (n - length (frame_bytes frame)) else 0

-- A crash may leave this: the image stands for the state behind the first of the frames, as many as `cut`. Of the replies
-- to these all but the last are out, and a front of the last; so `cut` is the number of replies that have begun, or one more.
pub record Promised {S : Type 0} (turn : S → Frame → S → Frame → Type 0) (stands : List ℕ → S → Type 0) (s : S) (frames : List Frame) (before sent image : List ℕ) : Type 0 where
  pub cut : ℕ
  pub within : cut ≤ length frames
  pub state : S
  pub replies : List Frame
  pub follows : Follows turn s (take cut frames) state replies
  pub image_stands : stands image state
  pub since : List ℕ
  pub sent_is : sent ≡ before ++ since
  pub replied : (first : List Frame) (last : Frame) → replies ≡ first ++ last ∷ [] → Begins (flat_map frame_bytes first) since
  pub sent_within : Begins since (flat_map frame_bytes replies)
  pub begun_or_next : (cut ≡ begun replies (length since)) ⊎ (cut ≡ begun replies (length since) + 1)

-- the bytes are these frames, and behind them stands no whole one
pub record AllFrames (limit : ℕ) (bytes : List ℕ) (frames : List Frame) : Type 0 where
  pub rest : List ℕ
  pub splits : Splits limit bytes frames rest
  pub no_more : IsPart limit rest ⊎ IsLong limit rest

-- At each moment of a run, from its start on, a crash leaves what is promised of the frames that the run took.
pub record Survives {S : Type 0} (turn : S → Frame → S → Frame → Type 0) (stands : List ℕ → S → Type 0) (s : S) (limit : ℕ) (old new : View) : Type 0 where
  pub took : List ℕ
  pub front : old.now.stream.rest ≡ took ++ new.now.stream.rest
  pub frames : List Frame
  pub all : AllFrames limit took frames
  pub each_moment : (sent image : List ℕ) → new.left old.now.clock sent image → Promised turn stands s frames old.now.stream.sent sent image
