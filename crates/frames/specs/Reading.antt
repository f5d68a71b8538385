-- The frames of an input, and how it ends.
use Rattle.std.specs.Prelude.{◌≡◌, ◌^◌, ◌<◌, ◌≤◌, ◌⊎◌, ◌++◌, List, [], ◌∷◌, ℕ, length, take}
use Rattle.std.specs.List.{All, flat_map}
use Rattle.base_types.specs.Bytes.{IsBytes}
use Rattle.frames.specs.Frames.{Frame, frame_bytes, four_bytes}

-- a frame whose body is within the limit
abbrev pub IsFrame : ℕ → Frame → Type 0
IsFrame limit f = length f.body ≤ limit

-- the bytes begin with a kind and a length
pub record Head (bytes : List ℕ) : Type 0 where
  pub kind : ℕ
  pub size : ℕ
  pub behind : List ℕ
  pub spelled : bytes ≡ (kind ∷ four_bytes size) ++ behind
  pub size_fits : size < 2 ^ 32

-- a head says a length above the limit
abbrev pub IsLong : ℕ → List ℕ → Type 0
IsLong limit bytes = (head : Head bytes) × limit < head.size

-- some bytes, but no whole head, or fewer behind it than it says
abbrev pub IsCut : ℕ → List ℕ → Type 0
IsCut limit bytes = (0 < length bytes) × ((length bytes < 5) ⊎ ((head : Head bytes) × (head.size ≤ limit) × (length head.behind < head.size)))

-- no byte, or a frame that is cut
abbrev pub IsPart : ℕ → List ℕ → Type 0
IsPart limit bytes = (bytes ≡ []) ⊎ IsCut limit bytes

-- the bytes are these frames, each within the limit, and then a rest
pub record Splits (limit : ℕ) (bytes : List ℕ) (frames : List Frame) (rest : List ℕ) : Type 0 where
  pub whole : bytes ≡ flat_map frame_bytes frames ++ rest
  pub each : All (IsFrame limit) frames

-- what ends an input: nothing, a head that says too much, a part of a frame, or that no more may be taken
pub data End : Type 0 where
  Whole : End
  Long : End
  Cut : End
  Spent : End

-- how an input of so many bytes ends behind its frames, where `most` bytes are taken at most
abbrev pub EndsAs : ℕ → ℕ → ℕ → List ℕ → End → Type 0
EndsAs limit most total rest Whole = (rest ≡ []) × (total < most)
EndsAs limit most total rest Long = IsLong limit rest
EndsAs limit most total rest Cut = IsCut limit rest × (total < most)
EndsAs limit most total rest Spent = IsPart limit rest × (most ≤ total)

-- the frames of an input, of which `most` bytes are taken at most, and its end
pub record Events (limit most : ℕ) (input : List ℕ) (frames : List Frame) (end : End) : Type 0 where
  pub rest : List ℕ
  pub splits : Splits limit (take most input) frames rest
  pub ends : EndsAs limit most (length input) rest end

-- the input has these frames and this end, and no others
pub record OnlyReading (limit most : ℕ) (input : List ℕ) : Type 0 where
  pub frames : List Frame
  pub end : End
  pub events : Events limit most input frames end
  pub alone : (others : List Frame) (other : End) → Events limit most input others other → (others ≡ frames) × (other ≡ end)

-- an input has exactly one list of frames and one end
abbrev pub OneReading : ℕ → ℕ → Type 0
OneReading limit most = (input : List ℕ) → IsBytes input → OnlyReading limit most input
