-- Which list of bodies a region of the image stands for.
use Rattle.std.specs.Prelude.{◌≡◌, ◌≢◌, ◌+◌, ◌*◌, ◌%◌, ◌^◌, ◌<◌, ◌≤◌, ◌==◌, ◌⊎◌, ◌∷◌, ◌++◌}
use Rattle.std.specs.Prelude.{ℕ, Bool, true, false, List, length, take, drop, slice_index}
use Rattle.std.specs.Int.{to_be_bytes, w32}
use Rattle.board_core.specs.Contents.{View}
use Rattle.board_core.specs.Moments.{SameOutside}
use Rattle.journal_core.specs.declared.region.Region.{Region}
use Rattle.journal_core.specs.Frames.{frames, AreBodies}

-- 16 bytes, of which the first is the selector, and two halves
abbrev pub region_size : Region → ℕ
region_size region = 16 + 2 * region.half

-- where a half begins
abbrev pub half_at : Region → Bool → ℕ
half_at region false = region.at + 16
half_at region true = region.at + 16 + region.half

-- the low bit of a selector says that the second half counts
abbrev pub is_second : ℕ → Bool
is_second selector = selector % 2 == 1

-- which half counts
abbrev pub selected : Region → List ℕ → Bool
selected region image = is_second (slice_index image region.at)

-- From a place on the image has the framed bodies, a gate that is not open, and anything. That gate
-- lies within the half.
pub record HalfStands (at half : ℕ) (image : List ℕ) (bodies : List (List ℕ)) : Type 0 where
  pub before : List ℕ
  pub gate : ℕ
  pub behind : List ℕ
  pub whole : image ≡ before ++ (frames bodies ++ gate ∷ behind)
  pub place : length before ≡ at
  pub shut : gate ≢ 0xa5
  pub within : length (frames bodies) + 1 ≤ half
  pub sizes : AreBodies bodies

-- the half that counts stands for the bodies
abbrev pub RegionStands : Region → List ℕ → List (List ℕ) → Type 0
RegionStands region image bodies = HalfStands (half_at region (selected region image)) region.half image bodies

-- Behind some framed bodies there is no room for a gate; or the gate is open, and whatever length the four bytes behind it
-- say, the body or the gate that must follow it reaches past the half.
pub record HalfOverruns (at half : ℕ) (image : List ℕ) : Type 0 where
  pub bodies : List (List ℕ)
  pub before : List ℕ
  pub behind : List ℕ
  pub whole : image ≡ before ++ (frames bodies ++ behind)
  pub place : length before ≡ at
  pub sizes : AreBodies bodies
  pub past : (half < length (frames bodies) + 1)
      ⊎ ((slice_index behind 0 ≡ 0xa5) × ((n : ℕ) → n < 2 ^ 32 → take 4 (drop 1 behind) ≡ to_be_bytes w32 n → half < length (frames bodies) + 6 + n))

-- the half that counts overruns
abbrev pub RegionOverruns : Region → List ℕ → Type 0
RegionOverruns region image = HalfOverruns (half_at region (selected region image)) region.half image

-- what a crash within a change of the list may leave: no more was sent, all outside the region is as before, and the
-- region stands for the old list or for the new one
pub record Leaves (region : Region) (old_bodies new_bodies : List (List ℕ)) (old : View) (sent image : List ℕ) : Type 0 where
  pub sent_same : sent ≡ old.now.stream.sent
  pub outside : SameOutside region.at (region_size region) old.now.disk.bytes image
  pub either : RegionStands region image old_bodies ⊎ RegionStands region image new_bodies
