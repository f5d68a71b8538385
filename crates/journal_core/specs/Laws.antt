-- What is so of each region within each image.
use Rattle.std.specs.Prelude.{◌≡◌, ℕ, ◌+◌, ◌<◌, ◌≤◌, ◌⊎◌, List, [], length, take, drop, replicate}
use Rattle.board_core.specs.Moments.{SameOutside}
use Rattle.journal_core.specs.declared.region.Region.{Region}
use Rattle.journal_core.specs.Region.{RegionStands, RegionOverruns, region_size}
use Rattle.journal_core.specs.Kept.{Kept, IsWithin, Fits}

-- it stands for a list, and for no other
pub record StandsForOne (region : Region) (image : List ℕ) : Type 0 where
  pub bodies : List (List ℕ)
  pub stands : RegionStands region image bodies
  pub alone : (others : List (List ℕ)) → RegionStands region image others → others ≡ bodies

-- it stands for none, since a frame or a gate reaches past the half
pub record StandsForNoList (region : Region) (image : List ℕ) : Type 0 where
  pub overruns : RegionOverruns region image
  pub none : (others : List (List ℕ)) → RegionStands region image others → ⊥

-- one of the two, for each region within each image
abbrev pub OneList : Type 0
OneList = (region : Region) (image : List ℕ) → IsWithin region (length image) → StandsForOne region image ⊎ StandsForNoList region image

-- n bytes from an offset on, all before the region or all behind it
abbrev pub IsElsewhere : Region → ℕ → ℕ → Type 0
IsElsewhere region at n = (at + n ≤ region.at) ⊎ (region.at + region_size region ≤ at)

-- a region stands for the same list where bytes elsewhere changed
abbrev pub StandsElsewhere : Type 0
StandsElsewhere = (region : Region) (at n : ℕ) (old new : List ℕ) → IsElsewhere region at n → SameOutside at n old new
    → (bodies : List (List ℕ)) → RegionStands region old bodies → RegionStands region new bodies

-- a journal keeps the same list where bytes elsewhere changed
abbrev pub FitsElsewhere : Type 0
FitsElsewhere = (journal : Kept) (at n : ℕ) (old new : List ℕ) → IsElsewhere journal.region at n → SameOutside at n old new
    → (bodies : List (List ℕ)) → Fits journal old bodies → Fits journal new bodies

-- a region of zeros, with room for a gate, stands for the empty list
abbrev pub ZerosAreEmpty : Type 0
ZerosAreEmpty = (region : Region) (image : List ℕ) → IsWithin region (length image) → 0 < region.half
    → take (region_size region) (drop region.at image) ≡ replicate (region_size region) 0 → RegionStands region image []
