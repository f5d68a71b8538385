-- What a journal keeps of the list in its region, and when that is true of an image.
use Rattle.std.specs.Prelude.{◌≡◌, ℕ, ◌+◌, ◌≤◌, Bool, List, Some, length, take, drop, slice_get}
use Rattle.journal_core.specs.declared.region.Region.{Region}
use Rattle.journal_core.specs.declared.place.Place.{Place}
use Rattle.journal_core.specs.Frames.{frames}
use Rattle.journal_core.specs.Region.{region_size, half_at, selected, RegionStands}
use Rattle.journal_core.specs.Place.{places_from}

-- the region, the half that counts, where the bodies lie, how many bytes of the half they take, and for how many more
-- bodies there is room in the list of places
pub record Kept : Type 0 where
  pub region : Region
  pub second : Bool
  pub places : List Place
  pub used : ℕ
  pub spare : ℕ

-- the region lies within an image of that length
abbrev pub IsWithin : Region → ℕ → Type 0
IsWithin region extent = region.at + region_size region ≤ extent

-- of the same region and half
pub record IsOf (old new : Kept) : Type 0 where
  pub region : new.region ≡ old.region
  pub second : new.second ≡ old.second

-- the places are those of the bodies, framed from the beginning of the half on
pub record Keeps (journal : Kept) (bodies : List (List ℕ)) : Type 0 where
  pub places : journal.places ≡ places_from (half_at journal.region journal.second) bodies
  pub used : journal.used ≡ length (frames bodies)

-- the region of the image stands for the bodies, and the journal keeps their half and places
pub record Fits (journal : Kept) (image : List ℕ) (bodies : List (List ℕ)) : Type 0 where
  pub selector : selected journal.region image ≡ journal.second
  pub stands : RegionStands journal.region image bodies
  pub keeps : Keeps journal bodies

-- the body of that index stands in the image from an offset on, and has so many bytes
pub record IsBodyAt (index at size : ℕ) (image : List ℕ) (bodies : List (List ℕ)) : Type 0 where
  pub within : at + size ≤ length image
  pub body : slice_get bodies index ≡ Some (take size (drop at image))

-- the same but for the room
pub record SameBut (old new : Kept) : Type 0 where
  pub region : new.region ≡ old.region
  pub second : new.second ≡ old.second
  pub places : new.places ≡ old.places
  pub used : new.used ≡ old.used
