-- What the calls of a journal answer and leave.
use Rattle.std.specs.Prelude.{◌≡◌, ℕ, ◌+◌, ◌≤◌, List, Result, Ok, Err}
use Rattle.board_core.specs.Contents.{View, NothingPending}
use Rattle.board_core.specs.Ranges.{ChangesWithin}
use Rattle.journal_core.specs.declared.fault.JournalFault.{JournalFault}
use Rattle.journal_core.specs.declared.fault.JournalFault.TheVariants as mount
use Rattle.journal_core.specs.declared.region.Region.{Region}
use Rattle.journal_core.specs.Region.{RegionStands, region_size}
use Rattle.journal_core.specs.Kept.{Kept, Fits}

-- no list for which the region stands
abbrev pub StandsForNone : Region → List ℕ → Type 0
StandsForNone region image = (bodies : List (List ℕ)) → RegionStands region image bodies → ⊥

-- A journal is kept for the list that the region stands for. NoJournal: there is none.
abbrev pub Mounts : Region → List ℕ → Result Kept JournalFault → Type 0
Mounts region image (Ok journal) = (journal.region ≡ region) × ((bodies : List (List ℕ)) × Fits journal image bodies)
Mounts region image (Err mount.NoJournal) = StandsForNone region image
Mounts region image (Err mount.DiskFault) = Unit {0}
Mounts region image (Err mount.NoMemory) = Unit {0}

-- The journal behind a change keeps the list that the change makes of the one before, and nothing is pending.
pub record Makes (change : List (List ℕ) → List (List ℕ)) (old new : Kept) (before behind : View) : Type 0 where
  pub fits : (bodies : List (List ℕ)) → Fits old before.now.disk.bytes bodies → Fits new behind.now.disk.bytes (change bodies)
  pub clean : NothingPending behind

-- of the same region, with room for as many bodies but for those that were taken in
pub record SameRegion (taken : ℕ) (old new : Kept) : Type 0 where
  pub region : new.region ≡ old.region
  pub spare : old.spare ≤ new.spare + taken

-- nothing outside the region was touched, and at most so many bytes were handed to puts
pub record StoresWithin (region : Region) (most : ℕ) (old new : View) : Type 0 where
  pub changes : ChangesWithin region.at (region_size region) old new
  pub stored : new.now.disk.stored ≤ old.now.disk.stored + most
