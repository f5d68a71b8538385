-- How a half is looked through, gate by gate.
use Rattle.std.specs.Prelude.{◌≡◌, ◌≢◌, ℕ, ◌+◌, ◌^◌, ◌<◌, ◌≤◌, ◌⊎◌, List, [], ◌∷◌, ◌++◌, take, drop, slice_index, Result, Ok, Err}
use Rattle.std.specs.Int.{from_be_bytes, to_be_bytes, w32}
use Rattle.journal_core.specs.declared.fault.JournalFault.{JournalFault}
use Rattle.journal_core.specs.declared.fault.JournalFault.TheVariants as mount
use Rattle.journal_core.specs.declared.mount.Gate.{Gate}
use Rattle.journal_core.specs.declared.mount.Gate.TheVariants as gates
use Rattle.journal_core.specs.Region.{half_at, HalfStands}
use Rattle.journal_core.specs.Kept.{Kept, IsOf, Keeps}

-- nothing is taken in yet
pub record IsEmpty (journal : Kept) : Type 0 where
  pub places : journal.places ≡ []
  pub used : journal.used ≡ 0

-- the image from the next gate on
abbrev pub behind : Kept → List ℕ → List ℕ
behind journal image = drop (half_at journal.region journal.second + journal.used) image

-- the bytes at a gate, where so many bytes of the half are left
abbrev pub GateIs : ℕ → List ℕ → Gate → Type 0
GateIs room bytes gates.Closed = (0 < room) × (slice_index bytes 0 ≢ 0xa5)
GateIs room bytes (gates.Body n) = (take 5 bytes ≡ 0xa5 ∷ to_be_bytes w32 n) × (n < 2 ^ 32) × (n + 6 ≤ room)
GateIs room bytes gates.Overrun = (room < 1) ⊎ ((slice_index bytes 0 ≡ 0xa5) × ((room < 6) ⊎ (room < 6 + from_be_bytes w32 (take 4 (drop 1 bytes)))))

-- a body fits into the half with a gate behind it
abbrev pub FitsIn : ℕ → Gate → Type 0
FitsIn room gates.Closed = Unit {0}
FitsIn room (gates.Body n) = n + 6 ≤ room
FitsIn room gates.Overrun = Unit {0}

-- a body more
pub record TakesIn (length : ℕ) (old new : Kept) : Type 0 where
  pub is_of : IsOf old new
  pub places : new.places ≡ old.places ++ record { at = half_at old.region old.second + old.used + 5; length = length } ∷ []
  pub used : new.used ≡ old.used + 5 + length

-- the half of the journal that began stands for bodies, whose places are kept; or for none
abbrev pub Scans : Kept → List ℕ → Result Kept JournalFault → Type 0
Scans start image (Ok journal) = IsOf start journal × ((bodies : List (List ℕ)) × HalfStands (half_at journal.region journal.second) journal.region.half image bodies × Keeps journal bodies)
Scans start image (Err mount.NoJournal) = (bodies : List (List ℕ)) → HalfStands (half_at start.region start.second) start.region.half image bodies → ⊥
Scans start image (Err mount.DiskFault) = Unit {0}
Scans start image (Err mount.NoMemory) = Unit {0}
