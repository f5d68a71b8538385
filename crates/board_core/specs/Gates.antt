-- Bytes that count only where the byte at a gate before them is a certain one.
use Rattle.std.specs.Prelude.{◌≡◌, ◌+◌, ◌-◌, ◌≤◌, ◌⊎◌, ◌==◌, List, [], ◌∷◌, ℕ, Option, Some, None, length, take, drop, slice_index, if◌then◌else◌}
use Rattle.board_core.specs.Contents.{View, NothingPending}
use Rattle.board_core.specs.Moments.{SameOutside, written, LeftNow}
use Rattle.board_core.specs.Ranges.{ChangesWithin}

-- the n bytes from `at` on where the gate is open, and nothing where it is shut
abbrev pub shown : ℕ → ℕ → ℕ → ℕ → List ℕ → Option (List ℕ)
shown gate open_byte at n image = if slice_index image gate == open_byte then Some (take n (drop at image)) else None

-- the image is the old one but for the range of the bytes, or it has the bytes and differs from that at the gate alone
abbrev pub PartWritten : ℕ → List ℕ → ℕ → List ℕ → List ℕ → Type 0
PartWritten at bytes gate old image = SameOutside at (length bytes) old image ⊎ SameOutside gate 1 (written old at bytes) image

-- no more was sent, and the image is in part written so
abbrev pub WithinGated : ℕ → List ℕ → ℕ → View → List ℕ → List ℕ → Type 0
WithinGated at bytes gate old sent image = (sent ≡ old.now.stream.sent) × PartWritten at bytes gate old.now.disk.bytes image

-- whatever came of it: the image is in part written so, from the gate to the end of the bytes, and no more was put than they
pub record WritesWithin (at : ℕ) (bytes : List ℕ) (gate : ℕ) (old new : View) : Type 0 where
  pub changes : ChangesWithin gate (at + length bytes - gate) old new
  pub part : PartWritten at bytes gate old.now.disk.bytes new.now.disk.bytes
  pub stored : new.now.disk.stored ≤ old.now.disk.stored + length bytes + 1

-- the bytes are in the image, and behind them the byte at the gate; nothing is pending
pub record WroteGated (at : ℕ) (bytes : List ℕ) (gate byte : ℕ) (old new : View) : Type 0 where
  pub bytes_are : new.now.disk.bytes ≡ written (written old.now.disk.bytes at bytes) gate (byte ∷ [])
  pub clean : NothingPending new

-- what is pending lies within the n bytes from `at` on, or is the byte at the gate
abbrev pub PendingWithin : ℕ → ℕ → ℕ → View → Type 0
PendingWithin at n gate now =
    (sent image : List ℕ) → LeftNow now sent image → SameOutside at n now.now.disk.bytes image ⊎ SameOutside gate 1 now.now.disk.bytes image
