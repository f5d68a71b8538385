-- What a board over files tells.
use Rattle.std.specs.Prelude.{◌≡◌, ℕ, Bool, false, [], Result, IsErr}
use Rattle.board_core.specs.Contents.{Contents, Faults, View}

-- its counts, the length of its image, and whether its file can still be used
pub record FileTold : Type 0 where
  pub faults : Faults
  pub extent : ℕ
  -- the file is open and locked, and no sync has failed
  pub usable : Bool

-- contents of which nothing is said
abbrev pub untold : Contents
untold = record {
  stream = record { taken = 0; rest = []; sent = [] };
  disk = record { stored = 0; bytes = []; clean = false };
  clock = 0;
}

-- as a board that tells no contents
abbrev pub file_view : FileTold → View
file_view file = record { faults = file.faults; extent = file.extent; now = untold; left = λ t sent image. ⊥ }

-- a file that cannot be used stays so
abbrev pub StaysUnusable : FileTold → FileTold → Type 0
StaysUnusable old new = old.usable ≡ false → new.usable ≡ false

-- a call of the disk fails where the file cannot be used
abbrev pub FailsUnusable : {T E : Type 0} → FileTold → Result T E → Type 0
FailsUnusable old result = old.usable ≡ false → IsErr result
