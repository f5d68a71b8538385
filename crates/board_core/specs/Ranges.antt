-- Several calls that change one range of the image.
use Rattle.std.specs.Prelude.{ℕ}
use Rattle.board_core.specs.Contents.{View, Silent}
use Rattle.board_core.specs.Moments.{SameOutside, Passes, WithinPut}

-- Nothing was read or sent, and of the image the n bytes from `at` on alone changed: in what a load gives, and at each
-- moment, whatever was pending before.
pub record ChangesWithin (at n : ℕ) (old new : View) : Type 0 where
  pub silent : Silent old new
  pub outside : SameOutside at n old.now.disk.bytes new.now.disk.bytes
  pub moments : Passes old new (WithinPut old at n)
