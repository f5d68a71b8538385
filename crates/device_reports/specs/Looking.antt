-- What a call leaves that loads at most.
use Rattle.board_core.specs.Contents.{View, Same}
use Rattle.board_core.specs.Calls.{DiskCausedBy}
use Rattle.board_core.specs.Moments.{Passes, NoMoment}

-- The count of failed disk calls rose exactly where it failed so. All that the board holds is as before, and no moment is added.
pub record Looks (told failed : Type 0) (old new : View) : Type 0 where
  pub cause : DiskCausedBy failed old new
  pub same : told → Same old new
  pub moments : told → Passes old new NoMoment
