-- A mark that some calls set where they fail, tied to the count of failures.
use Rattle.std.specs.Prelude.{◌≡◌, ◌⊎◌, ◌≤◌, ℕ, Bool, false, IsTrue}
use Rattle.base_types.specs.Causes.{Rose}

-- Over some calls of one kind: a mark stays, it is set only where the count rose, and where it is not set the count stands.
pub record Marks (before now : ℕ) (old new : Bool) : Type 0 where
  pub later : before ≤ now
  pub stays : IsTrue old → IsTrue new
  pub only : IsTrue new → IsTrue old ⊎ Rose before now
  pub steady : new ≡ false → now ≡ before
