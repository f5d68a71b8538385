-- Words for the parts that a text is cut into.
use Rattle.std.specs.Prelude.{◌≢◌, ◌<◌, ℕ, List, length, slice_index}

-- the byte does not stand in the text
abbrev pub LacksByte : ℕ → List ℕ → Type 0
LacksByte byte text = (i : ℕ) → i < length text → slice_index text i ≢ byte
