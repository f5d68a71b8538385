-- Bytes are one change at most.
use Rattle.std.specs.Prelude.{◌≡◌, ℕ, List}
use Rattle.device_state.specs.declared.change.Change.{Change}
use Rattle.commit_records.specs.Changes.{ChangeIs}

-- no bytes are two changes
abbrev pub OneChange : Type 0
OneChange = (bytes : List ℕ) (a b : Change) → ChangeIs a bytes → ChangeIs b bytes → a ≡ b
