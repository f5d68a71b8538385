-- The images of components, by their identifiers.
use Rattle.std.specs.Prelude.{ℕ, List, [], unwrap_or}
use Rattle.device_state.specs.declared.rows.ManifestRow.{ManifestRow}
use Rattle.component_store.specs.Keeping.{image_in}

-- the image of the component of these rows that has the identifier, and no bytes where none has it
abbrev pub stored : List ManifestRow → List ℕ → List ℕ
stored rows id = unwrap_or (image_in id rows) []
