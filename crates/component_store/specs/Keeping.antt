-- What a store in memory keeps, and what it tells of its state.
use Rattle.std.specs.Prelude.{◌≡◌, ℕ, nat_eq, List, Option, flat_map, option_map}
use Rattle.std.specs.List.{find}
use Rattle.std.specs.Cmp.Lexicographic.{pointwise}
use Rattle.device_state.specs.declared.rows.ComponentRow.{ComponentRow}
use Rattle.device_state.specs.declared.rows.ManifestRow.{ManifestRow}
use Rattle.device_state.specs.declared.heads.RowHead.{RowHead}
use Rattle.device_state.specs.State.{rows_weight}
use Rattle.device_state.specs.Heads.{heads}
use Rattle.device_image.specs.declared.held.Held.{Held}
use Rattle.device_image.specs.Held.{Holds, IsSafe, state_of, head_of}
use Rattle.journal_core.specs.Kept.{SameBut}

-- what is held of the image, and the length of that in bytes
pub record Log : Type 0 where
  pub held : Held
  pub size : ℕ

-- the components of all manifests, manifest by manifest
abbrev pub components : List ManifestRow → List ComponentRow
components rows = flat_map (λ row. row.components) rows

-- the image of the component that has the identifier, where one has it
abbrev pub image_in : List ℕ → List ManifestRow → Option (List ℕ)
image_in id rows = option_map (λ c. c.bytes) (find (λ c. pointwise nat_eq c.id id) (components rows))

-- what is so of every store in memory: what is held may be worked on, and the heads and the weight are those of its rows
pub record IsKept (held : Held) (size : ℕ) (row_heads : List RowHead) (weight : ℕ) : Type 0 where
  pub safe : IsSafe held size
  pub heads_are : row_heads ≡ heads held.rows.items
  pub weight_is : weight ≡ rows_weight held.rows.items

-- the same but for the room that is reserved
pub record IsSameLog (old new : Log) : Type 0 where
  pub state : state_of new.held ≡ state_of old.held
  pub head : head_of new.held ≡ head_of old.held
  pub journal : SameBut old.held.journal new.held.journal
  pub size : new.size ≡ old.size

-- the store may be worked on, and its image is this one
pub record Keeps (log : Log) (image : List ℕ) : Type 0 where
  pub safe : IsSafe log.held log.size
  pub holds : Holds log.held image
