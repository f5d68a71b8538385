-- Words for parts of the code: a component that is moved behind those below it, and neighbours in a list.
use Rattle.std.specs.Prelude.{◌≡◌, ◌≢◌, ◌+◌, ◌<◌, ℕ, List, ◌∷◌, ◌++◌, length, take, drop, slice_index_or}
use Rattle.std.specs.List.{prefix_len}
use Rattle.cbor_core.specs.Spelling.{bytes_below}
use Rattle.device_state.specs.declared.rows.ComponentRow.{ComponentRow}
use Rattle.device_state.specs.State.{put_component}

-- so many components behind the place have an identifier below that of the one at the place
abbrev pub IsCounted : List ComponentRow → ℕ → ℕ → Type 0
IsCounted components place count = (c : ComponentRow) (cs : List ComponentRow) → drop place components ≡ c ∷ cs → count ≡ prefix_len (λ d. bytes_below d.id c.id) cs

-- what stands before the place stays, and the component at the place is put among those behind it
abbrev pub IsSunk : List ComponentRow → ℕ → List ComponentRow → Type 0
IsSunk old place new = (c : ComponentRow) (cs : List ComponentRow) → drop place old ≡ c ∷ cs → new ≡ take place old ++ put_component c cs

-- no two neighbours are the same
abbrev pub NeighboursDiffer : List (List ℕ) → Type 0
NeighboursDiffer ids = (k : ℕ) (d : List ℕ) → k + 1 < length ids → slice_index_or ids k d ≢ slice_index_or ids (k + 1) d
