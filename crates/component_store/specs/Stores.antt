-- A store of any layout is the store that it is.
use Rattle.std.specs.Prelude.{ℕ, List}
use Rattle.device_state.specs.State.{State}
use Rattle.device_image.specs.Held.{state_of}
use Rattle.component_store.specs.Keeping.{Keeps}
use Rattle.component_store.specs.declared.any.AnyStore.{AnyStore}
use Rattle.component_store.specs.declared.any.AnyStore.TheVariants as stores
use Rattle.component_store.specs.declared.prepared.Prepared.{Prepared}
use Rattle.component_store.specs.Preparing.{IsReady}

-- its state
abbrev pub state : AnyStore → State
state (stores.Log log) = state_of log.held

-- the length of its image
abbrev pub extent : AnyStore → ℕ
extent (stores.Log log) = log.size

-- it is the store of this image
abbrev pub keeps : AnyStore → List ℕ → Type 0
keeps (stores.Log log) image = Keeps log image

-- the change was prepared for it as it stands
abbrev pub ready : AnyStore → Prepared → Type 0
ready (stores.Log log) p = IsReady log p
