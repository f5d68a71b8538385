-- What the calls of a store answer and leave.
use Rattle.std.specs.Prelude.{◌≡◌, ◌<◌, ◌≤◌, ℕ, List, Result, Ok, Err}
use Rattle.board_core.specs.Contents.{View, Silent}
use Rattle.device_config.specs.declared.fault.MountFault.{MountFault}
use Rattle.device_config.specs.declared.fault.MountFault.TheVariants as mount
use Rattle.device_state.specs.State.{State, weight}
use Rattle.device_image.specs.Stands.{Stands}
use Rattle.component_store.specs.declared.fault.PrepareFault.{PrepareFault}
use Rattle.component_store.specs.declared.fault.PrepareFault.TheVariants as prepare

-- A store of this image. BadImage: the image stands for no state. Nothing is said of the image by another fault.
abbrev pub MountedAs : {S : Type 0} → (S → List ℕ → Type 0) → List ℕ → Result S MountFault → Type 0
MountedAs keeps image (Ok s) = keeps s image
MountedAs keeps image (Err mount.BadImage) = (s : State) → Stands image s → ⊥
MountedAs keeps image (Err mount.DiskFault) = Unit {0}
MountedAs keeps image (Err mount.NoMemory) = Unit {0}

-- nothing but what is pending changed
pub record SyncedAlone (old new : View) : Type 0 where
  pub silent : Silent old new
  pub bytes : new.now.disk.bytes ≡ old.now.disk.bytes
  pub stored : new.now.disk.stored ≡ old.now.disk.stored

-- Room exactly where the changed state weighs more than the quota, unless memory runs out; and else it is prepared.
abbrev pub HasRoom : {P : Type 0} → State → Result P PrepareFault → Type 0
HasRoom s (Ok p) = weight s ≤ s.config.quota
HasRoom s (Err prepare.Room) = s.config.quota < weight s
HasRoom s (Err prepare.NoMemory) = Unit {0}
