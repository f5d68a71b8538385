-- What is held of an image once it was read, and when that is true of an image.
use Rattle.std.specs.Prelude.{◌≡◌, ◌≤◌, ℕ, List, length, Result, Ok, Err}
use Rattle.base_types.specs.declared.limits.TheConstants.{QUOTA_LIMIT}
use Rattle.journal_core.specs.Kept.{Fits, IsWithin}
use Rattle.evidence.specs.Ids.{AreIds}
use Rattle.hss_sign.specs.Params.{IsProperParams}
use Rattle.device_config.specs.declared.config.TheConstants.{KEY_SEED_SIZE}
use Rattle.device_config.specs.declared.config.Config.{Config}
use Rattle.device_config.specs.declared.fault.MountFault.{MountFault}
use Rattle.device_config.specs.declared.fault.MountFault.TheVariants.{BadImage, DiskFault, NoMemory}
use Rattle.device_config.specs.Image.{IsImage, journal_region}
use Rattle.device_state.specs.State.{State, with_anchors}
use Rattle.device_state.specs.Valid.{IsValid}
use Rattle.device_state.specs.Law.{AreInOrder}
use Rattle.device_image.specs.declared.held.Held.{Held}
use Rattle.device_image.specs.Stands.{Leads, Stands}

-- the state that is held
abbrev pub state_of : Held → State
state_of held = record { config = held.config; leaf = held.leaf; rows = held.rows.items }

-- the configuration in the head of the image: that of the state, with the anchors that the device was made with
abbrev pub head_of : Held → Config
head_of held = with_anchors held.first_anchors held.config

-- the same but for the room that is reserved
pub record SameButRoom (old new : Held) : Type 0 where
  pub state : state_of new ≡ state_of old
  pub first : new.first_anchors ≡ old.first_anchors
  pub journal : new.journal ≡ old.journal

-- the image has that head, its region has bodies whose places the journal keeps, and they lead to the state
pub record Holds (held : Held) (image : List ℕ) : Type 0 where
  pub head : IsImage (head_of held) image
  pub bodies : List (List ℕ)
  pub fits : Fits held.journal image bodies
  pub leads : Leads (head_of held) bodies (state_of held)

-- what a configuration is, whatever its anchors are: identifiers of 1 to 64 bytes, a quota within its limit, and the parameters and the seed of a key
pub record IsDevice (config : Config) : Type 0 where
  pub ids : AreIds config.device
  pub quota : config.quota ≤ QUOTA_LIMIT
  pub params : IsProperParams config.params
  pub seed : length config.key_seed ≡ KEY_SEED_SIZE

-- What is so whatever a board tells: a device may be in the state, its configuration is one, its rows are in order, the journal is that of the
-- configuration and lies within an image of that length.
pub record IsSafe (held : Held) (extent : ℕ) : Type 0 where
  pub valid : IsValid (state_of held)
  pub order : AreInOrder held.rows.items
  pub device : IsDevice held.config
  pub region : held.journal.region ≡ journal_region held.config.quota
  pub within : IsWithin held.journal.region extent

-- The image is held as it stands. BadImage: it stands for no state. Nothing is said of the image by another fault.
abbrev pub LoadedAs : List ℕ → Result Held MountFault → Type 0
LoadedAs image (Ok held) = Holds held image
LoadedAs image (Err BadImage) = (s : State) → Stands image s → ⊥
LoadedAs image (Err DiskFault) = Unit {0}
LoadedAs image (Err NoMemory) = Unit {0}
