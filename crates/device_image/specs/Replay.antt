-- Words for the steps by which an image is read.
use Rattle.std.specs.Prelude.{◌≡◌, ◌≤◌, ℕ, List, None, Result, Ok, Err}
use Rattle.journal_core.specs.declared.region.Region.{Region}
use Rattle.journal_core.specs.Region.{RegionStands}
use Rattle.journal_core.specs.Kept.{Kept, Fits}
use Rattle.journal_core.specs.Outcome.{StandsForNone}
use Rattle.device_config.specs.declared.config.Config.{Config}
use Rattle.device_config.specs.declared.fault.MountFault.{MountFault}
use Rattle.device_config.specs.declared.fault.MountFault.TheVariants.{BadImage, DiskFault, NoMemory}
use Rattle.device_config.specs.Image.{journal_region}
use Rattle.device_state.specs.declared.change.Change.{Change}
use Rattle.device_state.specs.State.{State, new_state, changed}
use Rattle.device_state.specs.Valid.{IsValid}
use Rattle.device_state.specs.Law.{AreInOrder}
use Rattle.commit_records.specs.Changes.{ChangeIs}
use Rattle.device_image.specs.declared.held.Held.{Held}
use Rattle.device_image.specs.Stands.{Leads}
use Rattle.device_image.specs.Held.{state_of, head_of}

-- a new device of this configuration, with the journal of its region
pub record IsNew (config : Config) (held : Held) : Type 0 where
  pub state : state_of held ≡ new_state config
  pub first : held.first_anchors ≡ None
  pub region : held.journal.region ≡ journal_region config.quota

-- the region of the journal has bodies whose places it keeps, and stands for no others
pub record FitsAlone (journal : Kept) (image : List ℕ) : Type 0 where
  pub bodies : List (List ℕ)
  pub fits : Fits journal image bodies
  pub alone : (others : List (List ℕ)) → RegionStands journal.region image others → others ≡ bodies

-- a journal of the region is found. BadImage: the region stands for no list.
abbrev pub MountedAs : Region → List ℕ → Result Kept MountFault → Type 0
MountedAs region image (Ok journal) = FitsAlone journal image
MountedAs region image (Err BadImage) = StandsForNone region image
MountedAs region image (Err DiskFault) = Unit {0}
MountedAs region image (Err NoMemory) = Unit {0}

-- the same for a new device of this configuration
abbrev pub BegunAs : Config → List ℕ → Result Held MountFault → Type 0
BegunAs config image (Ok held) = FitsAlone held.journal image
BegunAs config image (Err BadImage) = StandsForNone (journal_region config.quota) image
BegunAs config image (Err DiskFault) = Unit {0}
BegunAs config image (Err NoMemory) = Unit {0}

-- the bytes are the change, and its leaf is not below this one. BadImage: they are no such change.
abbrev pub ReadAs : ℕ → List ℕ → Result Change MountFault → Type 0
ReadAs leaf body (Ok change) = ChangeIs change body × (leaf ≤ change.leaf)
ReadAs leaf body (Err BadImage) = (change : Change) → ChangeIs change body → leaf ≤ change.leaf → ⊥
ReadAs leaf body (Err DiskFault) = Unit {0}
ReadAs leaf body (Err NoMemory) = Unit {0}

-- another state is held, of the same image
pub record IsOf (old new : Held) : Type 0 where
  pub head : head_of new ≡ head_of old
  pub journal : new.journal ≡ old.journal
  pub order : AreInOrder new.rows.items

-- the body is a change whose leaf is not below the last, and what it makes of the state is held
pub record Takes (old : Held) (body : List ℕ) (new : Held) : Type 0 where
  pub change : Change
  pub change_is : ChangeIs change body
  pub leaf : old.leaf ≤ change.leaf
  pub state : state_of new ≡ changed change (state_of old)

-- one body more is taken in. BadImage: it is no such change.
abbrev pub TakenAs : Held → List ℕ → Held → Result (Unit {0}) MountFault → Type 0
TakenAs old body new (Ok u) = Takes old body new
TakenAs old body new (Err BadImage) = (change : Change) → ChangeIs change body → old.leaf ≤ change.leaf → ⊥
TakenAs old body new (Err DiskFault) = Unit {0}
TakenAs old body new (Err NoMemory) = Unit {0}

-- the bodies lead to the state that is held. BadImage: they lead to none.
abbrev pub ReplayedAs : Config → List (List ℕ) → State → Result (Unit {0}) MountFault → Type 0
ReplayedAs config bodies s (Ok u) = Leads config bodies s
ReplayedAs config bodies s (Err BadImage) = (t : State) → Leads config bodies t → ⊥
ReplayedAs config bodies s (Err DiskFault) = Unit {0}
ReplayedAs config bodies s (Err NoMemory) = Unit {0}

-- a device may be in the state. BadImage: it may not.
abbrev pub JudgedAs : State → Result (Unit {0}) MountFault → Type 0
JudgedAs s (Ok u) = IsValid s
JudgedAs s (Err BadImage) = IsValid s → ⊥
JudgedAs s (Err DiskFault) = Unit {0}
JudgedAs s (Err NoMemory) = Unit {0}

-- the bodies lead to the state that is held. BadImage: they lead to none that a device may be in.
abbrev pub SettledAs : Config → List (List ℕ) → State → Result (Unit {0}) MountFault → Type 0
SettledAs config bodies s (Ok u) = Leads config bodies s
SettledAs config bodies s (Err BadImage) = (t : State) → Leads config bodies t → IsValid t → ⊥
SettledAs config bodies s (Err DiskFault) = Unit {0}
SettledAs config bodies s (Err NoMemory) = Unit {0}

-- the same of an answer that has what is held
abbrev pub FinishedAs : Config → List (List ℕ) → Result Held MountFault → Type 0
FinishedAs config bodies (Ok held) = Leads config bodies (state_of held)
FinishedAs config bodies (Err BadImage) = (t : State) → Leads config bodies t → IsValid t → ⊥
FinishedAs config bodies (Err DiskFault) = Unit {0}
FinishedAs config bodies (Err NoMemory) = Unit {0}
