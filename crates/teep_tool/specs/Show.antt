-- What `show` prints of a file, and how it ends.
use Rattle.std.specs.Prelude.{◌≡◌, ◌≤◌, ◌<◌, ◌⊎◌, ◌++◌, ℕ, List, codes, length, Option, Some}
use Rattle.cbor_core.specs.declared.item.Item.{Item}
use Rattle.cbor_heads.specs.declared.fault.Fault.{Fault}
use Rattle.cbor_core.specs.Spelling.{Spells}
use Rattle.cbor_core.specs.Law.{IsFaultyWhole}
use Rattle.cbor_heads.specs.Printing.{text as fault_text}
use Rattle.diag_text.specs.Printed.{printed}
use Rattle.teep_tool.specs.Contents.{Contents}
use Rattle.teep_tool.specs.Calls.{IsLong, PrintsSome}
use Rattle.teep_tool.specs.Statuses.{number_of}
use Rattle.base_types.specs.declared.limits.TheConstants.{FILE_LIMIT}
use Rattle.teep_tool.specs.declared.status.Status.{Status}
use Rattle.teep_tool.specs.declared.status.Status.TheVariants.{Done, Refused, Usage, HostFault, LongFile, NoMemory}

-- the diagnostic text of the item that the bytes spell, and a newline
pub record ShowsItem (bytes text : List ℕ) : Type 0 where
  pub item : Item
  pub spelled : Spells item bytes
  pub line : text ≡ printed item ++ codes "\n"

-- a line with the fault of the bytes
pub record ShowsFault (bytes text : List ℕ) : Type 0 where
  pub fault : Fault
  pub faulty : IsFaultyWhole bytes fault
  pub line : text ≡ codes "refused: " ++ (fault_text fault ++ codes "\n")

-- there is such a file within the limit, and it is shown in this way
pub record IsShown (Shows : List ℕ → List ℕ → Type 0) (file : Option (List ℕ)) (text : List ℕ) : Type 0 where
  pub bytes : List ℕ
  pub is : file ≡ Some bytes
  pub short : length bytes ≤ FILE_LIMIT
  pub shows : Shows bytes text

-- a front of what the file is shown as was printed, or nothing
abbrev pub IsCut : Option (List ℕ) → List ℕ → List ℕ → Type 0
IsCut file before now = (now ≡ before) ⊎ ((text : List ℕ) × (IsShown ShowsItem file text ⊎ IsShown ShowsFault file text) × PrintsSome text before now)

-- by the status: the file, what was printed before the call and behind it
abbrev pub Outcome : Status → Option (List ℕ) → List ℕ → List ℕ → Type 0
Outcome Done file before now = (text : List ℕ) × IsShown ShowsItem file text × (now ≡ before ++ text)
Outcome Refused file before now = (text : List ℕ) × IsShown ShowsFault file text × (now ≡ before ++ text)
Outcome Usage file before now = ⊥
Outcome HostFault file before now = IsCut file before now
Outcome LongFile file before now = IsLong file × (now ≡ before)
Outcome NoMemory file before now = now ≡ before

-- `show` over a host that tells its contents; its files stay
pub record Showed (name : List ℕ) (status : Status) (old new : Contents) : Type 0 where
  pub files : new.files ≡ old.files
  pub outcome : Outcome status (old.files name) old.printed new.printed

-- the answer of the tool is the number of such a status
abbrev pub Ran : List ℕ → ℕ → Contents → Contents → Type 0
Ran name number old new = (status : Status) × (number ≡ number_of status) × Showed name status old new

-- the status that a file calls for
abbrev pub CallsFor : List ℕ → Status → Type 0
CallsFor bytes Done = (length bytes ≤ FILE_LIMIT) × (item : Item) × Spells item bytes
CallsFor bytes Refused = (length bytes ≤ FILE_LIMIT) × (fault : Fault) × IsFaultyWhole bytes fault
CallsFor bytes LongFile = FILE_LIMIT < length bytes
CallsFor bytes Usage = ⊥
CallsFor bytes HostFault = ⊥
CallsFor bytes NoMemory = ⊥
