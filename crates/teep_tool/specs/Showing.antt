-- The steps of `show`: the line of some bytes, and what is printed of it.
use Rattle.std.specs.Prelude.{◌≡◌, ◌⊎◌, ◌++◌, ℕ, List}
use Rattle.cbor_core.specs.declared.item.Item.{Item}
use Rattle.cbor_heads.specs.declared.fault.Fault.{Fault}
use Rattle.cbor_core.specs.Spelling.{Spells}
use Rattle.cbor_core.specs.Law.{IsFaultyWhole}
use Rattle.teep_tool.specs.Contents.{Contents}
use Rattle.teep_tool.specs.Calls.{PrintsSome}
use Rattle.teep_tool.specs.Show.{ShowsItem, ShowsFault}
use Rattle.teep_tool.specs.declared.status.Status.{Status}
use Rattle.teep_tool.specs.declared.status.Status.TheVariants.{Done, Refused, Usage, HostFault, LongFile, NoMemory}

-- the line of bytes that spell an item, and of bytes that have a fault; never both
abbrev pub IsLine : List ℕ → Status → List ℕ → Type 0
IsLine bytes Done text = ShowsItem bytes text × ((fault : Fault) → IsFaultyWhole bytes fault → ⊥)
IsLine bytes Refused text = ShowsFault bytes text × ((item : Item) → Spells item bytes → ⊥)
IsLine bytes Usage text = ⊥
IsLine bytes HostFault text = ⊥
IsLine bytes LongFile text = ⊥
IsLine bytes NoMemory text = ⊥

-- the line is printed, or a front of one, or nothing
abbrev pub LineOutcome : Status → List ℕ → List ℕ → List ℕ → Type 0
LineOutcome Done bytes before now = (text : List ℕ) × IsLine bytes Done text × (now ≡ before ++ text)
LineOutcome Refused bytes before now = (text : List ℕ) × IsLine bytes Refused text × (now ≡ before ++ text)
LineOutcome HostFault bytes before now = (text : List ℕ) × (IsLine bytes Done text ⊎ IsLine bytes Refused text) × PrintsSome text before now
LineOutcome NoMemory bytes before now = now ≡ before
LineOutcome Usage bytes before now = ⊥
LineOutcome LongFile bytes before now = ⊥

-- bytes were shown, or refused, by one line; no file changed
pub record ShowedBytes (bytes : List ℕ) (status : Status) (old new : Contents) : Type 0 where
  pub files : new.files ≡ old.files
  pub outcome : LineOutcome status bytes old.printed new.printed
