-- From the read of a file and the printing of its line to the whole of `show`.
use Rattle.std.proofs.Common.{◌≡◌, ◌≢◌, ℕ, ◌≤◌, List, length, Option, Some, Ok, refl, sym, subst, ◌∙◌, arith, inl, inr}
use Rattle.base_types.specs.Causes.{Rose}
use Rattle.teep_tool.specs.Contents.{Contents}
use Rattle.teep_tool.specs.Calls.{ReadsFile}
use Rattle.teep_tool.specs.Show.{ShowsItem, ShowsFault, IsShown, Outcome, Showed, CallsFor}
use Rattle.teep_tool.specs.Showing.{IsLine, LineOutcome, ShowedBytes}
use Rattle.base_types.specs.declared.limits.TheConstants.{FILE_LIMIT}
use Rattle.teep_tool.specs.declared.status.Status.{Status}
use Rattle.teep_tool.specs.declared.status.Status.TheVariants.{Done, Refused, Usage, HostFault, LongFile, NoMemory}

pub rose_earlier : (a b c : ℕ) → a ≤ b → Rose b c → Rose a c
rose_earlier a b c le rose = omega (arith, le, rose)

-- the same file, in other words
module _ (file : Option (List ℕ)) (bytes : List ℕ) (is : file ≡ Some bytes) (short : length bytes ≤ FILE_LIMIT) where
  item_shown : (text : List ℕ) → IsLine bytes Done text → IsShown ShowsItem file text
  item_shown text line = record { bytes = bytes; is = is; short = short; shows = line.0 }

  fault_shown : (text : List ℕ) → IsLine bytes Refused text → IsShown ShowsFault file text
  fault_shown text line = record { bytes = bytes; is = is; short = short; shows = line.0 }

  outcome_from : (status : Status) (before now : List ℕ) → LineOutcome status bytes before now → Outcome status file before now
  outcome_from Done before now o = (o.0, item_shown o.0 o.1, o.2)
  outcome_from Refused before now o = (o.0, fault_shown o.0 o.1, o.2)
  outcome_from HostFault before now o = inr (o.0, elim o.1 [ inl line ↦ inl (item_shown o.0 line) | inr line ↦ inr (fault_shown o.0 line) ], o.2)
  outcome_from NoMemory before now o = o
  outcome_from Usage before now o = o
  outcome_from LongFile before now o = absurd o

pub showed_from : (name bytes : List ℕ) (status : Status) (old mid new : Contents) → ReadsFile name (Ok bytes) old mid → ShowedBytes bytes status mid new → Showed name status old new
showed_from name bytes status old mid new read shown = record {
  files = shown.files ∙ read.files;
  outcome = outcome_from (old.files name) bytes read.gives.0 read.gives.1 status old.printed new.printed (subst (λ (t : List ℕ). LineOutcome status bytes t new.printed) read.printed shown.outcome);
}

-- a line that was printed is that of the status which the file calls for
only_status : (bytes : List ℕ) (status want : Status) (before now : List ℕ) → length bytes ≤ FILE_LIMIT → LineOutcome status bytes before now → (status ≡ HostFault → ⊥) → status ≢ NoMemory → CallsFor bytes want → status ≡ want
only_status bytes Done Done before now short o fault memory calls = refl
only_status bytes Done Refused before now short o fault memory calls = absurd (o.1.1 calls.1 calls.2)
only_status bytes Done LongFile before now short o fault memory calls = absurd (omega (arith, short, calls))
only_status bytes Done Usage before now short o fault memory calls = absurd calls
only_status bytes Done HostFault before now short o fault memory calls = absurd calls
only_status bytes Done NoMemory before now short o fault memory calls = absurd calls
only_status bytes Refused Done before now short o fault memory calls = absurd (o.1.1 calls.1 calls.2)
only_status bytes Refused Refused before now short o fault memory calls = refl
only_status bytes Refused LongFile before now short o fault memory calls = absurd (omega (arith, short, calls))
only_status bytes Refused Usage before now short o fault memory calls = absurd calls
only_status bytes Refused HostFault before now short o fault memory calls = absurd calls
only_status bytes Refused NoMemory before now short o fault memory calls = absurd calls
only_status bytes Usage want before now short o fault memory calls = absurd o
only_status bytes LongFile want before now short o fault memory calls = absurd o
only_status bytes HostFault want before now short o fault memory calls = absurd (fault refl)
only_status bytes NoMemory want before now short o fault memory calls = absurd (memory refl)

some_same : (a b : List ℕ) → Some a ≡ Some b → a ≡ b
some_same a b e = cc

pub exactly_from : (name bytes other : List ℕ) (status want : Status) (old mid new : Contents) → ReadsFile name (Ok bytes) old mid → ShowedBytes bytes status mid new → (status ≡ HostFault → ⊥) → status ≢ NoMemory
    → old.files name ≡ Some other → CallsFor other want → status ≡ want
exactly_from name bytes other status want old mid new read shown fault memory is calls =
    let same : other ≡ bytes = some_same other bytes (sym is ∙ read.gives.0) in
    only_status bytes status want mid.printed new.printed read.gives.1 shown.outcome fault memory (subst (λ (t : List ℕ). CallsFor t want) same calls)
