-- What a host in memory holds and keeps.
use Rattle.std.specs.Prelude.{◌≡◌, ℕ, List, [], Bool, true, false, Option, None, Some, option_map, Result, Ok, Err, nat_eq, string_bytes}
use Rattle.std.specs.List.{find}
use Rattle.std.specs.Cmp.Lexicographic.{pointwise}
use Rattle.outside_core.specs.Numbers.{works_at, numbered}
use Rattle.teep_tool.specs.Contents.{Contents}
use Rattle.teep_tool.specs.declared.host.HostFault.{HostFault}
use Rattle.teep_tool.specs.declared.host.HostFault.TheVariants.{Failed, Long, NoMemory}
use Rattle.teep_tool.specs.declared.memory_host.Named.{Named}
use Rattle.teep_tool.specs.declared.memory_host.MemoryHost.{MemoryHost}

-- the bytes of the first file that has the name
abbrev pub file_in : List Named → List ℕ → Option (List ℕ)
file_in files name = option_map (λ file. file.bytes) (find (λ file. pointwise nat_eq file.name name) files)

-- what a host in memory holds
abbrev pub contents : MemoryHost → Contents
contents m = record { files = file_in m.files; printed = string_bytes m.printed }

-- how many of its calls failed
abbrev pub faults_of : MemoryHost → ℕ
faults_of m = m.faults

-- the number of the next call
abbrev pub next_of : MemoryHost → ℕ
next_of m = m.calls.next

-- the numbers of the calls that are to fail
abbrev pub failing_of : MemoryHost → List ℕ
failing_of m = m.calls.failing

-- the next call works
abbrev pub works : MemoryHost → Bool
works m = works_at (failing_of m) (next_of m)

-- a call takes the next number, and its number alone says whether it works
pub record TakesNumber (old new : MemoryHost) : Type 0 where
  pub next : next_of new ≡ numbered (next_of old)
  pub failing : failing_of new ≡ failing_of old

-- a read whose number works fails only where no file has the name
abbrev pub ReadAnswers : Bool → Option (List ℕ) → Result (List ℕ) HostFault → Type 0
ReadAnswers true None result = result ≡ Err Failed
ReadAnswers true (Some bytes) (Ok got) = Unit {0}
ReadAnswers true (Some bytes) (Err Long) = Unit {0}
ReadAnswers true (Some bytes) (Err NoMemory) = Unit {0}
ReadAnswers true (Some bytes) (Err Failed) = ⊥
ReadAnswers false file result = result ≡ Err Failed

-- a host of which no call was made
pub record IsNew (files : List Named) (failing : List ℕ) (m : MemoryHost) : Type 0 where
  pub contents_is : contents m ≡ record { files = file_in files; printed = [] }
  pub faults : faults_of m ≡ 0
  pub next : next_of m ≡ 0
  pub failing_is : failing_of m ≡ failing
