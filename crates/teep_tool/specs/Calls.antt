-- What each call of a host gives, and what it leaves.
use Rattle.std.specs.Prelude.{◌≡◌, ◌≤◌, ◌<◌, ◌++◌, ℕ, List, length, Option, Some, Result, Ok, Err, OnOk}
use Rattle.base_types.specs.Causes.{CausedBy}
use Rattle.teep_tool.specs.Contents.{Contents}
use Rattle.base_types.specs.declared.limits.TheConstants.{FILE_LIMIT}
use Rattle.teep_tool.specs.declared.host.HostFault.{HostFault}
use Rattle.teep_tool.specs.declared.host.HostFault.TheVariants.{Failed, Long, NoMemory}

-- the count has risen where the host failed, and stands where it did not
abbrev pub ReadCause : ℕ → ℕ → Result (List ℕ) HostFault → Type 0
ReadCause before now result = CausedBy (result ≡ Err Failed) before now

-- there is such a file, and it is longer than the limit
pub record IsLong (file : Option (List ℕ)) : Type 0 where
  pub bytes : List ℕ
  pub is : file ≡ Some bytes
  pub long : FILE_LIMIT < length bytes

-- by the answer: the file, or that it is too long; a failure and want of memory say nothing of it
abbrev pub Gives : Option (List ℕ) → Result (List ℕ) HostFault → Type 0
Gives file (Ok bytes) = (file ≡ Some bytes) × (length bytes ≤ FILE_LIMIT)
Gives file (Err Long) = IsLong file
Gives file (Err Failed) = Unit {0}
Gives file (Err NoMemory) = Unit {0}

-- the named file is given, and nothing changes
pub record ReadsFile (name : List ℕ) (result : Result (List ℕ) HostFault) (old new : Contents) : Type 0 where
  pub gives : Gives (old.files name) result
  pub files : new.files ≡ old.files
  pub printed : new.printed ≡ old.printed

-- what is printed goes on by a front of the text
pub record PrintsSome (text old new : List ℕ) : Type 0 where
  pub front : List ℕ
  pub rest : List ℕ
  pub of_text : text ≡ front ++ rest
  pub printed : new ≡ old ++ front

-- all of the text at Ok, and a front of it else; no file changes
pub record PrintsText {T E : Type 0} (text : List ℕ) (result : Result T E) (old new : Contents) : Type 0 where
  pub ok : OnOk result (new.printed ≡ old.printed ++ text)
  pub some : PrintsSome text old.printed new.printed
  pub files : new.files ≡ old.files
