-- What holds of listings and audits.
use Rattle.std.specs.Prelude.{◌≡◌, ◌≢◌, ◌+◌, ◌↔◌, ℕ, List, length, map, count_by, Option, Some, None}
use Rattle.std.specs.List.Sorted.{IsPermutation}
use Rattle.suit_commands.specs.declared.digest.Digest.{Digest}
use Rattle.suit_commands.specs.Digests.{hash_of}
use Rattle.device_state.specs.Places.{Ascend}
use Rattle.device_state.specs.State.{State}
use Rattle.device_state.specs.Valid.{IsValid}
use Rattle.device_state.specs.Law.{AreInOrder}
use Rattle.device_image.specs.Stands.{Stands}
use Rattle.component_store.specs.Keeping.{components}
use Rattle.device_reports.specs.declared.findings.Finding.{Finding}
use Rattle.device_reports.specs.declared.findings.Finding.TheVariants.{Good, Bad, Unknown}
use Rattle.device_reports.specs.declared.findings.Audited.{Audited}
use Rattle.device_reports.specs.Audit.{found, audited, findings, is_of}

-- how many are found so
abbrev pub count_of : Finding → List Audited → ℕ
count_of finding all = count_by (λ a. is_of finding a.finding) all

-- Each component stands once with what is found of it, in ascending order of the identifiers; and those that are good, bad and unknown are all of them.
pub record IsWhole (s : State) : Type 0 where
  pub each_once : IsPermutation (map audited (components s.rows)) (findings s)
  pub ascend : Ascend (λ a. a.id) (findings s)
  pub count : length (findings s) ≡ length (components s.rows)
  pub counts : count_of Good (findings s) + count_of Bad (findings s) + count_of Unknown (findings s) ≡ length (components s.rows)

-- so is the audit of each state that a device may be in
abbrev pub AuditsAreWhole : Type 0
AuditsAreWhole = (s : State) → IsValid s → IsWhole s

-- Good: a digest is kept, and it is that of the image. Bad: one is kept, and it is not. Unknown: none is kept.
pub record IsExact (kept : Option Digest) (image : List ℕ) : Type 0 where
  pub good : (found kept image ≡ Good) ↔ ((d : Digest) × (kept ≡ Some d) × (d.bytes ≡ hash_of d.algorithm image))
  pub bad : (found kept image ≡ Bad) ↔ ((d : Digest) × (kept ≡ Some d) × (d.bytes ≢ hash_of d.algorithm image))
  pub unknown : (found kept image ≡ Unknown) ↔ (kept ≡ None)

-- so it is of each image
abbrev pub FindingsAreExact : Type 0
FindingsAreExact = (kept : Option Digest) (image : List ℕ) → IsExact kept image

-- the manifests of a state for which an image stands ascend, and the components of each are in order
abbrev pub ListingsAscend : Type 0
ListingsAscend = (image : List ℕ) (s : State) → Stands image s → AreInOrder s.rows
