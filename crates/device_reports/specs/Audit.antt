-- The audit of the images that a device keeps.
use Rattle.std.specs.Prelude.{ℕ, Bool, true, false, nat_eq, List, [], ◌∷◌, ◌++◌, length, map, count_by, codes, decimal, Option, Some, None, if◌then◌else◌}
use Rattle.std.specs.List.{flat_map}
use Rattle.std.specs.Cmp.Lexicographic.{pointwise}
use Rattle.hex.specs.Hex.{encode_lower}
use Rattle.suit_commands.specs.declared.digest.Digest.{Digest}
use Rattle.suit_commands.specs.Digests.{hash_of}
use Rattle.device_state.specs.declared.rows.ComponentRow.{ComponentRow}
use Rattle.device_state.specs.declared.rows.ManifestRow.{ManifestRow}
use Rattle.device_state.specs.declared.heads.PartHead.{PartHead}
use Rattle.device_state.specs.declared.heads.RowHead.{RowHead}
use Rattle.device_state.specs.Places.{put_by}
use Rattle.device_state.specs.State.{State}
use Rattle.component_store.specs.Keeping.{components}
use Rattle.device_reports.specs.declared.findings.Finding.{Finding}
use Rattle.device_reports.specs.declared.findings.Finding.TheVariants.{Good, Bad, Unknown}
use Rattle.device_reports.specs.declared.findings.Audited.{Audited}
use Rattle.device_reports.specs.Images.{stored}
use Rattle.device_reports.specs.Lines.{line}

-- what is found of an image, by the digest that is kept: whether it is the hash of the image, where one is kept
abbrev pub found : Option Digest → List ℕ → Finding
found None image = Unknown
found (Some digest) image = if pointwise nat_eq digest.bytes (hash_of digest.algorithm image) then Good else Bad

-- a component with what is found of it
abbrev pub audited : ComponentRow → Audited
audited c = record { id = c.id; finding = found c.digest c.bytes }

-- each of them put where its identifier belongs, one after the other
abbrev pub placed : List Audited → List Audited → List Audited
placed [] all = all
placed (a ∷ more) all = placed more (put_by (λ b. b.id) a all)

-- the components of all manifests with what is found of each, in ascending order of their identifiers
abbrev pub findings : State → List Audited
findings s = placed (map audited (components s.rows)) []

-- ---- the text

-- what is found, as a word
abbrev pub word : Finding → List ℕ
word Good = codes "ok"
word Bad = codes "bad"
word Unknown = codes "unknown"

-- the identifier of a component, and what is found of it
abbrev pub finding_line : Audited → List ℕ
finding_line a = line (encode_lower a.id) (word a.finding ∷ [])

-- how many were audited, and how many of them are bad
abbrev pub counts_line : ℕ → ℕ → List ℕ
counts_line count bad = line (codes "audited") (decimal count ∷ codes "bad" ∷ decimal bad ∷ [])

-- whether this was found
abbrev pub is_of : Finding → Finding → Bool
is_of Good Good = true
is_of Bad Bad = true
is_of Unknown Unknown = true
is_of _ _ = false

-- whether it is bad
abbrev pub is_bad : Audited → Bool
is_bad a = is_of Bad a.finding

-- the line of each, and the line of the counts
abbrev pub report_of : List Audited → List ℕ
report_of all = flat_map finding_line all ++ counts_line (length all) (count_by is_bad all)

-- the audit of a state
abbrev pub audit_of : State → List ℕ
audit_of s = report_of (findings s)

-- ---- the same from the rows without images, and the images by their identifiers

-- a component
abbrev pub part_audited : List ManifestRow → PartHead → Audited
part_audited rows part = record { id = part.id; finding = found part.digest (stored rows part.id) }

-- the components of a manifest
abbrev pub head_audited : List ManifestRow → RowHead → List Audited
head_audited rows head = map (part_audited rows) head.components

-- those of all
abbrev pub heads_audited : List ManifestRow → List RowHead → List Audited
heads_audited rows heads = flat_map (head_audited rows) heads
