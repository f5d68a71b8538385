-- What is made of the rows without images, and of the images by their identifiers, is what the definitions say of the state.
use Rattle.std.proofs.Common.{◌≡◌, ℕ, List, [], ◌∷◌, ◌++◌, length, map, refl, sym, ap, ◌∙◌}
use Rattle.std.specs.List.{AllByRecursion, flat_map}
use Rattle.std.proofs.lemmas.List.{map-append}
use Rattle.device_state.specs.declared.rows.ComponentRow.{ComponentRow}
use Rattle.device_state.specs.declared.rows.ManifestRow.{ManifestRow}
use Rattle.device_state.specs.Heads.{part_head, heads}
use Rattle.device_state.specs.State.{State}
use Rattle.device_state.specs.Valid.{IsValid}
use Rattle.component_store.specs.Keeping.{components}
use Rattle.device_reports.specs.declared.findings.Audited.{Audited}
use Rattle.device_reports.specs.Listing.{manifest_line, part_line, component_line, manifest_lines, part_of, heads_of, listing_of}
use Rattle.device_reports.specs.Audit.{found, audited, part_audited, heads_audited, placed, findings}
use Rattle.device_reports.proofs.Owners.{IsStored, each_stored}

-- ---- the listing

same_parts : (all : List ManifestRow) (cs : List ComponentRow) → AllByRecursion (IsStored all) cs → flat_map (part_of all) (map part_head cs) ≡ flat_map component_line cs
same_parts all [] are = refl
same_parts all (c ∷ cs) are =
    ap (λ (image : List ℕ). part_line c.id (length c.bytes) image ++ flat_map (part_of all) (map part_head cs)) are.0
    ∙ ap (λ (text : List ℕ). component_line c ++ text) (same_parts all cs are.1)

same_rows : (all rows : List ManifestRow) → AllByRecursion (λ row. AllByRecursion (IsStored all) row.components) rows → heads_of all (heads rows) ≡ flat_map manifest_lines rows
same_rows all [] are = refl
same_rows all (row ∷ rows) are =
    ap (λ (text : List ℕ). (manifest_line row.id row.sequence row.present ++ text) ++ heads_of all (heads rows)) (same_parts all row.components are.0)
    ∙ ap (λ (text : List ℕ). manifest_lines row ++ text) (same_rows all rows are.1)

pub same_listing : (s : State) → IsValid s → heads_of s.rows (heads s.rows) ≡ listing_of s
same_listing s valid = same_rows s.rows s.rows (each_stored s.rows valid.sound.one_owner)

-- ---- the audit

same_audited : (all : List ManifestRow) (cs : List ComponentRow) → AllByRecursion (IsStored all) cs → map (part_audited all) (map part_head cs) ≡ map audited cs
same_audited all [] are = refl
same_audited all (c ∷ cs) are =
    ap (λ (image : List ℕ). (record { id = c.id; finding = found c.digest image }) ∷ map (part_audited all) (map part_head cs)) are.0
    ∙ ap (λ (others : List Audited). audited c ∷ others) (same_audited all cs are.1)

same_heads : (all rows : List ManifestRow) → AllByRecursion (λ row. AllByRecursion (IsStored all) row.components) rows → heads_audited all (heads rows) ≡ map audited (components rows)
same_heads all [] are = refl
same_heads all (row ∷ rows) are =
    ap (λ (front : List Audited). front ++ heads_audited all (heads rows)) (same_audited all row.components are.0)
    ∙ ap (λ (others : List Audited). map audited row.components ++ others) (same_heads all rows are.1)
    ∙ sym (map-append audited row.components (components rows))

pub same_findings : (s : State) → IsValid s → placed (heads_audited s.rows (heads s.rows)) [] ≡ findings s
same_findings s valid = ap (λ (all : List Audited). placed all []) (same_heads s.rows s.rows (each_stored s.rows valid.sound.one_owner))
