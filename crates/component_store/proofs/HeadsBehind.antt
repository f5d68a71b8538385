-- The heads behind a change are those of the rows behind it.
use Rattle.std.proofs.Common.{◌≡◌, ℕ, List, [], ◌∷◌, map, Option, Some, None, refl, sym, ap, subst}
use Rattle.std.specs.declared.cmp.Ordering.{Ordering}
use Rattle.std.specs.declared.cmp.Ordering.TheVariants.{Less, Equal, Greater}
use Rattle.std.specs.Ordering.{nat_cmp}
use Rattle.std.specs.List.Sorted.{IsStrictlySortedBy}
use Rattle.std.specs.Cmp.Lexicographic.{slice_cmp}
use Rattle.device_state.specs.Places.{place, put_by, Ascend}
use Rattle.device_state.specs.declared.rows.ManifestRow.{ManifestRow}
use Rattle.device_state.specs.declared.heads.RowHead.{RowHead}
use Rattle.device_state.specs.Heads.{heads, row_head}
use Rattle.device_state.specs.State.{put_row, put_rows}
use Rattle.component_store.specs.Preparing.{HeadsFor, renewed}

-- a row put among rows, and its head among theirs
by_place : (row r : ManifestRow) (rows : List ManifestRow) (o : Ordering) → map row_head (put_by (λ r. r.id) row rows) ≡ put_by (λ (h : RowHead). h.id) (row_head row) (map row_head rows)
    → map row_head (place o row r rows (put_by (λ r. r.id) row rows)) ≡ place o (row_head row) (row_head r) (map row_head rows) (put_by (λ (h : RowHead). h.id) (row_head row) (map row_head rows))
by_place row r rows Less later = refl
by_place row r rows Equal later = refl
by_place row r rows Greater later = ap (λ (hs : List RowHead). row_head r ∷ hs) later

put_maps : (row : ManifestRow) (rows : List ManifestRow) → map row_head (put_by (λ r. r.id) row rows) ≡ put_by (λ (h : RowHead). h.id) (row_head row) (map row_head rows)
put_maps row [] = refl
put_maps row (r ∷ rows) = by_place row r rows (slice_cmp nat_cmp row.id r.id) (put_maps row rows)

pub heads_put : (row : ManifestRow) (rows : List ManifestRow) → heads (put_row row rows) ≡ put_by (λ (h : RowHead). h.id) (row_head row) (heads rows)
heads_put row rows = put_maps row rows

ids_same : (rows : List ManifestRow) → map (λ (h : RowHead). h.id) (heads rows) ≡ map (λ (r : ManifestRow). r.id) rows
ids_same [] = refl
ids_same (r ∷ rows) = ap (λ (ids : List (List ℕ)). r.id ∷ ids) (ids_same rows)

-- heads ascend where their rows do
pub heads_ascend : (rows : List ManifestRow) → Ascend (λ (r : ManifestRow). r.id) rows → Ascend (λ (h : RowHead). h.id) (heads rows)
heads_ascend rows up = subst (λ (ids : List (List ℕ)). IsStrictlySortedBy (slice_cmp nat_cmp) ids) (sym (ids_same rows)) up

-- the heads that a commit leaves
pub renewed_heads : (rows more : List ManifestRow) (o : Option (List RowHead)) → HeadsFor rows more o → renewed (heads rows) o ≡ heads (put_rows more rows)
renewed_heads rows more None none = sym (ap (λ (ms : List ManifestRow). heads (put_rows ms rows)) none)
renewed_heads rows more (Some behind) is = is
