-- The manifests that are told: in range, and no longer than they weigh.
use Rattle.std.proofs.Common.{ℕ, ◌+◌, ◌<◌, ◌≤◌, ◌^◌, Bool, true, false, cond, List, [], ◌∷◌, length, None, map, arith}
use Rattle.std.specs.Prelude.{IfSome}
use Rattle.std.specs.List.{AllByRecursion, filter}
use Rattle.std.proofs.lemmas.List.Sums.{sum_by-cons}
use Rattle.cbor_core.specs.Spelling.{HasRangesWithin}
use Rattle.cbor_core.proofs.Public.Ranges.{number_ranges, array_ranges, map_ranges}
use Rattle.cbor_fields.specs.Views.{IsIdentifier}
use Rattle.teep_messages.specs.declared.reported.Reported.{Reported}
use Rattle.teep_messages.specs.Written as out
use Rattle.device_state.specs.declared.heads.RowHead.{RowHead}
use Rattle.device_state.specs.declared.rows.ManifestRow.{ManifestRow}
use Rattle.device_state.specs.State.{row_weight, rows_weight}
use Rattle.device_state.specs.Heads.{heads, row_head}
use Rattle.agent_replies.specs.Saying.{reported, reported_for, where_any}
use Rattle.agent_replies.specs.Question.{asks_manifests}
use Rattle.agent_core.specs.TurnLaw.{IsTold}
use Rattle.agent_core.proofs.Fields.{IsField}
use Rattle.agent_core.proofs.Identifiers.{decoded_ranges, decoded_takes}
use Rattle.agent_core.proofs.Spellings.{Takes, TakeAll, no_items, no_pairs, item, pair, number, at_most, array}
use Rattle.agent_core.proofs.Spellings as spelled
use Rattle.agent_core.proofs.Told.{AreIdentified}
use Rattle.agent_core.proofs.Short.{wider}

-- they have identifiers, are in range, and take no more bytes than this number, which is no less than theirs
pub record AreTold (most : ℕ) (rows : List Reported) : Type 0 where
  pub ids : AreIdentified rows
  pub ranges : AllByRecursion (HasRangesWithin 13) (map out.reported rows)
  pub few : length (map out.reported rows) ≤ most
  pub take : TakeAll most (map out.reported rows)

row_ranges : (row : Reported) → IsIdentifier row.id → row.sequence < 2 ^ 64 → HasRangesWithin 13 (out.reported row)
row_ranges row is fits = map_ranges 12 _
    ((number_ranges 12 16 (omega arith), decoded_ranges row.id is), ((number_ranges 12 17 (omega arith), number_ranges 12 row.sequence fits), tt)) (omega arith)

row_takes : (row : Reported) → IsIdentifier row.id → Takes (256 + length row.id) (out.reported row)
row_takes row is = at_most (256 + length row.id) (omega arith) (spelled.map (pair 16 (decoded_takes row.id is) (pair 17 (number row.sequence) no_pairs)))

abbrev tell : List ManifestRow → List Reported
tell rows = map reported (filter (λ row. row.present) (heads rows))

more : (w v : ℕ) (rows : List Reported) → v ≤ w → AreTold v rows → AreTold w rows
more w v rows less told = record { ids = told.ids; ranges = told.ranges; few = omega (arith, less, told.few); take = record { short = wider w less told.take.short } }

with_first : (row : ManifestRow) (rest : List Reported) (n w : ℕ) → IsTold row → 256 + length row.id + n ≤ w → AreTold n rest → AreTold w (reported (row_head row) ∷ rest)
with_first row rest n w is less told = more w (256 + length row.id + n) (reported (row_head row) ∷ rest) less (record {
  ids = (is.id, told.ids);
  ranges = (row_ranges (reported (row_head row)) is.id is.sequence, told.ranges);
  few = omega (arith, told.few);
  take = item (row_takes (reported (row_head row)) is.id) told.take;
})

by_present : (b : Bool) (row : ManifestRow) (rest : List RowHead) (n w : ℕ) → IsTold row → 256 + length row.id + n ≤ w → AreTold n (map reported rest)
    → AreTold w (map reported (cond b (row_head row ∷ rest) rest))
by_present true row rest n w is less told = with_first row (map reported rest) n w is less told
by_present false row rest n w is less told = more w n (map reported rest) (omega (arith, less)) told

row_is_long : (row : ManifestRow) (rows : List ManifestRow) → 256 + length row.id + rows_weight rows ≤ rows_weight (row ∷ rows)
row_is_long row rows = omega (arith, sum_by-cons (λ (n : ℕ). n) (row_weight row) (map row_weight rows))

told : (rows : List ManifestRow) → AllByRecursion IsTold rows → AreTold (rows_weight rows) (tell rows)
told [] all = record { ids = tt; ranges = tt; few = omega arith; take = no_items }
told (row ∷ rows) all = by_present row.present row (filter (λ r. r.present) (heads rows)) (rows_weight rows) (rows_weight (row ∷ rows)) all.0 (row_is_long row rows) (told rows all.1)

where_some : (w : ℕ) (rows : List Reported) → AreTold w rows → IfSome (where_any rows) (AreTold w)
where_some w [] told = tt
where_some w (one ∷ others) told = told

asked_for : (b : Bool) (w : ℕ) (rows : List Reported) → AreTold w rows → IfSome (cond b (where_any rows) None) (AreTold w)
asked_for true w rows told = where_some w rows told
asked_for false w rows told = tt

-- what is reported
pub reported_told : (items : ℕ) (rows : List ManifestRow) → AllByRecursion IsTold rows → IfSome (reported_for items (heads rows)) (AreTold (rows_weight rows))
reported_told items rows all = asked_for (asks_manifests items) (rows_weight rows) (tell rows) (told rows all)

-- and the field that has it
pub list_field : (w : ℕ) (rows : List Reported) → w < 2 ^ 64 → AreTold w rows → IsField (9 + w) (out.array out.reported rows)
list_field w rows less told = record { ranges = array_ranges 13 (map out.reported rows) told.ranges (omega (arith, less, told.few)); takes = array told.take }
