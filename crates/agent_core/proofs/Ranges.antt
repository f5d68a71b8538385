-- Each state for which an image stands is in range.
use Rattle.std.proofs.Common.{◌≡◌, ◌<◌, ◌≤◌, ◌^◌, List, [], ◌∷◌, ℕ, Bool, Option, Some, None, refl, sym, subst, arith}
use Rattle.std.specs.Prelude.{Result, Ok}
use Rattle.std.specs.List.{AllByRecursion, AllZip}
use Rattle.std.specs.declared.cmp.Ordering.{Ordering}
use Rattle.std.specs.declared.cmp.Ordering.TheVariants.{Less, Equal, Greater}
use Rattle.std.specs.Ordering.{nat_cmp}
use Rattle.std.specs.Cmp.Lexicographic.{slice_cmp}
use Rattle.base_types.specs.declared.limits.TheConstants.{QUOTA_LIMIT}
use Rattle.cbor_core.specs.declared.item.Item.{Item}
use Rattle.cbor_core.specs.declared.item.Item.TheVariants as i
use Rattle.cbor_core.specs.Spelling.{HasRanges, Spells}
use Rattle.cbor_core.specs.Views.{array_of, bytes_of, truth_of, unsigned_of}
use Rattle.cbor_core.proofs.Public.Ranges.{bytes_in_range}
use Rattle.cbor_core.proofs.Public.Views.{bytes_is, unsigned_is}
use Rattle.cbor_fields.specs.declared.fault.FormFault.{FormFault}
use Rattle.cbor_fields.specs.declared.fault.FormFault.TheVariants.{Shape}
use Rattle.cbor_fields.specs.Views.{list_of}
use Rattle.cbor_fields.specs.Written.{IsSpelled}
use Rattle.cbor_fields.proofs.Public.Spelled.{members_spelled}
use Rattle.cbor_fields.proofs.Public.Values.{list_gives}
use Rattle.item_codec.specs.Answers.{and_then, or_fault, value_of}
use Rattle.evidence.specs.Ids.{IsField}
use Rattle.hss_sign.specs.Params.{IsProperParams}
use Rattle.trust_anchors.specs.declared.anchors.Anchors.{Anchors}
use Rattle.device_config.specs.declared.config.Config.{Config}
use Rattle.device_config.specs.Config.{ConfigIs, PartsAre}
use Rattle.device_state.specs.declared.change.Change.{Change}
use Rattle.device_state.specs.declared.rows.ComponentRow.{ComponentRow}
use Rattle.device_state.specs.declared.rows.ManifestRow.{ManifestRow}
use Rattle.device_state.specs.Places.{place}
use Rattle.device_state.specs.State.{State, changed, folded, new_state, ordered, put_row, put_rows, with_anchors}
use Rattle.device_state.specs.Valid.{IsRow}
use Rattle.commit_records.specs.Changes.{ChangeIs}
use Rattle.commit_records.specs.Changes as Commits
use Rattle.commit_records.specs.Rows.{component_of, plain_of, row_in, row_of}
use Rattle.device_image.specs.Stands.{Stands}
use Rattle.agent_core.specs.TurnLaw.{AreKnown, AreOctets, IsTold, RangesHold}

-- what bytes spell, its own spelling spells
itself : (x : Item) (bytes : List ℕ) → Spells x bytes → IsSpelled x
itself x bytes s = record { proper = s.proper; ranges = s.ranges; spelled = refl }

-- ---- the configuration

-- what is kept of a configuration, whatever its anchors are
record IsDevice (config : Config) : Type 0 where
  ids : AreKnown config.device
  params : IsProperParams config.params
  quota : config.quota ≤ QUOTA_LIMIT

octets : (x : Item) (bytes : List ℕ) → IsSpelled x → bytes_of x ≡ Some bytes → IsField bytes → AreOctets bytes
octets x bytes spelled is field = record { are = bytes_in_range bytes (subst HasRanges (bytes_is x bytes is) spelled.ranges); field = field }

by_parts : (xs : List Item) (v : Config) → AllByRecursion IsSpelled xs → PartsAre xs v → IsDevice v
by_parts (vendor ∷ class ∷ device ∷ quota ∷ levels ∷ height ∷ width ∷ seed ∷ anchors ∷ []) v all are = record {
  ids = record {
    vendor = octets vendor v.device.vendor all.0 are.ids.vendor_is are.ids.proper.vendor;
    class = octets class v.device.class all.1.0 are.ids.class_is are.ids.proper.class;
    device = octets device v.device.device all.1.1.0 are.ids.device_is are.ids.proper.device;
  };
  params = are.params.proper;
  quota = are.quota_is.most;
}
by_parts _ v all never = absurd never

config_device : (v : Config) (bytes : List ℕ) → ConfigIs v bytes → IsDevice v
config_device v bytes is = by_parts is.config.0 v (members_spelled is.item is.config.0 (itself is.item bytes is.spelled) is.config.1) is.config.2

with_others : (o : Option Anchors) (config : Config) → IsDevice config → IsDevice (with_anchors o config)
with_others None config is = is
with_others (Some anchors) config is = record { ids = is.ids; params = is.params; quota = is.quota }

-- ---- sequence numbers

abbrev HasSequence : ManifestRow → Type 0
HasSequence row = row.sequence < 2 ^ 64

number_in_range : (x : Item) (n : ℕ) → IsSpelled x → unsigned_of x ≡ Some n → n < 2 ^ 64
number_in_range x n spelled is = let range : HasRanges (i.Unsigned n) = subst HasRanges (unsigned_is x n is) spelled.ranges in rw i.outs-Unsigned at range

-- a row from what its four parts are
abbrev read_by : Option (List ℕ) → Option ℕ → Option Bool → Option (List ComponentRow) → Result ManifestRow FormFault
read_by a b c d =
    and_then (λ id. and_then (λ sequence. and_then (λ present. and_then (λ components. Ok (record { id = id; sequence = sequence; present = present; components = components }))
    (or_fault Shape d)) (or_fault Shape c)) (or_fault Shape b)) (or_fault Shape a)

by_views : (x : Item) → IsSpelled x → (a : Option (List ℕ)) (b : Option ℕ) (c : Option Bool) (d : Option (List ComponentRow)) → unsigned_of x ≡ b
    → (row : ManifestRow) → value_of (read_by a b c d) ≡ Some row → HasSequence row
by_views x spelled None b c d is row e = absurd cc
by_views x spelled (Some id) None c d is row e = absurd cc
by_views x spelled (Some id) (Some n) None d is row e = absurd cc
by_views x spelled (Some id) (Some n) (Some present) None is row e = absurd cc
by_views x spelled (Some id) (Some n) (Some present) (Some components) is row e =
    let made : ManifestRow = record { id = id; sequence = n; present = present; components = components } in
    let same : made ≡ row = cc in
    subst HasSequence same (number_in_range x n spelled is)

module _ (component : Item → Option ComponentRow) where
  by_members : (xs : List Item) (row : ManifestRow) → AllByRecursion IsSpelled xs → value_of (row_in component xs) ≡ Some row → HasSequence row
  by_members (id ∷ sequence ∷ present ∷ components ∷ []) row all e =
      by_views sequence all.1.0 (bytes_of id) (unsigned_of sequence) (truth_of present) (list_of component components) refl row e
  by_members _ row all e = absurd cc

  by_array : (x : Item) (o : Option (List Item)) (row : ManifestRow) → IsSpelled x → array_of x ≡ o
      → value_of (and_then (row_in component) (or_fault Shape o)) ≡ Some row → HasSequence row
  by_array x None row spelled is e = absurd cc
  by_array x (Some xs) row spelled is e = by_members xs row (members_spelled x xs spelled is) e

  row_gives : (x : Item) (row : ManifestRow) → IsSpelled x → row_of component x ≡ Some row → HasSequence row
  row_gives x row spelled e = by_array x (array_of x) row spelled refl e

by_change : (xs : List Item) (change : Change) → AllByRecursion IsSpelled xs → Commits.PartsAre xs change → AllByRecursion HasSequence change.rows
by_change (version ∷ leaf ∷ rows ∷ []) change all are = list_gives (row_of plain_of) HasSequence (row_gives plain_of) rows change.rows all.1.1.0 are.rows_are
by_change (version ∷ leaf ∷ rows ∷ anchors ∷ []) change all are = list_gives (row_of component_of) HasSequence (row_gives component_of) rows change.rows all.1.1.0 are.rows_are
by_change _ change all never = absurd never

change_rows : (change : Change) (body : List ℕ) → ChangeIs change body → AllByRecursion HasSequence change.rows
change_rows change body is = by_change is.change_is.0 change (members_spelled is.item is.change_is.0 (itself is.item body is.spelled) is.change_is.1) is.change_is.2

-- ---- rows that are put

placed : (o : Ordering) (row first : ManifestRow) (others behind : List ManifestRow) → HasSequence row → HasSequence first → AllByRecursion HasSequence others
    → AllByRecursion HasSequence behind
    → AllByRecursion HasSequence (place o row first others behind)
placed Less row first others behind this that some more = (this, (that, some))
placed Equal row first others behind this that some more = (this, some)
placed Greater row first others behind this that some more = (that, more)

put_kept : (row : ManifestRow) (rows : List ManifestRow) → HasSequence row → AllByRecursion HasSequence rows → AllByRecursion HasSequence (put_row row rows)
put_kept row [] is all = (is, tt)
put_kept row (first ∷ others) is all = placed (slice_cmp nat_cmp row.id first.id) row first others (put_row row others) is all.0 all.1 (put_kept row others is all.1)

rows_kept : (more rows : List ManifestRow) → AllByRecursion HasSequence more → AllByRecursion HasSequence rows → AllByRecursion HasSequence (put_rows more rows)
rows_kept [] rows new all = all
rows_kept (row ∷ more) rows new all = rows_kept more (put_row (ordered row) rows) new.1 (put_kept (ordered row) rows new.0 all)

-- ---- states

-- what each change keeps
record IsKept (s : State) : Type 0 where
  device : IsDevice s.config
  rows : AllByRecursion HasSequence s.rows

kept : (changes : List Change) (bodies : List (List ℕ)) (s : State) → AllZip ChangeIs changes bodies → IsKept s → IsKept (folded changes s)
kept [] [] s are is = is
kept [] (body ∷ bodies) s never is = absurd never
kept (change ∷ changes) [] s never is = absurd never
kept (change ∷ changes) (body ∷ bodies) s are is = kept changes bodies (changed change s) are.1 (record {
  device = with_others change.anchors s.config is.device;
  rows = rows_kept change.rows s.rows (change_rows change body are.0) is.rows;
})

stands_kept : (image : List ℕ) (s : State) → Stands image s → IsKept s
stands_kept image s stands = subst IsKept (sym stands.leads.state_is) (kept stands.leads.changes stands.bodies (new_state stands.config) stands.leads.are (record {
  device = config_device stands.config stands.head.config stands.head.is;
  rows = tt;
}))

told : (rows : List ManifestRow) → AllByRecursion IsRow rows → AllByRecursion HasSequence rows → AllByRecursion IsTold rows
told [] are all = tt
told (row ∷ rows) are all = (record { id = are.0.id.identifier; sequence = all.0 }, told rows are.1 all.1)

pub ranges_hold : RangesHold
ranges_hold image s session stands =
    let is = stands_kept image s stands in
    record {
      ids = is.device.ids;
      params = is.device.params;
      rows = told s.rows stands.valid.sound.rows is.rows;
      light = omega (arith, stands.valid.light, is.device.quota);
    }
