-- Changes leave rows in order, and rows in order are put again as they are.
use Rattle.std.proofs.Common.{◌≡◌, ℕ, Bool, true, false, cond, List, [], ◌∷◌, ◌++◌, map, append_assoc, append-nil, refl, sym, ap, subst, ◌∙◌}
use Rattle.std.specs.Prelude.{sum, length, ◌+◌}
use Rattle.std.specs.List.{AllByRecursion}
use Rattle.std.specs.List.Sorted.{IsStrictlySortedBy}
use Rattle.std.specs.declared.cmp.Ordering.{Ordering}
use Rattle.std.specs.declared.cmp.Ordering.TheVariants.{Less, Equal, Greater}
use Rattle.std.specs.Ordering.{nat_cmp, is_lt, ordering_reverse}
use Rattle.std.specs.Cmp.Lexicographic.{slice_cmp}
use Rattle.cbor_core.specs.Spelling.{bytes_below}
use Rattle.device_state.specs.declared.rows.ComponentRow.{ComponentRow}
use Rattle.device_state.specs.declared.rows.ManifestRow.{ManifestRow}
use Rattle.device_state.specs.declared.change.Change.{Change}
use Rattle.device_state.specs.Places.{place, put_by, Ascend}
use Rattle.device_state.specs.State.{State, put_component, in_order, ordered, put_row, put_rows, component_weight, row_weight, rows_weight, changed}
use Rattle.device_state.specs.Heads.{part_head, row_head, part_weight, head_weight, heads, heads_weight}
use Rattle.device_state.specs.Law.{IsOrdered, AreInOrder, ChangesKeepOrder, HeadsWeighTheSame}
use Rattle.device_state.proofs.Putting.{C, order, flip_less, flip_greater, put_ascends}

-- ---- components

-- none behind another is below it
Rising : List ComponentRow → Type 0
Rising [] = Unit {0}
Rising (c ∷ cs) = AllByRecursion (λ d. bytes_below d.id c.id ≡ false) cs × Rising cs

all_put : (P : ComponentRow → Type 0) (c : ComponentRow) (cs : List ComponentRow) → P c → AllByRecursion P cs → AllByRecursion P (put_component c cs)
all_put P c [] one all = (one, tt)
all_put P c (d ∷ ds) one all = by_test (bytes_below d.id c.id) (all_put P c ds one all.1) where
  by_test : (t : Bool) → AllByRecursion P (put_component c ds) → AllByRecursion P (cond t (d ∷ put_component c ds) (c ∷ d ∷ ds))
  by_test true later = (all.0, later)
  by_test false later = (one, all)

-- what is below another is not above it
not_above : (a b : List ℕ) → bytes_below a b ≡ true → bytes_below b a ≡ false
not_above a b is = by_order (C a b) refl where
  by_order : (o : Ordering) → C a b ≡ o → bytes_below b a ≡ false
  by_order Less at = ap is_lt (flip_less a b at)
  by_order Equal at = (let wrong : bytes_below a b ≡ false = ap is_lt at in absurd cc)
  by_order Greater at = (let wrong : bytes_below a b ≡ false = ap is_lt at in absurd cc)

less_of : (a b : List ℕ) → bytes_below a b ≡ true → C a b ≡ Less
less_of a b is = by_order (C a b) refl where
  by_order : (o : Ordering) → C a b ≡ o → o ≡ Less
  by_order Less at = refl
  by_order Equal at = (let wrong : bytes_below a b ≡ false = ap is_lt at in absurd cc)
  by_order Greater at = (let wrong : bytes_below a b ≡ false = ap is_lt at in absurd cc)

-- what is not below one that is not below a third is not below the third
not_below : (e d c : List ℕ) → bytes_below e d ≡ false → bytes_below d c ≡ false → bytes_below e c ≡ false
not_below e d c first second = by_test (bytes_below e c) refl where
  over : C e c ≡ Less → (o : Ordering) → C d c ≡ o → ⊥
  over less Less at = (let wrong : bytes_below d c ≡ true = ap is_lt at in absurd cc)
  over less Equal at = (
      let level : C c d ≡ Equal = order.antisymm c d ∙ ap ordering_reverse at in
      let back : C d e ≡ C c e = order.congr d c e at in
      let above : C c e ≡ Greater = flip_less e c less in
      let under : C e d ≡ Less = flip_greater d e (back ∙ above) in
      let wrong : bytes_below e d ≡ true = ap is_lt under in
      absurd cc
      )
  over less Greater at = (
      let under : C e d ≡ Less = order.trans e c d less (flip_greater d c at) in
      let wrong : bytes_below e d ≡ true = ap is_lt under in
      absurd cc
      )

  by_test : (t : Bool) → bytes_below e c ≡ t → t ≡ false
  by_test false is = refl
  by_test true is = absurd (over (less_of e c is) (C d c) refl)

not_below_all : (d c : List ℕ) (cs : List ComponentRow) → bytes_below d c ≡ false → AllByRecursion (λ e. bytes_below e.id d ≡ false) cs → AllByRecursion (λ e. bytes_below e.id c ≡ false) cs
not_below_all d c [] least all = tt
not_below_all d c (e ∷ es) least all = (not_below e.id d c all.0 least, not_below_all d c es least all.1)

put_rising : (c : ComponentRow) (cs : List ComponentRow) → Rising cs → Rising (put_component c cs)
unfolding Rising
put_rising c [] up = (tt, tt)
put_rising c (d ∷ ds) up = by_test (bytes_below d.id c.id) refl (put_rising c ds up.1) where
  by_test : (t : Bool) → bytes_below d.id c.id ≡ t → Rising (put_component c ds) → Rising (cond t (d ∷ put_component c ds) (c ∷ d ∷ ds))
  by_test true is later = (all_put (λ e. bytes_below e.id d.id ≡ false) c ds (not_above d.id c.id is) up.0, later)
  by_test false is later = ((is, not_below_all d.id c.id ds is up.0), up)

order_rising : (cs : List ComponentRow) → Rising (in_order cs)
unfolding Rising
order_rising [] = tt
order_rising (c ∷ cs) = put_rising c (in_order cs) (order_rising cs)

put_same : (c : ComponentRow) (cs : List ComponentRow) → AllByRecursion (λ d. bytes_below d.id c.id ≡ false) cs → put_component c cs ≡ c ∷ cs
put_same c [] least = refl
put_same c (d ∷ ds) least = ap (λ (t : Bool). cond t (d ∷ put_component c ds) (c ∷ d ∷ ds)) least.0

rising_same : (cs : List ComponentRow) → Rising cs → in_order cs ≡ cs
unfolding Rising
rising_same [] up = refl
rising_same (c ∷ cs) up = ap (put_component c) (rising_same cs up.1) ∙ put_same c cs up.0

-- a row is in order once it was put so
ordered_once : (row : ManifestRow) → IsOrdered (ordered row)
ordered_once row = ap (λ (cs : List ComponentRow). record row { components = cs }) (rising_same (in_order row.components) (order_rising row.components))

-- ---- rows

kept_put : {R : Type 0} (id : R → List ℕ) (P : R → Type 0) (row : R) (rows : List R) → P row → AllByRecursion P rows → AllByRecursion P (put_by id row rows)
kept_put id P row [] one all = (one, tt)
kept_put {R} id P row (r ∷ rows) one all = by_place (C (id row) (id r)) (kept_put id P row rows one all.1) where
  by_place : (o : Ordering) → AllByRecursion P (put_by id row rows) → AllByRecursion P (place o row r rows (put_by id row rows))
  by_place Less later = (one, all)
  by_place Equal later = (one, all.1)
  by_place Greater later = (all.0, later)

pub put_keeps : (more rows : List ManifestRow) → AreInOrder rows → AreInOrder (put_rows more rows)
put_keeps [] rows are = are
put_keeps (row ∷ more) rows are = put_keeps more (put_row (ordered row) rows) (record {
  ascend = put_ascends (λ (r : ManifestRow). r.id) (ordered row) rows are.ascend;
  ordered = kept_put (λ (r : ManifestRow). r.id) IsOrdered (ordered row) rows (ordered_once row) are.ordered;
})

all_at : (P : List ℕ → Type 0) (front : List ManifestRow) (row : ManifestRow) (more : List ManifestRow) → AllByRecursion P (map (λ (r : ManifestRow). r.id) (front ++ row ∷ more)) → P row.id
all_at P [] row more all = all.0
all_at P (r ∷ front) row more all = all_at P front row more all.1

-- one that is above all others is put behind them
put_end : (front : List ManifestRow) (row : ManifestRow) (more : List ManifestRow) → Ascend (λ r. r.id) (front ++ row ∷ more) → put_row row front ≡ front ++ row ∷ []
unfolding IsStrictlySortedBy
put_end [] row more up = refl
put_end (r ∷ front) row more up =
    let less : C r.id row.id ≡ Less = all_at (λ y. C r.id y ≡ Less) front row more up.0 in
    ap (λ (o : Ordering). place o row r front (put_row row front)) (flip_less r.id row.id less) ∙ ap (λ (rows : List ManifestRow). r ∷ rows) (put_end front row more up.1)

put_behind : (more front : List ManifestRow) → AllByRecursion IsOrdered more → Ascend (λ r. r.id) (front ++ more) → put_rows more front ≡ front ++ more
put_behind [] front all up = sym (append-nil front)
put_behind (row ∷ more) front all up =
    let same : put_row (ordered row) front ≡ front ++ row ∷ [] = ap (λ (r : ManifestRow). put_row r front) all.0 ∙ put_end front row more up in
    let parted : (front ++ row ∷ []) ++ more ≡ front ++ (row ∷ more) = append_assoc front (row ∷ []) more in
    ap (put_rows more) same
    ∙ put_behind more (front ++ row ∷ []) all.1 (subst (λ (rows : List ManifestRow). Ascend (λ r. r.id) rows) (sym parted) up)
    ∙ parted

pub changes_keep_order : ChangesKeepOrder
changes_keep_order = record {
  kept = λ change s are. put_keeps change.rows s.rows are;
  again = λ rows are. put_behind rows [] are.ordered are.ascend;
}

-- ---- weights

same_parts : (cs : List ComponentRow) → map part_weight (map part_head cs) ≡ map component_weight cs
same_parts [] = refl
same_parts (c ∷ cs) = ap (λ (ws : List ℕ). component_weight c ∷ ws) (same_parts cs)

same_row : (row : ManifestRow) → head_weight (row_head row) ≡ row_weight row
same_row row = ap (λ (ws : List ℕ). 256 + length row.id + sum ws) (same_parts row.components)

same_rows : (rows : List ManifestRow) → map head_weight (map row_head rows) ≡ map row_weight rows
same_rows [] = refl
same_rows (row ∷ rows) = ap (λ (w : ℕ). w ∷ map head_weight (map row_head rows)) (same_row row) ∙ ap (λ (ws : List ℕ). row_weight row ∷ ws) (same_rows rows)

pub heads_weigh_the_same : HeadsWeighTheSame
heads_weigh_the_same rows = ap sum (same_rows rows)
