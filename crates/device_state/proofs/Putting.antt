-- What a search among elements that ascend finds, and what an edit at that place makes of them.
use Rattle.std.proofs.Common.{◌≡◌, ℕ, zero, suc, ◌+◌, ◌<◌, ◌≤◌, List, [], ◌∷◌, length, map, get_or, set, Result, Ok, Err, refl, sym, ap, subst, ◌∙◌, arith}
use Rattle.std.specs.List.{insert, AllByRecursion}
use Rattle.std.specs.List.Sorted.{IsSearchInRange, IsBinarySearchResult, IsNonDecreasingBy, IsStrictlySortedBy}
use Rattle.std.specs.declared.cmp.Ordering.{Ordering}
use Rattle.std.specs.declared.cmp.Ordering.TheVariants.{Less, Equal, Greater}
use Rattle.std.specs.Prelude.{false}
use Rattle.std.specs.Ordering.{nat_cmp, ordering_index, ordering_reverse, is_lt, is_eq}
use Rattle.std.specs.Cmp.{IsTotalOrder}
use Rattle.std.specs.Cmp.Lexicographic.{slice_cmp, nat_list_cmp_total, bytes_decides, texts_ties}
use Rattle.std.proofs.lemmas.Cmp.{tied_itself}
use Rattle.std.proofs.lemmas.List.Sorted.{searchable_from_sorted}
use Rattle.std.proofs.lemmas.Map.Keys.{Less-from_sorted}
use Rattle.std.proofs.lemmas.List.{get_or-map, length-map}
use Rattle.device_state.specs.Places.{place, put_by, Ascend, IsFoundAt, IsFreeAt, IsPlaceOf}

abbrev pub C : List ℕ → List ℕ → Ordering
C = slice_cmp nat_cmp

pub order : IsTotalOrder (slice_cmp nat_cmp)
order = nat_list_cmp_total

pub flip_less : (a b : List ℕ) → C a b ≡ Less → C b a ≡ Greater
flip_less a b is = order.antisymm b a ∙ ap ordering_reverse is

pub flip_greater : (a b : List ℕ) → C a b ≡ Greater → C b a ≡ Less
flip_greater a b is = order.antisymm b a ∙ ap ordering_reverse is

pub same_equal : (a b : List ℕ) → a ≡ b → C a b ≡ Equal
same_equal a b is = subst (λ (c : List ℕ). C a c ≡ Equal) is (tied_itself order a)

-- what is level with bytes is the same bytes
pub equal_same : (a b : List ℕ) → C a b ≡ Equal → a ≡ b
equal_same a b is = (bytes_decides a b).0 (texts_ties a b ∙ ap is_eq is)

module _ {R : Type 0} (id : R → List ℕ) where
  -- the first of elements that ascend is below each of the others
  below : (k : List ℕ) (rows : List R) (at : ℕ) (d : R) → AllByRecursion (λ y. C k y ≡ Less) (map id rows) → at < length rows → C k (id (get_or rows at d)) ≡ Less
  below k [] at d all within = absurd (omega arith)
  below k (r ∷ rows) zero d all within = all.0
  below k (r ∷ rows) (suc at) d all within = below k rows at d all.1 (omega arith)

  -- over the one with this identifier
  pub set_puts : (row : R) (rows : List R) (at : ℕ) → Ascend id rows → at < length rows → ((d : R) → id (get_or rows at d) ≡ id row) → set rows at row ≡ put_by id row rows
  unfolding IsStrictlySortedBy
  set_puts row [] at up within here = absurd (omega arith)
  set_puts row (r ∷ rows) zero up within here =
      sym (ap (λ (o : Ordering). place o row r rows (put_by id row rows)) (same_equal (id row) (id r) (sym (here r))))
  set_puts row (r ∷ rows) (suc at) up within here =
      let less : C (id r) (id row) ≡ Less = subst (λ (k : List ℕ). C (id r) k ≡ Less) (here r) (below (id r) rows at r up.0 (omega arith)) in
      ap (λ (others : List R). r ∷ others) (set_puts row rows at up.1 (omega arith) here)
      ∙ sym (ap (λ (o : Ordering). place o row r rows (put_by id row rows)) (flip_less (id r) (id row) less))

  -- in the gap where it belongs
  pub insert_puts : (row : R) (rows : List R) (at : ℕ) → IsFreeAt id rows (id row) at → insert rows at row ≡ put_by id row rows
  insert_puts row [] zero free = refl
  insert_puts row [] (suc at) free = absurd (let within : suc at ≤ 0 = free.within in omega arith)
  insert_puts row (r ∷ rows) zero free =
      sym (ap (λ (o : Ordering). place o row r rows (put_by id row rows)) (flip_greater (id r) (id row) (free.behind 0 r (omega arith) (omega arith))))
  insert_puts row (r ∷ rows) (suc at) free =
      let later : IsFreeAt id rows (id row) at = record {
        within = (let within : suc at ≤ suc (length rows) = free.within in omega arith);
        before = λ j d less. free.before (suc j) d (omega arith);
        behind = λ j d least less. free.behind (suc j) d (omega arith) (omega arith);
      } in
      ap (λ (others : List R). r ∷ others) (insert_puts row rows at later)
      ∙ sym (ap (λ (o : Ordering). place o row r rows (put_by id row rows)) (flip_less (id r) (id row) (free.before 0 r (omega arith))))

  -- ---- they ascend still

  put_all : (P : List ℕ → Type 0) (row : R) (rows : List R) → P (id row) → AllByRecursion P (map id rows) → AllByRecursion P (map id (put_by id row rows))
  put_all P row [] one all = (one, tt)
  put_all P row (r ∷ rows) one all = by_place (C (id row) (id r)) (put_all P row rows one all.1) where
    by_place : (o : Ordering) → AllByRecursion P (map id (put_by id row rows)) → AllByRecursion P (map id (place o row r rows (put_by id row rows)))
    by_place Less later = (one, all)
    by_place Equal later = (one, all.1)
    by_place Greater later = (all.0, later)

  above_all : (k m : List ℕ) (rows : List R) → C k m ≡ Less → AllByRecursion (λ y. C m y ≡ Less) (map id rows) → AllByRecursion (λ y. C k y ≡ Less) (map id rows)
  above_all k m [] less all = tt
  above_all k m (r ∷ rows) less all = (order.trans k m (id r) less all.0, above_all k m rows less all.1)

  level_all : (k m : List ℕ) (rows : List R) → C k m ≡ Equal → AllByRecursion (λ y. C m y ≡ Less) (map id rows) → AllByRecursion (λ y. C k y ≡ Less) (map id rows)
  level_all k m [] level all = tt
  level_all k m (r ∷ rows) level all = (order.congr k m (id r) level ∙ all.0, level_all k m rows level all.1)

  by_order : (row r : R) (rows : List R) (o : Ordering) → C (id row) (id r) ≡ o → Ascend id (r ∷ rows) → Ascend id (put_by id row rows) → Ascend id (place o row r rows (put_by id row rows))
  unfolding IsStrictlySortedBy
  by_order row r rows Less is up later = ((is, above_all (id row) (id r) rows is up.0), up)
  by_order row r rows Equal is up later = (level_all (id row) (id r) rows is up.0, up.1)
  by_order row r rows Greater is up later = (put_all (λ y. C (id r) y ≡ Less) row rows (flip_greater (id row) (id r) is) up.0, later)

  pub put_ascends : (row : R) (rows : List R) → Ascend id rows → Ascend id (put_by id row rows)
  unfolding IsStrictlySortedBy
  put_ascends row [] up = (tt, tt)
  put_ascends row (r ∷ rows) up = by_order row r rows (C (id row) (id r)) refl up (put_ascends row rows up.1)

  -- ---- a search by halves

  neighbours : (rows : List R) (k : ℕ) (d : R) → Ascend id rows → k + 1 < length rows → is_lt (C (id (get_or rows (k + 1) d)) (id (get_or rows k d))) ≡ false
  neighbours rows k d up within =
      let size : length (map id rows) ≡ length rows = length-map rows id in
      let less : C (get_or (map id rows) k (id d)) (get_or (map id rows) (k + 1) (id d)) ≡ Less = Less-from_sorted C (map id rows) k (k + 1) (id d) up (omega arith) (omega arith) in
      let here : C (id (get_or rows k d)) (id (get_or rows (k + 1) d)) ≡ Less = rw (get_or-map id rows k d (id d) (omega arith), get_or-map id rows (k + 1) d (id d) within) at less in
      ap is_lt (flip_less (id (get_or rows k d)) (id (get_or rows (k + 1) d)) here)

  rises : (rows : List R) (key : List ℕ) → Ascend id rows → IsNonDecreasingBy (λ y. ordering_index (C (id y) key)) rows
  rises rows key up = searchable_from_sorted order id rows key (λ k d _ within. neighbours rows k d up within)

  pub place_is : (rows : List R) (key : List ℕ) (r : Result ℕ ℕ) → IsSearchInRange r (length rows) → IsBinarySearchResult (λ y. C (id y) key) rows r → Ascend id rows → IsPlaceOf id rows key r
  place_is rows key (Ok at) within equal up = record { within = within; here = λ d. equal_same (id (get_or rows at d)) key (equal d) }
  place_is rows key (Err at) within parted up = record {
    within = within;
    before = λ j d less. (parted (rises rows key up)).0 j d (omega arith) less;
    behind = λ j d least less. (parted (rises rows key up)).1 j d least less;
  }
