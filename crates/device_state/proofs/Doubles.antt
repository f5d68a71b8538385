-- Where a sorted list has an element twice, two neighbours are the same.
use Rattle.std.proofs.Common.{inl, inr, ◌≡◌, ℕ, zero, suc, ◌+◌, ◌-◌, ◌<◌, ◌≤◌, Bool, true, false, List, [], ◌∷◌, length, map, get_or, refl, sym, ap, subst, ◌∙◌, arith}
use Rattle.std.specs.Prelude.{nat_eq, ◌≢◌, IsTrue}
use Rattle.std.specs.List.Sorted.{IsSortedBy, IsPermutation, IsStrictlySortedBy}
use Rattle.std.specs.declared.cmp.Ordering.{Ordering}
use Rattle.std.specs.declared.cmp.Ordering.TheVariants.{Less, Equal, Greater}
use Rattle.std.specs.Ordering.{nat_cmp, is_lt, is_eq, ordering_reverse}
use Rattle.std.specs.Cmp.{IsTotalOrder}
use Rattle.std.specs.Cmp.Lexicographic.{slice_cmp, pointwise, nat_list_cmp_total, nat_list_eq_equiv, bytes_decides}
use Rattle.std.specs.List.{IsDistinct}
use Rattle.std.proofs.lemmas.Cmp.{tied_itself}
use Rattle.std.proofs.lemmas.List.{get_or-map, length-map}
use Rattle.std.proofs.lemmas.Bool.{cases_lt}
use Rattle.std.proofs.lemmas.List.Sorted.{IsPermutation-map, IsPermutation-sym}
use Rattle.std.proofs.lemmas.Map.Keys.{Less-from_sorted, sorted_from_all_adjacent, IsDistinct-IsPermutation, IsDistinct-from_apart, apart_from_distinct}
use Rattle.device_state.specs.Sorting.{NeighboursDiffer}
use Rattle.device_state.specs.Valid.{NoneTwice}
use Rattle.device_state.proofs.Putting.{C, order, equal_same, flip_greater, same_equal}

-- ---- an order of elements does not matter

other_bytes : (a b : List ℕ) → a ≢ b → pointwise nat_eq a b ≡ false
other_bytes a b other = by_test (pointwise nat_eq a b) refl where
  by_test : (t : Bool) → pointwise nat_eq a b ≡ t → t ≡ false
  by_test true is = absurd (other ((bytes_decides a b).0 is))
  by_test false is = refl

not_same : (a b : List ℕ) → pointwise nat_eq a b ≡ false → a ≢ b
not_same a b is same = let true_is : pointwise nat_eq a b ≡ true = (bytes_decides a b).1 same in absurd cc

flips : (a b : List ℕ) → pointwise nat_eq a b ≡ pointwise nat_eq b a
flips a b = nat_list_eq_equiv.symm a b

permuted : (xs ys : List (List ℕ)) → IsPermutation xs ys → NoneTwice xs → NoneTwice ys
permuted xs ys moved none =
    let apart : IsDistinct (pointwise nat_eq) xs = IsDistinct-from_apart (pointwise nat_eq) xs (λ i j d less within. other_bytes (get_or xs i d) (get_or xs j d) (none i j d less within)) in
    let still : IsDistinct (pointwise nat_eq) ys = IsDistinct-IsPermutation (pointwise nat_eq) flips xs ys moved apart in
    λ i j d less within. not_same (get_or ys i d) (get_or ys j d) (apart_from_distinct (pointwise nat_eq) ys i j d still less within)

-- ---- neighbours

less_is : (a b : List ℕ) → is_lt (C b a) ≡ false → a ≢ b → C a b ≡ Less
less_is a b least other = by_order (C a b) refl where
  by_order : (o : Ordering) → C a b ≡ o → o ≡ Less
  by_order Less is = refl
  by_order Equal is = absurd (other (equal_same a b is))
  by_order Greater is = (let less : C b a ≡ Less = flip_greater a b is in let lt : is_lt (C b a) ≡ true = ap is_lt less in absurd cc)

module _ {X : Type 0} (f : X → List ℕ) where
  in_order : (xs : List X) → IsSortedBy (λ x y. is_lt (C (f x) (f y))) xs → (k : ℕ) (e : List ℕ) → k + 1 < length xs → is_lt (C (get_or (map f xs) (k + 1) e) (get_or (map f xs) k e)) ≡ false
  in_order [] sorted k e within = absurd (omega arith)
  in_order (x ∷ xs) sorted k e within = rw (get_or-map f (x ∷ xs) k x e (omega arith), get_or-map f (x ∷ xs) (k + 1) x e within) (sorted k x (omega arith) within)

  strict : (xs : List X) → IsSortedBy (λ x y. is_lt (C (f x) (f y))) xs → NeighboursDiffer (map f xs) → IsStrictlySortedBy C (map f xs)
  strict xs sorted differ = sorted_from_all_adjacent order (map f xs) [] (λ k within.
      let size : length (map f xs) ≡ length xs = length-map xs f in
      less_is (get_or (map f xs) k []) (get_or (map f xs) (k + 1) []) (in_order xs sorted k [] (omega arith)) (differ k [] within))

  apart : (ks : List (List ℕ)) → IsStrictlySortedBy C ks → NoneTwice ks
  apart ks up i j d less within same =
      let below : C (get_or ks i d) (get_or ks j d) ≡ Less = Less-from_sorted C ks i j d up less within in
      let level : C (get_or ks i d) (get_or ks j d) ≡ Equal = same_equal (get_or ks i d) (get_or ks j d) same in
      absurd cc

  -- of a sorted list neighbours differ exactly where none of its elements stands twice before it was sorted
  pub sorted_differ : (xs ys : List X) → IsPermutation xs ys → IsSortedBy (λ x y. is_lt (C (f x) (f y))) ys
      → (NeighboursDiffer (map f ys) → NoneTwice (map f xs)) × (NoneTwice (map f xs) → NeighboursDiffer (map f ys))
  sorted_differ xs ys moved sorted =
      let mapped : IsPermutation (map f xs) (map f ys) = IsPermutation-map f xs ys moved in (
        λ differ. permuted (map f ys) (map f xs) (IsPermutation-sym (map f xs) (map f ys) mapped) (apart (map f ys) (strict ys sorted differ)),
        λ none k d within. permuted (map f xs) (map f ys) mapped none k (k + 1) d (omega arith) within,
      )

  -- two neighbours that are the same
  pub same_neighbours : (xs : List X) (at : ℕ) (x y : X) → 1 ≤ at → at < length xs → pointwise nat_eq (f (get_or xs (at - 1) x)) (f (get_or xs at y)) ≡ true → NeighboursDiffer (map f xs) → ⊥
  same_neighbours xs at x y least within is differ =
      let size : length (map f xs) ≡ length xs = length-map xs f in
      let at_is : at - 1 + 1 ≡ at = omega arith in
      let same : f (get_or xs (at - 1) x) ≡ f (get_or xs at y) = (bytes_decides (f (get_or xs (at - 1) x)) (f (get_or xs at y))).0 is in
      let first : get_or (map f xs) (at - 1) [] ≡ f (get_or xs (at - 1) x) = get_or-map f xs (at - 1) x [] (omega arith) in
      let second : get_or (map f xs) (at - 1 + 1) [] ≡ f (get_or xs at y) = ap (λ (n : ℕ). get_or (map f xs) n []) at_is ∙ get_or-map f xs at y [] within in
      differ (at - 1) [] (omega arith) (first ∙ same ∙ sym second)

  -- one pair of neighbours more that differ
  pub more_differ : (xs : List X) (at : ℕ) (x y : X) → 1 ≤ at → at < length xs → pointwise nat_eq (f (get_or xs (at - 1) x)) (f (get_or xs at y)) ≡ false
      → ((k : ℕ) (d : List ℕ) → k + 1 < at → get_or (map f xs) k d ≡ get_or (map f xs) (k + 1) d → ⊥)
      → (k : ℕ) (d : List ℕ) → k + 1 < at + 1 → get_or (map f xs) k d ≡ get_or (map f xs) (k + 1) d → ⊥
  more_differ xs at x y least within is before k d less same = elim (cases_lt (k + 1) at) [
    | inl earlier ↦ before k d earlier same
    | inr here ↦ (
        let at_is : k + 1 ≡ at = omega arith in
        let k_is : k ≡ at - 1 = omega arith in
        let first : get_or (map f xs) k d ≡ f (get_or xs (at - 1) x) = ap (λ (n : ℕ). get_or (map f xs) n d) k_is ∙ get_or-map f xs (at - 1) x d (omega arith) in
        let second : get_or (map f xs) (k + 1) d ≡ f (get_or xs at y) = ap (λ (n : ℕ). get_or (map f xs) n d) at_is ∙ get_or-map f xs at y d within in
        not_same (f (get_or xs (at - 1) x)) (f (get_or xs at y)) is (sym first ∙ same ∙ second)
        )
  ]
