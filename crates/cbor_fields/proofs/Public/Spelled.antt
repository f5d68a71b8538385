-- The parts of an item that bytes spell are spelled by bytes, and a view of it tells which item it is.
use Rattle.std.proofs.Common.{◌≡◌, ℕ, zero, suc, Bool, true, false, List, [], ◌∷◌, Some, refl, subst}
use Rattle.std.specs.List.{AllByRecursion}
use Rattle.cbor_core.specs.declared.item.Item.{Item, out-Item}
use Rattle.cbor_core.specs.declared.item.Pair.{Pair}
use Rattle.cbor_core.specs.declared.item.Item.TheOpen.{Item-F}
use Rattle.cbor_core.specs.Spelling.{KeysAscend, IsProperBy, IsProperWithin, IsInRangeBy, HasRangesWithin}
use Rattle.cbor_core.specs.Views.{array_by, array_of, map_by, map_of, field, labelled_by}
use Rattle.cbor_core.proofs.Public.Parts.{proper_more}
use Rattle.cbor_fields.specs.Written.{IsSpelled}

-- ---- one more container may stand round an item

module _ (P R S : Item → Type 0) (widen : (x : Item) → P x → R x → S x) where
  members_widen : (xs : List Item) → AllByRecursion P xs → AllByRecursion R xs → AllByRecursion S xs
  members_widen [] p r = tt
  members_widen (x ∷ xs) p r = (widen x p.0 r.0, members_widen xs p.1 r.1)

  pairs_widen : (ps : List Pair) → AllByRecursion (λ p. P p.key × P p.value) ps → AllByRecursion (λ p. R p.key × R p.value) ps → AllByRecursion (λ p. S p.key × S p.value) ps
  pairs_widen [] p r = tt
  pairs_widen (q ∷ qs) p r = ((widen q.key p.0.0 r.0.0, widen q.value p.0.1 r.0.1), pairs_widen qs p.1 r.1)

  level_widen : (room : Bool) (l : Item-F Item Pair) → IsProperBy room P l → IsInRangeBy R l → IsInRangeBy S l
  level_widen room (Item-F.Unsigned n) p r = r
  level_widen room (Item-F.Negative n) p r = r
  level_widen room (Item-F.Bytes bytes) p r = r
  level_widen room (Item-F.Text text) p r = r
  level_widen room (Item-F.Array xs) p r = (members_widen xs p.1 r.0, r.1)
  level_widen room (Item-F.Map ps) p r = (pairs_widen ps p.1 r.0, r.1)
  level_widen room (Item-F.Tag n x) p r = (widen x p.1 r.0, r.1)
  level_widen room (Item-F.Truth b) p r = tt
  level_widen room Item-F.Null p r = tt

ranges_more : (d : ℕ) (x : Item) → IsProperWithin d x → HasRangesWithin d x → HasRangesWithin (suc d) x
ranges_more zero x p r = level_widen (λ _. ⊥) (λ _. Unit {0}) (HasRangesWithin 0) (λ y none any. absurd none) false (out-Item x) p r
ranges_more (suc d) x p r = level_widen (IsProperWithin d) (HasRangesWithin d) (HasRangesWithin (suc d)) (ranges_more d) true (out-Item x) p r

widened : (x : Item) → IsProperWithin 15 x → HasRangesWithin 15 x → IsSpelled x
widened x p r = record { proper = proper_more 15 x p; ranges = ranges_more 15 x p r; spelled = refl }

-- ---- the parts

members_by : (l : Item-F Item Pair) (xs : List Item) → IsProperBy true (IsProperWithin 15) l → IsInRangeBy (HasRangesWithin 15) l → array_by l ≡ Some xs → AllByRecursion IsSpelled xs
members_by (Item-F.Array ys) xs p r e =
    let same : ys ≡ xs = cc in
    subst (λ (zs : List Item). AllByRecursion IsSpelled zs) same (members_widen (IsProperWithin 15) (HasRangesWithin 15) IsSpelled widened ys p.1 r.0)
members_by _ xs p r e = absurd cc

-- the members of an array
pub members_spelled : (x : Item) (xs : List Item) → IsSpelled x → array_of x ≡ Some xs → AllByRecursion IsSpelled xs
members_spelled x xs s e = members_by (out-Item x) xs s.proper s.ranges e

-- the pairs of a map that bytes spell
pub record ArePairs (ps : List Pair) : Type 0 where
  pub ascend : KeysAscend [] ps
  pub spelled : AllByRecursion (λ p. IsSpelled p.key × IsSpelled p.value) ps

pairs_by : (l : Item-F Item Pair) (ps : List Pair) → IsProperBy true (IsProperWithin 15) l → IsInRangeBy (HasRangesWithin 15) l → map_by l ≡ Some ps → ArePairs ps
pairs_by (Item-F.Map qs) ps p r e =
    let same : qs ≡ ps = cc in
    subst ArePairs same (record { ascend = p.2; spelled = pairs_widen (IsProperWithin 15) (HasRangesWithin 15) IsSpelled widened qs p.1 r.0 })
pairs_by _ ps p r e = absurd cc

pub pairs_spelled : (x : Item) (ps : List Pair) → IsSpelled x → map_of x ≡ Some ps → ArePairs ps
pairs_spelled x ps s e = pairs_by (out-Item x) ps s.proper s.ranges e

-- the value under a label
pub value_spelled : (label : ℕ) (ps : List Pair) (x : Item) → AllByRecursion (λ p. IsSpelled p.key × IsSpelled p.value) ps → field label ps ≡ Some x → IsSpelled x
value_spelled label [] x all e = absurd cc
value_spelled label (p ∷ ps) x all e = here (labelled_by label (out-Item p.key)) refl (λ more. value_spelled label ps x all.1 more) where
  here : (b : Bool) → labelled_by label (out-Item p.key) ≡ b → (field label ps ≡ Some x → IsSpelled x) → IsSpelled x
  here true is later =
      let value : Some p.value ≡ Some x = rw is at e in
      let same : p.value ≡ x = cc in
      subst IsSpelled same all.0.1
  here false is later = later (rw is at e)
