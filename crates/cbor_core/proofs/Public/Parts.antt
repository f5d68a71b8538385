-- The parts of a proper item are proper.
use Rattle.std.proofs.Common.{ℕ, zero, suc, Bool, true, false, List, [], ◌∷◌, refl}
use Rattle.std.specs.List.{AllByRecursion}
use Rattle.cbor_core.specs.declared.item.Item.{Item, out-Item}
use Rattle.cbor_core.specs.declared.item.Pair.{Pair}
use Rattle.cbor_core.specs.declared.item.Item.TheOpen.{Item-F}
use Rattle.cbor_core.specs.declared.item.Item.TheVariants as i
use Rattle.cbor_core.specs.Spelling.{IsProperBy, IsProperWithin, IsProper}
use Rattle.cbor_core.specs.Law.{PartsAreProper}

module _ (P Q : Item → Type 0) (widen : (x : Item) → P x → Q x) where
  -- what holds of each member, widened
  pub members_widen : (xs : List Item) → AllByRecursion P xs → AllByRecursion Q xs
  members_widen [] all = tt
  members_widen (x ∷ xs) all = (widen x all.0, members_widen xs all.1)

  pub pairs_widen : (ps : List Pair) → AllByRecursion (λ p. P p.key × P p.value) ps → AllByRecursion (λ p. Q p.key × Q p.value) ps
  pairs_widen [] all = tt
  pairs_widen (p ∷ ps) all = ((widen p.key all.0.0, widen p.value all.0.1), pairs_widen ps all.1)

  level_widen : (room : Bool) (l : Item-F Item Pair) → IsProperBy room P l → IsProperBy true Q l
  level_widen room (Item-F.Unsigned n) h = tt
  level_widen room (Item-F.Negative n) h = tt
  level_widen room (Item-F.Bytes bytes) h = tt
  level_widen room (Item-F.Text text) h = tt
  level_widen room (Item-F.Array xs) h = (refl, members_widen xs h.1)
  level_widen room (Item-F.Map ps) h = (refl, pairs_widen ps h.1, h.2)
  level_widen room (Item-F.Tag n x) h = (refl, widen x h.1)
  level_widen room (Item-F.Truth b) h = tt
  level_widen room Item-F.Null h = tt

-- one more container may stand round an item
pub proper_more : (d : ℕ) (x : Item) → IsProperWithin d x → IsProperWithin (suc d) x
proper_more zero x h = level_widen (λ _. ⊥) (IsProperWithin 0) (λ y none. absurd none) false (out-Item x) h
proper_more (suc d) x h = level_widen (IsProperWithin d) (IsProperWithin (suc d)) (proper_more d) true (out-Item x) h

widened : (x : Item) → IsProperWithin 15 x → IsProper x
widened x h = proper_more 15 x h

pub parts_are_proper : PartsAreProper
parts_are_proper = record {
  members = λ xs h. (let level = rw i.outs-Array at h in members_widen (IsProperWithin 15) IsProper widened xs level.1);
  pairs = λ ps h. (let level = rw i.outs-Map at h in pairs_widen (IsProperWithin 15) IsProper widened ps level.1);
  keys = λ ps h. (let level = rw i.outs-Map at h in level.2);
  content = λ n x h. (let level = rw i.outs-Tag at h in widened x level.1);
}
