-- The parts of an item that has a spelling have spellings.
use Rattle.std.proofs.Common.{◌≡◌, ℕ, zero, suc, Bool, true, false, List, [], ◌∷◌, refl}
use Rattle.std.specs.List.{AllByRecursion}
use Rattle.cbor_core.specs.declared.item.Item.{Item, out-Item}
use Rattle.cbor_core.specs.declared.item.Item.TheOpen.{Item-F}
use Rattle.cbor_core.specs.declared.item.Item.TheVariants as i
use Rattle.cbor_core.specs.declared.item.Pair.{Pair}
use Rattle.cbor_core.specs.Spelling.{IsSpellable, Spells, KeysAscend, spelling}
use Rattle.cbor_core.proofs.Public.Parts.{parts_are_proper, members_widen, pairs_widen}
use Rattle.cbor_core.proofs.Public.Levels.{IsWholeBy, to_spellable, from_spellable}
use Rattle.cbor_span.specs.Parts.{HasSpelling, HaveSpellings}

module _ (P Q : Item → Type 0) (widen : (x : Item) → P x → Q x) where
  level_widen : (room : Bool) (l : Item-F Item Pair) → IsWholeBy room P l → IsWholeBy true Q l
  level_widen room (Item-F.Unsigned n) h = h
  level_widen room (Item-F.Negative n) h = h
  level_widen room (Item-F.Bytes bytes) h = h
  level_widen room (Item-F.Text text) h = h
  level_widen room (Item-F.Array xs) h = (refl, members_widen P Q widen xs h.1, h.2)
  level_widen room (Item-F.Map ps) h = (refl, pairs_widen P Q widen ps h.1, h.2, h.3)
  level_widen room (Item-F.Tag n x) h = (refl, widen x h.1, h.2)
  level_widen room (Item-F.Truth b) h = tt
  level_widen room Item-F.Null h = tt

-- one more container may stand round an item that has a spelling
pub spellable_more : (d : ℕ) (x : Item) → IsSpellable d x → IsSpellable (suc d) x
spellable_more zero x h = to_spellable 1 x (level_widen (λ _. ⊥) (IsSpellable 0) (λ y none. absurd none) false (out-Item x) (from_spellable 0 x h))
spellable_more (suc d) x h = to_spellable (suc (suc d)) x (level_widen (IsSpellable d) (IsSpellable (suc d)) (spellable_more d) true (out-Item x) (from_spellable (suc d) x h))

widened : (x : Item) → IsSpellable 15 x → HasSpelling x
widened x h = spellable_more 15 x h

pub content_spelled : (n : ℕ) (x : Item) → HasSpelling (i.Tag n x) → HasSpelling x
content_spelled n x h = let level = rw i.outs-Tag at (from_spellable 16 (i.Tag n x) h) in widened x level.1

pub members_spelled : (xs : List Item) → HasSpelling (i.Array xs) → AllByRecursion HasSpelling xs
members_spelled xs h = let level = rw i.outs-Array at (from_spellable 16 (i.Array xs) h) in members_widen (IsSpellable 15) HasSpelling widened xs level.1

pub pairs_spelled : (ps : List Pair) → HasSpelling (i.Map ps) → HaveSpellings ps
pairs_spelled ps h = let level = rw i.outs-Map at (from_spellable 16 (i.Map ps) h) in pairs_widen (IsSpellable 15) HasSpelling widened ps level.1

pub keys_ascend : (ps : List Pair) → HasSpelling (i.Map ps) → KeysAscend [] ps
keys_ascend ps h = parts_are_proper.keys ps h.0

-- what has a spelling is spelled by it
pub as_spelled : (x : Item) (bytes : List ℕ) → HasSpelling x → bytes ≡ spelling x → Spells x bytes
as_spelled x bytes h is = record { proper = h.0; ranges = h.1; spelled = is }
