-- One level of an item that has a spelling: its structure and its ranges together.
use Rattle.std.proofs.Common.{◌≡◌, ℕ, zero, suc, ◌<◌, ◌^◌, Bool, true, false, List, [], ◌∷◌, length}
use Rattle.std.specs.List.{AllByRecursion}
use Rattle.std.specs.Str.{IsUtf8}
use Rattle.cbor_core.specs.declared.item.Item.{Item, out-Item}
use Rattle.cbor_core.specs.declared.item.Pair.{Pair}
use Rattle.cbor_core.specs.declared.item.Item.TheOpen.{Item-F}
use Rattle.base_types.specs.Bytes.{IsBytes}
use Rattle.cbor_core.specs.Spelling.{KeysAscend, IsProperBy, IsProperWithin, IsInRangeBy, HasRangesWithin, IsSpellable}

-- A level in range whose parts meet P; room says whether a container may stand here.
abbrev pub IsWholeBy : Bool → (Item → Type 0) → Item-F Item Pair → Type 0
IsWholeBy room P (Item-F.Unsigned n) = n < 2 ^ 64
IsWholeBy room P (Item-F.Negative n) = n < 2 ^ 64
IsWholeBy room P (Item-F.Bytes bytes) = IsBytes bytes × (length bytes < 2 ^ 64)
IsWholeBy room P (Item-F.Text text) = IsUtf8 text × (length text < 2 ^ 64)
IsWholeBy room P (Item-F.Array members) = (room ≡ true) × AllByRecursion P members × (length members < 2 ^ 64)
IsWholeBy room P (Item-F.Map pairs) = (room ≡ true) × AllByRecursion (λ p. P p.key × P p.value) pairs × (length pairs < 2 ^ 64) × KeysAscend [] pairs
IsWholeBy room P (Item-F.Tag n content) = (room ≡ true) × P content × (n < 2 ^ 64)
IsWholeBy room P (Item-F.Truth b) = Unit {0}
IsWholeBy room P Item-F.Null = Unit {0}

module _ (P Q R : Item → Type 0) (split : (x : Item) → P x → Q x × R x) where
  members_split : (xs : List Item) → AllByRecursion P xs → AllByRecursion Q xs × AllByRecursion R xs
  members_split [] all = (tt, tt)
  members_split (x ∷ xs) all = let one = split x all.0 in let more = members_split xs all.1 in ((one.0, more.0), (one.1, more.1))

  pairs_split : (ps : List Pair) → AllByRecursion (λ p. P p.key × P p.value) ps → AllByRecursion (λ p. Q p.key × Q p.value) ps × AllByRecursion (λ p. R p.key × R p.value) ps
  pairs_split [] all = (tt, tt)
  pairs_split (p ∷ ps) all =
      let key = split p.key all.0.0 in
      let value = split p.value all.0.1 in
      let more = pairs_split ps all.1 in
      (((key.0, value.0), more.0), ((key.1, value.1), more.1))

  split_by : (room : Bool) (l : Item-F Item Pair) → IsWholeBy room P l → IsProperBy room Q l × IsInRangeBy R l
  split_by room (Item-F.Unsigned n) h = (tt, h)
  split_by room (Item-F.Negative n) h = (tt, h)
  split_by room (Item-F.Bytes bytes) h = (tt, h)
  split_by room (Item-F.Text text) h = (tt, h)
  split_by room (Item-F.Array xs) h = let both = members_split xs h.1 in ((h.0, both.0), (both.1, h.2))
  split_by room (Item-F.Map ps) h = let both = pairs_split ps h.1 in ((h.0, both.0, h.3), (both.1, h.2))
  split_by room (Item-F.Tag n x) h = let both = split x h.1 in ((h.0, both.0), (both.1, h.2))
  split_by room (Item-F.Truth b) h = (tt, tt)
  split_by room Item-F.Null h = (tt, tt)

module _ (P Q R : Item → Type 0) (join : (x : Item) → Q x → R x → P x) where
  members_join : (xs : List Item) → AllByRecursion Q xs → AllByRecursion R xs → AllByRecursion P xs
  members_join [] q r = tt
  members_join (x ∷ xs) q r = (join x q.0 r.0, members_join xs q.1 r.1)

  pairs_join : (ps : List Pair) → AllByRecursion (λ p. Q p.key × Q p.value) ps → AllByRecursion (λ p. R p.key × R p.value) ps → AllByRecursion (λ p. P p.key × P p.value) ps
  pairs_join [] q r = tt
  pairs_join (p ∷ ps) q r = ((join p.key q.0.0 r.0.0, join p.value q.0.1 r.0.1), pairs_join ps q.1 r.1)

  join_by : (room : Bool) (l : Item-F Item Pair) → IsProperBy room Q l → IsInRangeBy R l → IsWholeBy room P l
  join_by room (Item-F.Unsigned n) q r = r
  join_by room (Item-F.Negative n) q r = r
  join_by room (Item-F.Bytes bytes) q r = r
  join_by room (Item-F.Text text) q r = r
  join_by room (Item-F.Array xs) q r = (q.0, members_join xs q.1 r.0, r.1)
  join_by room (Item-F.Map ps) q r = (q.0, pairs_join ps q.1 r.0, r.1, q.2)
  join_by room (Item-F.Tag n x) q r = (q.0, join x q.1 r.0, r.1)
  join_by room (Item-F.Truth b) q r = tt
  join_by room Item-F.Null q r = tt

-- whether a container may stand here, and what its parts meet
abbrev pub has_room : ℕ → Bool
has_room zero = false
has_room (suc depth) = true

abbrev pub IsPart : ℕ → Item → Type 0
IsPart zero x = ⊥
IsPart (suc depth) x = IsSpellable depth x

pub to_spellable : (d : ℕ) (x : Item) → IsWholeBy (has_room d) (IsPart d) (out-Item x) → IsSpellable d x
to_spellable zero x h = split_by (λ _. ⊥) (λ _. ⊥) (λ _. Unit {0}) (λ y none. absurd none) false (out-Item x) h
to_spellable (suc d) x h = split_by (IsSpellable d) (IsProperWithin d) (HasRangesWithin d) (λ y both. both) true (out-Item x) h

pub from_spellable : (d : ℕ) (x : Item) → IsSpellable d x → IsWholeBy (has_room d) (IsPart d) (out-Item x)
from_spellable zero x h = join_by (λ _. ⊥) (λ _. ⊥) (λ _. Unit {0}) (λ y none more. none) false (out-Item x) h.0 h.1
from_spellable (suc d) x h = join_by (IsSpellable d) (IsProperWithin d) (HasRangesWithin d) (λ y q r. (q, r)) true (out-Item x) h.0 h.1
