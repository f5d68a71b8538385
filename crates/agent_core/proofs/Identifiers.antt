-- What bytes that are an identifier are decoded to: it is proper at any depth, in range, and spelled by these bytes.
use Rattle.std.proofs.Common.{◌≡◌, ℕ, suc, ◌+◌, Bool, true, false, List, [], ◌∷◌, length, refl, sym, ap, subst, cond, arith}
use Rattle.std.specs.List.{AllByRecursion}
use Rattle.cbor_core.specs.declared.item.Item.{Item, out-Item}
use Rattle.cbor_core.specs.declared.item.Item.TheOpen.{Item-F}
use Rattle.cbor_core.specs.declared.item.Item.TheViews.{roll-Item, roll-out-Item}
use Rattle.cbor_core.specs.declared.item.Item.TheVariants as i
use Rattle.cbor_core.specs.declared.item.Pair.{Pair}
use Rattle.cbor_core.specs.Spelling.{IsInRangeBy, HasRangesWithin, IsProperBy, IsProperWithin}
use Rattle.cbor_core.proofs.Public.Ranges.{fewer}
use Rattle.cbor_fields.specs.Views.{is_bytes_by, all_bytes, is_id_by, IsIdentifier}
use Rattle.cbor_fields.specs.Written.{decoded}
use Rattle.cbor_fields.proofs.Public.Forms.{decoded_is}
use Rattle.agent_core.proofs.Spellings.{Takes, TakeAll, no_items, item, string, array}

-- ---- proper

leaf : (P : Item → Type 0) (l : Item-F Item Pair) → is_bytes_by l ≡ true → IsProperBy true P l
leaf P (Item-F.Bytes bytes) is = tt
leaf P _ is = absurd cc

member : (depth : ℕ) (x : Item) (xs : List Item) (b : Bool) → is_bytes_by (out-Item x) ≡ b → (all_bytes xs ≡ true → AllByRecursion (IsProperWithin (suc depth)) xs)
    → cond b (all_bytes xs) false ≡ true → AllByRecursion (IsProperWithin (suc depth)) (x ∷ xs)
member depth x xs true here more rest = (leaf (IsProperWithin depth) (out-Item x) here, more rest)
member depth x xs false here more rest = absurd cc

members : (depth : ℕ) (xs : List Item) → all_bytes xs ≡ true → AllByRecursion (IsProperWithin (suc depth)) xs
members depth [] is = tt
members depth (x ∷ xs) is = member depth x xs (is_bytes_by (out-Item x)) refl (members depth xs) is

layer : (depth : ℕ) (l : Item-F Item Pair) → is_id_by l ≡ true → IsProperBy true (IsProperWithin (suc depth)) l
layer depth (Item-F.Array []) is = absurd cc
layer depth (Item-F.Array (x ∷ xs)) is = (refl, members depth (x ∷ xs) is)
layer depth _ is = absurd cc

pub decoded_proper : (depth : ℕ) (bytes : List ℕ) → IsIdentifier bytes → IsProperWithin (suc (suc depth)) (decoded bytes)
decoded_proper depth bytes is = subst (IsProperWithin (suc (suc depth))) (sym (decoded_is bytes is.0 is.1.0)) (layer depth (out-Item is.0) is.1.1)

-- ---- in range

pub decoded_ranges : (bytes : List ℕ) → IsIdentifier bytes → HasRangesWithin 12 (decoded bytes)
decoded_ranges bytes is = subst (HasRangesWithin 12) (sym (decoded_is bytes is.0 is.1.0)) (fewer 12 is.0 (fewer 13 is.0 (fewer 14 is.0 (fewer 15 is.0 is.1.0.ranges))))

-- ---- spelled

-- some number is the most that it takes
pub record IsSome (x : Item) : Type 0 where
  pub most : ℕ
  pub takes : Takes most x

pub record AreSome (xs : List Item) : Type 0 where
  pub most : ℕ
  pub take : TakeAll most xs

string_some : (l : Item-F Item Pair) → is_bytes_by l ≡ true → IsInRangeBy (HasRangesWithin 14) l → IsSome (roll-Item l)
string_some (Item-F.Bytes bytes) is range =
    subst IsSome (sym (i.rolls-Bytes bytes)) (record { most = 9 + length bytes; takes = string {m = length bytes} (record { are = range.0; len = omega arith }) })
string_some _ is range = absurd cc

item_some : (x : Item) → is_bytes_by (out-Item x) ≡ true → HasRangesWithin 15 x → IsSome x
item_some x is range = subst IsSome (roll-out-Item x) (string_some (out-Item x) is range)

one_more : (x : Item) (xs : List Item) (b : Bool) → is_bytes_by (out-Item x) ≡ b → HasRangesWithin 15 x → (all_bytes xs ≡ true → AreSome xs)
    → cond b (all_bytes xs) false ≡ true → AreSome (x ∷ xs)
one_more x xs true here range more rest = let first = item_some x here range in let others = more rest in record { most = _; take = item first.takes others.take }
one_more x xs false here range more rest = absurd cc

all_some : (xs : List Item) → AllByRecursion (HasRangesWithin 15) xs → all_bytes xs ≡ true → AreSome xs
all_some [] range is = record { most = 0; take = no_items }
all_some (x ∷ xs) range is = one_more x xs (is_bytes_by (out-Item x)) refl range.0 (all_some xs range.1) is

layer_some : (l : Item-F Item Pair) → is_id_by l ≡ true → IsInRangeBy (HasRangesWithin 15) l → IsSome (roll-Item l)
layer_some (Item-F.Array []) is range = absurd cc
layer_some (Item-F.Array (x ∷ xs)) is range = let all = all_some (x ∷ xs) range.0 is in subst IsSome (sym (i.rolls-Array (x ∷ xs))) (record { most = _; takes = array all.take })
layer_some _ is range = absurd cc

id_some : (x : Item) → is_id_by (out-Item x) ≡ true → HasRangesWithin 16 x → IsSome x
id_some x is range = subst IsSome (roll-out-Item x) (layer_some (out-Item x) is range)

-- it takes as many bytes as there are
pub decoded_takes : (bytes : List ℕ) → IsIdentifier bytes → Takes (length bytes) (decoded bytes)
decoded_takes bytes is =
    let some = id_some is.0 is.1.1 is.1.0.ranges in
    let here : Takes (length bytes) is.0 = record { short = record { are = some.takes.short.are; len = omega (arith, ap length is.1.0.spelled) } } in
    subst (Takes (length bytes)) (sym (decoded_is bytes is.0 is.1.0)) here
