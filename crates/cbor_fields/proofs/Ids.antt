-- An identifier is proper.
use Rattle.std.proofs.Common.{◌≡◌, ℕ, suc, Bool, true, false, List, [], ◌∷◌, refl, sym, ap, cond}
use Rattle.std.specs.Prelude.{Some, None}
use Rattle.std.specs.List.{AllByRecursion}
use Rattle.cbor_core.specs.declared.item.Item.{Item, out-Item}
use Rattle.cbor_core.specs.declared.item.Item.TheOpen.{Item-F}
use Rattle.cbor_core.specs.declared.item.Pair.{Pair}
use Rattle.cbor_core.specs.Spelling.{IsProper, IsProperBy, IsProperWithin, Spells}
use Rattle.cbor_fields.specs.Views.{is_bytes_by, all_bytes, is_id, is_id_by, id_of}

leaf : (P : Item → Type 0) (l : Item-F Item Pair) → is_bytes_by l ≡ true → IsProperBy true P l
leaf P (Item-F.Bytes bytes) is = tt
leaf P (Item-F.Unsigned n) is = cc
leaf P (Item-F.Negative n) is = cc
leaf P (Item-F.Text text) is = cc
leaf P (Item-F.Array xs) is = cc
leaf P (Item-F.Map ps) is = cc
leaf P (Item-F.Tag n x) is = cc
leaf P (Item-F.Truth b) is = cc
leaf P Item-F.Null is = cc

member : (depth : ℕ) (x : Item) (xs : List Item) (b : Bool) → is_bytes_by (out-Item x) ≡ b → (all_bytes xs ≡ true → AllByRecursion (IsProperWithin (suc depth)) xs)
    → cond b (all_bytes xs) false ≡ true → AllByRecursion (IsProperWithin (suc depth)) (x ∷ xs)
member depth x xs true here more rest = (leaf (IsProperWithin depth) (out-Item x) here, more rest)
member depth x xs false here more rest = cc

members : (depth : ℕ) (xs : List Item) → all_bytes xs ≡ true → AllByRecursion (IsProperWithin (suc depth)) xs
members depth [] is = tt
members depth (x ∷ xs) is = member depth x xs (is_bytes_by (out-Item x)) refl (members depth xs) is

layer : (l : Item-F Item Pair) → is_id_by l ≡ true → IsProperBy true (IsProperWithin 15) l
layer (Item-F.Array []) is = cc
layer (Item-F.Array (x ∷ xs)) is = (refl, members 14 (x ∷ xs) is)
layer (Item-F.Bytes bytes) is = cc
layer (Item-F.Unsigned n) is = cc
layer (Item-F.Negative n) is = cc
layer (Item-F.Text text) is = cc
layer (Item-F.Map ps) is = cc
layer (Item-F.Tag n x) is = cc
layer (Item-F.Truth b) is = cc
layer Item-F.Null is = cc

pub id_proper : (x : Item) → is_id x ≡ true → IsProper x
id_proper x is = layer (out-Item x) is

pub id_value : (x : Item) (bytes : List ℕ) → is_id x ≡ true → Spells x bytes → id_of x ≡ Some bytes
id_value x bytes is spells = rw is (ap Some (sym spells.spelled))

pub id_none : (x : Item) → is_id x ≡ false → id_of x ≡ None
id_none x is = rw is refl

pub ruleset ids = (id_proper, id_value, id_none)
