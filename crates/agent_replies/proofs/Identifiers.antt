-- What bytes that are an identifier are decoded to is proper at any depth.
use Rattle.std.proofs.Common.{◌≡◌, ℕ, suc, Bool, true, false, List, [], ◌∷◌, refl, sym, subst, cond}
use Rattle.std.specs.List.{AllByRecursion}
use Rattle.cbor_core.specs.declared.item.Item.{Item, out-Item}
use Rattle.cbor_core.specs.declared.item.Item.TheOpen.{Item-F}
use Rattle.cbor_core.specs.declared.item.Pair.{Pair}
use Rattle.cbor_core.specs.Spelling.{IsProperBy, IsProperWithin}
use Rattle.cbor_fields.specs.Views.{is_bytes_by, all_bytes, is_id_by, IsIdentifier}
use Rattle.cbor_fields.specs.Written.{decoded}
use Rattle.cbor_fields.proofs.Public.Forms.{decoded_is}

leaf : (P : Item → Type 0) (l : Item-F Item Pair) → is_bytes_by l ≡ true → IsProperBy true P l
leaf P (Item-F.Bytes bytes) is = tt
leaf P (Item-F.Unsigned n) is = cc
leaf P (Item-F.Negative n) is = cc
leaf P (Item-F.Text text) is = cc
leaf P (Item-F.Array xs) is = cc
leaf P (Item-F.Map ps) is = cc
leaf P (Item-F.Tag n x) is = cc
leaf P (Item-F.Truth b) is = cc
leaf P Item-F.Null is = cc

member : (depth : ℕ) (x : Item) (xs : List Item) (b : Bool) → is_bytes_by (out-Item x) ≡ b → (all_bytes xs ≡ true → AllByRecursion (IsProperWithin (suc depth)) xs)
    → cond b (all_bytes xs) false ≡ true → AllByRecursion (IsProperWithin (suc depth)) (x ∷ xs)
member depth x xs true here more rest = (leaf (IsProperWithin depth) (out-Item x) here, more rest)
member depth x xs false here more rest = cc

members : (depth : ℕ) (xs : List Item) → all_bytes xs ≡ true → AllByRecursion (IsProperWithin (suc depth)) xs
members depth [] is = tt
members depth (x ∷ xs) is = member depth x xs (is_bytes_by (out-Item x)) refl (members depth xs) is

layer : (depth : ℕ) (l : Item-F Item Pair) → is_id_by l ≡ true → IsProperBy true (IsProperWithin (suc depth)) l
layer depth (Item-F.Array []) is = cc
layer depth (Item-F.Array (x ∷ xs)) is = (refl, members depth (x ∷ xs) is)
layer depth (Item-F.Bytes bytes) is = cc
layer depth (Item-F.Unsigned n) is = cc
layer depth (Item-F.Negative n) is = cc
layer depth (Item-F.Text text) is = cc
layer depth (Item-F.Map ps) is = cc
layer depth (Item-F.Tag n x) is = cc
layer depth (Item-F.Truth b) is = cc
layer depth Item-F.Null is = cc

pub decoded_proper : (depth : ℕ) (bytes : List ℕ) → IsIdentifier bytes → IsProperWithin (suc (suc depth)) (decoded bytes)
decoded_proper depth bytes is = subst (IsProperWithin (suc (suc depth))) (sym (decoded_is bytes is.0 is.1.0)) (layer depth (out-Item is.0) is.1.1)
