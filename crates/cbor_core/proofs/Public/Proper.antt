-- Items that are proper at any depth.
use Rattle.std.proofs.Common.{ℕ, zero, suc, Bool, List, refl}
use Rattle.std.specs.List.{AllByRecursion}
use Rattle.cbor_core.specs.declared.item.Item.{Item}
use Rattle.cbor_core.specs.declared.item.Item.TheVariants as i
use Rattle.cbor_core.specs.Spelling.{IsProperWithin}

pub number_proper : (depth n : ℕ) → IsProperWithin depth (i.Unsigned n)
number_proper zero n = rw (i.outs-Unsigned) tt
number_proper (suc depth) n = rw (i.outs-Unsigned) tt

pub negative_proper : (depth n : ℕ) → IsProperWithin depth (i.Negative n)
negative_proper zero n = rw (i.outs-Negative) tt
negative_proper (suc depth) n = rw (i.outs-Negative) tt

pub string_proper : (depth : ℕ) (bytes : List ℕ) → IsProperWithin depth (i.Bytes bytes)
string_proper zero bytes = rw (i.outs-Bytes) tt
string_proper (suc depth) bytes = rw (i.outs-Bytes) tt

pub truth_proper : (depth : ℕ) (b : Bool) → IsProperWithin depth (i.Truth b)
truth_proper zero b = rw (i.outs-Truth) tt
truth_proper (suc depth) b = rw (i.outs-Truth) tt

pub null_proper : (depth : ℕ) → IsProperWithin depth i.Null
null_proper zero = rw (i.outs-Null) tt
null_proper (suc depth) = rw (i.outs-Null) tt

pub array_proper : (depth : ℕ) (xs : List Item) → AllByRecursion (IsProperWithin depth) xs → IsProperWithin (suc depth) (i.Array xs)
array_proper depth xs all = rw (i.outs-Array) (refl, all)
