-- Items in fields: in range, and of so many bytes at most.
use Rattle.std.proofs.Common.{ℕ, suc, ◌+◌, ◌<◌, ◌≤◌, ◌^◌, List, [], ◌∷◌, length, Option, Some, None, arith}
use Rattle.std.specs.Prelude.{IfSome}
use Rattle.std.specs.List.{AllByRecursion}
use Rattle.std.specs.Str.{IsUtf8}
use Rattle.cbor_core.specs.declared.item.Item.{Item}
use Rattle.cbor_core.specs.declared.item.Item.TheVariants as i
use Rattle.cbor_core.specs.declared.item.Pair.{Pair}
use Rattle.cbor_core.specs.Spelling.{HasRanges, HasRangesWithin}
use Rattle.cbor_core.proofs.Public.Ranges.{number_ranges, string_ranges, text_ranges, array_ranges, map_ranges}
use Rattle.cbor_fields.specs.Written.{labelled}
use Rattle.item_codec.specs.Ordered.{row}
use Rattle.agent_core.proofs.Short.{IsShort}
use Rattle.agent_core.proofs.Spellings.{Takes, TakePairs, number, string, text, pair, perhaps, no_pairs, map, array, item, no_items}

-- an item of a field, in which 14 containers more may stand inside one another
pub record IsField (most : ℕ) (x : Item) : Type 0 where
  pub ranges : HasRangesWithin 14 x
  pub takes : Takes most x

pub number_field : (n : ℕ) → n < 2 ^ 64 → IsField 9 (i.Unsigned n)
number_field n fits = record { ranges = number_ranges 14 n fits; takes = number n }

pub string_field : (m : ℕ) (bytes : List ℕ) → m < 2 ^ 64 → IsShort m bytes → IsField (9 + m) (i.Bytes bytes)
string_field m bytes less short = record { ranges = string_ranges 14 bytes short.are (omega (arith, less, short.len)); takes = string short }

pub text_field : (m : ℕ) (bytes : List ℕ) → m < 2 ^ 64 → IsUtf8 bytes → IsShort m bytes → IsField (9 + m) (i.Text bytes)
text_field m bytes less is short = record { ranges = text_ranges 14 bytes is (omega (arith, less, short.len)); takes = text short }

abbrev pub InRange : ℕ → Pair → Type 0
InRange depth p = HasRangesWithin depth p.key × HasRangesWithin depth p.value

-- so many fields at most, which take so many bytes at most
pub record AreFields (count most : ℕ) (ps : List Pair) : Type 0 where
  pub all : AllByRecursion (InRange 14) ps
  pub few : length ps ≤ count
  pub take : TakePairs most ps

pub no_fields : AreFields 0 0 []
no_fields = record { all = tt; few = omega arith; take = no_pairs }

pub field : {n m k : ℕ} {x : Item} {ps : List Pair} (label : ℕ) → label < 24 → IsField m x → AreFields n k ps → AreFields (suc n) (9 + m + k) (labelled label x ∷ ps)
field {n} {m} {k} {x} {ps} label low is others = record {
  all = ((number_ranges 14 label (omega (arith, low)), is.ranges), others.all);
  few = omega (arith, others.few);
  take = pair label is.takes others.take;
}

-- a field that may be missing
pub perhaps_field : {V : Type 0} {n k : ℕ} {ps : List Pair} (m : ℕ) (written : V → Item) (label : ℕ) (o : Option V) → label < 24
    → IfSome o (λ v. IsField m (written v)) → AreFields n k ps
    → AreFields (suc n) (9 + m + k) (row written label o ps)
perhaps_field {V} {n} {k} {ps} m written label None low is others = record { all = others.all; few = omega (arith, others.few); take = perhaps m written label None tt others.take }
perhaps_field {V} {n} {k} {ps} m written label (Some v) low is others = field label low is others

-- ---- what is made of fields

-- an item in range that takes so many bytes
pub record IsWhole (most : ℕ) (x : Item) : Type 0 where
  pub ranges : HasRanges x
  pub takes : Takes most x

map_in_range : (count most : ℕ) (ps : List Pair) → count < 2 ^ 64 → AreFields count most ps → HasRangesWithin 15 (i.Map ps)
map_in_range count most ps less are = map_ranges 14 ps are.all (omega (arith, less, are.few))

-- a kind and options
pub kind_and_map : (kind count most : ℕ) (ps : List Pair) → kind < 2 ^ 64 → count < 2 ^ 64 → AreFields count most ps
    → IsWhole (9 + (9 + (9 + most + 0))) (i.Array (i.Unsigned kind ∷ i.Map ps ∷ []))
kind_and_map kind count most ps low less are = record {
  ranges = array_ranges 15 (i.Unsigned kind ∷ i.Map ps ∷ []) (number_ranges 15 kind low, (map_in_range count most ps less are, tt)) (omega arith);
  takes = array (item (number kind) (item (map are.take) no_items));
}

-- the same, and a number
pub kind_map_number : (kind count most n : ℕ) (ps : List Pair) → kind < 2 ^ 64 → count < 2 ^ 64 → n < 2 ^ 64 → AreFields count most ps
    → IsWhole (9 + (9 + (9 + most + (9 + 0)))) (i.Array (i.Unsigned kind ∷ i.Map ps ∷ i.Unsigned n ∷ []))
kind_map_number kind count most n ps low less fits are = record {
  ranges = array_ranges 15 (i.Unsigned kind ∷ i.Map ps ∷ i.Unsigned n ∷ []) (number_ranges 15 kind low, (map_in_range count most ps less are, (number_ranges 15 n fits, tt))) (omega arith);
  takes = array (item (number kind) (item (map are.take) (item (number n) no_items)));
}
