-- What typed fields are: nothing of an item is lost.
use Rattle.std.specs.Prelude.{ℕ, ◌≡◌, ◌<◌, false, List, [], ◌∷◌}
use Rattle.cbor_core.specs.declared.item.Item.TheOpen.{Item-F}
use Rattle.cbor_core.specs.declared.item.Item.TheVariants as i
use Rattle.cbor_core.specs.declared.item.Pair.{Pair}
use Rattle.cbor_core.specs.Spelling.{KeysAscend}
use Rattle.cbor_core.specs.Views.{unsigned_of, bytes_of, text_of, truth_of, field}
use Rattle.cbor_fields.specs.Views.{id_of, is_among, others}
use Rattle.cbor_fields.specs.Written.{Determines, decoded, put_if}

-- in each form one item at most has a value
pub record FormsDetermine : Type 0 where
  pub unsigned : Determines unsigned_of (λ n. i.Unsigned n)
  pub bytes : Determines bytes_of (λ b. i.Bytes b)
  pub text : Determines text_of (λ t. i.Text t)
  pub truth : Determines truth_of (λ b. i.Truth b)
  pub id : Determines id_of decoded

-- The pairs that have none of some labels are those that have not one more label either, with its value put back.
abbrev pub FieldsPutBack : Type 0
FieldsPutBack = (label : ℕ) (labels : List ℕ) (pairs : List Pair) → label < 24 → is_among labels (Item-F.Unsigned label) ≡ false → KeysAscend [] pairs
    → put_if (λ x. x) label (field label pairs) (others (label ∷ labels) pairs) ≡ others labels pairs
