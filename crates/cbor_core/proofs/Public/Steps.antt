-- A list of items, or of pairs, is one and then the others.
use Rattle.std.proofs.Common.{◌≡◌, ℕ, suc, ◌+◌, ◌-◌, ◌<◌, cond, refl, arith, List, [], ◌∷◌, ◌++◌}
use Rattle.cbor_heads.specs.declared.fault.Fault.{Fault}
use Rattle.cbor_heads.specs.declared.fault.Why.TheVariants as why
use Rattle.cbor_heads.specs.Place.{Place, between}
use Rattle.cbor_heads.specs.Reading.{Outcome, Reader, ◌>>=◌}
use Rattle.cbor_heads.specs.HeadReading.{fault}
use Rattle.cbor_core.specs.declared.item.Item.{Item}
use Rattle.cbor_core.specs.declared.item.Pair.{Pair}
use Rattle.cbor_core.specs.Reading.{items_at, pairs_at}
use Rattle.cbor_core.specs.Spelling.{bytes_below}

-- one more item
pub items_more : (inner : Reader Fault Item) (n k : ℕ) (found : List Item) (p : Place) → k < n
    → items_at inner (n - k) found p ≡ (inner p >>= λ x. items_at inner (n - (k + 1)) (found ++ x.0 ∷ []) x.1)
unfolding items_at
items_more inner n k found p lt = let e : n - k ≡ suc (n - (k + 1)) = omega arith in rw e refl

-- one more pair
abbrev pub pair_more : Reader Fault Item → ℕ → List Pair → List ℕ → Place → Outcome Fault (List Pair)
pair_more inner n found last p = inner p >>= λ key.
    cond (bytes_below last (between p key.1)) (inner key.1 >>= λ value. pairs_at inner n (found ++ record { key = key.0; value = value.0 } ∷ []) (between p key.1) value.1)
    (fault p.at why.KeyOrder)

pub pairs_more : (inner : Reader Fault Item) (n k : ℕ) (found : List Pair) (last : List ℕ) (p : Place) → k < n
    → pairs_at inner (n - k) found last p ≡ pair_more inner (n - (k + 1)) found last p
unfolding pairs_at
pairs_more inner n k found last p lt = let e : n - k ≡ suc (n - (k + 1)) = omega arith in rw e refl
