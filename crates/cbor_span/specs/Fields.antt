-- What a walk over the pairs of a map finds.
use Rattle.std.specs.Prelude.{ℕ, ◌≡◌, Bool, true, nat_lt, List, length}
use Rattle.cbor_heads.specs.declared.head.Head.{Head}
use Rattle.cbor_heads.specs.declared.head.Kind.{Kind}
use Rattle.cbor_heads.specs.declared.head.Kind.TheVariants as k
use Rattle.cbor_core.specs.declared.item.Pair.{Pair}
use Rattle.cbor_core.specs.Spelling.{pair_spellings}
use Rattle.cbor_core.specs.Views.{field}
use Rattle.cbor_span.specs.declared.fields.Sought.{Sought}
use Rattle.cbor_span.specs.declared.fields.FrontMap.{FrontMap}
use Rattle.cbor_span.specs.Parts.{PairsInFront, IsThere}

-- A key of this kind and argument stands behind each unsigned integer up to the label, where labels have one byte.
abbrev pub past_by : ℕ → Kind → ℕ → Bool
past_by label k.Unsigned n = nat_lt label n
past_by label _ n = true

-- the same, by the key's head
abbrev pub is_past : ℕ → Head → Bool
is_past label h = past_by label h.kind h.argument

-- The value under the label was found or is not there, and some pairs were not looked at.
abbrev pub IsSought : ℕ → List Pair → List ℕ → Sought → Type 0
IsSought label ps more r = IsThere (λ s. s.now) (field label ps) r.value × ((qs : List Pair) × PairsInFront qs r.rest.now more × (length qs ≡ r.left))

-- The map of these pairs was found, with the value under the label and the bytes behind it.
pub record IsFrontMap (label : ℕ) (ps : List Pair) (more : List ℕ) (r : FrontMap) : Type 0 where
  pub count : r.count ≡ length ps
  pub pairs : r.pairs.now ≡ pair_spellings ps
  pub value : IsThere (λ s. s.now) (field label ps) r.value
  pub behind : r.behind.now ≡ more
