-- A wrapped item is one value at most, and is read as it was written.
use Rattle.std.proofs.Common.{◌≡◌, ℕ, List, Option, Some, None, refl, ap, subst, ◌∙◌}
use Rattle.std.specs.Prelude.{Result, Ok}
use Rattle.cbor_core.specs.declared.item.Item.{Item}
use Rattle.cbor_core.specs.declared.item.Item.TheVariants as i
use Rattle.cbor_core.specs.Spelling.{spelling, Spells, HasRanges}
use Rattle.cbor_core.specs.Views.{bytes_of}
use Rattle.cbor_fields.specs.Written.{IsSpelled}
use Rattle.cbor_core.proofs.Public.Views.{bytes_is}
use Rattle.cbor_core.proofs.Public.Ranges.{bytes_in_range}
use Rattle.item_codec.specs.Answers.{and_then, or_fault}
use Rattle.item_codec.specs.Part.{Part}
use Rattle.item_codec.specs.Wrapped.{item_in, unwrapped, wrapped, wrap, IsWrappable}
use Rattle.item_codec.proofs.Public.Settled.{fault_settled, then_settled}
use Rattle.item_codec.proofs.Public.Decoded.{item_is, item_spells}

module _ {V E : Type 0} {none : E} {view : Item → Result V E} {item : V → Item} {P : V → Type 0} (part : Part none view item P) (fault : E) (told : fault ≡ none → ⊥) where
  -- what was read of the byte string x: the item y that it wraps, with the value
  record Content (x : Item) (v : V) : Type 0 where
    content : Item
    bytes : List ℕ
    at : bytes_of x ≡ Some bytes
    spelled : Spells content bytes
    is : view content ≡ Ok v

  by_item : (x : Item) (v : V) (bytes : List ℕ) → IsSpelled x → bytes_of x ≡ Some bytes → (o : Option Item) → item_in bytes ≡ o → and_then view (or_fault fault o) ≡ Ok v → Content x v
  by_item x v bytes s at None in_bytes e = absurd cc
  by_item x v bytes s at (Some y) in_bytes e = record { content = y; bytes = bytes; at = at; spelled = item_spells bytes y (bytes_in_range bytes (subst HasRanges (bytes_is x bytes at) s.ranges)) in_bytes; is = e }

  by_bytes : (x : Item) (v : V) → IsSpelled x → (o : Option (List ℕ)) → bytes_of x ≡ o → and_then view (and_then (λ bytes. or_fault fault (item_in bytes)) (or_fault fault o)) ≡ Ok v → Content x v
  by_bytes x v s None at e = absurd cc
  by_bytes x v s (Some bytes) at e = by_item x v bytes s at (item_in bytes) refl e

  content_of : (x : Item) (v : V) → IsSpelled x → wrapped fault view x ≡ Ok v → Content x v
  content_of x v s e = by_bytes x v s (bytes_of x) refl e

  respelled : (y : Item) (bytes : List ℕ) → Spells y bytes → IsSpelled y
  respelled y bytes s = record { proper = s.proper; ranges = s.ranges; spelled = refl }

  pub wrapped_part : Part none (wrapped fault view) (wrap item) (IsWrappable item P)
  wrapped_part = record {
    settled = λ x. then_settled none view (unwrapped fault x)
        (then_settled none (λ bytes. or_fault fault (item_in bytes)) (or_fault fault (bytes_of x)) (fault_settled none fault told (bytes_of x))
        (λ bytes. fault_settled none fault told (item_in bytes))) part.settled;
    fixes = λ x v s e.
        (let c = content_of x v s e in
        let same : c.content ≡ item v = part.fixes c.content v (respelled c.content c.bytes c.spelled) c.is in
        bytes_is x c.bytes c.at ∙ ap (λ (t : List ℕ). i.Bytes t) (c.spelled.spelled ∙ ap spelling same));
    proper = λ x v s e.
        (let c = content_of x v s e in
        let y = respelled c.content c.bytes c.spelled in
        (part.proper c.content v y c.is, subst IsSpelled (part.fixes c.content v y c.is) y));
    seen = λ v is. rw (i.outs-Bytes, item_is (spelling (item v)) (item v) is.1) (part.seen v is.0);
  }
