-- What a signature is of (RFC 9052, section 4.4).
use Rattle.std.specs.Prelude.{ℕ, List, [], ◌∷◌, codes}
use Rattle.cbor_core.specs.declared.item.Item.{Item}
use Rattle.cbor_core.specs.declared.item.Item.TheVariants as i

-- ["Signature1", protected, h'', payload]: the third is the external data, of which there is none
abbrev pub signed_item : List ℕ → List ℕ → Item
signed_item protected payload = i.Array (i.Text (codes "Signature1") ∷ i.Bytes protected ∷ i.Bytes [] ∷ i.Bytes payload ∷ [])
