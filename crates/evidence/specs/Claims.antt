-- What a device says of itself.
use Rattle.std.specs.Prelude.{ℕ, List, [], ◌∷◌}
use Rattle.cbor_core.specs.declared.item.Item.{Item}
use Rattle.cbor_core.specs.declared.item.Item.TheVariants as i
use Rattle.evidence.specs.declared.ids.DeviceIds.{DeviceIds}

-- [1, device, vendor, class, challenge]: who it is, bound to the challenge that was asked
abbrev pub evidence_item : DeviceIds → List ℕ → Item
evidence_item ids challenge = i.Array (i.Unsigned 1 ∷ i.Bytes ids.device ∷ i.Bytes ids.vendor ∷ i.Bytes ids.class ∷ i.Bytes challenge ∷ [])
