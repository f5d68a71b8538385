-- A configuration as an item.
use Rattle.std.specs.Prelude.{[], ◌∷◌}
use Rattle.cbor_core.specs.declared.item.Item.{Item}
use Rattle.cbor_core.specs.declared.item.Item.TheVariants as i
use Rattle.trust_anchors.specs.Anchors.{written_anchors}
use Rattle.device_config.specs.declared.config.Config.{Config}

-- [vendor, class, device, quota, levels, height, width, key seed, anchors]
abbrev pub written_config : Config → Item
written_config v = i.Array (i.Bytes v.device.vendor ∷ i.Bytes v.device.class ∷ i.Bytes v.device.device ∷ i.Unsigned v.quota
    ∷ i.Unsigned v.params.levels ∷ i.Unsigned v.params.height ∷ i.Unsigned v.params.width
    ∷ i.Bytes v.key_seed ∷ written_anchors v.anchors ∷ [])
