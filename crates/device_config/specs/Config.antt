-- The configuration of a device: which bytes are one.
use Rattle.std.specs.Prelude.{◌≡◌, ◌≤◌, ℕ, List, [], ◌∷◌, length, Some}
use Rattle.base_types.specs.declared.limits.TheConstants.{QUOTA_LEAST, QUOTA_LIMIT}
use Rattle.cbor_core.specs.declared.item.Item.{Item}
use Rattle.cbor_core.specs.Spelling.{Spells}
use Rattle.cbor_core.specs.Views.{array_of, bytes_of, unsigned_of}
use Rattle.evidence.specs.declared.ids.DeviceIds.{DeviceIds}
use Rattle.evidence.specs.Ids.{AreIds}
use Rattle.hss_sign.specs.declared.params.KeyParams.{KeyParams}
use Rattle.hss_sign.specs.Params.{IsProperParams}
use Rattle.trust_anchors.specs.declared.anchors.Anchors.{Anchors}
use Rattle.trust_anchors.specs.Anchors.{AnchorsIs}
use Rattle.device_config.specs.declared.config.Config.{Config}
use Rattle.device_config.specs.declared.config.TheConstants.{CONFIG_LIMIT, KEY_SEED_SIZE}

-- three byte strings of 1 to 64 bytes: vendor, class and device
pub record IdsAre (vendor class device : Item) (ids : DeviceIds) : Type 0 where
  pub vendor_is : bytes_of vendor ≡ Some ids.vendor
  pub class_is : bytes_of class ≡ Some ids.class
  pub device_is : bytes_of device ≡ Some ids.device
  pub proper : AreIds ids

-- a quota within its limits
pub record QuotaIs (x : Item) (quota : ℕ) : Type 0 where
  pub number : unsigned_of x ≡ Some quota
  pub least : QUOTA_LEAST ≤ quota
  pub most : quota ≤ QUOTA_LIMIT

-- three numbers that are proper parameters: levels, height and width
pub record ParamsAre (levels height width : Item) (params : KeyParams) : Type 0 where
  pub levels_is : unsigned_of levels ≡ Some params.levels
  pub height_is : unsigned_of height ≡ Some params.height
  pub width_is : unsigned_of width ≡ Some params.width
  pub proper : IsProperParams params

-- a key seed of 32 bytes
pub record SeedIs (x : Item) (seed : List ℕ) : Type 0 where
  pub bytes : bytes_of x ≡ Some seed
  pub size : length seed ≡ KEY_SEED_SIZE

-- the anchors of an item
pub record AnchorsAre (x : Item) (anchors : Anchors) : Type 0 where
  pub are : AnchorsIs anchors x

-- each part of the array is that of the configuration
pub record RowsAre (vendor class device quota levels height width seed anchors : Item) (v : Config) : Type 0 where
  pub ids : IdsAre vendor class device v.device
  pub quota_is : QuotaIs quota v.quota
  pub params : ParamsAre levels height width v.params
  pub seed_is : SeedIs seed v.key_seed
  pub anchors_are : AnchorsAre anchors v.anchors

-- [vendor, class, device, quota, levels, height, width, key seed, anchors]
abbrev pub PartsAre : List Item → Config → Type 0
PartsAre (vendor ∷ class ∷ device ∷ quota ∷ levels ∷ height ∷ width ∷ seed ∷ anchors ∷ []) v = RowsAre vendor class device quota levels height width seed anchors v
PartsAre _ v = ⊥

-- the item is an array of these parts
abbrev pub IsConfigItem : Item → Config → Type 0
IsConfigItem x v = (parts : List Item) × (array_of x ≡ Some parts) × PartsAre parts v

-- the bytes spell such an item, and are few enough for the head of an image
pub record ConfigIs (v : Config) (bytes : List ℕ) : Type 0 where
  pub item : Item
  pub spelled : Spells item bytes
  pub config : IsConfigItem item v
  pub short : length bytes ≤ CONFIG_LIMIT

-- some bytes are this configuration
abbrev pub IsConfig : Config → Type 0
IsConfig v = (bytes : List ℕ) × ConfigIs v bytes
