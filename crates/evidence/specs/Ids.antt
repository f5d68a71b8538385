-- What a device is known by.
use Rattle.std.specs.Prelude.{◌≤◌, ℕ, List, length}
use Rattle.base_types.specs.declared.limits.TheConstants.{DEVICE_FIELD_LIMIT}
use Rattle.evidence.specs.declared.ids.DeviceIds.{DeviceIds}

-- 1 to 64 bytes
pub record IsField (bytes : List ℕ) : Type 0 where
  pub least : 1 ≤ length bytes
  pub most : length bytes ≤ DEVICE_FIELD_LIMIT

-- each of the three has such a length
pub record AreIds (ids : DeviceIds) : Type 0 where
  pub vendor : IsField ids.vendor
  pub class : IsField ids.class
  pub device : IsField ids.device
