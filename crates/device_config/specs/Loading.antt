-- What a look at an image answers.
use Rattle.std.specs.Prelude.{ℕ, List, Result, Ok, Err}
use Rattle.device_config.specs.declared.config.Config.{Config}
use Rattle.device_config.specs.declared.fault.MountFault.{MountFault}
use Rattle.device_config.specs.declared.fault.MountFault.TheVariants.{BadImage, DiskFault, NoMemory}
use Rattle.device_config.specs.Image.{IsImage}

-- the configuration of the image, BadImage where it has none, and nothing is said of the image by another fault
abbrev pub Loaded : List ℕ → Result Config MountFault → Type 0
Loaded image (Ok v) = IsImage v image
Loaded image (Err BadImage) = (v : Config) → IsImage v image → ⊥
Loaded image (Err DiskFault) = Unit {0}
Loaded image (Err NoMemory) = Unit {0}
