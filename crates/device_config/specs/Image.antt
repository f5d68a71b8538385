-- The image of a device that was given a configuration.
use Rattle.std.specs.Prelude.{◌≡◌, ◌≤◌, ◌+◌, ◌*◌, ◌-◌, ◌++◌, ℕ, List, codes, length, replicate}
use Rattle.std.specs.Int.{to_be_bytes, w32}
use Rattle.journal_core.specs.declared.region.Region.{Region}
use Rattle.journal_core.specs.Region.{region_size}
use Rattle.device_config.specs.declared.config.Config.{Config}
use Rattle.device_config.specs.declared.config.TheConstants.{CONFIG_LIMIT}
use Rattle.device_config.specs.declared.head.TheConstants.{LAYOUT}
use Rattle.device_config.specs.Config.{ConfigIs}

-- the first 65,536 bytes: a mark, the layout, the configuration behind its length, and zeros
abbrev pub head_bytes : List ℕ → List ℕ
head_bytes config = codes "TEEPIMG1" ++ (to_be_bytes w32 LAYOUT ++ (to_be_bytes w32 (length config) ++ (config ++ replicate (CONFIG_LIMIT - length config) 0)))

-- the bytes are the head of this configuration
pub record IsHead (config : List ℕ) (head : List ℕ) : Type 0 where
  pub short : length config ≤ CONFIG_LIMIT
  pub spelled : head ≡ head_bytes config

-- where the journal lies: behind the head
abbrev pub journal_region : ℕ → Region
journal_region quota = record { at = 65536; half = 2 * quota + 65536 }

-- the image has the head of this configuration, and room for its journal
pub record IsImage (v : Config) (image : List ℕ) : Type 0 where
  pub config : List ℕ
  pub is : ConfigIs v config
  pub region : List ℕ
  pub spelled : image ≡ head_bytes config ++ region
  pub room : region_size (journal_region v.quota) ≤ length region

-- the image is such a head and a journal of zeros, which is the empty list, and nothing more
pub record IsNewImage (v : Config) (image : List ℕ) : Type 0 where
  pub config : List ℕ
  pub is : ConfigIs v config
  pub spelled : image ≡ head_bytes config ++ replicate (region_size (journal_region v.quota)) 0

-- an image is that of one configuration
abbrev pub OneImage : Type 0
OneImage = (image : List ℕ) (v w : Config) → IsImage v image → IsImage w image → v ≡ w
