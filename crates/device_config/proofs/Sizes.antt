-- What is written for a configuration has room in the head of an image.
use Rattle.std.proofs.Common.{◌≡◌, ℕ, ◌+◌, ◌≤◌, List, [], ◌∷◌, ◌++◌, length, arith}
use Rattle.std.proofs.lemmas.List.{length-append}
use Rattle.cbor_core.specs.declared.item.Item.{Item}
use Rattle.cbor_core.specs.declared.item.Item.TheVariants as i
use Rattle.cbor_core.specs.Spelling.{spelling}
use Rattle.cbor_core.proofs.Public.Sizes.{number_size, string_size, array_size}
use Rattle.trust_anchors.specs.Anchors.{Wraps, AnchorsIs, written_anchors}
use Rattle.trust_anchors.specs.declared.anchors.Anchors.{Anchors}
use Rattle.trust_anchors.proofs.Lists.{zip_length}
use Rattle.trust_anchors.proofs.Public.Written.{anchors_size}
use Rattle.device_config.specs.declared.config.Config.{Config}
use Rattle.device_config.specs.declared.config.TheConstants.{CONFIG_LIMIT}
use Rattle.base_types.specs.declared.limits.TheConstants.{QUOTA_LEAST, QUOTA_LIMIT}
use Rattle.evidence.specs.Ids.{AreIds}
use Rattle.hss_sign.specs.Params.{IsProperParams}
use Rattle.device_config.specs.Config.{PartsAre, ConfigIs, IsConfig}
use Rattle.device_config.specs.Written.{written_config}

-- what is known of the parts of a configuration
pub record Within (v : Config) : Type 0 where
  pub device : AreIds v.device
  pub quota_least : QUOTA_LEAST ≤ v.quota
  pub quota_most : v.quota ≤ QUOTA_LIMIT
  pub params : IsProperParams v.params
  pub seed : length v.key_seed ≡ 32
  pub anchors : Item
  pub anchors_are : AnchorsIs v.anchors anchors

by_parts : (parts : List Item) (v : Config) → PartsAre parts v → Within v
by_parts (a ∷ b ∷ c ∷ q ∷ l ∷ h ∷ n ∷ s ∷ k ∷ []) v rows = record {
  device = rows.ids.proper;
  quota_least = rows.quota_is.least;
  quota_most = rows.quota_is.most;
  params = rows.params.proper;
  seed = rows.seed_is.size;
  anchors = k;
  anchors_are = rows.anchors_are.are;
}
by_parts [] v rows = absurd rows
by_parts (a ∷ []) v rows = absurd rows
by_parts (a ∷ b ∷ []) v rows = absurd rows
by_parts (a ∷ b ∷ c ∷ []) v rows = absurd rows
by_parts (a ∷ b ∷ c ∷ q ∷ []) v rows = absurd rows
by_parts (a ∷ b ∷ c ∷ q ∷ l ∷ []) v rows = absurd rows
by_parts (a ∷ b ∷ c ∷ q ∷ l ∷ h ∷ []) v rows = absurd rows
by_parts (a ∷ b ∷ c ∷ q ∷ l ∷ h ∷ n ∷ []) v rows = absurd rows
by_parts (a ∷ b ∷ c ∷ q ∷ l ∷ h ∷ n ∷ s ∷ []) v rows = absurd rows
by_parts (a ∷ b ∷ c ∷ q ∷ l ∷ h ∷ n ∷ s ∷ k ∷ m ∷ more) v rows = absurd rows

pub within : (v : Config) (bytes : List ℕ) → ConfigIs v bytes → Within v
within v bytes is = by_parts is.config.0 v is.config.2

-- each role has 16 keys at most
pub few_managers : (v : Config) → IsConfig v → length v.anchors.manager ≤ 16
few_managers v is = let w = within v is.0 is.1 in omega (arith, zip_length Wraps v.anchors.manager w.anchors_are.managers w.anchors_are.manager, w.anchors_are.small.manager)

pub few_authors : (v : Config) → IsConfig v → length v.anchors.author ≤ 16
few_authors v is = let w = within v is.0 is.1 in omega (arith, zip_length Wraps v.anchors.author w.anchors_are.authors w.anchors_are.author, w.anchors_are.small.author)

nine : (a b c d e f g h k : List ℕ) → length (a ++ (b ++ (c ++ (d ++ (e ++ (f ++ (g ++ (h ++ (k ++ []))))))))) ≡ length a + length b + length c + length d + length e + length f + length g + length h + length k
nine a b c d e f g h k = simp length-append (omega arith)

parts_size : (v : Config) → Within v → length (spelling (written_config v)) ≤ 4600
parts_size v w =
    let anchors = written_anchors v.anchors in
    let parts = i.Bytes v.device.vendor ∷ i.Bytes v.device.class ∷ i.Bytes v.device.device ∷ i.Unsigned v.quota
    ∷ i.Unsigned v.params.levels ∷ i.Unsigned v.params.height ∷ i.Unsigned v.params.width ∷ i.Bytes v.key_seed ∷ anchors ∷ [] in
    let all = nine (spelling (i.Bytes v.device.vendor)) (spelling (i.Bytes v.device.class)) (spelling (i.Bytes v.device.device)) (spelling (i.Unsigned v.quota))
    (spelling (i.Unsigned v.params.levels)) (spelling (i.Unsigned v.params.height)) (spelling (i.Unsigned v.params.width)) (spelling (i.Bytes v.key_seed)) (spelling anchors) in
    omega (
      arith,
      array_size parts,
      all,
      string_size v.device.vendor,
      string_size v.device.class,
      string_size v.device.device,
      number_size v.quota,
      number_size v.params.levels,
      number_size v.params.height,
      number_size v.params.width,
      string_size v.key_seed,
      anchors_size v.anchors w.anchors w.anchors_are,
      w.device.vendor.most,
      w.device.class.most,
      w.device.device.most,
      w.seed,
    )

pub written_size : (v : Config) → IsConfig v → length (spelling (written_config v)) ≤ CONFIG_LIMIT
written_size v is = omega (arith, parts_size v (within v is.0 is.1))
