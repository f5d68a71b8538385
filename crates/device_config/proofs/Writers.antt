-- What is written for a configuration is proper, and is that configuration.
use Rattle.std.proofs.Common.{◌≤◌, ℕ, List, [], ◌∷◌, length, Result, Ok, Err, refl, sym, subst}
use Rattle.std.specs.Prelude.{IfOk}
use Rattle.base_types.specs.declared.memory.NoMemory.{NoMemory}
use Rattle.cbor_core.specs.declared.item.Item.{Item}
use Rattle.cbor_core.specs.declared.item.Item.TheVariants as i
use Rattle.cbor_core.specs.Spelling.{Spells, IsProper, spelling}
use Rattle.cbor_core.proofs.Public.Proper.{number_proper, string_proper, array_proper}
use Rattle.trust_anchors.specs.Anchors.{AnchorsIs, written_anchors}
use Rattle.trust_anchors.proofs.Public.Written.{anchors_proper}
use Rattle.device_config.specs.declared.config.Config.{Config}
use Rattle.device_config.specs.declared.config.TheConstants.{CONFIG_LIMIT}
use Rattle.device_config.specs.Config.{ConfigIs, IsConfig, IsConfigItem}
use Rattle.device_config.specs.Written.{written_config}
use Rattle.device_config.proofs.Sizes.{Within, within, written_size}

abbrev parts_of : Config → List Item
parts_of v = i.Bytes v.device.vendor ∷ i.Bytes v.device.class ∷ i.Bytes v.device.device ∷ i.Unsigned v.quota
    ∷ i.Unsigned v.params.levels ∷ i.Unsigned v.params.height ∷ i.Unsigned v.params.width ∷ i.Bytes v.key_seed ∷ written_anchors v.anchors ∷ []

pub config_proper : (v : Config) → IsProper (written_config v)
config_proper v = array_proper 15 (parts_of v) (
  string_proper 15 v.device.vendor,
  (
    string_proper 15 v.device.class,
    (
      string_proper 15 v.device.device,
      (
        number_proper 15 v.quota,
        (number_proper 15 v.params.levels, (number_proper 15 v.params.height, (number_proper 15 v.params.width, (string_proper 15 v.key_seed, (anchors_proper 13 v.anchors, tt))))),
      ),
    ),
  ),
)

-- the parts, as they are read
written_is : (v : Config) (w : Within v) → AnchorsIs v.anchors (written_anchors v.anchors) → IsConfigItem (written_config v) v
written_is v w anchors = (
  parts_of v,
  rw (i.outs-Array) refl,
  record {
    ids = record { vendor_is = rw (i.outs-Bytes) refl; class_is = rw (i.outs-Bytes) refl; device_is = rw (i.outs-Bytes) refl; proper = w.device };
    quota_is = record { number = rw (i.outs-Unsigned) refl; least = w.quota_least; most = w.quota_most };
    params = record { levels_is = rw (i.outs-Unsigned) refl; height_is = rw (i.outs-Unsigned) refl; width_is = rw (i.outs-Unsigned) refl; proper = w.params };
    seed_is = record { bytes = rw (i.outs-Bytes) refl; size = w.seed };
    anchors_are = record { are = anchors };
  },
)

pub written : (v : Config) (r : Result (List ℕ) NoMemory) → IsConfig v → AnchorsIs v.anchors (written_anchors v.anchors) → IfOk r (λ bytes. Spells (written_config v) bytes) → IfOk r (ConfigIs v)
written v (Ok bytes) is anchors spelled = record {
  item = written_config v;
  spelled = spelled;
  config = written_is v (within v is.0 is.1) anchors;
  short = subst (λ (l : List ℕ). length l ≤ CONFIG_LIMIT) (sym spelled.spelled) (written_size v is);
}
written v (Err e) is anchors spelled = tt
