-- Bytes are one configuration at most, and the reader finds it.
use Rattle.std.proofs.Common.{◌≡◌, ◌≤◌, ℕ, List, [], ◌∷◌, length, Option, Some, Result, Ok, Err, ap, subst, ◌∙◌}
use Rattle.std.specs.Prelude.{IfOk}
use Rattle.cbor_core.specs.declared.item.Item.{Item}
use Rattle.cbor_core.specs.Spelling.{Spells}
use Rattle.cbor_core.proofs.Public.Whole.{one_for_one}
use Rattle.evidence.specs.declared.ids.DeviceIds.{DeviceIds}
use Rattle.hss_sign.specs.declared.params.KeyParams.{KeyParams}
use Rattle.trust_anchors.specs.declared.anchors.Anchors.{Anchors}
use Rattle.trust_anchors.specs.Anchors.{AnchorsIs}
use Rattle.trust_anchors.proofs.Public.OneAnchors.{one_set}
use Rattle.device_config.specs.declared.config.Config.{Config}
use Rattle.device_config.specs.declared.config.TheConstants.{CONFIG_LIMIT}
use Rattle.device_config.specs.declared.fault.ConfigFault.{ConfigFault}
use Rattle.device_config.specs.declared.fault.ConfigFault.TheVariants as faults
use Rattle.device_config.specs.Config.{IdsAre, ParamsAre, AnchorsAre, RowsAre, PartsAre, IsConfigItem, ConfigIs}
use Rattle.device_config.specs.Answers.{Answers, IsFound, fault_of}
use Rattle.trust_anchors.specs.declared.fault.AnchorFault.{AnchorFault}
use Rattle.trust_anchors.specs.declared.fault.AnchorFault.TheVariants as anchors
use Rattle.trust_anchors.specs.Anchors as Trusted

same_some : {A : Type 0} {o : Option A} {a b : A} → o ≡ Some a → o ≡ Some b → a ≡ b
same_some first second = cc

abbrev ids_of : List ℕ → List ℕ → List ℕ → DeviceIds
ids_of vendor class device = record { vendor = vendor; class = class; device = device }

one_ids : (x y z : Item) (a b : DeviceIds) → IdsAre x y z a → IdsAre x y z b → a ≡ b
one_ids x y z a b first second =
    ap (λ (l : List ℕ). ids_of l a.class a.device) (same_some first.vendor_is second.vendor_is)
    ∙ ap (λ (l : List ℕ). ids_of b.vendor l a.device) (same_some first.class_is second.class_is)
    ∙ ap (λ (l : List ℕ). ids_of b.vendor b.class l) (same_some first.device_is second.device_is)

abbrev params_of : ℕ → ℕ → ℕ → KeyParams
params_of levels height width = record { levels = levels; height = height; width = width }

one_params : (x y z : Item) (a b : KeyParams) → ParamsAre x y z a → ParamsAre x y z b → a ≡ b
one_params x y z a b first second =
    ap (λ (n : ℕ). params_of n a.height a.width) (same_some first.levels_is second.levels_is)
    ∙ ap (λ (n : ℕ). params_of b.levels n a.width) (same_some first.height_is second.height_is)
    ∙ ap (λ (n : ℕ). params_of b.levels b.height n) (same_some first.width_is second.width_is)

abbrev config_of : DeviceIds → ℕ → KeyParams → List ℕ → Anchors → Config
config_of device quota params seed anchors = record { device = device; quota = quota; params = params; key_seed = seed; anchors = anchors }

one_of_parts : (parts : List Item) (v w : Config) → PartsAre parts v → PartsAre parts w → v ≡ w
one_of_parts (a ∷ b ∷ c ∷ q ∷ l ∷ h ∷ n ∷ s ∷ k ∷ []) v w first second =
    ap (λ (d : DeviceIds). config_of d v.quota v.params v.key_seed v.anchors) (one_ids a b c v.device w.device first.ids second.ids)
    ∙ ap (λ (m : ℕ). config_of w.device m v.params v.key_seed v.anchors) (same_some first.quota_is.number second.quota_is.number)
    ∙ ap (λ (p : KeyParams). config_of w.device w.quota p v.key_seed v.anchors) (one_params l h n v.params w.params first.params second.params)
    ∙ ap (λ (t : List ℕ). config_of w.device w.quota w.params t v.anchors) (same_some first.seed_is.bytes second.seed_is.bytes)
    ∙ ap (λ (t : Anchors). config_of w.device w.quota w.params w.key_seed t) (one_set k v.anchors w.anchors first.anchors_are.are second.anchors_are.are)
one_of_parts [] v w first second = absurd first
one_of_parts (a ∷ []) v w first second = absurd first
one_of_parts (a ∷ b ∷ []) v w first second = absurd first
one_of_parts (a ∷ b ∷ c ∷ []) v w first second = absurd first
one_of_parts (a ∷ b ∷ c ∷ q ∷ []) v w first second = absurd first
one_of_parts (a ∷ b ∷ c ∷ q ∷ l ∷ []) v w first second = absurd first
one_of_parts (a ∷ b ∷ c ∷ q ∷ l ∷ h ∷ []) v w first second = absurd first
one_of_parts (a ∷ b ∷ c ∷ q ∷ l ∷ h ∷ n ∷ []) v w first second = absurd first
one_of_parts (a ∷ b ∷ c ∷ q ∷ l ∷ h ∷ n ∷ s ∷ []) v w first second = absurd first
one_of_parts (a ∷ b ∷ c ∷ q ∷ l ∷ h ∷ n ∷ s ∷ k ∷ m ∷ more) v w first second = absurd first

one_of_item : (x : Item) (v w : Config) → IsConfigItem x v → IsConfigItem x w → v ≡ w
one_of_item x v w first second =
    let same : second.0 ≡ first.0 = same_some second.1 first.1 in
    one_of_parts first.0 v w first.2 (subst (λ (l : List Item). PartsAre l w) same second.2)

-- a configuration of the bytes is one of the item that they spell
at_item : (bytes : List ℕ) (x : Item) (v : Config) → Spells x bytes → ConfigIs v bytes → IsConfigItem x v
at_item bytes x v spelled is = subst (λ (y : Item). IsConfigItem y v) (one_for_one.one_item is.item x bytes is.spelled spelled) is.config

-- bytes are one configuration at most
pub one_config : (bytes : List ℕ) (v w : Config) → ConfigIs v bytes → ConfigIs w bytes → v ≡ w
one_config bytes v w first second = one_of_item first.item v w first.config (at_item bytes first.item w first.spelled second)

pub found : (bytes : List ℕ) (x : Item) (r : Result Config ConfigFault) → Spells x bytes → length bytes ≤ CONFIG_LIMIT → Answers (IsConfigItem x) r → IfOk r (λ v. ConfigIs v bytes)
found bytes x (Ok v) spelled short h = record { item = x; spelled = spelled; config = h; short = short }
found bytes x (Err e) spelled short h = tt

pub only : (bytes : List ℕ) (x : Item) (r : Result Config ConfigFault) → Spells x bytes → Answers (IsConfigItem x) r → (v : Config) → ConfigIs v bytes → IsFound r v
only bytes x (Ok w) spelled h v is = one_of_item x w v h (at_item bytes x v spelled is)
only bytes x (Err faults.BadConfig) spelled h v is = h v (at_item bytes x v spelled is)
only bytes x (Err faults.NoMemory) spelled h v is = tt

-- what is refused as anchors is refused here
pub anchors_refused : (x : Item) (e : AnchorFault) → ((v : Anchors) → AnchorsIs v x → Trusted.IsFound (Err e) v) → Answers (AnchorsAre x) (Err (fault_of e))
anchors_refused x anchors.Shape h = λ v is. h v is.are
anchors_refused x (anchors.TooMany r) h = λ v is. h v is.are
anchors_refused x (anchors.BadKey r at) h = λ v is. h v is.are
anchors_refused x anchors.NoMemory h = tt

pub rows_refused : (a b c q l h n s k : Item) (e : ConfigFault) → Answers (AnchorsAre k) (Err e) → Answers (RowsAre a b c q l h n s k) (Err e)
rows_refused a b c q l h n s k faults.BadConfig none = λ v rows. none v.anchors rows.anchors_are
rows_refused a b c q l h n s k faults.NoMemory none = tt
