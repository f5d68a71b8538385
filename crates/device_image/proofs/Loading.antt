-- The steps of a load, put together.
use Rattle.std.proofs.Common.{◌≡◌, ◌≤◌, ℕ, List, Option, Some, None, Result, Ok, Err, refl, sym, ap, subst, ◌∙◌}
use Rattle.std.specs.Prelude.{IfOk}
use Rattle.base_types.specs.declared.limits.TheConstants.{QUOTA_LIMIT}
use Rattle.trust_anchors.specs.declared.anchors.Anchors.{Anchors}
use Rattle.journal_core.specs.declared.region.Region.{Region}
use Rattle.journal_core.specs.Region.{RegionStands}
use Rattle.journal_core.specs.Kept.{Kept, Fits, IsWithin}
use Rattle.device_config.specs.declared.config.Config.{Config}
use Rattle.device_config.specs.declared.fault.MountFault.{MountFault}
use Rattle.device_config.specs.declared.fault.MountFault.TheVariants.{BadImage, DiskFault, NoMemory}
use Rattle.device_config.specs.Config.{IsConfig}
use Rattle.device_config.specs.Image.{IsImage, journal_region}
use Rattle.device_config.specs.Loading.{Loaded}
use Rattle.device_config.proofs.Images.{one_image}
use Rattle.device_config.proofs.Sizes as sizes
use Rattle.device_state.specs.State.{State, new_state, with_anchors}
use Rattle.device_state.specs.Valid.{IsValid}
use Rattle.device_image.specs.declared.held.Held.{Held}
use Rattle.device_image.specs.Stands.{Leads, Stands}
use Rattle.device_image.specs.Held.{state_of, head_of, IsDevice, IsSafe, LoadedAs}
use Rattle.device_image.specs.Replay.{IsNew, FitsAlone, BegunAs, IsOf, FinishedAs}

-- a configuration is that of a device
pub is_device : (config : Config) → IsConfig config → IsDevice config
is_device config is = let parts = sizes.within config is.0 is.1 in record { ids = parts.device; quota = parts.quota_most; params = parts.params; seed = parts.seed }

-- its quota is within its limit
pub small_quota : (config : Config) → IsConfig config → config.quota ≤ QUOTA_LIMIT
small_quota config is = (is_device config is).quota

-- other anchors leave the quota
same_quota : (anchors : Option Anchors) (config : Config) → (with_anchors anchors config).quota ≡ config.quota
same_quota None config = refl
same_quota (Some anchors) config = refl

-- and what is the device's
same_device : (anchors : Option Anchors) (config : Config) → IsDevice (with_anchors anchors config) → IsDevice config
same_device None config is = is
same_device (Some anchors) config is = record { ids = is.ids; quota = is.quota; params = is.params; seed = is.seed }

-- the head of what is held for a new device is its configuration
new_head : (config : Config) (held : Held) → IsNew config held → head_of held ≡ config
new_head config held new = ap (λ (o : Option Anchors). with_anchors o held.config) new.first ∙ ap (λ (s : State). s.config) new.state

-- it is new as the head says
pub begun_new : (config : Config) (held : Held) → IsNew config held → state_of held ≡ new_state (head_of held)
begun_new config held new = new.state ∙ ap new_state (sym (new_head config held new))

pub begun_small : (config : Config) (held : Held) → IsNew config held → config.quota ≤ QUOTA_LIMIT → (head_of held).quota ≤ QUOTA_LIMIT
begun_small config held new small = subst (λ (c : Config). c.quota ≤ QUOTA_LIMIT) (sym (new_head config held new)) small

-- its quota stays
kept_quota : (config : Config) (held later : Held) → IsNew config held → IsOf held later → later.config.quota ≡ config.quota
kept_quota config held later new is_of = sym (same_quota later.first_anchors later.config) ∙ ap (λ (c : Config). c.quota) (is_of.head ∙ new_head config held new)

device_kept : (config : Config) (held later : Held) → IsNew config held → IsOf held later → IsDevice config → IsDevice later.config
device_kept config held later new is_of is = same_device later.first_anchors later.config (subst IsDevice (sym (is_of.head ∙ new_head config held new)) is)

-- what is safe whatever the board tells
pub finished_safe : (config : Config) (held : Held) (extent : ℕ) (r : Result Held MountFault) → IsNew config held → IsDevice config → IsWithin (journal_region config.quota) extent
    → IfOk r (λ last. IsValid (state_of last)) → IfOk r (IsOf held) → IfOk r (λ last. IsSafe last extent)
finished_safe config held extent (Ok last) new device within valid is_of =
    let region : last.journal.region ≡ journal_region config.quota = ap (λ (k : Kept). k.region) is_of.journal ∙ new.region in
    record {
      valid = valid;
      order = is_of.order;
      device = device_kept config held last new is_of device;
      region = region ∙ ap journal_region (sym (kept_quota config held last new is_of));
      within = subst (λ (r : Region). IsWithin r extent) (sym region) within;
    }
finished_safe config held extent (Err e) new device within valid is_of = tt

module _ (image : List ℕ) where
  pub config_refused : (e : MountFault) → Loaded image (Err e) → LoadedAs image (Err e)
  config_refused BadImage none = λ s stands. none stands.config stands.head
  config_refused DiskFault none = tt
  config_refused NoMemory none = tt

  module _ (config : Config) (is : IsImage config image) where
    -- the region of another state of the image is this one
    same_region : (s : State) (stands : Stands image s) → RegionStands (journal_region config.quota) image stands.bodies
    same_region s stands = subst (λ (c : Config). RegionStands (journal_region c.quota) image stands.bodies) (one_image image stands.config config stands.head is) stands.region

    pub begun_refused : (e : MountFault) → BegunAs config image (Err e) → LoadedAs image (Err e)
    begun_refused BadImage none = λ s stands. none stands.bodies (same_region s stands)
    begun_refused DiskFault none = tt
    begun_refused NoMemory none = tt

    module _ (held : Held) (new : IsNew config held) (begun : FitsAlone held.journal image) where
      -- another state of the image is led to by these bodies
      led_here : (s : State) → Stands image s → Leads config begun.bodies s
      led_here s stands =
          let here : RegionStands held.journal.region image stands.bodies = subst (λ (r : Region). RegionStands r image stands.bodies) (sym new.region) (same_region s stands) in
          let bodies_are : stands.bodies ≡ begun.bodies = begun.alone stands.bodies here in
          subst (λ (bs : List (List ℕ)). Leads config bs s) bodies_are (subst (λ (c : Config). Leads c stands.bodies s) (one_image image stands.config config stands.head is) stands.leads)

      pub finished_as : (r : Result Held MountFault) → FinishedAs (head_of held) begun.bodies r → IfOk r (IsOf held) → LoadedAs image r
      finished_as (Ok last) leads is_of = record {
        head = subst (λ (c : Config). IsImage c image) (sym (is_of.head ∙ new_head config held new)) is;
        bodies = begun.bodies;
        fits = subst (λ (k : Kept). Fits k image begun.bodies) (sym is_of.journal) begun.fits;
        leads = subst (λ (c : Config). Leads c begun.bodies (state_of last)) (sym is_of.head) leads;
      }
      finished_as (Err BadImage) none is_of = λ s stands. none s (subst (λ (c : Config). Leads c begun.bodies s) (sym (new_head config held new)) (led_here s stands)) stands.valid
      finished_as (Err DiskFault) none is_of = tt
      finished_as (Err NoMemory) none is_of = tt
