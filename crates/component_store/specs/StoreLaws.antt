-- The image of a store stands for its state.
use Rattle.std.proofs.Common.{◌≡◌, ℕ, List, Option, Some, None, refl, sym, subst}
use Rattle.trust_anchors.specs.declared.anchors.Anchors.{Anchors}
use Rattle.journal_core.specs.declared.region.Region.{Region}
use Rattle.journal_core.specs.Region.{RegionStands}
use Rattle.device_config.specs.declared.config.Config.{Config}
use Rattle.device_config.specs.Image.{IsImage, journal_region}
use Rattle.device_state.specs.State.{State, with_anchors}
use Rattle.device_state.specs.Valid.{IsValid}
use Rattle.device_image.specs.declared.held.Held.{Held}
use Rattle.device_image.specs.Held.{Holds, IsSafe, state_of, head_of}
use Rattle.device_image.specs.Stands.{Leads, Stands}
use Rattle.component_store.specs.declared.any.AnyStore.{AnyStore}
use Rattle.component_store.specs.declared.any.AnyStore.TheVariants as stores
use Rattle.component_store.specs.Keeping.{Log, Keeps}
use Rattle.component_store.specs.Stores as any

-- the head has the quota of the present
quota_same : (o : Option Anchors) (config : Config) → (with_anchors o config).quota ≡ config.quota
quota_same None config = refl
quota_same (Some anchors) config = refl

-- of what is held too
pub head_quota : (held : Held) → (head_of held).quota ≡ held.config.quota
head_quota held = quota_same held.first_anchors held.config

-- a region that stands for bodies is that of the head
pub head_region : (held : Held) (size : ℕ) (image : List ℕ) (bodies : List (List ℕ)) → IsSafe held size → RegionStands held.journal.region image bodies → RegionStands (journal_region (head_of held).quota) image bodies
head_region held size image bodies safe stands =
    subst (λ (q : ℕ). RegionStands (journal_region q) image bodies) (sym (head_quota held)) (subst (λ (r : Region). RegionStands r image bodies) safe.region stands)

-- an image with the head of what is held, whose bodies lead to a valid state, stands for that
pub stands_for : (held : Held) (size : ℕ) (image : List ℕ) (bodies : List (List ℕ)) (s : State) → IsSafe held size → IsImage (head_of held) image → RegionStands held.journal.region image bodies
    → Leads (head_of held) bodies s → IsValid s → Stands image s
stands_for held size image bodies s safe head region leads valid = record {
  config = head_of held;
  head = head;
  bodies = bodies;
  region = head_region held size image bodies safe region;
  leads = leads;
  valid = valid;
}

-- the image that is held stands for the state
pub held_stands : (held : Held) (size : ℕ) (image : List ℕ) → IsSafe held size → Holds held image → Stands image (state_of held)
held_stands held size image safe holds = stands_for held size image holds.bodies (state_of held) safe holds.head holds.fits.stands holds.leads safe.valid

-- so does that of a store in memory
pub log_stands : (log : Log) (image : List ℕ) → Keeps log image → Stands image (state_of log.held)
log_stands log image keeps = held_stands log.held log.size image keeps.safe keeps.holds

-- and that of a store of any layout
pub any_stands : (store : AnyStore) (image : List ℕ) → any.keeps store image → Stands image (any.state store)
any_stands (stores.Log log) image keeps = log_stands log image keeps
