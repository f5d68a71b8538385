-- What the journal leaves of a commit, as states for which the image stands.
use Rattle.std.proofs.Common.{◌≡◌, ◌≤◌, ℕ, List, ◌++◌, take, Option, Some, None, refl, sym, ◌∙◌, ap, subst, inl, inr}
use Rattle.board_core.specs.Contents.{View}
use Rattle.board_core.specs.Moments.{SameOutside, Passes, OldOrNew}
use Rattle.board_core.proofs.Public.Chaining.{widened}
use Rattle.journal_core.specs.Region.{region_size, Leaves}
use Rattle.journal_core.specs.declared.region.Region.{Region}
use Rattle.journal_core.specs.Kept.{Kept, IsWithin}
use Rattle.journal_core.specs.Outcome.{Makes, StoresWithin}
use Rattle.trust_anchors.specs.declared.anchors.Anchors.{Anchors}
use Rattle.device_config.specs.declared.config.Config.{Config}
use Rattle.device_config.specs.Image.{IsImage, journal_region}
use Rattle.device_config.proofs.Images.{kept_image}
use Rattle.device_state.specs.declared.change.Change.{Change}
use Rattle.device_state.specs.State.{State, changed, with_anchors}
use Rattle.device_state.specs.Law.{AreInOrder}
use Rattle.device_state.specs.Valid.{IsValid}
use Rattle.device_image.specs.declared.held.Held.{Held}
use Rattle.device_image.specs.Held.{Holds, IsDevice, IsSafe, state_of, head_of}
use Rattle.device_image.specs.Stands.{Leads, Stands}
use Rattle.device_image.proofs.Leading.{more_leads}
use Rattle.component_store.specs.declared.prepared.Framing.{Framing}
use Rattle.component_store.specs.declared.prepared.Framing.TheVariants.{Append, Replace}
use Rattle.component_store.specs.declared.prepared.Prepared.{Prepared}
use Rattle.component_store.specs.Preparing.{IsFramed, IsReady, list_behind}
use Rattle.component_store.specs.StoreLaws.{stands_for}

module _ (held : Held) (size : ℕ) (safe : IsSafe held size) where
  -- a change within the region leaves the head
  pub head_kept : (old new : List ℕ) → IsImage (head_of held) old → SameOutside held.journal.region.at (region_size held.journal.region) old new → IsImage (head_of held) new
  head_kept old new is same =
      let at : held.journal.region.at ≡ 65536 = ap (λ r. r.at) safe.region in
      kept_image (head_of held) old new is same.length_kept (subst (λ (n : ℕ). take n new ≡ take n old) at same.before)

  -- at each moment the image stands for the state before or for the one behind
  pub commit_moments : (old new : View) (bodies becomes : List (List ℕ)) (s : State) → IsImage (head_of held) old.now.disk.bytes
      → Leads (head_of held) bodies (state_of held) → Leads (head_of held) becomes s → IsValid s
      → Passes old new (Leaves held.journal.region bodies becomes old) → Passes old new (OldOrNew Stands (state_of held) s old)
  commit_moments old new bodies becomes s head before behind valid moments = widened moments (λ sent image leaves.
      (let kept = head_kept old.now.disk.bytes image head leaves.outside in (
        leaves.sent_same,
        elim leaves.either [
          | inl stands ↦ inl (stands_for held size image bodies (state_of held) safe kept stands before safe.valid)
          | inr stands ↦ inr (stands_for held size image becomes s safe kept stands behind valid)
        ],
      )))

-- the bodies behind the commit lead to the changed state
pub behind_leads : (held : Held) (change : Change) (framing : Framing) (bodies : List (List ℕ)) → IsFramed held change framing → held.leaf ≤ change.leaf
    → Leads (head_of held) bodies (state_of held) → Leads (head_of held) (list_behind framing bodies) (changed change (state_of held))
behind_leads held change (Append framed) bodies (body, is, change_is) leaf leads =
    subst (λ (l : List (List ℕ)). Leads (head_of held) (bodies ++ l) (changed change (state_of held))) (sym is) (more_leads (head_of held) bodies (state_of held) change body leads change_is leaf)
behind_leads held change (Replace framed) bodies is leaf leads = is

-- what is held behind the commit
pub holds_behind : (held new : Held) (size : ℕ) (p : Prepared) (journal : Kept) (most : ℕ) (old behind : View) → IsSafe held size → IsReady (record { held = held; size = size }) p
    → state_of new ≡ changed p.change (state_of held) → head_of new ≡ head_of held → new.journal ≡ journal
    → Makes (list_behind p.framing) held.journal journal old behind → StoresWithin held.journal.region most old behind → Holds held old.now.disk.bytes → Holds new behind.now.disk.bytes
holds_behind held new size p journal most old behind safe ready state head same makes stores holds = record {
  head = rw head (head_kept held size safe old.now.disk.bytes behind.now.disk.bytes holds.head stores.changes.outside);
  bodies = list_behind p.framing holds.bodies;
  fits = rw same (makes.fits holds.bodies holds.fits);
  leads = rw (head, state) (behind_leads held p.change p.framing holds.bodies ready.framed.framed ready.leaf holds.leads);
}

-- and each moment of it
pub ready_moments : (held : Held) (size : ℕ) (p : Prepared) (old behind : View) → IsSafe held size → IsReady (record { held = held; size = size }) p → (holds : Holds held old.now.disk.bytes)
    → Passes old behind (Leaves held.journal.region holds.bodies (list_behind p.framing holds.bodies) old) → Passes old behind (OldOrNew Stands (state_of held) (changed p.change (state_of held)) old)
ready_moments held size p old behind safe ready holds moments =
    commit_moments held size safe old behind holds.bodies (list_behind p.framing holds.bodies) (changed p.change (state_of held)) holds.head holds.leads
    (behind_leads held p.change p.framing holds.bodies ready.framed.framed ready.leaf holds.leads) ready.valid moments

-- other anchors leave what is the device's
device_behind : (anchors : Option Anchors) (config : Config) → IsDevice config → IsDevice (with_anchors anchors config)
device_behind None config is = is
device_behind (Some anchors) config is = record { ids = is.ids; quota = is.quota; params = is.params; seed = is.seed }

same_quota : (anchors : Option Anchors) (config : Config) → (with_anchors anchors config).quota ≡ config.quota
same_quota None config = refl
same_quota (Some anchors) config = refl

-- the configuration behind a change is that of a device
device_changed : (held new : Held) (change : Change) → IsDevice held.config → state_of new ≡ changed change (state_of held) → IsDevice new.config
device_changed held new change is state = subst IsDevice (sym (ap (λ (s : State). s.config) state)) (device_behind change.anchors held.config is)

-- what is held behind a change may be worked on
pub safe_behind : (held new : Held) (size : ℕ) (change : Change) → IsSafe held size → IsValid (changed change (state_of held)) → state_of new ≡ changed change (state_of held)
    → AreInOrder new.rows.items → new.journal.region ≡ held.journal.region → IsSafe new size
safe_behind held new size change safe valid state order region = record {
  valid = subst IsValid (sym state) valid;
  order = order;
  device = device_changed held new change safe.device state;
  region = region ∙ safe.region ∙ ap journal_region (sym (ap (λ (s : State). s.config.quota) state ∙ same_quota change.anchors held.config));
  within = subst (λ (r : Region). IsWithin r size) (sym region) safe.within;
}
