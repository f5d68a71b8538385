-- Which states images stand for.
use Rattle.std.proofs.Common.{◌≡◌, ◌≤◌, ◌<◌, ◌+◌, ℕ, List, [], ◌++◌, inl, inr, Ok, Err, length, take, refl, sym, ap, subst, ◌∙◌, arith}
use Rattle.std.proofs.lemmas.List.{length-append, length-take}
use Rattle.journal_core.specs.declared.region.Region.{Region}
use Rattle.journal_core.specs.Region.{RegionStands, region_size}
use Rattle.journal_core.specs.Kept.{Kept, IsWithin}
use Rattle.journal_core.specs.Outcome.{Mounts, StandsForNone}
use Rattle.journal_core.specs.Laws.{OneList}
use Rattle.device_config.specs.declared.config.Config.{Config}
use Rattle.device_config.specs.declared.fault.MountFault.{MountFault}
use Rattle.device_config.specs.declared.fault.MountFault.TheVariants.{BadImage, DiskFault, NoMemory}
use Rattle.device_config.specs.Config.{IsConfig}
use Rattle.device_config.specs.Image.{IsImage, head_bytes, journal_region}
use Rattle.device_config.proofs.Images.{one_image, at_front, new_image, empty_journal}
use Rattle.device_config.proofs.Sizes.{few_managers, few_authors}
use Rattle.device_state.specs.State.{State, new_state}
use Rattle.device_image.specs.Stands.{Leads, Stands}
use Rattle.device_image.specs.Law.{OneState, NewImagesStand}
use Rattle.device_image.specs.Replay.{FitsAlone, MountedAs, BegunAs}
use Rattle.device_image.proofs.Leading.{none_leads, one_led}

-- a front of so many bytes, with more behind it, has so many
front_size : (n : ℕ) (image front behind : List ℕ) → take n image ≡ front → image ≡ front ++ behind → 0 < length behind → length front ≡ n
front_size n image front behind first all some = omega (arith, ap length first, length-take n image, ap length all, length-append front behind)

-- the journal of an image lies within it
pub journal_within : (image : List ℕ) (config : Config) → IsImage config image → IsWithin (journal_region config.quota) (length image)
journal_within image config is =
    let size : length (head_bytes is.config) ≡ 65536 = front_size 65536 image (head_bytes is.config) is.region (at_front image config is) is.spelled (omega (arith, is.room)) in
    omega (arith, size, is.room, ap length is.spelled, length-append (head_bytes is.config) is.region)

-- a region within an image stands for one list at most
pub one_of_region : OneList → (region : Region) (image : List ℕ) → IsWithin region (length image) → (a b : List (List ℕ)) → RegionStands region image a → RegionStands region image b → a ≡ b
one_of_region lists region image within a b first second = elim (lists region image within) [
  | inl one ↦ one.alone a first ∙ sym (one.alone b second)
  | inr none ↦ absurd (none.none a first)
]

-- a mounted journal keeps the only list of its region
pub mounted_alone : OneList → (region : Region) (image : List ℕ) (journal : Kept) → IsWithin region (length image) → Mounts region image (Ok journal) → FitsAlone journal image
mounted_alone lists region image journal within mounts =
    let here : IsWithin journal.region (length image) = subst (λ (r : Region). IsWithin r (length image)) (sym mounts.0) within in
    record {
      bodies = mounts.1.0;
      fits = mounts.1.1;
      alone = λ others stands. one_of_region lists journal.region image here others mounts.1.0 stands mounts.1.1.stands;
    }

-- no journal of the region of a configuration, for a new device of this
pub begin_refused : (config : Config) (region : Region) (image : List ℕ) (e : MountFault) → region ≡ journal_region config.quota → MountedAs region image (Err e) → BegunAs config image (Err e)
begin_refused config region image BadImage is none = subst (λ (r : Region). StandsForNone r image) is none
begin_refused config region image DiskFault is none = tt
begin_refused config region image NoMemory is none = tt

-- the bodies of another state of the image are these
pub same_bodies : OneList → (image : List ℕ) (config : Config) (bodies : List (List ℕ)) (s : State) → IsImage config image → RegionStands (journal_region config.quota) image bodies
    → Stands image s → Leads config bodies s
same_bodies lists image config bodies s head region stands =
    let same : stands.config ≡ config = one_image image stands.config config stands.head head in
    let here : RegionStands (journal_region config.quota) image stands.bodies = subst (λ (c : Config). RegionStands (journal_region c.quota) image stands.bodies) same stands.region in
    let bodies_are : stands.bodies ≡ bodies = one_of_region lists (journal_region config.quota) image (journal_within image config head) stands.bodies bodies here region in
    subst (λ (bs : List (List ℕ)). Leads config bs s) bodies_are (subst (λ (c : Config). Leads c stands.bodies s) same stands.leads)

pub one_state : OneList → OneState
one_state lists image a b first second =
    one_led first.config first.bodies a b first.leads (same_bodies lists image first.config first.bodies b first.head first.region second)

pub new_images_stand : NewImagesStand
new_images_stand config image new =
    let is : IsConfig config = (new.config, new.is) in
    record {
      config = config;
      head = new_image config image new;
      bodies = [];
      region = empty_journal config image new;
      leads = none_leads config;
      valid = record {
        sound = record {
          leaf = omega arith;
          rows = tt;
          one_owner = λ i j d less within. absurd (omega (arith, within));
          anchors = record { manager = few_managers config is; author = few_authors config is };
        };
        light = omega arith;
      };
    }
