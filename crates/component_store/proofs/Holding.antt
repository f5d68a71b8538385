-- What holds of an image holds where room was reserved, and for the state where what is held may be worked on.
use Rattle.std.proofs.Common.{◌≤◌, ℕ, List, sym, ap, subst, ◌∙◌}
use Rattle.journal_core.specs.declared.region.Region.{Region}
use Rattle.journal_core.specs.Kept.{Kept, Fits, IsWithin, SameBut}
use Rattle.device_config.specs.Image.{journal_region}
use Rattle.device_state.specs.State.{State}
use Rattle.device_state.specs.Law.{AreInOrder}
use Rattle.device_state.specs.Valid.{IsValid}
use Rattle.device_image.specs.Held.{Holds, IsDevice, IsSafe}
use Rattle.component_store.specs.Keeping.{Log, IsSameLog, Keeps}

-- a journal with other room keeps the same bodies
pub fits_same : (a b : Kept) (image : List ℕ) (bodies : List (List ℕ)) → SameBut a b → Fits a image bodies → Fits b image bodies
fits_same a b image bodies same fits = record {
  selector = rw (same.region, same.second) fits.selector;
  stands = rw same.region fits.stands;
  keeps = record { places = rw (same.places, same.region, same.second) fits.keeps.places; used = rw same.used fits.keeps.used };
}

pub holds_same : (a b : Log) (image : List ℕ) → IsSameLog a b → Holds a.held image → Holds b.held image
holds_same a b image same holds = record {
  head = rw same.head holds.head;
  bodies = holds.bodies;
  fits = fits_same a.held.journal b.held.journal image holds.bodies same.journal holds.fits;
  leads = rw (same.head, same.state) holds.leads;
}

-- what is safe stays so where room was reserved
pub safe_same : (a b : Log) → IsSameLog a b → IsSafe a.held a.size → IsSafe b.held b.size
safe_same a b same safe = record {
  valid = subst IsValid (sym same.state) safe.valid;
  order = subst AreInOrder (sym (ap (λ (s : State). s.rows) same.state)) safe.order;
  device = subst IsDevice (sym (ap (λ (s : State). s.config) same.state)) safe.device;
  region = same.journal.region ∙ safe.region ∙ ap (λ (s : State). journal_region s.config.quota) (sym same.state);
  within = subst (λ (n : ℕ). IsWithin b.held.journal.region n) (sym same.size) (subst (λ (r : Region). IsWithin r a.size) (sym same.journal.region) safe.within);
}

pub keeps_same : (a b : Log) (image : List ℕ) → IsSameLog a b → Keeps a image → Keeps b image
keeps_same a b image same keeps = record { safe = safe_same a b same keeps.safe; holds = holds_same a b image same keeps.holds }
