-- What changes outside a region leave, and a region of zeros.
use Rattle.std.proofs.Common.{◌≡◌, ℕ, suc, ◌+◌, ◌-◌, ◌<◌, ◌≤◌, ◌⊎◌, inl, inr, Bool, true, false, List, [], ◌∷◌, ◌++◌, length, take, drop, get_or, refl, sym, ◌∙◌, ap, subst, arith, take-append-drop}
use Rattle.std.specs.Prelude.{replicate}
use Rattle.std.proofs.lemmas.List.{get_or-take, get_or-drop, get_or-replicate, length-take-le}
use Rattle.std.proofs.Math.Seq.{drop-cons}
use Rattle.board_core.specs.Moments.{SameOutside}
use Rattle.board_core.proofs.Public.Ranges.{before_same, behind_byte}
use Rattle.journal_core.specs.declared.region.Region.{Region}
use Rattle.journal_core.specs.Region.{region_size, half_at, is_second, selected, HalfStands, RegionStands}
use Rattle.journal_core.specs.Kept.{Kept, IsWithin, Fits}
use Rattle.journal_core.specs.Laws.{IsElsewhere, StandsElsewhere, FitsElsewhere, ZerosAreEmpty}
use Rattle.journal_core.proofs.Scan.{half_inside, half_after}
use Rattle.journal_core.proofs.Halves.{stands_elsewhere}

-- the selector is as it was
selected_elsewhere : (region : Region) (at n : ℕ) (old new : List ℕ) → IsElsewhere region at n → SameOutside at n old new → selected region new ≡ selected region old
selected_elsewhere region at n old new (inl low) same = ap (λ (k : ℕ). is_second k) (behind_byte at n region.at 0 old new low same)
selected_elsewhere region at n old new (inr high) same = ap (λ (k : ℕ). is_second k) (before_same at n region.at 0 old new (omega (arith, high)) same)

-- a half within the region lies apart from the change
apart : (region : Region) (second : Bool) (at n used : ℕ) → IsElsewhere region at n → used ≤ region.half → (half_at region second + used ≤ at) ⊎ (at + n ≤ half_at region second)
apart region second at n used (inl low) fits = inr (omega (arith, low, half_after region second))
apart region second at n used (inr high) fits = inl (omega (arith, high, fits, half_inside region second))

pub stands_law : StandsElsewhere
stands_law region at n old new elsewhere same bodies stands =
    subst (λ (b : Bool). HalfStands (half_at region b) region.half new bodies) (sym (selected_elsewhere region at n old new elsewhere same))
    (stands_elsewhere (half_at region (selected region old)) region.half old bodies stands at n new same
    (apart region (selected region old) at n _ elsewhere stands.within))

pub fits_law : FitsElsewhere
fits_law journal at n old new elsewhere same bodies fits = record {
  selector = selected_elsewhere journal.region at n old new elsewhere same ∙ fits.selector;
  stands = stands_law journal.region at n old new elsewhere same bodies fits.stands;
  keeps = fits.keeps;
}

-- each byte of a region of zeros
zero_at : (at size i : ℕ) (image : List ℕ) → take size (drop at image) ≡ replicate size 0 → i < size → get_or image (at + i) 0 ≡ 0
zero_at at size i image zeros within =
    sym (get_or-drop at image i 0) ∙ sym (get_or-take size (drop at image) i 0 within) ∙ ap (λ (l : List ℕ). get_or l i 0) zeros ∙ get_or-replicate size i 0 0 within

pub zeros_law : ZerosAreEmpty
zeros_law region image within some zeros =
    let size : ℕ = region_size region in
    let first : region.at + 0 ≡ region.at = omega arith in
    let selector : selected region image ≡ false = ap (λ (k : ℕ). is_second k) (ap (λ (k : ℕ). get_or image k 0) (sym first) ∙ zero_at region.at size 0 image zeros (omega arith)) in
    let at : ℕ = region.at + 16 in
    let gate : get_or image at 0 ≡ 0 = zero_at region.at size 16 image zeros (omega (arith, some)) in
    let stands : HalfStands at region.half image [] = record {
      before = take at image;
      gate = get_or image at 0;
      behind = drop (suc at) image;
      whole = sym (take-append-drop at image) ∙ ap (λ (l : List ℕ). take at image ++ l) (drop-cons image at 0 (omega (arith, within, some)));
      place = length-take-le at image (omega (arith, within, some));
      shut = λ e. (let never : 0 ≡ 0xa5 = sym gate ∙ e in cc);
      within = omega (arith, some);
      sizes = tt;
    } in
    subst (λ (b : Bool). HalfStands (half_at region b) region.half image []) (sym selector) stands
