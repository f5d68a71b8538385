-- What lies at the places that a journal keeps.
use Rattle.std.proofs.Common.{◌≡◌, ℕ, ◌+◌, List, [], ◌∷◌, ◌++◌, zero, suc, Some, length, take, drop, refl, sym, ◌∙◌, ap, subst, arith, append_assoc, length-append}
use Rattle.std.proofs.lemmas.List.{take_at, drop_at}
use Rattle.std.specs.List.{slice_get}
use Rattle.journal_core.specs.declared.place.Place.{Place}
use Rattle.journal_core.specs.Frames.{frame, frames}
use Rattle.journal_core.specs.Place.{places_from}
use Rattle.journal_core.specs.Region.{half_at}
use Rattle.journal_core.specs.Kept.{Kept, Fits, IsBodyAt}
use Rattle.journal_core.proofs.Unframing.{opening, length-opening, length-frame, behind_frame}

-- the first of some bodies lies behind its opening
first_at : (body more before : List ℕ) (bodies : List (List ℕ)) (at : ℕ) → length before ≡ at → IsBodyAt 0 (at + 5) (length body) (before ++ (frames (body ∷ bodies) ++ more)) (body ∷ bodies)
first_at body more before bodies at place =
    let rest : List ℕ = frames bodies ++ more in
    let front : List ℕ = before ++ opening (length body) in
    let long : length front ≡ at + 5 = omega (arith, length-append before (opening (length body)), length-opening (length body), place) in
    let image : before ++ (frames (body ∷ bodies) ++ more) ≡ front ++ (body ++ rest) = ap (λ (l : List ℕ). before ++ l) (behind_frame body bodies more) ∙ sym (append_assoc before (opening (length body)) (body ++ rest)) in
    record {
      within = omega (arith, ap length image, length-append front (body ++ rest), length-append body rest, long);
      body = ap (λ (l : List ℕ). Some l) (sym (ap (λ (l : List ℕ). take (length body) (drop (at + 5) l)) image ∙ ap (λ (l : List ℕ). take (length body) l) (drop_at front (body ++ rest) (at + 5) long)
          ∙ take_at body rest (length body) refl));
    }

-- each body lies at its place, where the bodies are framed from an offset on
body_at : (bodies : List (List ℕ)) (before more : List ℕ) (at index : ℕ) (p : Place) → length before ≡ at → slice_get (places_from at bodies) index ≡ Some p
    → IsBodyAt index p.at p.length (before ++ (frames bodies ++ more)) bodies
body_at [] before more at index p place is = cc
body_at (body ∷ bodies) before more at zero p place is =
    let q : Place = record { at = at + 5; length = length body } in
    let same : q ≡ p = cc in
    subst (λ (r : Place). IsBodyAt 0 r.at r.length (before ++ (frames (body ∷ bodies) ++ more)) (body ∷ bodies)) same (first_at body more before bodies at place)
body_at (body ∷ bodies) before more at (suc index) p place is =
    let long : length (before ++ frame body) ≡ at + 5 + length body = omega (arith, length-append before (frame body), length-frame body, place) in
    let inner = body_at bodies (before ++ frame body) more (at + 5 + length body) index p long is in
    let image : (before ++ frame body) ++ (frames bodies ++ more) ≡ before ++ (frames (body ∷ bodies) ++ more) =
    append_assoc before (frame body) (frames bodies ++ more) ∙ ap (λ (l : List ℕ). before ++ l) (sym (append_assoc (frame body) (frames bodies) more)) in
    record {
      within = omega (arith, inner.within, ap length image);
      body = inner.body ∙ ap (λ (l : List ℕ). Some (take p.length (drop p.at l))) image;
    }

pub fits_at : (journal : Kept) (index : ℕ) (p : Place) → slice_get journal.places index ≡ Some p → (image : List ℕ) (bodies : List (List ℕ)) → Fits journal image bodies → IsBodyAt index p.at p.length image bodies
fits_at journal index p is image bodies fits =
    let s = fits.stands in
    subst (λ (l : List ℕ). IsBodyAt index p.at p.length l bodies) (sym s.whole)
    (body_at bodies s.before (s.gate ∷ s.behind) (half_at journal.region journal.second) index p (s.place ∙ ap (λ second. half_at journal.region second) fits.selector)
    (sym (ap (λ (l : List Place). slice_get l index) fits.keeps.places) ∙ is))

length-places_from : (at : ℕ) (bodies : List (List ℕ)) → length (places_from at bodies) ≡ length bodies
length-places_from at [] = refl
length-places_from at (body ∷ bodies) = ap (λ (n : ℕ). suc n) (length-places_from (at + 5 + length body) bodies)

pub fits_count : (journal : Kept) (image : List ℕ) (bodies : List (List ℕ)) → Fits journal image bodies → length journal.places ≡ length bodies
fits_count journal image bodies fits = ap length fits.keeps.places ∙ length-places_from (half_at journal.region journal.second) bodies
