-- What a loop keeps that asks the store for one image after the other.
use Rattle.std.proofs.Common.{◌≡◌, ℕ, ◌+◌, ◌<◌, List, [], ◌∷◌, ◌++◌, length, take, get_or, append_assoc, Ok, Err, sym, ap, subst, ◌∙◌}
use Rattle.std.specs.List.{flat_map}
use Rattle.std.proofs.lemmas.List.{take_more, flat_map_more}
use Rattle.board_core.specs.Contents.{View}
use Rattle.device_reports.specs.Looking.{Looks}
use Rattle.device_reports.proofs.Looks.{behind, went_well, no_look, image_stays}

-- nothing failed, and where the contents are told and kept, this is so by now
pub record Goes (told kept so : Type 0) (old now : View) : Type 0 where
  pub looks : Looks told ⊥ old now
  pub so_far : told → kept → so

-- a call that worked did not fail
pub not_failed : {T E : Type 0} {x : T} {e : E} → Ok x ≡ Err e → ⊥
not_failed wrong = cc

-- one call more, that worked
pub goes_on : {told F so next : Type 0} (K : List ℕ → Type 0) {old mid new : View} → Goes told (K old.now.disk.bytes) so old mid → Looks told F mid new → (F → ⊥)
    → (told → K mid.now.disk.bytes → so → next) → Goes told (K old.now.disk.bytes) next old new
goes_on K goes l other then = record {
  looks = behind goes.looks (went_well other l);
  so_far = λ t kept. then t (subst K (sym (image_stays goes.looks t)) kept) (goes.so_far t kept);
}

-- no call yet
pub goes_from : {told kept so : Type 0} (board : View) → so → Goes told kept so board board
goes_from {told} board so = record { looks = no_look told board; so_far = λ t kept. so }

-- a piece more behind a text
pub piece_more : {X : Type 0} (f : X → List ℕ) (xs : List X) (i : ℕ) (x : X) (first front mid new : List ℕ) → i < length xs → x ≡ get_or xs i x
    → mid ≡ first ++ (front ++ flat_map f (take i xs)) → new ≡ mid ++ f x → new ≡ first ++ (front ++ flat_map f (take (i + 1) xs))
piece_more f xs i x first front mid new within is so next =
    next ∙ ap (λ (t : List ℕ). t ++ f x) so ∙ append_assoc first (front ++ flat_map f (take i xs)) (f x)
    ∙ ap (λ (t : List ℕ). first ++ t) (flat_map_more f front (take i xs) x ∙ ap (λ ys. front ++ flat_map f ys) (ap (λ y. take i xs ++ y ∷ []) is ∙ sym (take_more xs i x within)))
