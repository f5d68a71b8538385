-- Loops that look at one element after the other.
use Rattle.std.proofs.Common.{◌≡◌, ℕ, suc, ◌+◌, ◌<◌, List, ◌∷◌, length, drop, get_or, ◌↔◌, sym, ap, subst, ◌∙◌, arith}
use Rattle.std.specs.List.{AllByRecursion}
use Rattle.std.proofs.Math.Seq.{drop-cons}

-- what is left from a place on begins with the element at it
pub one_at : {A : Type 0} (xs : List A) (k : ℕ) (x d : A) → k < length xs → x ≡ get_or xs k d → drop k xs ≡ x ∷ drop (k + 1) xs
one_at {A} xs k x d lt is = let next : k + 1 ≡ suc k = omega arith in rw next (drop-cons xs k d lt ∙ ap (λ (y : A). y ∷ drop (suc k) xs) (sym is))

-- one element more is such
pub all_goes_on : {A : Type 0} (P : A → Type 0) (xs : List A) (k : ℕ) (x d : A) → k < length xs → x ≡ get_or xs k d → P x
    → (AllByRecursion P (drop k xs) ↔ AllByRecursion P xs) → AllByRecursion P (drop (k + 1) xs) ↔ AllByRecursion P xs
all_goes_on {A} P xs k x d lt is here so_far =
    let next : drop k xs ≡ x ∷ drop (k + 1) xs = one_at xs k x d lt is in (
      λ more. so_far.0 (subst (AllByRecursion P) (sym next) (here, more)),
      λ all. (subst (AllByRecursion P) next (so_far.1 all)).1,
    )
