-- Of lists without doubles that are joined, an element stands in one alone.
use Rattle.std.proofs.Common.{◌≡◌, ℕ, Bool, true, false, List, [], ◌∷◌, ◌++◌, refl, subst, ◌∙◌, inl, inr}
use Rattle.std.specs.List.{list_any, AllByRecursion, IsDistinct}
use Rattle.std.specs.Cmp.Lexicographic.{nat_list_eq_equiv, bytes_decides}
use Rattle.std.proofs.lemmas.Bool.{or_cases, or_from}
use Rattle.wave_core.specs.Ledger.{same_bytes}

-- whether bytes stand among some
abbrev pub among : List ℕ → List (List ℕ) → Bool
among x xs = list_any (λ y. same_bytes y x) xs

pub same : (xs ys : List ℕ) → same_bytes xs ys ≡ true → xs ≡ ys
same xs ys is = (bytes_decides xs ys).0 is

pub flips : (xs ys : List ℕ) → same_bytes xs ys ≡ same_bytes ys xs
flips xs ys = nat_list_eq_equiv.symm xs ys

all_left : (P : List ℕ → Type 0) (xs ys : List (List ℕ)) → AllByRecursion P (xs ++ ys) → AllByRecursion P xs
all_left P [] ys all = tt
all_left P (x ∷ xs) ys all = (all.0, all_left P xs ys all.1)

all_right : (P : List ℕ → Type 0) (xs ys : List (List ℕ)) → AllByRecursion P (xs ++ ys) → AllByRecursion P ys
all_right P [] ys all = all
all_right P (x ∷ xs) ys all = all_right P xs ys all.1

pub left : (xs ys : List (List ℕ)) → IsDistinct same_bytes (xs ++ ys) → IsDistinct same_bytes xs
unfolding IsDistinct
left [] ys apart = tt
left (x ∷ xs) ys apart = (all_left (λ y. same_bytes x y ≡ false) xs ys apart.0, left xs ys apart.1)

pub right : (xs ys : List (List ℕ)) → IsDistinct same_bytes (xs ++ ys) → IsDistinct same_bytes ys
unfolding IsDistinct
right [] ys apart = apart
right (x ∷ xs) ys apart = right xs ys apart.1

pub not_among : (x : List ℕ) (ys : List (List ℕ)) → AllByRecursion (λ y. same_bytes x y ≡ false) ys → among x ys ≡ false
not_among x [] all = refl
not_among x (y ∷ ys) all = or_from (same_bytes y x) (among x ys) (flips y x ∙ all.0) (not_among x ys all.1)

first_differs : (x : List ℕ) (xs : List (List ℕ)) → IsDistinct same_bytes (x ∷ xs) → AllByRecursion (λ y. same_bytes x y ≡ false) xs
unfolding IsDistinct
first_differs x xs apart = apart.0

-- the first of a list without doubles is not among the rest
pub first_alone : (x : List ℕ) (xs : List (List ℕ)) → IsDistinct same_bytes (x ∷ xs) → among x xs ≡ false
first_alone x xs apart = not_among x xs (first_differs x xs apart)

pub rest_apart : (x : List ℕ) (xs : List (List ℕ)) → IsDistinct same_bytes (x ∷ xs) → IsDistinct same_bytes xs
unfolding IsDistinct
rest_apart x xs apart = apart.1

-- what stands in the first list stands not in the second
pub one_side : (x : List ℕ) (xs ys : List (List ℕ)) → IsDistinct same_bytes (xs ++ ys) → among x xs ≡ true → among x ys ≡ false
one_side x [] ys apart is = absurd cc
one_side x (y ∷ xs) ys apart is = elim (or_cases (same_bytes y x) (among x xs) is) [
  | inl here ↦ (
      let y_is : y ≡ x = same y x here in
      subst (λ (z : List ℕ). among z ys ≡ false) y_is (not_among y ys (all_right (λ z. same_bytes y z ≡ false) xs ys (first_differs y (xs ++ ys) apart)))
      )
  | inr there ↦ one_side x xs ys (rest_apart y (xs ++ ys) apart) there
]
