-- Values read one behind the other.
use Rattle.std.proofs.Common.{◌≡◌, ℕ, ◌<◌, ◌≤◌, List, [], ◌∷◌, ◌++◌, length, get_or, drop, append-nil, ◌+◌, refl, ap, append_assoc, sym, ◌∙◌}
use Rattle.std.specs.Prelude.{Option, Some, None, option_map, option_and_then}
use Rattle.std.proofs.lemmas.List.{drop_all, drop_more}
use Rattle.cbor_fields.specs.Views.{each_of}
use Rattle.cbor_fields.specs.Walks.{each_from}

later : {B : Type 0} (found : List B) (y : B) (o : Option (List B)) → option_map (λ ys. (found ++ y ∷ []) ++ ys) o ≡ option_map (λ ys. found ++ ys) (option_map (λ ys. y ∷ ys) o)
later found y None = refl
later found y (Some ys) = ap Some (append_assoc found (y ∷ []) ys)

step : {A B : Type 0} (view : A → Option B) (found : List B) (xs : List A) (more : (y : B) → each_from view (found ++ y ∷ []) xs ≡ option_map (λ ys. (found ++ y ∷ []) ++ ys) (each_of view xs))
    (o : Option B) → option_and_then (λ y. each_from view (found ++ y ∷ []) xs) o ≡ option_map (λ ys. found ++ ys) (option_and_then (λ y. option_map (λ ys. y ∷ ys) (each_of view xs)) o)
step view found xs more None = refl
step view found xs more (Some y) = more y ∙ later found y (each_of view xs)

each_from_is : {A B : Type 0} (view : A → Option B) (found : List B) (xs : List A) → each_from view found xs ≡ option_map (λ ys. found ++ ys) (each_of view xs)
each_from_is view found [] = ap Some (sym (append-nil found))
each_from_is view found (x ∷ xs) = step view found xs (λ y. each_from_is view (found ++ y ∷ []) xs) (view x)

same : {B : Type 0} (o : Option (List B)) → option_map (λ ys. [] ++ ys) o ≡ o
same None = refl
same (Some ys) = refl

from_none : {A B : Type 0} (view : A → Option B) (xs : List A) → each_from view [] xs ≡ each_of view xs
from_none view xs = each_from_is view [] xs ∙ same (each_of view xs)

-- all were read
pub all_read : {A B : Type 0} (view : A → Option B) (found : List B) (xs : List A) (n : ℕ) → length xs ≤ n → each_from view found (drop n xs) ≡ each_from view [] xs → each_of view xs ≡ Some found
all_read view found xs n all so_far = sym (from_none view xs) ∙ sym so_far ∙ ap (each_from view found) (drop_all n xs all)

-- one has no value
pub one_unread : {A B : Type 0} (view : A → Option B) (found : List B) (xs : List A) (n : ℕ) (x : A) → n < length xs → x ≡ get_or xs n x → view x ≡ None → each_from view found (drop n xs) ≡ each_from view [] xs → each_of view xs ≡ None
one_unread {A} {B} view found xs n x within at none so_far = sym (from_none view xs) ∙ sym so_far ∙ ap (each_from view found) (drop_more xs n x within) ∙ stops (view (get_or xs n x)) (ap view (sym at) ∙ none) where
  stops : (o : Option B) → o ≡ None → option_and_then (λ y. each_from view (found ++ y ∷ []) (drop (n + 1) xs)) o ≡ None
  stops None is = refl
  stops (Some y) is = cc
