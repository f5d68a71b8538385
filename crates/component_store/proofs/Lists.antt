-- What a loop goes through is its element and what is left; and the first element of two lists that does.
use Rattle.std.proofs.Common.{◌≡◌, ℕ, ◌+◌, ◌<◌, Bool, true, false, List, [], ◌∷◌, ◌++◌, length, drop, get_or, Option, Some, None, refl, sym, ap, ◌∙◌}
use Rattle.std.specs.Prelude.{cond}
use Rattle.std.specs.List.{find}
use Rattle.std.proofs.lemmas.List.{drop_more}

pub front_at : {X : Type 0} (xs : List X) (i : ℕ) (x : X) → i < length xs → x ≡ get_or xs i x → drop i xs ≡ x ∷ drop (i + 1) xs
front_at xs i x within is = drop_more xs i x within ∙ ap (λ y. y ∷ drop (i + 1) xs) (sym is)

-- ---- the first that a test finds

first_step : {X : Type 0} (b : Bool) (y x : X) (a c : Option X) → (a ≡ Some x → c ≡ Some x) → cond b (Some y) a ≡ Some x → cond b (Some y) c ≡ Some x
first_step true y x a c later is = is
first_step false y x a c later is = later is

pub found_in_front : {X : Type 0} (test : X → Bool) (xs ys : List X) (x : X) → find test xs ≡ Some x → find test (xs ++ ys) ≡ Some x
found_in_front test [] ys x is = absurd cc
found_in_front test (y ∷ xs) ys x is = first_step (test y) y x (find test xs) (find test (xs ++ ys)) (found_in_front test xs ys x) is

none_step : {X : Type 0} (b : Bool) (y : X) (a c d : Option X) → (a ≡ None → c ≡ d) → cond b (Some y) a ≡ None → cond b (Some y) c ≡ d
none_step true y a c d later is = absurd cc
none_step false y a c d later is = later is

pub found_behind : {X : Type 0} (test : X → Bool) (xs ys : List X) → find test xs ≡ None → find test (xs ++ ys) ≡ find test ys
found_behind test [] ys is = refl
found_behind test (y ∷ xs) ys is = none_step (test y) y (find test xs) (find test (xs ++ ys)) (find test ys) (found_behind test xs ys) is

pub no_more : {X : Type 0} (xs : List X) → length xs ≡ 0 → xs ≡ []
no_more [] none = refl
no_more (x ∷ xs) none = absurd cc
