-- The first place in a list, and lists that go place by place.
use Rattle.std.proofs.Common.{◌≡◌, ℕ, zero, suc, ◌+◌, ◌<◌, ◌≤◌, List, [], ◌∷◌, ◌++◌, length, get_or, take, map, refl, sym, ap, subst, ◌∙◌, ◌⊎◌, inl, inr, arith}
use Rattle.std.specs.List.{AllByRecursion, AllZip}
use Rattle.trust_anchors.specs.First.{FirstAt}

-- ---- what holds of each element so far

pub all_more : {X : Type 0} (P : X → Type 0) (xs : List X) (k : ℕ) (x : X) → k < length xs → x ≡ get_or xs k x → P x → AllByRecursion P (take k xs) → AllByRecursion P (take (k + 1) xs)
all_more P [] k x lt is p all = absurd (omega arith)
all_more P (y ∷ xs) zero x lt is p all = (subst P is p, tt)
all_more P (y ∷ xs) (suc k) x lt is p all = let e : suc k + 1 ≡ suc (k + 1) = omega arith in rw e (all.0, all_more P xs k x (omega arith) is p all.1)

pub all_whole : {X : Type 0} (P : X → Type 0) (xs : List X) (k : ℕ) → length xs ≤ k → AllByRecursion P (take k xs) → AllByRecursion P xs
all_whole P [] k le all = tt
all_whole P (x ∷ xs) zero le all = absurd (omega arith)
all_whole P (x ∷ xs) (suc k) le all = (all.0, all_whole P xs k (omega arith) all.1)

-- one element that does not meet it
pub all_not : {X : Type 0} (P : X → Type 0) (xs : List X) (k : ℕ) (x : X) → k < length xs → x ≡ get_or xs k x → (P x → ⊥) → AllByRecursion P xs → ⊥
all_not P [] k x lt is wrong all = omega arith
all_not P (y ∷ xs) zero x lt is wrong all = wrong (subst P (sym is) all.0)
all_not P (y ∷ xs) (suc k) x lt is wrong all = all_not P xs k x (omega arith) is wrong all.1

-- ---- the first place

module _ {X : Type 0} (B A : X → Type 0) where
  pub first_more : (xs : List X) (k : ℕ) (x : X) → k < length xs → x ≡ get_or xs k x → A x → AllByRecursion B (take k xs) → FirstAt B A xs k
  first_more [] k x lt is a all = absurd (omega arith)
  first_more (y ∷ xs) zero x lt is a all = subst A is a
  first_more (y ∷ xs) (suc k) x lt is a all = (all.0, first_more xs k x (omega arith) is a all.1)

  pub first_none : ((x : X) → B x → A x → ⊥) → (xs : List X) (k : ℕ) → AllByRecursion B xs → FirstAt B A xs k → ⊥
  first_none apart [] k all first = first
  first_none apart (x ∷ xs) zero all first = apart x all.0 first
  first_none apart (x ∷ xs) (suc k) all first = first_none apart xs k all.1 first.1

  pub first_one : ((x : X) → B x → A x → ⊥) → (xs : List X) (j k : ℕ) → FirstAt B A xs j → FirstAt B A xs k → j ≡ k
  first_one apart [] j k one two = absurd one
  first_one apart (x ∷ xs) zero zero one two = refl
  first_one apart (x ∷ xs) zero (suc k) one two = absurd (apart x two.0 one)
  first_one apart (x ∷ xs) (suc j) zero one two = absurd (apart x one.0 two)
  first_one apart (x ∷ xs) (suc j) (suc k) one two = ap suc (first_one apart xs j k one.1 two.1)

  -- the first that meets A meets what all of A meet
  pub first_wider : (C : X → Type 0) → ((x : X) → A x → C x) → (xs : List X) (k : ℕ) → FirstAt B A xs k → FirstAt B C xs k
  first_wider C wider [] k first = first
  first_wider C wider (x ∷ xs) zero first = wider x first
  first_wider C wider (x ∷ xs) (suc k) first = (first.0, first_wider C wider xs k first.1)

  -- what the element at the first place has beside it
  pub first_with : {Y : Type 0} (C : Y → X → Type 0) → ((x : X) → A x → (y : Y) × C y x) → (xs : List X) (k : ℕ) → FirstAt B A xs k → (y : Y) × FirstAt B (C y) xs k
  first_with C with [] k first = absurd first
  first_with C with (x ∷ xs) zero first = with x first
  first_with C with (x ∷ xs) (suc k) first = let later = first_with C with xs k first.1 in (later.0, (first.0, later.1))

  -- the element at a place that is the first of two kinds
  pub first_both : (C : X → Type 0) (xs : List X) (k : ℕ) → FirstAt B A xs k → FirstAt B C xs k → (x : X) × A x × C x
  first_both C [] k one two = absurd one
  first_both C (x ∷ xs) zero one two = (x, one, two)
  first_both C (x ∷ xs) (suc k) one two = first_both C xs k one.1 two.1

  -- each element meets one of the two, so one is the first, or there is none
  pub first_or_all : (xs : List X) → AllByRecursion (λ x. A x ⊎ B x) xs → ((at : ℕ) × FirstAt B A xs at) ⊎ AllByRecursion B xs
  first_or_all [] all = inr tt
  first_or_all (x ∷ xs) all = elim all.0 [
    | inl a ↦ inl (zero, a)
    | inr b ↦ elim (first_or_all xs all.1) [ inl later ↦ inl (suc later.0, (b, later.1)) | inr rest ↦ inr (b, rest) ]
  ]

-- ---- all elements

pub all_each : {X : Type 0} (P : X → Type 0) → ((x : X) → P x) → (xs : List X) → AllByRecursion P xs
all_each P each [] = tt
all_each P each (x ∷ xs) = (each x, all_each P each xs)

pub all_or_not : {X : Type 0} (P : X → Type 0) → ((x : X) → P x ⊎ (P x → ⊥)) → (xs : List X) → AllByRecursion P xs ⊎ (AllByRecursion P xs → ⊥)
all_or_not P each [] = inl tt
all_or_not P each (x ∷ xs) = elim (each x) [
  | inr other ↦ inr (λ all. other all.0)
  | inl here ↦ elim (all_or_not P each xs) [ inl rest ↦ inl (here, rest) | inr other ↦ inr (λ all. other all.1) ]
]

pub all_both : {X : Type 0} (P Q R : X → Type 0) → ((x : X) → P x → Q x → R x) → (xs : List X) → AllByRecursion P xs → AllByRecursion Q xs → AllByRecursion R xs
all_both P Q R both [] p q = tt
all_both P Q R both (x ∷ xs) p q = (both x p.0 q.0, all_both P Q R both xs p.1 q.1)

-- ---- place by place

module _ {X Y : Type 0} (R : X → Y → Type 0) where
  -- one more on the left, related to the element at the place
  pub zip_more : (xs : List X) (ys : List Y) (k : ℕ) (x : X) (y : Y) → k < length ys → y ≡ get_or ys k y → R x y → AllZip R xs (take k ys) → AllZip R (xs ++ x ∷ []) (take (k + 1) ys)
  zip_more xs [] k x y lt is r all = absurd (omega arith)
  zip_more [] (z ∷ ys) zero x y lt is r all = (subst (λ (t : Y). R x t) is r, tt)
  zip_more (w ∷ xs) (z ∷ ys) zero x y lt is r all = absurd all
  zip_more [] (z ∷ ys) (suc k) x y lt is r all = absurd all
  zip_more (w ∷ xs) (z ∷ ys) (suc k) x y lt is r all = let e : suc k + 1 ≡ suc (k + 1) = omega arith in rw e (all.0, zip_more xs ys k x y (omega arith) is r all.1)

  pub zip_whole : (xs : List X) (ys : List Y) (k : ℕ) → length ys ≤ k → AllZip R xs (take k ys) → AllZip R xs ys
  zip_whole xs [] zero le all = all
  zip_whole xs [] (suc k) le all = all
  zip_whole xs (y ∷ ys) zero le all = absurd (omega arith)
  zip_whole [] (y ∷ ys) (suc k) le all = all
  zip_whole (x ∷ xs) (y ∷ ys) (suc k) le all = (all.0, zip_whole xs ys k (omega arith) all.1)

  -- one more on the right, related to the element at the place
  pub zip_more_right : (xs : List X) (ys : List Y) (k : ℕ) (x : X) (y : Y) → k < length xs → x ≡ get_or xs k x → R x y → AllZip R (take k xs) ys → AllZip R (take (k + 1) xs) (ys ++ y ∷ [])
  zip_more_right [] ys k x y lt is r all = absurd (omega arith)
  zip_more_right (z ∷ xs) [] zero x y lt is r all = (subst (λ (t : X). R t y) is r, tt)
  zip_more_right (z ∷ xs) (w ∷ ys) zero x y lt is r all = absurd all
  zip_more_right (z ∷ xs) [] (suc k) x y lt is r all = absurd all
  zip_more_right (z ∷ xs) (w ∷ ys) (suc k) x y lt is r all = let e : suc k + 1 ≡ suc (k + 1) = omega arith in rw e (all.0, zip_more_right xs ys k x y (omega arith) is r all.1)

  pub zip_whole_right : (xs : List X) (ys : List Y) (k : ℕ) → length xs ≤ k → AllZip R (take k xs) ys → AllZip R xs ys
  zip_whole_right [] ys zero le all = all
  zip_whole_right [] ys (suc k) le all = all
  zip_whole_right (x ∷ xs) ys zero le all = absurd (omega arith)
  zip_whole_right (x ∷ xs) [] (suc k) le all = all
  zip_whole_right (x ∷ xs) (y ∷ ys) (suc k) le all = (all.0, zip_whole_right xs ys k (omega arith) all.1)

  -- a relation that has one left side for each right side
  pub zip_one : ((v w : X) (y : Y) → R v y → R w y → v ≡ w) → (vs ws : List X) (ys : List Y) → AllZip R vs ys → AllZip R ws ys → vs ≡ ws
  zip_one one [] [] ys a b = refl
  zip_one one [] (w ∷ ws) [] a b = absurd b
  zip_one one [] (w ∷ ws) (y ∷ ys) a b = absurd a
  zip_one one (v ∷ vs) [] [] a b = absurd a
  zip_one one (v ∷ vs) [] (y ∷ ys) a b = absurd b
  zip_one one (v ∷ vs) (w ∷ ws) [] a b = absurd a
  zip_one one (v ∷ vs) (w ∷ ws) (y ∷ ys) a b =
      let here : v ≡ w = one v w y a.0 b.0 in
      let there : vs ≡ ws = zip_one one vs ws ys a.1 b.1 in
      rw (here, there) refl

  pub zip_each : (xs : List X) (ys : List Y) → AllZip R xs ys → AllByRecursion (λ y. (x : X) × R x y) ys
  zip_each [] [] all = tt
  zip_each [] (y ∷ ys) all = absurd all
  zip_each (x ∷ xs) [] all = tt
  zip_each (x ∷ xs) (y ∷ ys) all = ((x, all.0), zip_each xs ys all.1)

  -- what each right side has on its left, as one list
  pub zip_there : (ys : List Y) → AllByRecursion (λ y. (x : X) × R x y) ys → (xs : List X) × AllZip R xs ys
  zip_there [] all = ([], tt)
  zip_there (y ∷ ys) all = let rest = zip_there ys all.1 in (all.0.0 ∷ rest.0, (all.0.1, rest.1))

-- one more image
pub map_more : {X Y : Type 0} (f : X → Y) (xs : List X) (k : ℕ) (x : X) → k < length xs → x ≡ get_or xs k x → map f (take (k + 1) xs) ≡ map f (take k xs) ++ f x ∷ []
map_more f [] k x lt is = absurd (omega arith)
map_more f (y ∷ xs) zero x lt is = ap (λ z. f z ∷ []) (sym is)
map_more f (y ∷ xs) (suc k) x lt is = let e : suc k + 1 ≡ suc (k + 1) = omega arith in rw e (ap (λ t. f y ∷ t) (map_more f xs k x (omega arith) is))

pub map_whole : {X Y : Type 0} (f : X → Y) (xs : List X) (k : ℕ) → length xs ≤ k → map f (take k xs) ≡ map f xs
map_whole f [] zero le = refl
map_whole f [] (suc k) le = refl
map_whole f (x ∷ xs) zero le = absurd (omega arith)
map_whole f (x ∷ xs) (suc k) le = ap (λ t. f x ∷ t) (map_whole f xs k (omega arith))

pub map_pushed : {X Y : Type 0} (f : X → Y) (xs : List X) (k : ℕ) (x : X) (ys new : List Y) (y : Y) → k < length xs → x ≡ get_or xs k x
    → new ≡ ys ++ y ∷ [] → y ≡ f x → ys ≡ map f (take k xs) → new ≡ map f (take (k + 1) xs)
map_pushed f xs k x ys new y lt is pushed image so_far = pushed ∙ rw (so_far, image) (sym (map_more f xs k x lt is))

pub zip_length : {X Y : Type 0} (R : X → Y → Type 0) (xs : List X) (ys : List Y) → AllZip R xs ys → length ys ≡ length xs
zip_length R [] [] all = refl
zip_length R [] (y ∷ ys) all = absurd all
zip_length R (x ∷ xs) [] all = absurd all
zip_length R (x ∷ xs) (y ∷ ys) all = ap suc (zip_length R xs ys all.1)
