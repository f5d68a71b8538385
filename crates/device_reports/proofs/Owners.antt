-- In rows in which no component stands twice, the image of each is found by its identifier.
use Rattle.std.proofs.Common.{◌≡◌, ℕ, suc, ◌<◌, Bool, true, false, cond, List, [], ◌∷◌, ◌++◌, length, map, get_or, Option, Some, refl, sym, ap, subst, ◌∙◌, arith}
use Rattle.std.specs.Prelude.{nat_eq, ◌≢◌, option_map, unwrap_or}
use Rattle.std.specs.List.{AllByRecursion, find}
use Rattle.std.specs.Cmp.Lexicographic.{pointwise, bytes_decides}
use Rattle.std.proofs.lemmas.List.{map-append}
use Rattle.device_state.specs.declared.rows.ComponentRow.{ComponentRow}
use Rattle.device_state.specs.declared.rows.ManifestRow.{ManifestRow}
use Rattle.device_state.specs.Valid.{NoneTwice, owned}
use Rattle.component_store.specs.Keeping.{components}
use Rattle.device_reports.specs.Images.{stored}

-- ---- no two of them are the same

module _ {X : Type 0} (id : X → List ℕ) where
  -- none of them has this identifier
  abbrev pub Apart : List ℕ → List X → Type 0
  Apart key xs = AllByRecursion (λ x. key ≢ id x) xs

  -- none has the identifier of one behind it
  abbrev pub Distinct : List X → Type 0
  Distinct [] = Unit {0}
  Distinct (x ∷ xs) = Apart (id x) xs × Distinct xs

  apart_from : (key : List ℕ) (xs : List X) → ((j : ℕ) (d : List ℕ) → j < length (map id xs) → key ≢ get_or (map id xs) j d) → Apart key xs
  apart_from key [] other = tt
  apart_from key (x ∷ xs) other = (other 0 (id x) (omega arith), apart_from key xs (λ j d within. other (suc j) d (omega arith)))

  pub distinct_of : (xs : List X) → NoneTwice (map id xs) → Distinct xs
  distinct_of [] none = tt
  distinct_of (x ∷ xs) none = (
    apart_from (id x) xs (λ j d within. none 0 (suc j) d (omega arith) (omega arith)),
    distinct_of xs (λ i j d less within. none (suc i) (suc j) d (omega arith) (omega arith)),
  )

-- what holds of each, from what holds of each otherwise
pub all_both : {X : Type 0} {P Q R : X → Type 0} → ((x : X) → P x → Q x → R x) → (xs : List X) → AllByRecursion P xs → AllByRecursion Q xs → AllByRecursion R xs
all_both both [] ps qs = tt
all_both both (x ∷ xs) ps qs = (both x ps.0 qs.0, all_both both xs ps.1 qs.1)

-- the identifiers of the components of all rows, in one list or row by row
owned_is : (rows : List ManifestRow) → owned rows ≡ map (λ (c : ComponentRow). c.id) (components rows)
owned_is [] = refl
owned_is (row ∷ rows) =
    ap (λ (ids : List (List ℕ)). map (λ (c : ComponentRow). c.id) row.components ++ ids) (owned_is rows)
    ∙ sym (map-append (λ (c : ComponentRow). c.id) row.components (components rows))

pub distinct_components : (rows : List ManifestRow) → NoneTwice (owned rows) → Distinct (λ (c : ComponentRow). c.id) (components rows)
distinct_components rows none = distinct_of (λ (c : ComponentRow). c.id) (components rows) (subst NoneTwice (owned_is rows) none)

-- ---- each is found

other_bytes : (a b : List ℕ) → a ≢ b → pointwise nat_eq a b ≡ false
other_bytes a b other = by_test (pointwise nat_eq a b) refl where
  by_test : (t : Bool) → pointwise nat_eq a b ≡ t → t ≡ false
  by_test true is = absurd (other ((bytes_decides a b).0 is))
  by_test false is = refl

-- the first component that has this identifier
abbrev sought : List ℕ → List ComponentRow → Option ComponentRow
sought id cs = find (λ (d : ComponentRow). pointwise nat_eq d.id id) cs

found_here : (c : ComponentRow) (cs : List ComponentRow) → sought c.id (c ∷ cs) ≡ Some c
found_here c cs = ap (λ (b : Bool). cond b (Some c) (sought c.id cs)) ((bytes_decides c.id c.id).1 refl)

found_later : (c : ComponentRow) (cs : List ComponentRow) (d : ComponentRow) → c.id ≢ d.id → sought d.id cs ≡ Some d → sought d.id (c ∷ cs) ≡ Some d
found_later c cs d other is = ap (λ (b : Bool). cond b (Some c) (sought d.id cs)) (other_bytes c.id d.id other) ∙ is

found_each : (cs : List ComponentRow) → Distinct (λ (c : ComponentRow). c.id) cs → AllByRecursion (λ c. sought c.id cs ≡ Some c) cs
found_each [] apart = tt
found_each (c ∷ cs) apart = (found_here c cs, all_both (found_later c cs) cs apart.0 (found_each cs apart.1))

-- ---- row by row

-- the image that the rows have by the identifier of the component is its own
abbrev pub IsStored : List ManifestRow → ComponentRow → Type 0
IsStored rows c = stored rows c.id ≡ c.bytes

stored_by : (rows : List ManifestRow) (cs : List ComponentRow) → AllByRecursion (λ c. sought c.id (components rows) ≡ Some c) cs → AllByRecursion (IsStored rows) cs
stored_by rows [] found = tt
stored_by rows (c ∷ cs) found = (ap (λ (o : Option ComponentRow). unwrap_or (option_map (λ (d : ComponentRow). d.bytes) o) []) found.0, stored_by rows cs found.1)

in_front : {X : Type 0} (P : X → Type 0) (xs ys : List X) → AllByRecursion P (xs ++ ys) → AllByRecursion P xs × AllByRecursion P ys
in_front P [] ys all = (tt, all)
in_front P (x ∷ xs) ys all = let both = in_front P xs ys all.1 in ((all.0, both.0), both.1)

by_rows : (P : ComponentRow → Type 0) (rows : List ManifestRow) → AllByRecursion P (components rows) → AllByRecursion (λ row. AllByRecursion P row.components) rows
by_rows P [] all = tt
by_rows P (row ∷ rows) all = let both = in_front P row.components (components rows) all in (both.0, by_rows P rows both.1)

-- so it is of each component of each row
pub each_stored : (rows : List ManifestRow) → NoneTwice (owned rows) → AllByRecursion (λ row. AllByRecursion (IsStored rows) row.components) rows
each_stored rows none = by_rows (IsStored rows) rows (stored_by rows (components rows) (found_each (components rows) (distinct_components rows none)))
