-- Elements in ascending order of their identifiers: where one stands, and where one is put.
use Rattle.std.specs.Prelude.{◌≡◌, ℕ, ◌<◌, ◌≤◌, List, [], ◌∷◌, length, map, slice_index_or, Result, Ok, Err}
use Rattle.std.specs.declared.cmp.Ordering.{Ordering}
use Rattle.std.specs.declared.cmp.Ordering.TheVariants.{Less, Equal, Greater}
use Rattle.std.specs.Ordering.{nat_cmp}
use Rattle.std.specs.Cmp.Lexicographic.{slice_cmp}
use Rattle.std.specs.List.Sorted.{IsStrictlySortedBy}

-- an element in front of others, by how its identifier stands to that of the first of them: before it, in its place, or further behind
abbrev pub place : {R : Type 0} → Ordering → R → R → List R → List R → List R
place Less row first others behind = row ∷ first ∷ others
place Equal row first others behind = row ∷ others
place Greater row first others behind = first ∷ behind

-- the element in the place of that of its identifier, or where it belongs if there is none
abbrev pub put_by : {R : Type 0} → (R → List ℕ) → R → List R → List R
put_by id row [] = row ∷ []
put_by id row (first ∷ others) = place (slice_cmp nat_cmp (id row) (id first)) row first others (put_by id row others)

-- the identifiers ascend strictly
abbrev pub Ascend : {R : Type 0} → (R → List ℕ) → List R → Type 0
Ascend id rows = IsStrictlySortedBy (slice_cmp nat_cmp) (map id rows)

-- ---- what a search for an identifier answers

-- the element at this place has it
pub record IsFoundAt {R : Type 0} (id : R → List ℕ) (rows : List R) (key : List ℕ) (at : ℕ) : Type 0 where
  pub within : at < length rows
  pub here : (d : R) → id (slice_index_or rows at d) ≡ key

-- those before this place are below it, and those from there on are above
pub record IsFreeAt {R : Type 0} (id : R → List ℕ) (rows : List R) (key : List ℕ) (at : ℕ) : Type 0 where
  pub within : at ≤ length rows
  pub before : (j : ℕ) (d : R) → j < at → slice_cmp nat_cmp (id (slice_index_or rows j d)) key ≡ Less
  pub behind : (j : ℕ) (d : R) → at ≤ j → j < length rows → slice_cmp nat_cmp (id (slice_index_or rows j d)) key ≡ Greater

-- the place of the element that has it, or else where one belongs
abbrev pub IsPlaceOf : {R : Type 0} → (R → List ℕ) → List R → List ℕ → Result ℕ ℕ → Type 0
IsPlaceOf id rows key (Ok at) = IsFoundAt id rows key at
IsPlaceOf id rows key (Err at) = IsFreeAt id rows key at
