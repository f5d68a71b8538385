-- Values that are read one behind the other.
use Rattle.std.specs.Prelude.{List, [], ◌∷◌, ◌++◌, Option, Some, option_and_then}

-- the values of all members, behind those that were found before
abbrev pub each_from : {A B : Type 0} → (A → Option B) → List B → List A → Option (List B)
each_from view found [] = Some found
each_from view found (x ∷ xs) = option_and_then (λ y. each_from view (found ++ y ∷ []) xs) (view x)
