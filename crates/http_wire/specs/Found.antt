-- What a look for the values of a name finds.
use Rattle.std.specs.Prelude.{◌≡◌, ℕ, List, [], ◌∷◌}
use Rattle.http_wire.specs.declared.fields.Values.{Values}
use Rattle.http_wire.specs.declared.fields.Values.TheVariants.{Nowhere, Once, Again}

-- there are none, one, or more of which this is the first
abbrev pub IsFound : List (List ℕ) → Values → Type 0
IsFound values Nowhere = values ≡ []
IsFound values (Once value) = values ≡ value.now ∷ []
IsFound values (Again value) = (other : List ℕ) × (more : List (List ℕ)) × (values ≡ value.now ∷ other ∷ more)
