-- Lines of text.
use Rattle.std.specs.Prelude.{ℕ, List, [], ◌∷◌, ◌++◌, codes}

-- words in a row, with a space between each two and a line feed behind the last
abbrev pub line : List ℕ → List (List ℕ) → List ℕ
line word [] = word ++ codes "\n"
line word (next ∷ more) = word ++ (codes " " ++ line next more)
