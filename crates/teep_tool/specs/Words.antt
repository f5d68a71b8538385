-- The words of the commands.
use Rattle.std.specs.Prelude.{◌≡◌, ℕ, List, [], ◌∷◌, string_bytes, codes}
use Rattle.std.proofs.Common.{String, Global}

-- `show` and the name of a file
abbrev pub IsShow : List (String Global) → List ℕ → Type 0
IsShow (command ∷ file ∷ []) name = (string_bytes command ≡ codes "show") × (name ≡ string_bytes file)
IsShow other name = ⊥

-- the words are one of the commands
abbrev pub IsCommand : List (String Global) → Type 0
IsCommand words = (name : List ℕ) × IsShow words name
