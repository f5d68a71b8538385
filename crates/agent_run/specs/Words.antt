-- The words that start a run.
use Rattle.std.specs.Prelude.{◌≡◌, List, [], ◌∷◌, string_bytes, codes}
use Rattle.std.proofs.Common.{String, Global}

-- the one word `run`
abbrev pub IsRun : List (String Global) → Type 0
IsRun (word ∷ []) = string_bytes word ≡ codes "run"
IsRun other = ⊥
