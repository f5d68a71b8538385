-- A list of bodies as bytes: each behind an open gate and its length.
use Rattle.std.specs.Prelude.{ℕ, ◌<◌, ◌^◌, List, ◌∷◌, ◌++◌, length}
use Rattle.std.specs.Int.{to_be_bytes, w32}
use Rattle.std.specs.List.{flat_map, AllByRecursion}

-- an open gate, the length in four bytes, and the body
abbrev pub frame : List ℕ → List ℕ
frame body = (0xa5 ∷ to_be_bytes w32 (length body)) ++ body

-- bodies, one behind the other
abbrev pub frames : List (List ℕ) → List ℕ
frames = flat_map frame

-- a body whose length has four bytes
abbrev pub IsBody : List ℕ → Type 0
IsBody body = length body < 2 ^ 32

-- each has four bytes of length
abbrev pub AreBodies : List (List ℕ) → Type 0
AreBodies = AllByRecursion IsBody
