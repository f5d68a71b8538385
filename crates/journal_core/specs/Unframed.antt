-- The bodies in framed bytes, by their lengths.
use Rattle.std.specs.Prelude.{◌≡◌, ℕ, ◌+◌, List, [], ◌∷◌, ◌++◌, length, map, take, drop}
use Rattle.journal_core.specs.Frames.{frames}

-- each body stands behind five bytes
abbrev pub bodies_in : List ℕ → List ℕ → List (List ℕ)
bodies_in [] bytes = []
bodies_in (n ∷ ns) bytes = take n (drop 5 bytes) ∷ bodies_in ns (drop (5 + n) bytes)

-- the bytes are the framed bodies of these lengths and a closed gate
pub record IsFramed (lengths bytes : List ℕ) : Type 0 where
  pub lengths_are : map length (bodies_in lengths bytes) ≡ lengths
  pub bytes_are : bytes ≡ frames (bodies_in lengths bytes) ++ 0 ∷ []
