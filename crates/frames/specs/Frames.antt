-- A frame: a kind, and a body behind its length.
use Rattle.std.specs.Prelude.{◌++◌, List, ◌∷◌, ℕ, length}
use Rattle.std.specs.Int.{to_be_bytes, w32}

-- a kind and a body
pub record Frame : Type 0 where
  pub kind : ℕ
  pub body : List ℕ

-- a number as four bytes, the highest first
unfoldable pub four_bytes : ℕ → List ℕ
four_bytes n = to_be_bytes w32 n

-- a kind byte, the body's length as four bytes, the body
abbrev pub frame_bytes : Frame → List ℕ
frame_bytes f = f.kind ∷ four_bytes (length f.body) ++ f.body
