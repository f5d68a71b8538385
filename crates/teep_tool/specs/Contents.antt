-- What a host holds.
use Rattle.std.specs.Prelude.{ℕ, List, Option}

-- the files by their names, and what was printed
pub record Contents : Type 0 where
  pub files : List ℕ → Option (List ℕ)
  pub printed : List ℕ
