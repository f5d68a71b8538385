-- A place in bytes that are being read.
use Rattle.std.specs.Prelude.{ℕ, ◌+◌, ◌-◌, nat_eq, Bool, List, length, take, drop}
use Rattle.std.specs.List.{starts_with}

-- how many bytes stand before it, and the bytes from it on
pub record Place : Type 0 where
  pub at : ℕ
  pub rest : List ℕ

-- the place of the first byte
abbrev pub start : List ℕ → Place
start bytes = record { at = 0; rest = bytes }

-- the place n bytes further on
abbrev pub skip : ℕ → Place → Place
skip n p = record { at = p.at + n; rest = drop n p.rest }

-- the place behind a text that stood before more bytes
abbrev pub behind : ℕ → List ℕ → List ℕ → Place
behind before text more = record { at = before + length text; rest = more }

-- the bytes from a place to a later one
abbrev pub between : Place → Place → List ℕ
between p q = take (length p.rest - length q.rest) p.rest

-- the bytes begin with the token
abbrev pub begins : List ℕ → List ℕ → Bool
begins token bytes = starts_with nat_eq bytes token
