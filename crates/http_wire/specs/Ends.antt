-- Where the head of a message ends (RFC 9112, sections 2.1 and 2.2): with its first empty line. A line may end in a line feed alone.
use Rattle.std.specs.Prelude.{◌≡◌, ◌⊎◌, ◌++◌, ℕ, List, [], ◌∷◌}

-- the bytes have this at their end
abbrev pub Ends : List ℕ → List ℕ → Type 0
Ends bytes end = (front : List ℕ) × (bytes ≡ front ++ end)

-- a line feed, or CR LF, directly behind a line feed
abbrev pub EndsInEmptyLine : List ℕ → Type 0
EndsInEmptyLine bytes = Ends bytes (10 ∷ 10 ∷ []) ⊎ Ends bytes (10 ∷ 13 ∷ 10 ∷ [])

-- no front of the bytes ends in an empty line, and all of them do not
abbrev pub HasNoEnd : List ℕ → Type 0
HasNoEnd bytes = (front more : List ℕ) → bytes ≡ front ++ more → ¬ (EndsInEmptyLine front)

-- the bytes end in an empty line, and no shorter front does
pub record EndsHead (head : List ℕ) : Type 0 where
  pub ends : EndsInEmptyLine head
  pub first : (front more : List ℕ) (next : ℕ) → head ≡ front ++ next ∷ more → ¬ (EndsInEmptyLine front)
