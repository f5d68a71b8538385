-- The first place in a list at which something is so.
use Rattle.std.specs.Prelude.{ℕ, zero, suc, List, [], ◌∷◌}

-- At the place, counted from 0, the element meets A, and each before it meets B.
abbrev pub FirstAt : {X : Type 0} → (X → Type 0) → (X → Type 0) → List X → ℕ → Type 0
FirstAt B A [] at = ⊥
FirstAt B A (x ∷ xs) zero = A x
FirstAt B A (x ∷ xs) (suc at) = B x × FirstAt B A xs at
