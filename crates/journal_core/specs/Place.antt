-- Where bodies lie in the image.
use Rattle.std.specs.Prelude.{ℕ, ◌+◌, ◌≤◌, List, [], ◌∷◌, length}
use Rattle.std.specs.List.{AllByRecursion}
use Rattle.journal_core.specs.declared.place.Place.{Place}

-- the places of bodies that are framed from an offset on
abbrev pub places_from : ℕ → List (List ℕ) → List Place
places_from at [] = []
places_from at (body ∷ bodies) = record { at = at + 5; length = length body } ∷ places_from (at + 5 + length body) bodies

-- a place within so many bytes from an offset on
pub record LiesIn (from size : ℕ) (place : Place) : Type 0 where
  pub after : from ≤ place.at
  pub within : place.at + place.length ≤ from + size

-- each place lies there
abbrev pub AllLieIn : ℕ → ℕ → List Place → Type 0
AllLieIn from size = AllByRecursion (LiesIn from size)
