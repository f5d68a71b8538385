-- The depth that is left, by one level.
use Rattle.std.proofs.Common.{◌≡◌, ℕ, zero, suc, ◌-◌, ◌<◌, refl, arith, Option, Some, None}
use Rattle.cbor_heads.specs.Place.{Place}
use Rattle.cbor_heads.specs.Reading.{Reader, nested, inside}

module _ {E A : Type 0} (by : Option (Reader E A) → Reader E A) where
  pub inside_none : (d : ℕ) → d ≡ 0 → inside by d ≡ None
  inside_none d e = rw e refl

  pub inside_some : (d : ℕ) → 0 < d → inside by d ≡ Some (nested by (d - 1))
  inside_some zero h = absurd (omega arith)
  inside_some (suc d) h = let e : suc d - 1 ≡ d = omega arith in rw e refl

  pub nested_is : (d : ℕ) (p : Place) → nested by d p ≡ by (inside by d) p
  unfolding nested
  nested_is zero p = refl
  nested_is (suc d) p = refl

pub ruleset depths = (inside_none, inside_some, nested_is)
