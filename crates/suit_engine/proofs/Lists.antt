-- Lists by places.
use Rattle.std.proofs.Common.{◌≡◌, ℕ, zero, suc, ◌≤◌, List, [], ◌∷◌, length, get_or, Option, Some, None, MatchOption, Bor, refl, sym, ap, ◌∙◌, arith}
use Rattle.std.specs.Prelude.{slice_get}
use Rattle.std.specs.Option.{option_copied}

module _ {A : Type 0} where
  -- what stands at a place, or else a value
  pub got : (xs : List A) (i : ℕ) (d : A) (o : Option A) → o ≡ slice_get xs i → MatchOption o (get_or xs i d ≡ d) (λ x. x ≡ get_or xs i d)
  got [] i d None is = refl
  got [] i d (Some x) is = absurd cc
  got (x ∷ xs) zero d None is = absurd cc
  got (x ∷ xs) zero d (Some y) is = cc
  got (x ∷ xs) (suc i) d o is = got xs i d o is

  -- the same, lent
  pub lent : (xs : List A) (i : ℕ) (d : A) (r : Option (Bor A)) → option_copied r ≡ slice_get xs i → MatchOption r (get_or xs i d ≡ d) (λ x. x.now ≡ get_or xs i d)
  lent xs i d None is = got xs i d None is
  lent xs i d (Some x) is = got xs i d (Some x.now) is

  -- where nothing stands at a place, it is past the end
  pub missed : (xs : List A) (i : ℕ) → slice_get xs i ≡ None → length xs ≤ i
  missed [] i is = omega arith
  missed (x ∷ xs) zero is = absurd cc
  missed (x ∷ xs) (suc i) is = omega (arith, missed xs i is)

  pub lent_missed : (xs : List A) (i : ℕ) (r : Option (Bor A)) → option_copied r ≡ slice_get xs i → r ≡ None → length xs ≤ i
  lent_missed xs i r is none = missed xs i (sym is ∙ ap option_copied none)
