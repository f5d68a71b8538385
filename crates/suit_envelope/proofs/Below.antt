-- The order of encoded keys, byte by byte.
use Rattle.std.proofs.Common.{◌≡◌, ◌⊎◌, ℕ, ◌<◌, Bool, true, false, List, [], ◌∷◌, refl, ◌∙◌, inl, inr, arith}
use Rattle.std.specs.Prelude.{nat_lt, ◌==◌}
use Rattle.std.specs.List.{AllByRecursion}
use Rattle.std.proofs.lemmas.Bool.{le-ltb, lt-ltb, eq-eqb, ltb-true, eqb-true}
use Rattle.cbor_core.specs.declared.item.Pair.{Pair}
use Rattle.cbor_core.specs.Spelling.{spelling, bytes_below, KeysAscend}

-- what is before at the first byte, or is the same there and before behind it, is before
joined : (a b : ℕ) (s t : List ℕ) → (a < b) ⊎ ((a ≡ b) × (bytes_below s t ≡ true)) → bytes_below (a ∷ s) (b ∷ t) ≡ true
joined a b s t (inl lt) = let e : nat_lt a b ≡ true = lt-ltb a b lt in rw e refl
joined a b s t (inr equal) =
    let is : a ≡ b = equal.0 in
    let not_less : nat_lt a b ≡ false = le-ltb a b (omega arith) in
    let same : (a == b) ≡ true = eq-eqb a b is in
    rw (not_less, same) equal.1

-- the first byte decides, or else what is behind it
split : (a b : ℕ) (s t : List ℕ) → bytes_below (a ∷ s) (b ∷ t) ≡ true → (a < b) ⊎ ((a ≡ b) × (bytes_below s t ≡ true))
split a b s t below = by_tests (nat_lt a b) (a == b) refl refl where
  by_tests : (c d : Bool) → nat_lt a b ≡ c → (a == b) ≡ d → (a < b) ⊎ ((a ≡ b) × (bytes_below s t ≡ true))
  by_tests true d less same = inl (ltb-true a b less)
  by_tests false true less same = inr (eqb-true a b same, rw (less, same) at below)
  by_tests false false less same = absurd (let h = rw (less, same) at below in cc)

pub below_more : (a b c : List ℕ) → bytes_below a b ≡ true → bytes_below b c ≡ true → bytes_below a c ≡ true
below_more [] [] c ab bc = absurd cc
below_more (x ∷ s) [] c ab bc = absurd cc
below_more [] (y ∷ t) [] ab bc = absurd cc
below_more (x ∷ s) (y ∷ t) [] ab bc = absurd cc
below_more [] (y ∷ t) (z ∷ u) ab bc = refl
below_more (x ∷ s) (y ∷ t) (z ∷ u) ab bc = by_both (split x y s t ab) (split y z t u bc) (below_more s t u) where
  by_both : (x < y) ⊎ ((x ≡ y) × (bytes_below s t ≡ true)) → (y < z) ⊎ ((y ≡ z) × (bytes_below t u ≡ true))
      → (bytes_below s t ≡ true → bytes_below t u ≡ true → bytes_below s u ≡ true) → bytes_below (x ∷ s) (z ∷ u) ≡ true
  by_both (inl lt) (inl more) behind = joined x z s u (inl (omega arith))
  by_both (inl lt) (inr more) behind = let e : y ≡ z = more.0 in joined x z s u (inl (omega arith))
  by_both (inr same) (inl more) behind = let e : x ≡ y = same.0 in joined x z s u (inl (omega arith))
  by_both (inr same) (inr more) behind = joined x z s u (inr (same.0 ∙ more.0, behind same.1 more.1))

pub not_both : (a b : List ℕ) → bytes_below a b ≡ true → bytes_below b a ≡ true → ⊥
not_both [] [] ab ba = absurd cc
not_both (x ∷ s) [] ab ba = absurd cc
not_both [] (y ∷ t) ab ba = absurd cc
not_both (x ∷ s) (y ∷ t) ab ba = by_both (split x y s t ab) (split y x t s ba) (not_both s t) where
  by_both : (x < y) ⊎ ((x ≡ y) × (bytes_below s t ≡ true)) → (y < x) ⊎ ((y ≡ x) × (bytes_below t s ≡ true)) → (bytes_below s t ≡ true → bytes_below t s ≡ true → ⊥) → ⊥
  by_both (inl lt) (inl more) behind = absurd (omega arith)
  by_both (inl lt) (inr more) behind = let e : y ≡ x = more.0 in absurd (omega arith)
  by_both (inr same) (inl more) behind = let e : x ≡ y = same.0 in absurd (omega arith)
  by_both (inr same) (inr more) behind = behind same.1 more.1

-- ---- keys that ascend

-- all keys are above these bytes
abbrev pub AreAbove : List ℕ → List Pair → Type 0
AreAbove last ps = AllByRecursion (λ p. bytes_below last (spelling p.key) ≡ true) ps

pub higher : (a b : List ℕ) (ps : List Pair) → bytes_below a b ≡ true → AreAbove b ps → AreAbove a ps
higher a b [] lt all = tt
higher a b (p ∷ ps) lt all = (below_more a b (spelling p.key) lt all.0, higher a b ps lt all.1)

pub ascend_above : (last : List ℕ) (ps : List Pair) → KeysAscend last ps → AreAbove last ps
ascend_above last [] ascend = tt
ascend_above last (p ∷ ps) ascend = (ascend.0, higher last (spelling p.key) ps ascend.0 (ascend_above (spelling p.key) ps ascend.1))
