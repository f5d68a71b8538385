-- Heads that end, and bytes in which none does.
use Rattle.std.proofs.Common.{◌≡◌, ◌<◌, ℕ, List, [], ◌∷◌, ◌++◌, length, sym, ap, ◌∙◌, subst, inl, inr, arith, append_assoc, append-nil, length-append}
use Rattle.std.proofs.lemmas.List.{same_from_push}
use Rattle.http_wire.specs.Ends.{EndsInEmptyLine, HasNoEnd, EndsHead}

-- a list is empty, or has a last element
pub data Backwards : List ℕ → Type 0 where
  none : Backwards []
  last : (xs : List ℕ) (x : ℕ) → Backwards (xs ++ x ∷ [])

pub backwards : (xs : List ℕ) → Backwards xs
backwards [] = none
backwards (x ∷ xs) = elim (backwards xs) as (λ ys _. Backwards (x ∷ ys)) [
  | none ↦ last [] x
  | last ys y ↦ last (x ∷ ys) y
]

-- no bytes end nothing
pub none_ends : HasNoEnd []
none_ends front more e b = elim b [
  | inl x ↦ absurd (omega (arith, ap length e, ap length x.1, length-append front more, length-append x.0 (10 ∷ 10 ∷ [])))
  | inr x ↦ absurd (omega (arith, ap length e, ap length x.1, length-append front more, length-append x.0 (10 ∷ 13 ∷ 10 ∷ [])))
]

-- one byte more, where all that came does not end in an empty line
pub no_end_more : (bytes : List ℕ) (b : ℕ) → HasNoEnd bytes → ¬ (EndsInEmptyLine (bytes ++ b ∷ [])) → HasNoEnd (bytes ++ b ∷ [])
no_end_more bytes b so_far not_now front more e = elim (backwards more) as (λ m _. bytes ++ b ∷ [] ≡ front ++ m → ¬ (EndsInEmptyLine front)) [
  | none ↦ λ is. subst (λ (l : List ℕ). ¬ (EndsInEmptyLine l)) (is ∙ append-nil front) not_now
  | last ys y ↦ λ is. so_far front ys (same_from_push bytes (front ++ ys) b y (is ∙ sym (append_assoc front ys (y ∷ [])))).0
] e

-- a shorter front of bytes with one more is a front of the bytes
pub shorter_front : (bytes : List ℕ) (b : ℕ) (front more : List ℕ) → 0 < length more → bytes ++ b ∷ [] ≡ front ++ more → (rest : List ℕ) × (bytes ≡ front ++ rest)
shorter_front bytes b front more some e = elim (backwards more) as (λ m _. 0 < length m → bytes ++ b ∷ [] ≡ front ++ m → (rest : List ℕ) × (bytes ≡ front ++ rest)) [
  | none ↦ λ s is. absurd (omega (arith, s))
  | last ys y ↦ λ s is. (ys, (same_from_push bytes (front ++ ys) b y (is ∙ sym (append_assoc front ys (y ∷ [])))).0)
] some e

-- and where it does, a head ends there
pub head_ends : (bytes : List ℕ) (b : ℕ) → HasNoEnd bytes → EndsInEmptyLine (bytes ++ b ∷ []) → EndsHead (bytes ++ b ∷ [])
head_ends bytes b so_far now = record {
  ends = now;
  first = λ front more next e. let f = shorter_front bytes b front (next ∷ more) (omega arith) e in so_far front f.0 f.1;
}

-- the same by the buffer that the bytes stand in
pub grown_ends : (old new shown : List ℕ) (b : ℕ) → HasNoEnd old → new ≡ old ++ b ∷ [] → shown ≡ new → EndsInEmptyLine shown → EndsHead new
grown_ends old new shown b so_far is same now = subst EndsHead (sym is) (head_ends old b so_far (subst EndsInEmptyLine (same ∙ is) now))

pub grown_open : (old new shown : List ℕ) (b : ℕ) → HasNoEnd old → new ≡ old ++ b ∷ [] → shown ≡ new → ¬ (EndsInEmptyLine shown) → HasNoEnd new
grown_open old new shown b so_far is same not_now = subst HasNoEnd (sym is) (no_end_more old b so_far (λ e. not_now (subst EndsInEmptyLine (sym (same ∙ is)) e)))
