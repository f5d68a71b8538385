-- Places behind a text that stood.
use Rattle.std.proofs.Common.{◌≡◌, ℕ, ◌+◌, List, [], ◌++◌, length, ap, arith}
use Rattle.std.proofs.lemmas.List.{length-append}
use Rattle.cbor_heads.specs.Place.{Place, behind}

abbrev place : ℕ → List ℕ → Place
place at rest = record { at = at; rest = rest }

-- behind no text is the place itself
pub behind_here : (p : Place) → behind p.at [] p.rest ≡ p
behind_here p = let e : p.at + 0 ≡ p.at = omega arith in ap (λ (n : ℕ). place n p.rest) e

-- behind one text, and then another
pub behind-append : (before : ℕ) (a b more : List ℕ) → behind (before + length a) b more ≡ behind before (a ++ b) more
behind-append before a b more = let e : before + length a + length b ≡ before + length (a ++ b) = omega (arith, length-append a b) in ap (λ (n : ℕ). place n more) e

-- the same, of a place that is known by its number
pub behind_then : (p : Place) (a : List ℕ) (q : Place) (b more : List ℕ) → q.at ≡ p.at + length a → behind q.at b more ≡ behind p.at (a ++ b) more
behind_then p a q b more at = let e : q.at + length b ≡ p.at + length (a ++ b) = omega (arith, at, length-append a b) in ap (λ (n : ℕ). place n more) e
