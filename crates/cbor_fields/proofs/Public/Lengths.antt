-- How long heads and a string are, one behind the other.
use Rattle.std.proofs.Common.{ℕ, ◌+◌, ◌*◌, ◌≤◌, List, [], ◌∷◌, ◌++◌, length, append_assoc, arith}
use Rattle.std.specs.List.{flat_map, AllByRecursion}
use Rattle.std.proofs.lemmas.List.{length-append}

-- each head has nine bytes at most (RFC 8949, section 3)
pub heads_and_text : (heads : List (List ℕ)) (text : List ℕ) → AllByRecursion (λ h. length h ≤ 9) heads → length (flat_map (λ h. h) heads ++ text) ≤ 9 * length heads + length text
heads_and_text [] text all = omega arith
heads_and_text (h ∷ heads) text all =
    rw (append_assoc h (flat_map (λ g. g) heads) text, length-append h (flat_map (λ g. g) heads ++ text)) (omega (arith, all.0, heads_and_text heads text all.1))
