-- Strings put one behind the other.
use Rattle.std.proofs.Common.{◌≡◌, ℕ, ◌+◌, ◌*◌, List, [], ◌∷◌, ◌++◌, take, refl, sym, ap, ◌∙◌, arith}
use Rattle.std.specs.Prelude.{map}
use Rattle.std.specs.List.{concat, range_with_len}
use Rattle.std.proofs.lemmas.List.{append-nil, append_assoc}
use Rattle.lms_core.specs.Chains.{chain}
use Rattle.std.proofs.lemmas.List.FromFn.{map-range_with_len_more}
use Rattle.std.proofs.lemmas.List.Folds.{concat-append}

-- the first n of them
abbrev pub joined : (ℕ → List ℕ) → ℕ → List ℕ
joined f n = concat (map f (range_with_len 0 n))

pub joined_more : (f : ℕ → List ℕ) (n : ℕ) → joined f (n + 1) ≡ joined f n ++ f n
joined_more f n =
    ap concat (map-range_with_len_more f 0 n n (omega arith)) ∙ concat-append (map f (range_with_len 0 n)) (f n ∷ [])
    ∙ ap (λ (x : List ℕ). joined f n ++ x) (append-nil (f n))

-- one more, written in place
pub written_more : (f : ℕ → List ℕ) (old new value : List ℕ) (i : ℕ) → take (32 * i) old ≡ joined f i → take (32 * i + 32) new ≡ take (32 * i) old ++ value → value ≡ f i → take (32 * (i + 1)) new ≡ joined f (i + 1)
written_more f old new value i so_far put is =
    let place : 32 * (i + 1) ≡ 32 * i + 32 = omega arith in
    ap (λ (n : ℕ). take n new) place ∙ put ∙ rw (so_far, is) (sym (joined_more f i))

-- one more, added at the end
pub added_more : (f : ℕ → List ℕ) (first old new value : List ℕ) (i : ℕ) → old ≡ first ++ joined f i → new ≡ old ++ value → value ≡ f i → new ≡ first ++ joined f (i + 1)
added_more f first old new value i so_far added is =
    added ∙ rw (so_far, is, joined_more f i) (append_assoc first (joined f i) (f i))

-- four parts behind what was there
pub four_parts : (old a b c d : List ℕ) → (((old ++ a) ++ b) ++ c) ++ d ≡ old ++ (((a ++ b) ++ c) ++ d)
four_parts old a b c d = simp append_assoc refl

-- six parts behind what was there, of which the second to the fourth stand together
pub six_parts : (old a b c d e f : List ℕ) → (((((old ++ a) ++ b) ++ c) ++ d) ++ e) ++ f ≡ old ++ (((a ++ ((b ++ c) ++ d)) ++ e) ++ f)
six_parts old a b c d e f = simp append_assoc refl

-- a chain whose steps, start and length are told each on its own
pub chain_told : (identifier : List ℕ) (q i steps steps' : ℕ) (start start' value : List ℕ) → value ≡ chain identifier q i 0 steps start → steps ≡ steps' → start ≡ start' → value ≡ chain identifier q i 0 steps' start'
chain_told identifier q i steps steps' start start' value is count same =
    is ∙ ap (λ (n : ℕ). chain identifier q i 0 n start) count ∙ ap (chain identifier q i 0 steps') same
