-- What a step of a chain hashes, written part by part.
use Rattle.std.proofs.Common.{◌≡◌, ℕ, ◌<◌, ◌≤◌, List, [], ◌∷◌, ◌++◌, length, take, drop, sym, ◌∙◌, ap, arith, append_assoc, set, length-append}
use Rattle.lms_core.specs.Bytes.{u16_bytes, u32_bytes}
use Rattle.std.proofs.lemmas.List.{drop_at, set_split, take_all, take_at, take_more_set}

-- a list that is all front
pub whole_front : (xs front : List ℕ) → length xs ≡ 55 → take 55 xs ≡ front → xs ≡ front
whole_front xs front size e = let fits : length xs ≤ 55 = omega (arith, size) in sym (take_all 55 xs fits) ∙ e

-- the digit written behind the front, and the value behind it
pub stepped : (old new front value : List ℕ) (j : ℕ) → length old ≡ 55 → length new ≡ 55 → length front ≡ 22 → take 22 old ≡ front → take 55 new ≡ take 23 (set old 22 j) ++ value → new ≡ front ++ j ∷ value
stepped old new front value j old_size new_size front_size begun written =
    let room : 22 < length old = omega (arith, old_size) in
    let digit : take 23 (set old 22 j) ≡ take 22 old ++ j ∷ [] = take_more_set old 22 j room in
    whole_front new (front ++ j ∷ value) new_size (written ∙ ap (λ (x : List ℕ). x ++ value) (digit ∙ ap (λ (x : List ℕ). x ++ j ∷ []) begun) ∙ append_assoc front (j ∷ []) value)

-- the front stays
pub same_front : (new front value : List ℕ) (j : ℕ) → length front ≡ 22 → new ≡ front ++ j ∷ value → take 22 new ≡ front
same_front new front value j size e = ap (take 22) e ∙ take_at front (j ∷ value) 22 size

-- what each step of a chain begins with
pub prefix_length : (identifier : List ℕ) (q i : ℕ) → length identifier ≡ 16 → length (identifier ++ u32_bytes q ++ u16_bytes i) ≡ 22
prefix_length identifier q i size = simp length-append (omega (arith, size))

-- five parts, each written behind the one before it
pub five_parts : (x1 x2 x3 x4 x5 a b c b' c' d : List ℕ) (j : ℕ) → length x5 ≡ 55 → b ≡ b' → c ≡ c' → take 16 x1 ≡ a → take 20 x2 ≡ take 16 x1 ++ b → take 22 x3 ≡ take 20 x2 ++ c
    → take 23 x4 ≡ take 22 x3 ++ j ∷ [] → take 55 x5 ≡ take 23 x4 ++ d → x5 ≡ a ++ b' ++ c' ++ j ∷ d
five_parts x1 x2 x3 x4 x5 a b c b' c' d j size eb ec e1 e2 e3 e4 e5 =
    let front : take 55 x5 ≡ (a ++ b' ++ c' ++ j ∷ []) ++ d = cc in
    whole_front x5 (a ++ b' ++ c' ++ j ∷ d) size (front ∙ append_assoc (a ++ b' ++ c') (j ∷ []) d)

-- a front, a digit and a value have the length of an input
pub input_length : (xs front value : List ℕ) (j : ℕ) → length front ≡ 22 → length value ≡ 32 → xs ≡ front ++ j ∷ value → length xs ≡ 55
input_length xs front value j front_size value_size e = ap length e ∙ simp length-append (omega (arith, front_size, value_size))

-- what stands behind the digit
pub value_behind : (xs front value : List ℕ) (j : ℕ) → length front ≡ 22 → xs ≡ front ++ j ∷ value → drop 23 xs ≡ value
value_behind xs front value j size e =
    let front_size : length (front ++ j ∷ []) ≡ 23 = simp length-append (omega (arith, size)) in
    ap (drop 23) (e ∙ sym (append_assoc front (j ∷ []) value)) ∙ drop_at (front ++ j ∷ []) value 23 front_size

-- another digit in its place
pub next_digit : (xs front : List ℕ) (j : ℕ) → length xs ≡ 55 → take 22 xs ≡ front → set xs 22 j ≡ front ++ j ∷ drop 23 xs
next_digit xs front j size begun =
    let room : 22 < length xs = omega (arith, size) in
    set_split xs 22 j room ∙ ap (λ (x : List ℕ). x ++ j ∷ drop 23 xs) begun
