-- Strings of one hash each, end to end.
use Rattle.std.proofs.Common.{◌≡◌, ℕ, zero, suc, ◌+◌, ◌-◌, ◌*◌, ◌<◌, List, [], ◌∷◌, ◌++◌, length, take, drop, get_or, refl, sym, ◌∙◌, ap, arith}
use Rattle.std.specs.Prelude.{slice_range}
use Rattle.std.specs.List.{concat}
use Rattle.std.proofs.lemmas.List.{drop-drop, drop_at, take_at, take-append-drop, length-take-le, length-drop, length-append, nil_from_length}
use Rattle.lms_core.specs.Layout.{hashes_in}
use Rattle.lms_core.specs.Lms.{AllHashes}

pub length-hashes_in : (n : ℕ) (bytes : List ℕ) → length (hashes_in n bytes) ≡ n
length-hashes_in zero bytes = refl
length-hashes_in (suc n) bytes = ap suc (length-hashes_in n (drop 32 bytes))

-- joined, they are the bytes
pub concat-hashes_in : (n : ℕ) (bytes : List ℕ) → length bytes ≡ 32 * n → concat (hashes_in n bytes) ≡ bytes
concat-hashes_in zero bytes size = sym (nil_from_length bytes size)
concat-hashes_in (suc n) bytes size =
    let rest : length (drop 32 bytes) ≡ 32 * n = length-drop 32 bytes ∙ omega arith in
    ap (λ (x : List ℕ). take 32 bytes ++ x) (concat-hashes_in n (drop 32 bytes) rest) ∙ take-append-drop 32 bytes

-- each is one hash long
pub AllHashes-hashes_in : (n : ℕ) (bytes : List ℕ) → length bytes ≡ 32 * n → AllHashes (hashes_in n bytes)
AllHashes-hashes_in zero bytes size = tt
AllHashes-hashes_in (suc n) bytes size =
    let first : length (take 32 bytes) ≡ 32 = length-take-le 32 bytes (omega arith) in
    let rest : length (drop 32 bytes) ≡ 32 * n = length-drop 32 bytes ∙ omega arith in
    (first, AllHashes-hashes_in n (drop 32 bytes) rest)

-- the strings that were joined
pub hashes_in-concat : (n : ℕ) (ys : List (List ℕ)) → length ys ≡ n → AllHashes ys → hashes_in n (concat ys) ≡ ys
hashes_in-concat zero [] size all = refl
hashes_in-concat zero (y ∷ ys) size all = absurd (omega arith)
hashes_in-concat (suc n) [] size all = absurd (omega arith)
hashes_in-concat (suc n) (y ∷ ys) size all =
    let first : take 32 (y ++ concat ys) ≡ y = take_at y (concat ys) 32 all.0 in
    let rest : drop 32 (y ++ concat ys) ≡ concat ys = drop_at y (concat ys) 32 all.0 in
    rw (first, rest) (ap (λ (x : List (List ℕ)). y ∷ x) (hashes_in-concat n ys (omega arith) all.1))

pub length-concat : (ys : List (List ℕ)) → AllHashes ys → length (concat ys) ≡ 32 * length ys
length-concat [] all = refl
length-concat (y ∷ ys) all =
    let rest = length-concat ys all.1 in
    length-append y (concat ys) ∙ omega (arith, all.0, rest)

-- the string at a place
pub get_or-hashes_in : (n i : ℕ) (bytes : List ℕ) → i < n → get_or (hashes_in n bytes) i [] ≡ slice_range bytes (32 * i) (32 * i + 32)
get_or-hashes_in zero i bytes h = absurd (omega arith)
get_or-hashes_in (suc n) zero bytes h = refl
get_or-hashes_in (suc n) (suc i) bytes h =
    let width : 32 * i + 32 - 32 * i ≡ 32 = omega arith in
    let width' : 32 * suc i + 32 - 32 * suc i ≡ 32 = omega arith in
    let place : 32 + 32 * i ≡ 32 * suc i = omega arith in
    get_or-hashes_in n i (drop 32 bytes) (omega arith) ∙ rw (width, width', drop-drop (32 * i) 32 bytes, place) refl

-- what is left from a place on begins with the string there
pub hashes_in-next : (n k : ℕ) (bytes : List ℕ) → k < n → hashes_in (n - k) (drop (32 * k) bytes) ≡ slice_range bytes (32 * k) (32 * k + 32) ∷ hashes_in (n - (k + 1)) (drop (32 * (k + 1)) bytes)
hashes_in-next n k bytes h =
    let count : n - k ≡ suc (n - (k + 1)) = omega arith in
    let width : 32 * k + 32 - 32 * k ≡ 32 = omega arith in
    let place : 32 * k + 32 ≡ 32 * (k + 1) = omega arith in
    rw (count, width, drop-drop 32 (32 * k) bytes, place) refl
