-- Parts of a byte string by their places.
use Rattle.std.proofs.Common.{◌≡◌, ℕ, ◌+◌, ◌-◌, ◌^◌, ◌<◌, ◌≤◌, List, ◌++◌, length, take, drop, get_or, refl, sym, inl, inr, ◌⊎◌, ◌∙◌, ap, arith}
use Rattle.std.specs.Prelude.{slice_range}
use Rattle.std.specs.Int.{w32, from_be_bytes}
use Rattle.std.proofs.lemmas.List.{drop_at, take_all, take_at, take-append-drop, length-take, length-take-le, length-drop, drop-drop, get_or-drop, get_or-take, get_or_past, drop-take, take-take}
use Rattle.std.proofs.lemmas.Nat.{be_bytes_4, from_be_bytes-to_be_bytes_4}
use Rattle.std.proofs.lemmas.Bool.{cases_lt}
use Rattle.lms_core.specs.Bytes.{u32_at, u32_bytes}

-- the part between a front and a back
pub part_at : {A : Type 0} (front middle back : List A) (a b : ℕ) → length front ≡ a → a + length middle ≡ b → slice_range (front ++ (middle ++ back)) a b ≡ middle
part_at front middle back a b front_size middle_size =
    let rest : drop a (front ++ (middle ++ back)) ≡ middle ++ back = drop_at front (middle ++ back) a front_size in
    let size : length middle ≡ b - a = omega arith in
    ap (take (b - a)) rest ∙ take_at middle back (b - a) size

-- the part behind a front
pub back_at : {A : Type 0} (front back : List A) (a b : ℕ) → length front ≡ a → a + length back ≡ b → slice_range (front ++ back) a b ≡ back
back_at front back a b front_size back_size =
    let rest : drop a (front ++ back) ≡ back = drop_at front back a front_size in
    let size : length back ≤ b - a = omega arith in
    ap (take (b - a)) rest ∙ take_all (b - a) back size

-- two parts, one behind the other
pub parts_join : {A : Type 0} (xs : List A) (a b c : ℕ) → a ≤ b → b ≤ c → slice_range xs a b ++ slice_range xs b c ≡ slice_range xs a c
parts_join xs a b c h k =
    let width : (b - a) + (c - b) ≡ c - a = omega arith in
    let place : a + (b - a) ≡ b = omega arith in
    let moved : drop (b - a) (drop a xs) ≡ drop b xs = drop-drop (b - a) a xs ∙ ap (λ n. drop n xs) place in
    let back : drop (b - a) (take (c - a) (drop a xs)) ≡ take (c - b) (drop b xs) = ap (λ n. drop (b - a) (take n (drop a xs))) (sym width) ∙ drop-take (b - a) (c - b) (drop a xs) ∙ ap (take (c - b)) moved in
    let front : take (b - a) (take (c - a) (drop a xs)) ≡ take (b - a) (drop a xs) = take-take (b - a) (c - a) (drop a xs) (omega arith) in
    sym (sym (take-append-drop (b - a) (take (c - a) (drop a xs))) ∙ rw (front, back) refl)

-- a part has its length
pub length-part : {A : Type 0} (xs : List A) (a b : ℕ) → a ≤ b → b ≤ length xs → length (slice_range xs a b) ≡ b - a
length-part xs a b h k = length-take-le (b - a) (drop a xs) (rw length-drop (omega arith))

part_fits_by : (xs : List ℕ) (a b i : ℕ) → ((j : ℕ) → get_or xs j 0 < 256) → (i < b - a) ⊎ (b - a ≤ i) → get_or (slice_range xs a b) i 0 < 256
part_fits_by xs a b i fits (inl h) = rw (get_or-take (b - a) (drop a xs) i 0 h, get_or-drop a xs i 0) (fits (a + i))
part_fits_by xs a b i fits (inr h) =
    let short : length (slice_range xs a b) ≤ i = rw length-take (omega arith) in
    rw (get_or_past (slice_range xs a b) i 0 short) (omega arith)

-- a part of bytes is bytes
pub part_fits : (xs : List ℕ) (a b i : ℕ) → ((j : ℕ) → get_or xs j 0 < 256) → get_or (slice_range xs a b) i 0 < 256
part_fits xs a b i fits = part_fits_by xs a b i fits (cases_lt i (b - a))

-- the bytes of the number that four bytes spell
pub u32_bytes_at : (xs : List ℕ) (a : ℕ) → ((i : ℕ) → get_or xs i 0 < 256) → a + 4 ≤ length xs → u32_bytes (u32_at xs a) ≡ slice_range xs a (a + 4)
u32_bytes_at xs a fits room =
    let size : length (slice_range xs a (a + 4)) ≡ 4 = length-part xs a (a + 4) (omega arith) room ∙ omega arith in
    be_bytes_4 (slice_range xs a (a + 4)) (u32_at xs a) size (λ i. part_fits xs a (a + 4) i fits) refl

-- the number that a number's bytes spell
pub u32_at_bytes : (xs : List ℕ) (a n : ℕ) → n < 2 ^ 32 → slice_range xs a (a + 4) ≡ u32_bytes n → u32_at xs a ≡ n
u32_at_bytes xs a n h e = ap (from_be_bytes w32) e ∙ from_be_bytes-to_be_bytes_4 n h
