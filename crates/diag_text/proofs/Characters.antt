-- The characters of a text and the bytes that they are written in.
use Rattle.std.proofs.Common.{◌≡◌, ℕ, suc, ◌<◌, ◌≤◌, ◌≢◌, List, [], ◌∷◌, ◌++◌, length, get_or, inl, inr, refl, sym, ap, ap₂, ◌∙◌, arith, append_assoc, append-nil, le-ltb, lt-ltb, ne_eqb, codes}
use Rattle.std.specs.List.{flat_map}
use Rattle.std.proofs.lemmas.Bool.{cases_lt}
use Rattle.std.proofs.lemmas.Grind.{flat_map-append}
use Rattle.std.proofs.lemmas.Str.{encode_ascii, inside_one}
use lib.Utf8.{encode}
use Rattle.diag_text.specs.Printed.{escaped, hex_byte}

-- a byte that needs no escape
pub plain : (b : ℕ) → b ≢ 34 → b ≢ 92 → 32 ≤ b → b ≢ 127 → escaped b ≡ b ∷ []
plain b quote slash low delete = rw (ne_eqb b 34 quote, ne_eqb b 92 slash, le-ltb b 32 low, ne_eqb b 127 delete) refl

high_bytes : (xs : List ℕ) → ((k : ℕ) → k < length xs → 128 ≤ get_or xs k 0) → flat_map escaped xs ≡ xs
high_bytes [] h = refl
high_bytes (x ∷ xs) h =
    let high : 128 ≤ x = h 0 (omega arith) in
    ap₂ (λ (a b : List ℕ). a ++ b) (plain x (λ e. omega arith) (λ e. omega arith) (omega arith) (λ e. omega arith)) (high_bytes xs (λ k below. h (suc k) (omega arith)))

high_char : (c : ℕ) → 128 ≤ c → flat_map escaped (encode c) ≡ encode c
high_char c big =
    let high : (k : ℕ) → k < length (encode c) → 128 ≤ get_or (encode c) k 0 = λ k below. elim (cases_lt (get_or (encode c) k 0) 128) [
      | inl low ↦ absurd (omega (arith, inside_one c [] (encode c) k (sym (append-nil _)) below low))
      | inr h ↦ h
    ] in
    high_bytes (encode c) high

ascii_char : (c : ℕ) → c < 128 → flat_map escaped (encode c) ≡ escaped c
ascii_char c small = rw (encode_ascii c small, append-nil) refl

pub plain_char : (c : ℕ) → c ≢ 34 → c ≢ 92 → 32 ≤ c → c ≢ 127 → flat_map escaped (encode c) ≡ encode c
plain_char c quote slash low delete = elim (cases_lt c 128) [
  | inl small ↦ ascii_char c small ∙ plain c quote slash low delete ∙ sym (encode_ascii c small)
  | inr big ↦ high_char c big
]

pub marked_char : (c : ℕ) → c ≡ 34 → flat_map escaped (encode c) ≡ 92 ∷ 34 ∷ []
marked_char c e = rw e (ascii_char 34 (omega arith))

pub slashed_char : (c : ℕ) → c ≡ 92 → flat_map escaped (encode c) ≡ 92 ∷ 92 ∷ []
slashed_char c e = rw e (ascii_char 92 (omega arith))

pub control_char : (c : ℕ) → (c ≡ 127 → ⊥) → c < 32 → flat_map escaped (encode c) ≡ codes "\\u00" ++ hex_byte c
control_char c other low =
    let small : c < 128 = omega arith in
    let quote : c ≢ 34 = λ e. omega arith in
    let slash : c ≢ 92 = λ e. omega arith in
    ascii_char c small ∙ rw (ne_eqb c 34 quote, ne_eqb c 92 slash, lt-ltb c 32 low) refl

pub delete_char : (c : ℕ) → c ≡ 127 → flat_map escaped (encode c) ≡ codes "\\u00" ++ hex_byte c
delete_char c e = rw e (ascii_char 127 (omega arith))

pub ruleset characters = (plain_char, marked_char, slashed_char, control_char, delete_char)

-- ---- the characters of a text in turn

pub next_character : (now total rest : List ℕ) (c : ℕ) (more : List ℕ) → rest ≡ encode c ++ more → now ++ flat_map escaped rest ≡ total
    → (now ++ flat_map escaped (encode c)) ++ flat_map escaped more ≡ total
next_character now total rest c more parts so_far =
    let step : flat_map escaped rest ≡ flat_map escaped (encode c) ++ flat_map escaped more = ap (λ (t : List ℕ). flat_map escaped t) parts ∙ flat_map-append escaped (encode c) more in
    append_assoc now (flat_map escaped (encode c)) (flat_map escaped more) ∙ ap (λ (t : List ℕ). now ++ t) (sym step) ∙ so_far

pub characters_end : (now total rest : List ℕ) → length rest ≡ 0 → now ++ flat_map escaped rest ≡ total → now ≡ total
characters_end now total [] none so_far = sym (append-nil now) ∙ so_far
characters_end now total (b ∷ rest) none so_far = absurd (omega arith)
