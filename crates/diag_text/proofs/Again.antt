-- The text of a proper item is read as that item.
use Rattle.std.proofs.Common.{◌≡◌, ◌≢◌, ℕ, zero, suc, ◌+◌, ◌*◌, ◌/◌, ◌%◌, ◌^◌, ◌<◌, ◌≤◌, true, false, List, [], ◌∷◌, ◌++◌, length, Ok, Some, refl, ap, ◌∙◌, append_assoc, append-nil, arith, ◌⊎◌}
use Rattle.std.proofs.Common.{inl, inr, codes, decimal, ne_eqb, eq-eqb, lt-ltb, le-ltb, length-append, drop_at}
use Rattle.std.specs.List.{flat_map, AllByRecursion}
use Rattle.std.specs.Char.{is_ascii_digit}
use Rattle.std.specs.Str.Parse.{AllDigits, digits_value}
use Rattle.std.proofs.lemmas.Bool.{cases_lt, cases_eq, le-leb}
use Rattle.std.proofs.lemmas.Fmt.{decimal_is_IsNumeral_wide}
use Rattle.std.proofs.lemmas.List.Sums.{take_while-cons}
use Rattle.std.proofs.lemmas.Str.Parse.{digit_at}
use Rattle.cbor_heads.specs.Place.{Place, skip, begins}
use Rattle.diag_text.specs.Printed.{hex_digit, hex_byte, escaped, listed}
use Rattle.cbor_heads.specs.Reading.{Outcome, Reader}
use Rattle.diag_text.specs.Reading.{past, digits, same, numeral_value, number_at, hex_value, hex_pair, hex_guess, text_guess, pieces_at, parts_at}
use Rattle.diag_text.specs.Faulty.{NoDigit, EndsNumber}
use Rattle.diag_text.proofs.Characters.{plain}
use Rattle.diag_text.proofs.Fronts.{begins_front, stops_by, stops_comma}

abbrev pub place : ℕ → List ℕ → Place
place b text = record { at = b; rest = text }

pub skip_front : (b : ℕ) (token more : List ℕ) → skip (length token) (place b (token ++ more)) ≡ place (b + length token) more
skip_front b token more = ap (λ (t : List ℕ). place (b + length token) t) (drop_at token more (length token) refl)

pub behind_again : {A : Type 0} (token : List ℕ) (b : ℕ) (more : List ℕ) (f : Place → Outcome ℕ A) → past token (place b (token ++ more)) f ≡ f (place (b + length token) more)
behind_again token b more f = rw (begins_front token more) (ap f (skip_front b token more))

-- ---- bytes and characters

hex_back : (d : ℕ) → d < 16 → hex_value (hex_digit d) ≡ d
hex_back d lt = elim (cases_lt d 10) [
  | inl low ↦
      let a : 48 ≤ 48 + d = omega arith in
      let b : 48 + d < 58 = omega arith in
      rw (lt-ltb d 10 low, le-ltb (48 + d) 48 a, lt-ltb (48 + d) 58 b) (omega arith)
  | inr high ↦
      let a : 48 ≤ 87 + d = omega arith in
      let b : 58 ≤ 87 + d = omega arith in
      let e : 97 ≤ 87 + d = omega arith in
      let f : 87 + d < 103 = omega arith in
      rw (le-ltb d 10 high, le-ltb (87 + d) 48 a, le-ltb (87 + d) 58 b, le-ltb (87 + d) 97 e, lt-ltb (87 + d) 103 f) (omega arith)
]

pair_back : (v : ℕ) → v < 256 → hex_pair (hex_digit (v / 16)) (hex_digit (v % 16)) ≡ v
pair_back v lt =
    let high : v / 16 < 16 = omega arith in
    let low : v % 16 < 16 = omega arith in
    let sum : (v / 16) * 16 + v % 16 ≡ v = omega arith in
    rw (hex_back (v / 16) high, hex_back (v % 16) low) sum

pub hex_guess_back : (v : ℕ) → v < 256 → (more : List ℕ) → hex_guess (hex_byte v ++ more) ≡ v
unfolding hex_guess
hex_guess_back v lt more = pair_back v lt

hex_not_mark : (d : ℕ) → d < 16 → 39 ≢ hex_digit d
hex_not_mark d lt = elim (cases_lt d 10) [
  | inl low ↦ rw (lt-ltb d 10 low) (λ e. omega arith)
  | inr high ↦ rw (le-ltb d 10 high) (λ e. omega arith)
]

pub hex_not_close : (v : ℕ) → v < 256 → (more : List ℕ) → begins (codes "'") (hex_byte v ++ more) ≡ false
hex_not_close v lt more =
    let high : v / 16 < 16 = omega arith in
    rw (ne_eqb 39 (hex_digit (v / 16)) (hex_not_mark (v / 16) high)) refl

module _ (spell : ℕ → List ℕ) (guess : List ℕ → ℕ) (close : List ℕ) (Good : ℕ → Type 0)
    (back : (v : ℕ) → Good v → (more : List ℕ) → guess (spell v ++ more) ≡ v)
    (open_still : (v : ℕ) → Good v → (more : List ℕ) → begins close (spell v ++ more) ≡ false) where
  pub pieces_again : (at : ℕ) (vs found : List ℕ) (n b : ℕ) (more : List ℕ) → AllByRecursion Good vs → length vs < n
      → pieces_at spell guess close at n found (place b (flat_map spell vs ++ (close ++ more))) ≡ Ok (found ++ vs, place (b + length (flat_map spell vs ++ close)) more)
  unfolding pieces_at
  pieces_again at vs found zero b more each lt = absurd (omega arith)
  pieces_again at [] found (suc n) b more each lt =
      rw (begins_front close more, skip_front b close more, append-nil found) refl
  pieces_again at (v ∷ vs) found (suc n) b more each lt =
      let rest = flat_map spell vs ++ (close ++ more) in
      let text : flat_map spell (v ∷ vs) ++ (close ++ more) ≡ spell v ++ rest = append_assoc (spell v) (flat_map spell vs) (close ++ more) in
      let others = pieces_again at vs (found ++ v ∷ []) n (b + length (spell v)) more each.1 (omega arith) in
      let len : b + length (spell v) + length (flat_map spell vs ++ close) ≡ b + length (flat_map spell (v ∷ vs) ++ close) =
      omega (arith, length-append (spell v) (flat_map spell vs), length-append (spell v ++ flat_map spell vs) close, length-append (flat_map spell vs) close) in
      let step : pieces_at spell guess close at (suc n) found (place b (spell v ++ rest)) ≡ pieces_at spell guess close at n (found ++ v ∷ []) (place (b + length (spell v)) rest) =
      rw (open_still v each.0 rest, back v each.0 rest, begins_front (spell v) rest, skip_front b (spell v) rest) refl in
      ap (λ (t : List ℕ). pieces_at spell guess close at (suc n) found (place b t)) text ∙ step ∙ others
      ∙ ap (λ (k : ℕ). Ok ((found ++ v ∷ []) ++ vs, place k more)) len ∙ ap (λ (bs : List ℕ). Ok (bs, place (b + length (flat_map spell (v ∷ vs) ++ close)) more)) (append_assoc found (v ∷ []) vs)

-- ---- numbers

pub digits_stop : (more : List ℕ) → NoDigit more → digits more ≡ []
digits_stop [] stop = refl
digits_stop (c ∷ cs) stop = rw (take_while-cons is_ascii_digit c cs, stop) refl

pub digits_bracket : (more : List ℕ) → digits (40 ∷ more) ≡ []
digits_bracket more = rw (take_while-cons is_ascii_digit 40 more) refl

digits_front : (ds more : List ℕ) → AllDigits 10 ds → digits more ≡ [] → digits (ds ++ more) ≡ ds
digits_front [] more all stop = stop
digits_front (d ∷ ds) more all stop =
    let range = digit_at (d ∷ ds) 0 all (omega arith) in
    let digit : is_ascii_digit d ≡ true = rw (le-leb 48 d range.0, le-leb d 57 range.1) refl in
    rw (take_while-cons is_ascii_digit d (ds ++ more), digit) (ap (λ (t : List ℕ). d ∷ t) (digits_front ds more all.1 stop))

same_self : (a : List ℕ) → same a a ≡ true
same_self [] = refl
same_self (x ∷ xs) = rw (eq-eqb x x refl) (same_self xs)

number_back : (limit n : ℕ) → n < limit → n < 10 ^ 64 → numeral_value limit (decimal n) ≡ Some n
unfolding numeral_value
number_back limit n lt wide =
    let value : digits_value 10 (decimal n) ≡ n = (decimal_is_IsNumeral_wide n wide).1 in
    rw (value, lt-ltb n limit lt, same_self (decimal n)) refl

pub number_again : (at limit n b : ℕ) (more : List ℕ) → n < limit → n < 10 ^ 64 → digits more ≡ []
    → number_at at limit (place b (decimal n ++ more)) ≡ Ok (n, place (b + length (decimal n)) more)
number_again at limit n b more lt wide stop =
    let all = (decimal_is_IsNumeral_wide n wide).0.1 in
    rw (digits_front (decimal n) more all stop, number_back limit n lt wide, skip_front b (decimal n) more) refl

-- ---- parts

abbrev pub AgainBy : {X : Type 0} → Reader ℕ X → (X → List ℕ) → (List ℕ → Type 0) → X → Type 0
AgainBy read text ends x = (b : ℕ) (more : List ℕ) → ends more → read (place b (text x ++ more)) ≡ Ok (x, place (b + length (text x)) more)

-- a closing mark, behind which anything may stand
pub record IsMark (close : List ℕ) : Type 0 where
  pub stops : (more : List ℕ) → EndsNumber (close ++ more)
  pub not_comma : (more : List ℕ) → begins close (codes ", " ++ more) ≡ false

pub square : IsMark (codes "]")
square = record { stops = λ more. stops_by 93 more refl refl; not_comma = λ more. refl }

pub curly : IsMark (codes "}")
curly = record { stops = λ more. stops_by 125 more refl refl; not_comma = λ more. refl }

module _ {X : Type 0} (part : List X → Reader ℕ X) (text : X → List ℕ) (close : List ℕ) (mark : IsMark close) where
  -- each part is read again behind those before it
  abbrev pub Each : List X → List X → Type 0
  Each found [] = Unit {0}
  Each found (x ∷ xs) = AgainBy (part found) text EndsNumber x × Each (found ++ x ∷ []) xs

  pub parts_again : (xs : List X) (x : X) (found : List X) (n b : ℕ) (more : List ℕ) → Each found (x ∷ xs) → length (x ∷ xs) ≤ n
      → parts_at part close n found (place b (listed text (x ∷ xs) ++ (close ++ more))) ≡ Ok (found ++ x ∷ xs, place (b + length (listed text (x ∷ xs) ++ close)) more)
  unfolding parts_at
  parts_again xs x found zero b more each le = absurd (omega arith)
  parts_again [] x found (suc n) b more each le =
      let bytes : listed text (x ∷ []) ++ (close ++ more) ≡ text x ++ (close ++ more) = ap (λ (t : List ℕ). t ++ (close ++ more)) (append-nil (text x)) in
      let one = each.0 b (close ++ more) (mark.stops more) in
      let len : b + length (text x) + length close ≡ b + length (listed text (x ∷ []) ++ close) = omega (arith, length-append (listed text (x ∷ [])) close, ap length (append-nil (text x))) in
      let step : parts_at part close (suc n) found (place b (text x ++ (close ++ more))) ≡ Ok (found ++ x ∷ [], place (b + length (text x) + length close) more) =
      rw (one, begins_front close more, skip_front (b + length (text x)) close more) refl in
      ap (λ (t : List ℕ). parts_at part close (suc n) found (place b t)) bytes ∙ step ∙ ap (λ (k : ℕ). Ok (found ++ x ∷ [], place k more)) len
  parts_again (y ∷ ys) x found (suc n) b more each le =
      let rest : List ℕ = listed text (y ∷ ys) in
      let tail : List ℕ = rest ++ (close ++ more) in
      let bytes : listed text (x ∷ y ∷ ys) ++ (close ++ more) ≡ text x ++ (codes ", " ++ tail) = append_assoc (text x) (codes ", " ++ rest) (close ++ more) in
      let one = each.0 b (codes ", " ++ tail) (stops_comma tail) in
      let others = parts_again ys y (found ++ x ∷ []) n (b + length (text x) + 2) more each.1 (omega arith) in
      let len : b + length (text x) + 2 + length (rest ++ close) ≡ b + length (listed text (x ∷ y ∷ ys) ++ close) =
      omega (arith, length-append (listed text (x ∷ y ∷ ys)) close, length-append (text x) (codes ", " ++ rest), length-append rest close) in
      let step : parts_at part close (suc n) found (place b (text x ++ (codes ", " ++ tail))) ≡ parts_at part close n (found ++ x ∷ []) (place (b + length (text x) + 2) tail) =
      rw (one, mark.not_comma tail) refl in
      ap (λ (t : List ℕ). parts_at part close (suc n) found (place b t)) bytes ∙ step ∙ others
      ∙ ap (λ (k : ℕ). Ok ((found ++ x ∷ []) ++ y ∷ ys, place k more)) len ∙ ap (λ (zs : List X). Ok (zs, place (b + length (listed text (x ∷ y ∷ ys) ++ close)) more)) (append_assoc found (x ∷ []) (y ∷ ys))

-- ---- the pieces of a text

pub flat_long : {X : Type 0} (spell : X → List ℕ) → ((v : X) → 1 ≤ length (spell v)) → (vs : List X) → length vs ≤ length (flat_map spell vs)
flat_long spell some [] = omega arith
flat_long spell some (v ∷ vs) = let more = flat_long spell some vs in let one = some v in omega (arith, length-append (spell v) (flat_map spell vs))

marked : (v : ℕ) → (v ≡ 34) ⊎ (v ≡ 92) → (escaped v ≡ 92 ∷ v ∷ [])
marked v (inl quote) = rw (eq-eqb v 34 quote) refl
marked v (inr slash) = let other : v ≢ 34 = λ e. omega arith in rw (ne_eqb v 34 other, eq-eqb v 92 slash) refl

control : (v : ℕ) → (v < 32) ⊎ (v ≡ 127) → escaped v ≡ codes "\\u00" ++ hex_byte v
control v (inl low) =
    let a : v ≢ 34 = λ e. omega arith in
    let b : v ≢ 92 = λ e. omega arith in
    rw (ne_eqb v 34 a, ne_eqb v 92 b, lt-ltb v 32 low) refl
control v (inr delete) = rw delete refl

-- the form of an escaped byte
pub data Form (v : ℕ) : Type 0 where
  mark : ((v ≡ 34) ⊎ (v ≡ 92)) → Form v
  code : ((v < 32) ⊎ (v ≡ 127)) → Form v
  bare : v ≢ 34 → v ≢ 92 → 32 ≤ v → v ≢ 127 → Form v

pub form_of : (v : ℕ) → Form v
form_of v = elim (cases_eq v 34) [
  | inl a ↦ mark (inl a)
  | inr a ↦ elim (cases_eq v 92) [
    | inl b ↦ mark (inr b)
    | inr b ↦ elim (cases_lt v 32) [
      | inl d ↦ code (inl d)
      | inr d ↦ elim (cases_eq v 127) [ inl f ↦ code (inr f) | inr f ↦ bare a b d f ]
    ]
  ]
]

mark_guess : (v : ℕ) → v ≢ 117 → (more : List ℕ) → text_guess (92 ∷ v ∷ more) ≡ v
unfolding text_guess
mark_guess v other more = rw (ne_eqb v 117 other) refl

code_guess : (v : ℕ) → v < 256 → (more : List ℕ) → text_guess ((codes "\\u00" ++ hex_byte v) ++ more) ≡ v
unfolding text_guess
code_guess v lt more = pair_back v lt

bare_guess : (v : ℕ) → v ≢ 92 → (more : List ℕ) → text_guess (v ∷ more) ≡ v
unfolding text_guess
bare_guess v other more = rw (ne_eqb v 92 other) refl

pub text_back_by : (v : ℕ) → Form v → (more : List ℕ) → text_guess (escaped v ++ more) ≡ v
text_back_by v (mark (inl a)) more = rw (marked v (inl a)) (mark_guess v (λ e. omega arith) more)
text_back_by v (mark (inr a)) more = rw (marked v (inr a)) (mark_guess v (λ e. omega arith) more)
text_back_by v (code (inl a)) more = rw (control v (inl a)) (code_guess v (omega arith) more)
text_back_by v (code (inr a)) more = rw (control v (inr a)) (code_guess v (omega arith) more)
text_back_by v (bare a b d f) more = rw (plain v a b d f) (bare_guess v b more)

pub text_open_by : (v : ℕ) → Form v → (more : List ℕ) → begins (codes "\"") (escaped v ++ more) ≡ false
text_open_by v (mark a) more = rw (marked v a) refl
text_open_by v (code a) more = rw (control v a) refl
text_open_by v (bare a b d f) more = let other : 34 ≢ v = λ e. omega arith in rw (plain v a b d f, ne_eqb 34 v other) refl

pub text_some_by : (v : ℕ) → Form v → 1 ≤ length (escaped v)
text_some_by v (mark a) = rw (marked v a) (omega arith)
text_some_by v (code a) = rw (control v a) (omega arith)
text_some_by v (bare a b d f) = rw (plain v a b d f) (omega arith)
