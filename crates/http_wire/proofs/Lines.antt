-- Lines that are closed end a head, and no shorter front of them does.
use Rattle.std.proofs.Common.{All, ◌≡◌, ◌≢◌, ◌<◌, ◌≤◌, ℕ, true, List, [], ◌∷◌, ◌++◌, length, refl, sym, ap, ◌∙◌, subst, inl, inr, arith, append_assoc, append-nil}
use Rattle.std.proofs.Common.{length-append, codes}
use Rattle.std.specs.List.{flat_map}
use Rattle.std.proofs.lemmas.Bool.{false≢true}
use Rattle.std.proofs.lemmas.List.Elements.{All-head, All-tail}
use Rattle.httparse.specs.Grammar.{is_value_byte, AllPass}
use Rattle.httparse.proofs.GrammarLemmas.{cons-append}
use Rattle.http_wire.specs.Ends.{EndsInEmptyLine, EndsHead}
use Rattle.http_wire.specs.Writing.{line_bytes, field_line, head_bytes}

-- a line has a byte, and none that ends a line
abbrev pub IsLine : List ℕ → Type 0
IsLine line = (0 < length line) × AllPass is_value_byte line

not_lf : (b : ℕ) → is_value_byte b ≡ true → b ≢ 10
not_lf b passes e = false≢true (subst (λ (v : ℕ). is_value_byte v ≡ true) e passes)

not_cr : (b : ℕ) → is_value_byte b ≡ true → b ≢ 13
not_cr b passes e = false≢true (subst (λ (v : ℕ). is_value_byte v ≡ true) e passes)

-- what ends behind a byte that is not its first
tail_of : (x y : ℕ) (f front end : List ℕ) → x ≢ y → x ∷ f ≡ front ++ (y ∷ end) → (w : List ℕ) × (f ≡ w ++ (y ∷ end))
tail_of x y f [] end other e = absurd (other (cc))
tail_of x y f (z ∷ w) end other e = (w, cc)

-- the same with a byte before it that may be its first
second_of : (x y : ℕ) (f front end : List ℕ) → x ≢ y → 10 ∷ x ∷ f ≡ front ++ (10 ∷ y ∷ end) → (w : List ℕ) × (x ∷ f ≡ w ++ (10 ∷ y ∷ end))
second_of x y f [] end other e = absurd (other (cc))
second_of x y f (z ∷ w) end other e = (w, cc)

ends_behind : (x : ℕ) (f : List ℕ) → x ≢ 10 → EndsInEmptyLine (x ∷ f) → EndsInEmptyLine f
ends_behind x f other (inl a) = inl (tail_of x 10 f a.0 (10 ∷ []) other a.1)
ends_behind x f other (inr a) = inr (tail_of x 10 f a.0 (13 ∷ 10 ∷ []) other a.1)

ends_behind_line : (x : ℕ) (f : List ℕ) → x ≢ 10 → x ≢ 13 → EndsInEmptyLine (10 ∷ x ∷ f) → EndsInEmptyLine (x ∷ f)
ends_behind_line x f not10 not13 (inl a) = inl (second_of x 10 f a.0 [] not10 a.1)
ends_behind_line x f not10 not13 (inr a) = inr (second_of x 13 f a.0 (10 ∷ []) not13 a.1)

too_short : (bytes : List ℕ) → length bytes ≤ 1 → ¬ (EndsInEmptyLine bytes)
too_short bytes short (inl a) = omega (arith, short, ap length a.1, length-append a.0 (10 ∷ 10 ∷ []))
too_short bytes short (inr a) = omega (arith, short, ap length a.1, length-append a.0 (10 ∷ 13 ∷ 10 ∷ []))

-- behind a line feed, these bytes end in an empty line as a whole at most
abbrev EndsLast : List ℕ → Type 0
EndsLast rest = (front more : List ℕ) → rest ≡ front ++ more → EndsInEmptyLine (10 ∷ front) → more ≡ []

-- inside a line
in_line : (line rest : List ℕ) → AllPass is_value_byte line → EndsLast rest → (front more : List ℕ) → line ++ (13 ∷ 10 ∷ rest) ≡ front ++ more → EndsInEmptyLine front → more ≡ []
in_line line rest pass last [] more e is = absurd (too_short [] (omega arith) is)
in_line [] rest pass last (x ∷ []) more e is = absurd (too_short (x ∷ []) (omega arith) is)
in_line [] rest pass last (x ∷ y ∷ f) more e is =
    let first : x ≡ 13 = cc in
    let second : y ≡ 10 = cc in
    let tail : rest ≡ f ++ more = cc in
    last f more tail (subst (λ (v : ℕ). EndsInEmptyLine (v ∷ f)) second (ends_behind x (y ∷ f) (λ ten. omega (arith, first, ten)) is))
in_line (c ∷ line) rest pass last (x ∷ f) more e is =
    let first : c ≡ x = cc in
    let tail : line ++ (13 ∷ 10 ∷ rest) ≡ f ++ more = cc in
    let passes : is_value_byte x ≡ true = subst (λ (v : ℕ). is_value_byte v ≡ true) first (All-head (λ v. is_value_byte v ≡ true) c line pass) in
    in_line line rest (All-tail (λ v. is_value_byte v ≡ true) c line pass) last f more tail (ends_behind x f (not_lf x passes) is)

-- from the begin of a line on
from_line : (line rest : List ℕ) → IsLine line → EndsLast rest → EndsLast (line ++ (13 ∷ 10 ∷ rest))
from_line line rest is last [] more e ends = absurd (too_short (10 ∷ []) (omega arith) ends)
from_line [] rest is last (x ∷ f) more e ends = absurd (omega (arith, is.0))
from_line (c ∷ line) rest is last (x ∷ f) more e ends =
    let first : c ≡ x = cc in
    let passes : is_value_byte x ≡ true = subst (λ (v : ℕ). is_value_byte v ≡ true) first (All-head (λ v. is_value_byte v ≡ true) c line is.1) in
    in_line (c ∷ line) rest is.1 last (x ∷ f) more e (ends_behind_line x f (not_lf x passes) (not_cr x passes) ends)

last_line : EndsLast (13 ∷ 10 ∷ [])
last_line [] more e ends = absurd (too_short (10 ∷ []) (omega arith) ends)
last_line (x ∷ []) more e (inl a) =
    let first : x ≡ 13 = cc in
    let not_ten : x ≢ 10 = λ ten. omega (arith, first, ten) in
    absurd (too_short [] (omega arith) (ends_behind x [] not_ten (inl (second_of x 10 [] a.0 [] not_ten a.1))))
last_line (x ∷ []) more e (inr a) = absurd (omega (arith, ap length a.1, length-append a.0 (10 ∷ 13 ∷ 10 ∷ [])))
last_line (x ∷ y ∷ f) [] e ends = refl
last_line (x ∷ y ∷ f) (z ∷ more) e ends = absurd (omega (arith, ap length e, length-append f (z ∷ more)))

lines_last : (lines : List (List ℕ)) → All IsLine lines → EndsLast (flat_map line_bytes lines ++ codes "\r\n")
lines_last [] all = last_line
lines_last (line ∷ lines) all =
    let rest = flat_map line_bytes lines ++ codes "\r\n" in
    let whole : line ++ (13 ∷ 10 ∷ rest) ≡ flat_map line_bytes (line ∷ lines) ++ codes "\r\n" = regroup line (flat_map line_bytes lines) (codes "\r\n") in
    subst EndsLast whole (from_line line rest (All-head IsLine line lines all) (lines_last lines (All-tail IsLine line lines all)))
  where
    regroup : (a b c : List ℕ) → a ++ (13 ∷ 10 ∷ (b ++ c)) ≡ ((a ++ (13 ∷ 10 ∷ [])) ++ b) ++ c
    regroup a b c = simp (append_assoc, cons-append)

-- the line that says that the connection ends
abbrev pub last_field : List ℕ
last_field = field_line (codes "Connection") (codes "close")

flat_more : (lines : List (List ℕ)) (line : List ℕ) → flat_map line_bytes (lines ++ line ∷ []) ≡ flat_map line_bytes lines ++ line_bytes line
flat_more [] line = append-nil (line_bytes line)
flat_more (x ∷ lines) line = ap (λ (l : List ℕ). line_bytes x ++ l) (flat_more lines line) ∙ sym (append_assoc (line_bytes x) (flat_map line_bytes lines) (line_bytes line))

-- a head is its lines, the last among them, and an empty line
pub head_lines : (lines : List (List ℕ)) → head_bytes lines ≡ flat_map line_bytes (lines ++ last_field ∷ []) ++ codes "\r\n"
head_lines lines = ap (λ (l : List ℕ). l ++ codes "\r\n") (sym (flat_more lines last_field))

pub head_closed : (lines : List (List ℕ)) → All IsLine (lines ++ last_field ∷ []) → EndsHead (head_bytes lines)
head_closed lines all = record {
  ends = inr (flat_map line_bytes lines ++ (last_field ++ 13 ∷ []), regroup (flat_map line_bytes lines) last_field);
  first = λ front more next e is.
      let none : next ∷ more ≡ [] = lines_last (lines ++ last_field ∷ []) all front (next ∷ more) (sym (head_lines lines) ∙ e) (behind_line front is) in
      omega (arith, ap length none);
}
  where
    regroup : (a b : List ℕ) → (a ++ (b ++ (13 ∷ 10 ∷ []))) ++ (13 ∷ 10 ∷ []) ≡ (a ++ (b ++ (13 ∷ []))) ++ (10 ∷ 13 ∷ 10 ∷ [])
    regroup a b = simp (append_assoc, cons-append)

    behind_line : (front : List ℕ) → EndsInEmptyLine front → EndsInEmptyLine (10 ∷ front)
    behind_line front (inl a) = inl (10 ∷ a.0, ap (λ (l : List ℕ). 10 ∷ l) a.1)
    behind_line front (inr a) = inr (10 ∷ a.0, ap (λ (l : List ℕ). 10 ∷ l) a.1)
