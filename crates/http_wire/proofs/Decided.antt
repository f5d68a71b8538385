-- Whether bytes are one whole head: each piece of the grammar is there or is not, and so is a row of pieces.
use Rattle.std.proofs.Common.{◌≡◌, ◌≤◌, ℕ, zero, suc, Bool, true, false, List, [], ◌∷◌, ◌++◌, length, refl, sym, ap, ◌∙◌, subst, inl, inr, ◌⊎◌, arith, append_assoc}
use Rattle.std.proofs.Common.{append-nil, length-append, Option, Some, None}
use Rattle.std.specs.List.{flat_map}
use Rattle.std.specs.Str.{IsUtf8, is_utf8}
use Rattle.std.specs.Char.{is_ascii_digit}
use Rattle.std.proofs.lemmas.Bool.{cases_eq, cases_lt, false≢true}
use Rattle.std.proofs.lemmas.List.Elements.{All-cons, All-nil}
use Rattle.std.proofs.lemmas.Str.{is_utf8-from_IsUtf8, IsUtf8-from_is_utf8}
use Rattle.httparse.specs.Grammar.{is_token_byte, is_uri_byte, is_value_byte, AllPass, LineEnd, crlf, lf, print_end, print_blank, print_version, Field, print_field}
use Rattle.httparse.specs.Grammar.{IsField, RequestHead, ReadsRequest, ResponseHead, ReadsResponse, print_reason, reason_phrase}
use Rattle.httparse.specs.Pieces.{Piece, Begins, Then, Stops, is_newline, Bytes, Newline, Blank, Word, Method, Target, Version, Digit, Code, Text, Reason, FieldLine}
use Rattle.httparse.specs.Pieces.{Section, RequestStart, ResponseStart}
use Rattle.httparse.proofs.RunLemmas.{run_unique, run_unstopped}
use Rattle.httparse.proofs.PieceLemmas.{IsDeterministic, Bytes_deterministic, Blank_deterministic, Method_deterministic, Target_deterministic, Version_deterministic}
use Rattle.httparse.proofs.PieceLemmas.{Digit_deterministic, Code_deterministic, Name_deterministic, RequestStart_deterministic, ResponseStart_deterministic}
use Rattle.httparse.proofs.PieceLemmas.{Section_skip, Section_line, space_ends_token, colon_ends_token, print_end_unique, newline_not_stopped, Stops_value}
use Rattle.httparse.proofs.PieceLemmas.{print_field-append, FieldLine_parts}
use Rattle.httparse.proofs.GrammarLemmas.{request_tree, request_head, request_pieces, request_from_pieces, request_unique, response_head, response_pieces}
use Rattle.httparse.proofs.GrammarLemmas.{response_from_pieces, response_unique}
use Rattle.http_wire.specs.Verdicts.{IsRequest, IsResponse}

-- it holds, or does not
abbrev pub Decided : Type 0 → Type 0
Decided P = P ⊎ ¬ P

-- each text begins with the piece, or does not
abbrev Tells : {A : Type 0} → Piece A → Type 0
Tells G = (text : List ℕ) → Decided (Begins G text)

-- ---- pieces in a row

then_tells : {A B : Type 0} {G : Piece A} {H : Piece B} → IsDeterministic G → Tells G → Tells H → Tells (Then G H)
then_tells {G} {H} once first second text = elim (first text) as (λ _. Decided (Begins (Then G H) text)) [
  | inr none ↦ inr (λ z. none (z.0.0, z.2.0, z.2.1))
  | inl x ↦ elim (second x.1) as (λ _. Decided (Begins (Then G H) text)) [
    | inl y ↦ inl ((x.0, y.0), y.1, (x.1, x.2, y.2))
    | inr none ↦ inr (λ z.
        let same = once.unique z.0.0 x.0 text z.2.0 x.1 z.2.1 x.2 in
        none (z.0.1, z.1, subst (λ (m : List ℕ). H z.0.1 m z.1) same.1 z.2.2))
  ]
]

-- ---- runs of bytes

-- all bytes at the front that pass, and what is behind them
record Split (p : ℕ → Bool) (text : List ℕ) : Type 0 where
  run : List ℕ
  rest : List ℕ
  pass : AllPass p run
  whole : text ≡ run ++ rest
  ends : (rest ≡ []) ⊎ Stops p rest

split : (p : ℕ → Bool) (text : List ℕ) → Split p text
split p [] = record { run = []; rest = []; pass = All-nil (λ v. p v ≡ true); whole = refl; ends = inl refl }
split p (x ∷ text) = by (p x) refl (split p text)
  where
    by : (b : Bool) → p x ≡ b → Split p text → Split p (x ∷ text)
    by true e s = record { run = x ∷ s.run; rest = s.rest; pass = All-cons (λ v. p v ≡ true) x s.run e s.pass; whole = ap (λ (l : List ℕ). x ∷ l) s.whole; ends = s.ends }
    by false e s = record { run = []; rest = x ∷ text; pass = All-nil (λ v. p v ≡ true); whole = refl; ends = inr e }

-- a run with a stop behind it is the split
run_is : (p : ℕ → Bool) (text : List ℕ) (s : Split p text) (w tail : List ℕ) → AllPass p w → Stops p tail → text ≡ w ++ tail → (s.run ≡ w) × (s.rest ≡ tail)
run_is p text s w tail all stops e = elim s.ends as (λ _. (s.run ≡ w) × (s.rest ≡ tail)) [
  | inl none ↦
      let whole : s.run ≡ w ++ tail = sym (append-nil s.run) ∙ ap (λ (l : List ℕ). s.run ++ l) (sym none) ∙ sym s.whole ∙ e in
      absurd (run_unstopped p w tail (subst (AllPass p) whole s.pass) stops)
  | inr other ↦ run_unique p s.run w s.rest tail s.pass all other stops (sym s.whole ∙ e)
]

word_tells : (p : ℕ → Bool) (stop : ℕ) → p stop ≡ false → Tells (Word p stop)
word_tells p stop fails text = by (split p text)
  where
    by : Split p text → Decided (Begins (Word p stop) text)
    by s = elim s.rest as (λ r. s.rest ≡ r → Decided (Begins (Word p stop) text)) [
      | [] ↦ λ is. inr (λ z.
          let same = run_is p text s z.0 (stop ∷ z.1) z.2.1 fails z.2.2 in
          let none : ◌≡◌ {A = List ℕ} [] (stop ∷ z.1) = sym is ∙ same.1 in absurd (omega (arith, ap length none)))
      | y ∷ more ↦ λ is. elim (cases_eq y stop) as (λ _. Decided (Begins (Word p stop) text)) [
        | inr other ↦ inr (λ z.
            let same = run_is p text s z.0 (stop ∷ z.1) z.2.1 fails z.2.2 in
            let heads : y ∷ more ≡ stop ∷ z.1 = sym is ∙ same.1 in
            let first : y ≡ stop = cc in other first)
        | inl same ↦ elim (cases_lt 0 (length s.run)) as (λ _. Decided (Begins (Word p stop) text)) [
          | inl some ↦ inl (s.run, more, (some, s.pass, s.whole ∙ ap (λ (l : List ℕ). s.run ++ l) is ∙ ap (λ (v : ℕ). s.run ++ v ∷ more) same))
          | inr none ↦ inr (λ z.
              let run = run_is p text s z.0 (stop ∷ z.1) z.2.1 fails z.2.2 in
              absurd (omega (arith, none, z.2.0, ap length run.0)))
        ]
      ]
    ] refl

-- ---- the pieces of a head

newline_tells : Tells Newline
newline_tells [] = inr (λ z. nothing z.0 z.1 z.2)
  where
    nothing : (end : LineEnd) (rest : List ℕ) → [] ≡ print_end end ++ rest → ⊥
    nothing crlf rest e = omega (arith, ap length e)
    nothing lf rest e = omega (arith, ap length e)
newline_tells (x ∷ text) = elim (cases_eq x 10) as (λ _. Decided (Begins Newline (x ∷ text))) [
  | inl is ↦ inl (lf, text, ap (λ (v : ℕ). v ∷ text) is)
  | inr other ↦ elim (cases_eq x 13) as (λ _. Decided (Begins Newline (x ∷ text))) [
    | inr none ↦ inr (λ z. neither z.0 z.1 other none z.2)
    | inl is ↦ elim text as (λ t. Decided (Begins Newline (x ∷ t))) [
      | [] ↦ inr (λ z. short z.0 z.1 other z.2)
      | y ∷ more ↦ elim (cases_eq y 10) as (λ _. Decided (Begins Newline (x ∷ y ∷ more))) [
        | inl next ↦ inl (crlf, more, (λ i. is i ∷ next i ∷ more))
        | inr different ↦ inr (λ z. second y more z.0 z.1 other different z.2)
      ]
    ]
  ]
]
  where
    neither : (end : LineEnd) (rest : List ℕ) → ¬ (x ≡ 10) → ¬ (x ≡ 13) → x ∷ text ≡ print_end end ++ rest → ⊥
    neither crlf rest a b e = b (cc)
    neither lf rest a b e = a (cc)

    short : (end : LineEnd) (rest : List ℕ) → ¬ (x ≡ 10) → x ∷ [] ≡ print_end end ++ rest → ⊥
    short crlf rest a e = omega (arith, ap length e)
    short lf rest a e = a (cc)

    second : (y : ℕ) (more : List ℕ) (end : LineEnd) (rest : List ℕ) → ¬ (x ≡ 10) → ¬ (y ≡ 10) → x ∷ y ∷ more ≡ print_end end ++ rest → ⊥
    second y more crlf rest a b e = b (cc)
    second y more lf rest a b e = a (cc)

-- a line end has a byte
end_long : (end : LineEnd) → 1 ≤ length (print_end end)
end_long crlf = omega arith
end_long lf = omega arith

blank_within : (n : ℕ) (text : List ℕ) → length text ≤ n → Decided (Begins Blank text)
blank_within n [] fits = inr (λ z. no z.0 z.1 z.2.0 z.2.1)
  where
    no : (ends : List LineEnd) (rest : List ℕ) → [] ≡ print_blank ends ++ rest → Stops is_newline rest → ⊥
    no ends [] e s = s
    no ends (y ∷ rest) e s = omega (arith, ap length e, length-append (print_blank ends) (y ∷ rest))
blank_within zero (x ∷ text) fits = absurd (omega (arith, fits))
blank_within (suc n) (x ∷ text) fits = elim (newline_tells (x ∷ text)) as (λ _. Decided (Begins Blank (x ∷ text))) [
  | inl y ↦
      let shorter : length y.1 ≤ n = omega (arith, fits, ap length y.2, length-append (print_end y.0) y.1, end_long y.0) in
      elim (blank_within n y.1 shorter) as (λ _. Decided (Begins Blank (x ∷ text))) [
        | inl z ↦ inl (y.0 ∷ z.0, z.1, (y.2 ∙ ap (λ (l : List ℕ). print_end y.0 ++ l) z.2.0 ∙ sym (append_assoc (print_end y.0) (print_blank z.0) z.1), z.2.1))
        | inr none ↦ inr (λ z. not_behind y.0 y.1 z.0 z.1 y.2 none z.2.0 z.2.1)
      ]
  | inr none ↦ by (is_newline x) refl none
]
  where
    not_behind : (end : LineEnd) (rest : List ℕ) (ends : List LineEnd) (last : List ℕ) → x ∷ text ≡ print_end end ++ rest → ¬ (Begins Blank rest)
        → x ∷ text ≡ print_blank ends ++ last → Stops is_newline last → ⊥
    not_behind end rest [] last e none e' s = newline_not_stopped end rest last (sym e ∙ e') s
    not_behind end rest (y ∷ ends) last e none e' s =
        let same = print_end_unique end y rest (print_blank ends ++ last) (sym e ∙ e' ∙ append_assoc (print_end y) (print_blank ends) last) in
        none (ends, last, (same.1, s))

    lone : (ends : List LineEnd) (last : List ℕ) → is_newline x ≡ true → ¬ (Begins Newline (x ∷ text)) → x ∷ text ≡ print_blank ends ++ last → Stops is_newline last → ⊥
    lone [] last line none e s = let fails : is_newline x ≡ false = subst (Stops is_newline) (sym e) s in cc
    lone (y ∷ ends) last line none e s = none (y, print_blank ends ++ last, e ∙ append_assoc (print_end y) (print_blank ends) last)

    by : (b : Bool) → is_newline x ≡ b → ¬ (Begins Newline (x ∷ text)) → Decided (Begins Blank (x ∷ text))
    by false e none = inl ([], x ∷ text, (refl, e))
    by true e none = inr (λ z. lone z.0 z.1 e none z.2.0 z.2.1)

blank_tells : Tells Blank
blank_tells text = blank_within (length text) text (omega arith)

method_tells : Tells Method
method_tells = word_tells is_token_byte 32 space_ends_token

utf8_or_not : (bytes : List ℕ) → Decided (IsUtf8 bytes)
utf8_or_not bytes = by (is_utf8 bytes) refl
  where
    by : (b : Bool) → is_utf8 bytes ≡ b → Decided (IsUtf8 bytes)
    by true e = inl (IsUtf8-from_is_utf8 bytes e)
    by false e = inr (λ is. false≢true (sym e ∙ is_utf8-from_IsUtf8 bytes is))

target_tells : Tells Target
target_tells text = elim (word_tells is_uri_byte 32 refl text) as (λ _. Decided (Begins Target text)) [
  | inr none ↦ inr (λ z. none (z.0, z.1, z.2.0))
  | inl x ↦ elim (utf8_or_not x.0) as (λ _. Decided (Begins Target text)) [
    | inl is ↦ inl (x.0, x.1, (x.2, is))
    | inr not ↦ inr (λ z.
        let same = run_unique is_uri_byte z.0 x.0 (32 ∷ z.1) (32 ∷ x.1) z.2.0.1 x.2.1 refl refl (sym z.2.0.2 ∙ x.2.2) in
        not (subst IsUtf8 same.0 z.2.1))
  ]
]

byte_tells : (b : ℕ) → Tells (Bytes (b ∷ []))
byte_tells b [] = inr (λ z. omega (arith, ap length z.2))
byte_tells b (x ∷ text) = elim (cases_eq x b) as (λ _. Decided (Begins (Bytes (b ∷ [])) (x ∷ text))) [
  | inl is ↦ inl (tt, text, ap (λ (v : ℕ). v ∷ text) is)
  | inr other ↦ inr (λ z. let e = z.2 in let first : x ≡ b = cc in other first)
]

-- the text begins with these bytes, or does not
front_or_not : (front text : List ℕ) → Decided ((rest : List ℕ) × (text ≡ front ++ rest))
front_or_not [] text = inl (text, refl)
front_or_not (b ∷ front) [] = inr (λ z. omega (arith, ap length z.1))
front_or_not (b ∷ front) (x ∷ text) = elim (cases_eq x b) as (λ _. Decided ((rest : List ℕ) × (x ∷ text ≡ (b ∷ front) ++ rest))) [
  | inr other ↦ inr (λ z. let e = z.1 in let first : x ≡ b = cc in other first)
  | inl is ↦ elim (front_or_not front text) as (λ _. Decided ((rest : List ℕ) × (x ∷ text ≡ (b ∷ front) ++ rest))) [
    | inl y ↦ inl (y.0, (λ i. is i ∷ y.1 i))
    | inr none ↦ inr (λ z. let e = z.1 in let tail : text ≡ front ++ z.0 = cc in none (z.0, tail))
  ]
]

version_tells : Tells Version
version_tells text = elim (front_or_not (print_version 0) text) as (λ _. Decided (Begins Version text)) [
  | inl x ↦ inl (0, x.0, (omega arith, x.1))
  | inr not0 ↦ elim (front_or_not (print_version 1) text) as (λ _. Decided (Begins Version text)) [
    | inl x ↦ inl (1, x.0, (omega arith, x.1))
    | inr not1 ↦ inr (λ z. neither z.0 z.1 not0 not1 z.2.0 z.2.1)
  ]
]
  where
    neither : (minor : ℕ) (rest : List ℕ) → ¬ ((rest : List ℕ) × (text ≡ print_version 0 ++ rest)) → ¬ ((rest : List ℕ) × (text ≡ print_version 1 ++ rest))
        → minor ≤ 1 → text ≡ print_version minor ++ rest → ⊥
    neither zero rest a b small e = a (rest, e)
    neither (suc zero) rest a b small e = b (rest, e)
    neither (suc (suc n)) rest a b small e = omega (arith, small)

digit_tells : Tells Digit
digit_tells [] = inr (λ z. omega (arith, ap length z.2.1))
digit_tells (x ∷ text) = by (is_ascii_digit x) refl
  where
    by : (b : Bool) → is_ascii_digit x ≡ b → Decided (Begins Digit (x ∷ text))
    by true e = inl (x, text, (e, refl))
    by false e = inr (λ z.
        let whole = z.2.1 in
        let first : x ≡ z.0 = cc in
        false≢true (sym e ∙ ap is_ascii_digit first ∙ z.2.0))

code_tells : Tells Code
code_tells = then_tells Digit_deterministic digit_tells (then_tells Digit_deterministic digit_tells digit_tells)

text_tells : Tells Text
text_tells text = by (split is_value_byte text)
  where
    by : Split is_value_byte text → Decided (Begins Text text)
    by s = elim (newline_tells s.rest) as (λ _. Decided (Begins Text text)) [
      | inl x ↦ inl ((s.run, x.0), x.1, (s.pass, s.whole ∙ ap (λ (l : List ℕ). s.run ++ l) x.2))
      | inr none ↦ inr (λ z. none (z.0.1, z.1, (run_is is_value_byte text s z.0.0 (print_end z.0.1 ++ z.1) z.2.0 (Stops_value z.0.1 z.1) z.2.1).1))
    ]

reason_tells : Tells Reason
reason_tells text = elim (newline_tells text) as (λ _. Decided (Begins Reason text)) [
  | inl x ↦ inl ((None, x.0), x.1, (All-nil (λ v. is_value_byte v ≡ true), x.2))
  | inr no_line ↦ elim (byte_tells 32 text) as (λ _. Decided (Begins Reason text)) [
    | inr no_space ↦ inr (λ z. neither z.0.0 z.0.1 z.1 no_line no_space z.2.1)
    | inl x ↦ elim (text_tells x.1) as (λ _. Decided (Begins Reason text)) [
      | inl y ↦ inl ((Some y.0.0, y.0.1), y.1, (y.2.0, x.2 ∙ ap (λ (l : List ℕ). 32 ∷ l) y.2.1))
      | inr no_text ↦ inr (λ z. not_behind z.0.0 z.0.1 z.1 x.1 no_line x.2 no_text z.2.0 z.2.1)
    ]
  ]
]
  where
    neither : (r : Option (List ℕ)) (end : LineEnd) (rest : List ℕ) → ¬ (Begins Newline text) → ¬ (Begins (Bytes (32 ∷ [])) text)
        → text ≡ print_reason r ++ (print_end end ++ rest) → ⊥
    neither None end rest a b e = a (end, rest, e)
    neither (Some phrase) end rest a b e = b (tt, phrase ++ (print_end end ++ rest), e)

    not_behind : (r : Option (List ℕ)) (end : LineEnd) (rest tail : List ℕ) → ¬ (Begins Newline text) → text ≡ 32 ∷ tail → ¬ (Begins Text tail)
        → AllPass is_value_byte (reason_phrase r) → text ≡ print_reason r ++ (print_end end ++ rest) → ⊥
    not_behind None end rest tail a is none pass e = a (end, rest, e)
    not_behind (Some phrase) end rest tail a is none pass e =
        let same : 32 ∷ tail ≡ 32 ∷ (phrase ++ (print_end end ++ rest)) = sym is ∙ e in
        let behind : tail ≡ phrase ++ (print_end end ++ rest) = cc in
        none ((phrase, end), rest, (pass, behind))

field_tells : Tells FieldLine
field_tells text = elim (then_tells Name_deterministic (word_tells is_token_byte 58 colon_ends_token) text_tells text) as (λ _. Decided (Begins FieldLine text)) [
  | inr none ↦ inr (λ z. none ((z.0.name, (z.0.raw, z.0.end)), z.1, FieldLine_parts z.0 text z.1 z.2))
  | inl x ↦
      let f : Field = record { name = x.0.0; raw = x.0.1.0; end = x.0.1.1 } in
      inl (f, x.1, (record { name = (x.2.1.0, x.2.1.1); raw = x.2.2.0 }, x.2.1.2 ∙ ap (λ (l : List ℕ). x.0.0 ++ 58 ∷ l) x.2.2.1 ∙ sym (print_field-append f x.1)))
]

regroup : (a b c d : List ℕ) → a ++ ((b ++ c) ++ d) ≡ ((a ++ b) ++ c) ++ d
regroup a b c d = simp append_assoc

-- a field line has a byte
field_long : (f : Field) (text rest : List ℕ) → FieldLine f text rest → suc (length rest) ≤ length text
field_long f text rest x =
    omega (
      arith,
      ap length (x.1 ∙ print_field-append f rest),
      length-append f.name (58 ∷ (f.raw ++ (print_end f.end ++ rest))),
      length-append f.raw (print_end f.end ++ rest),
      length-append (print_end f.end) rest,
    )

section_within : (n : ℕ) (text : List ℕ) → length text ≤ n → Decided (Begins Section text)
section_within n [] fits = inr (λ z. elim (Section_line z.0 [] z.1 z.2) [
  | inl a ↦ omega (arith, ap length a.2, length-append (print_end a.0) a.1, end_long a.0)
  | inr b ↦ omega (arith, field_long b.0 [] b.1 b.2)
])
section_within zero (c ∷ text) fits = absurd (omega (arith, fits))
section_within (suc n) (c ∷ text) fits = elim (newline_tells (c ∷ text)) as (λ _. Decided (Begins Section (c ∷ text))) [
  | inl x ↦ inl (([], x.0), x.1, (All-nil IsField, x.2))
  | inr no_line ↦ elim (field_tells (c ∷ text)) as (λ _. Decided (Begins Section (c ∷ text))) [
    | inr no_field ↦ inr (λ z. elim (Section_line z.0 (c ∷ text) z.1 z.2) [ inl a ↦ no_line a | inr b ↦ no_field b ])
    | inl x ↦
        let shorter : length x.1 ≤ n = omega (arith, fits, field_long x.0 (c ∷ text) x.1 x.2) in
        elim (section_within n x.1 shorter) as (λ _. Decided (Begins Section (c ∷ text))) [
          | inl y ↦ inl ((x.0 ∷ y.0.0, y.0.1), y.1, (All-cons IsField x.0 y.0.0 x.2.0 y.2.0, joined x.0 y.0.0 (print_end y.0.1) x.1 y.1 x.2.1 y.2.1))
          | inr none ↦ inr (λ z.
              let skipped = Section_skip (x.0 ∷ []) z.0.0 z.0.1 (c ∷ text) x.1 z.1 (All-cons IsField x.0 [] x.2.0 (All-nil IsField), one x.0 x.1 x.2.1) z.2 in
              none ((skipped.0, z.0.1), z.1, skipped.2))
        ]
  ]
]
  where
    joined : (f : Field) (fs : List Field) (last rest behind : List ℕ) → c ∷ text ≡ print_field f ++ rest → rest ≡ (flat_map print_field fs ++ last) ++ behind
        → c ∷ text ≡ (flat_map print_field (f ∷ fs) ++ last) ++ behind
    joined f fs last rest behind e e' =
        e ∙ ap (λ (l : List ℕ). print_field f ++ l) e' ∙ regroup (print_field f) (flat_map print_field fs) last behind

    one : (f : Field) (rest : List ℕ) → c ∷ text ≡ print_field f ++ rest → c ∷ text ≡ (print_field f ++ []) ++ rest
    one f rest e = e ∙ ap (λ (l : List ℕ). l ++ rest) (sym (append-nil (print_field f)))

section_tells : Tells Section
section_tells text = section_within (length text) text (omega arith)

-- ---- heads

request_tells : Tells (Then RequestStart Section)
request_tells = then_tells RequestStart_deterministic
    (then_tells Blank_deterministic blank_tells (then_tells Method_deterministic method_tells
    (then_tells Target_deterministic target_tells (then_tells Version_deterministic version_tells newline_tells))))
    section_tells

response_tells : Tells (Then ResponseStart Section)
response_tells = then_tells ResponseStart_deterministic
    (then_tells Blank_deterministic blank_tells (then_tells Version_deterministic version_tells
    (then_tells (Bytes_deterministic (32 ∷ [])) (byte_tells 32) (then_tells Code_deterministic code_tells reason_tells))))
    section_tells

-- nothing is left, and there are no more fields than are taken
fits_or_not : (rest : List ℕ) (count : ℕ) → Decided ((rest ≡ []) × (count ≤ 32))
fits_or_not (x ∷ rest) count = inr (λ z. omega (arith, ap length z.0))
fits_or_not [] count = elim (cases_lt 32 count) as (λ _. Decided ((◌≡◌ {A = List ℕ} [] []) × (count ≤ 32))) [
  | inl many ↦ inr (λ z. omega (arith, many, z.1))
  | inr few ↦ inl (refl, few)
]

-- the bytes are a head of a request, or no such head
pub request_or_not : (head : List ℕ) → ((h : RequestHead) × IsRequest head h) ⊎ ((h : RequestHead) → ¬ (IsRequest head h))
request_or_not head = elim (request_tells head) as (λ _. ((h : RequestHead) × IsRequest head h) ⊎ ((h : RequestHead) → ¬ (IsRequest head h))) [
  | inr none ↦ inr (λ h x. none (request_tree h, [], request_pieces head h [] x.reads))
  | inl z ↦ elim (fits_or_not z.1 (length z.0.1.0)) as (λ _. ((h : RequestHead) × IsRequest head h) ⊎ ((h : RequestHead) → ¬ (IsRequest head h))) [
    | inl fits ↦ inl (request_head z.0, record { reads = subst (λ (l : List ℕ). ReadsRequest head (request_head z.0) l) fits.0 (request_from_pieces head z.0 z.1 z.2); few = fits.1 })
    | inr none ↦ inr (λ h x.
        let same = request_unique head h (request_head z.0) [] z.1 x.reads (request_from_pieces head z.0 z.1 z.2) in
        none (sym same.1, subst (λ (k : RequestHead). length k.fields ≤ 32) same.0 x.few))
  ]
]

-- the bytes are a head of a response, or no such head
pub response_or_not : (head : List ℕ) → ((h : ResponseHead) × IsResponse head h) ⊎ ((h : ResponseHead) → ¬ (IsResponse head h))
response_or_not head = elim (response_tells head) as (λ _. ((h : ResponseHead) × IsResponse head h) ⊎ ((h : ResponseHead) → ¬ (IsResponse head h))) [
  | inr none ↦ inr (λ h x. let pieces = response_pieces head h [] x.reads in none (pieces.0, [], pieces.2))
  | inl z ↦ elim (fits_or_not z.1 (length z.0.1.0)) as (λ _. ((h : ResponseHead) × IsResponse head h) ⊎ ((h : ResponseHead) → ¬ (IsResponse head h))) [
    | inl fits ↦ inl (response_head z.0, record { reads = subst (λ (l : List ℕ). ReadsResponse head (response_head z.0) l) fits.0 (response_from_pieces head z.0 z.1 z.2); few = fits.1 })
    | inr none ↦ inr (λ h x.
        let same = response_unique head h (response_head z.0) [] z.1 x.reads (response_from_pieces head z.0 z.1 z.2) in
        none (sym same.1, subst (λ (k : ResponseHead). length k.fields ≤ 32) same.0 x.few))
  ]
]
