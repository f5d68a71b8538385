-- A head that is printed from names and values is its lines, and its fields are these names and values.
use Rattle.std.proofs.Common.{All, ◌≡◌, ◌+◌, ◌<◌, ℕ, Bool, true, false, List, [], ◌∷◌, ◌++◌, length, map, reverse, refl, arith, append_assoc, length-append, codes}
use Rattle.std.specs.Char.{is_ascii_graphic}
use Rattle.std.specs.List.{flat_map, list_all}
use Rattle.std.proofs.lemmas.Bool.Decides.{nat_tests}
use Rattle.std.proofs.lemmas.List.Elements.{All-head, All-tail, All-append, All-cons, All-nil, All-weaker}
use Rattle.std.proofs.lemmas.List.Sums.{AllPass-from_list_all}
use Rattle.std.proofs.lemmas.Str.{IsUtf8-from_ascii}
use Rattle.std.proofs.lemmas.Str.Ascii.{IsAscii-from_all}
use Rattle.std.specs.Str.{IsUtf8}
use Rattle.httparse.specs.Grammar.{is_token_byte, is_uri_byte, is_value_byte, is_ows, skip_ows, trim_ows, AllPass, IsToken, crlf, print_field, Field, IsField}
use Rattle.httparse.specs.Spans.{name_and_value}
use Rattle.httparse.proofs.GrammarLemmas.{cons-append}
use Rattle.httparse.proofs.TrimLemmas.{skip_ows_no, AllPass-reverse, trim_ows_space}
use Rattle.http_wire.specs.Fields.{Part}
use Rattle.http_wire.specs.Writing.{line_bytes, field_line}
use Rattle.http_wire.proofs.Lines.{IsLine}

-- ---- visible bytes

abbrev pub IsVisible : List ℕ → Type 0
IsVisible bytes = AllPass is_ascii_graphic bytes

visible_weaker : (p : ℕ → Bool) → ((b : ℕ) → is_ascii_graphic b ≡ true → p b ≡ true) → (bytes : List ℕ) → IsVisible bytes → AllPass p bytes
visible_weaker p step bytes all = All-weaker (λ b. is_ascii_graphic b ≡ true) (λ b. p b ≡ true) step bytes all

pub visible_value : (bytes : List ℕ) → IsVisible bytes → AllPass is_value_byte bytes
visible_value = visible_weaker is_value_byte step
  where
    step : (b : ℕ) → is_ascii_graphic b ≡ true → is_value_byte b ≡ true
    step b h = grind (arith, nat_tests)

pub visible_target : (bytes : List ℕ) → IsVisible bytes → AllPass is_uri_byte bytes
visible_target = visible_weaker is_uri_byte step
  where
    step : (b : ℕ) → is_ascii_graphic b ≡ true → is_uri_byte b ≡ true
    step b h = grind (arith, nat_tests)

pub visible_text : (bytes : List ℕ) → IsVisible bytes → IsUtf8 bytes
visible_text bytes all = IsUtf8-from_ascii bytes (IsAscii-from_all bytes (All-weaker (λ b. is_ascii_graphic b ≡ true) (λ b. b < 128) step bytes all))
  where
    step : (b : ℕ) → is_ascii_graphic b ≡ true → b < 128
    step b h = grind (arith, nat_tests)

not_blank : (b : ℕ) → is_ascii_graphic b ≡ true → false ≡ is_ows b
not_blank b h = grind (arith, nat_tests)

kept : (bytes : List ℕ) → IsVisible bytes → skip_ows bytes ≡ bytes
kept [] all = refl
kept (b ∷ bytes) all = skip_ows_no refl (not_blank b (All-head (λ v. is_ascii_graphic v ≡ true) b bytes all))

-- no white space is cut off
pub visible_trimmed : (bytes : List ℕ) → IsVisible bytes → trim_ows (32 ∷ bytes) ≡ bytes
visible_trimmed bytes all = trim_ows_space bytes (kept bytes all) (kept (reverse bytes) (AllPass-reverse is_ascii_graphic bytes all))

-- ---- names and values

-- a name, and a value that is seen whole
pub record IsSeen (p : Part) : Type 0 where
  pub name : IsToken p.0
  pub plain : AllPass is_value_byte p.0
  pub value : IsVisible p.1

-- all of them are, one by one
pub record AreSeen (parts : List Part) : Type 0 where
  pub all : All IsSeen parts

pub no_more_seen : AreSeen []
no_more_seen = record { all = All-nil IsSeen }

pub and_seen : {p : Part} {parts : List Part} → IsSeen p → AreSeen parts → AreSeen (p ∷ parts)
and_seen {p} {parts} first more = record { all = All-cons IsSeen p parts first more.all }

-- the line of a name and a value
abbrev pub line_of : Part → List ℕ
line_of p = field_line p.0 p.1

-- the field that the line is read as
abbrev pub sent : Part → Field
sent p = record { name = p.0; raw = 32 ∷ p.1; end = crlf }

pub seen : (name value : List ℕ) → 0 < length name → list_all is_token_byte name ≡ true → list_all is_value_byte name ≡ true → IsVisible value → IsSeen (name, value)
seen name value some token plain visible = record {
  name = (some, AllPass-from_list_all is_token_byte name token);
  plain = AllPass-from_list_all is_value_byte name plain;
  value = visible;
}

line_printed : (name value : List ℕ) → print_field (sent (name, value)) ≡ line_bytes (field_line name value)
line_printed name value = simp (append_assoc, cons-append)

pub lines_printed : (parts : List Part) → flat_map print_field (map sent parts) ≡ flat_map line_bytes (map line_of parts)
lines_printed [] = refl
lines_printed (p ∷ parts) = λ i. line_printed p.0 p.1 i ++ lines_printed parts i

pub fields_are : (parts : List Part) → All IsSeen parts → All IsField (map sent parts)
fields_are [] all = All-nil IsField
fields_are (p ∷ parts) all =
    let first = All-head IsSeen p parts all in
    All-cons IsField (sent p) (map sent parts)
    (record { name = first.name; raw = All-cons (λ b. is_value_byte b ≡ true) 32 p.1 refl (visible_value p.1 first.value) })
    (fields_are parts (All-tail IsSeen p parts all))

pub read_back : (parts : List Part) → All IsSeen parts → map name_and_value (map sent parts) ≡ parts
read_back [] all = refl
read_back (p ∷ parts) all =
    λ i. (p.0, visible_trimmed p.1 (All-head IsSeen p parts all).value i) ∷ read_back parts (All-tail IsSeen p parts all) i

pub lines_are : (parts : List Part) → All IsSeen parts → All IsLine (map line_of parts)
lines_are [] all = All-nil IsLine
lines_are (p ∷ parts) all =
    let first = All-head IsSeen p parts all in
    All-cons IsLine (line_of p) (map line_of parts) (
      omega (arith, first.name.0, length-append p.0 (codes ": " ++ p.1), length-append (p.0 ++ codes ": ") p.1, length-append p.0 (codes ": ")),
      pieces p.0 (codes ": ") p.1 first.plain (AllPass-from_list_all is_value_byte (codes ": ") refl) (visible_value p.1 first.value),
    )
    (lines_are parts (All-tail IsSeen p parts all))
  where
    pieces : (a b c : List ℕ) → AllPass is_value_byte a → AllPass is_value_byte b → AllPass is_value_byte c → AllPass is_value_byte (a ++ b ++ c)
    pieces a b c x y z = All-append (λ v. is_value_byte v ≡ true) (a ++ b) c (All-append (λ v. is_value_byte v ≡ true) a b x y) z

-- how many bytes their lines have
abbrev pub weight : List Part → ℕ
weight [] = 0
weight (p ∷ parts) = length p.0 + length p.1 + 4 + weight parts

pub lines_weigh : (parts : List Part) → length (flat_map line_bytes (map line_of parts)) ≡ weight parts
lines_weigh [] = refl
lines_weigh (p ∷ parts) =
    omega (
      arith,
      lines_weigh parts,
      length-append (line_bytes (line_of p)) (flat_map line_bytes (map line_of parts)),
      length-append (p.0 ++ codes ": " ++ p.1) (codes "\r\n"),
      length-append (p.0 ++ codes ": ") p.1,
      length-append p.0 (codes ": "),
    )
