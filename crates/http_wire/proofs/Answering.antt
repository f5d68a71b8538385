-- A response that was written is read as it was written.
use Rattle.std.proofs.Common.{All, ◌≡◌, ◌<◌, ◌≤◌, ◌^◌, ℕ, zero, suc, Bool, true, false, cond, List, [], ◌∷◌, ◌++◌, length, map, take, get_or, refl, sym, ap, ◌∙◌, subst}
use Rattle.std.proofs.Common.{inl, inr, arith, append_assoc, append-nil, length-append, codes, decimal, unwrap_or, Option, Some, None, Ok}
use Rattle.std.specs.Prelude.{nat_le, ◌==◌, ◌&&◌}
use Rattle.std.specs.Char.{is_ascii_graphic, to_ascii_lowercase}
use Rattle.std.specs.List.{flat_map, list_all}
use Rattle.std.proofs.lemmas.Bool.{cases_lt, and_parts, leb-true}
use Rattle.std.proofs.lemmas.Bool.Decides.{nat_tests, Decides-below_and}
use Rattle.std.proofs.lemmas.Fmt.{decimal_is_IsNumeral, length-decimal-le}
use Rattle.std.proofs.lemmas.List.{length-map, take_all}
use Rattle.std.proofs.lemmas.List.Elements.{All-append, All-cons, All-head, All-tail, All-weaker}
use Rattle.std.proofs.lemmas.List.Sums.{AllPass-from_list_all, position_or_len_is}
use Rattle.std.proofs.lemmas.Str.{is_utf8-from_IsUtf8}
use Rattle.std.proofs.lemmas.Str.Parse.{numerals_by_value, tells_digits, digits_value_short}
use Rattle.http.specs.StatusCode.{IsStatusCode, reason_phrase}
use Rattle.httparse.specs.Grammar.{is_token_byte, is_value_byte, AllPass, crlf, print_version, print_field, ResponseHead, print_response}
use Rattle.httparse.proofs.GrammarLemmas.{cons-append, print_response-append}
use Rattle.http_wire.specs.Fields.{Part, content_length, without_parameters}
use Rattle.http_wire.specs.Parts.{IsHead}
use Rattle.http_wire.specs.Responses.{Responded}
use Rattle.http_wire.specs.Sending.{is_media_byte, shown_media}
use Rattle.http_wire.specs.Verdicts.{Announces, announcement, announced_with, body_size, lower_media}
use Rattle.http_wire.specs.Writing.{line_bytes, head_bytes, media_lines, length_line, phrase_of, status_line, response_lines}
use Rattle.http_wire.specs.Laws.{WrittenResponses}
use Rattle.http_wire.specs.declared.announced.Announced.{Announced}
use Rattle.http_wire.specs.declared.fields.BodyLength.{BodyLength}
use Rattle.http_wire.specs.declared.fields.BodyLength.TheVariants.{Unsaid, Said}
use Rattle.http_wire.proofs.Lines.{IsLine, last_field, head_lines, head_closed}
use Rattle.http_wire.proofs.Seen.{IsVisible, visible_value, visible_text, IsSeen, seen, no_more_seen, and_seen, line_of, sent, lines_printed, fields_are, read_back}
use Rattle.http_wire.proofs.Seen.{lines_are, weight, lines_weigh}
use Rattle.http_wire.proofs.Numbers.{digits_pass, digits_visible, length_says}
use Rattle.http_wire.proofs.Asking.{close_seen, length_seen}

-- ---- the status and its phrase

abbrev is_plain_phrase : ℕ → Bool
is_plain_phrase n = list_all is_value_byte (unwrap_or (reason_phrase n) [])

abbrev plain_below : ℕ → Bool
plain_below zero = true
plain_below (suc n) = is_plain_phrase n && plain_below n

phrase_passes : (status : ℕ) → IsStatusCode status → AllPass is_value_byte (phrase_of status)
unfolding phrase_of
phrase_passes status code =
    AllPass-from_list_all is_value_byte (unwrap_or (reason_phrase status) [])
    ((Decides-below_and is_plain_phrase (λ k. is_plain_phrase k ≡ true) plain_below (λ k. (λ x. x, λ x. x)) refl (λ _. refl) 1000).0 refl status code.1)

abbrev is_short_phrase : ℕ → Bool
is_short_phrase n = nat_le (length (unwrap_or (reason_phrase n) [])) 100

abbrev short_below : ℕ → Bool
short_below zero = true
short_below (suc n) = is_short_phrase n && short_below n

phrase_short : (status : ℕ) → IsStatusCode status → length (phrase_of status) ≤ 100
unfolding phrase_of
phrase_short status code =
    leb-true (length (unwrap_or (reason_phrase status) [])) 100
    ((Decides-below_and is_short_phrase (λ k. is_short_phrase k ≡ true) short_below (λ k. (λ x. x, λ x. x)) refl (λ _. refl) 1000).0 refl status code.1)

three_digits : (status : ℕ) → IsStatusCode status → length (decimal status) ≡ 3
three_digits status code =
    let numeral = decimal_is_IsNumeral status (omega (arith, code.1)) in
    elim (cases_lt (length (decimal status)) 3) as (λ _. length (decimal status) ≡ 3) [
      | inl fewer ↦ absurd (omega (arith, code.0, numeral.1, digits_value_short (numerals_by_value _ tells_digits) (decimal status) 2 numeral.0.1 (omega (arith, fewer))))
      | inr enough ↦ omega (arith, enough, length-decimal-le 3 status (omega arith) code.1 (omega (arith, code.1)))
    ]

-- ---- media types

media_visible : (media : List ℕ) → AllPass is_media_byte media → IsVisible media
media_visible media all = All-weaker (λ b. is_media_byte b ≡ true) (λ b. is_ascii_graphic b ≡ true) step media all
  where
    step : (b : ℕ) → is_media_byte b ≡ true → is_ascii_graphic b ≡ true
    step b h = (and_parts (is_ascii_graphic b) _ h).0

no_parameters : (media : List ℕ) → AllPass is_media_byte media → without_parameters media ≡ media
no_parameters media all =
    ap (λ (n : ℕ). take n media) (position_or_len_is (λ byte. byte == 59) media (length media) 0 (omega arith)
    (λ k below. step (get_or media k 0) (all k 0 below)) (λ below. absurd (omega (arith, below))))
    ∙ take_all (length media) media (omega arith)
  where
    step : (b : ℕ) → is_media_byte b ≡ true → (b == 59) ≡ false
    step b h = grind (arith, nat_tests)

lower_kept : (media : List ℕ) → AllPass is_media_byte media → map to_ascii_lowercase media ≡ media
lower_kept [] all = refl
lower_kept (b ∷ media) all =
    λ i. step b (All-head (λ v. is_media_byte v ≡ true) b media all) i ∷ lower_kept media (All-tail (λ v. is_media_byte v ≡ true) b media all) i
  where
    step : (b : ℕ) → is_media_byte b ≡ true → to_ascii_lowercase b ≡ b
    step b h = grind (arith, nat_tests)

media_kept : (media : List ℕ) → AllPass is_media_byte media → lower_media (without_parameters media) ≡ media
media_kept media all =
    ap lower_media (no_parameters media all)
    ∙ ap (λ (b : Bool). cond b (map to_ascii_lowercase media) []) (is_utf8-from_IsUtf8 media (visible_text media (media_visible media all)))
    ∙ lower_kept media all

-- ---- any response

-- the head that the lines are read as
abbrev response_of : ℕ → List Part → ResponseHead
response_of status parts = record { blank = []; minor = 1; digits = decimal status; reason = Some (phrase_of status); line_end = crlf; fields = map sent parts; last = crlf }

printed : (status : ℕ) (parts : List Part)
    → flat_map line_bytes (status_line status ∷ map line_of parts) ++ codes "\r\n" ≡ print_response (response_of status parts) ++ []
printed status parts =
    ap (λ (f : List ℕ). ((status_line status ++ codes "\r\n") ++ f) ++ codes "\r\n") (sym (lines_printed parts))
    ∙ regroup (print_version 1) (decimal status) (phrase_of status) (flat_map print_field (map sent parts)) (codes "\r\n")
    ∙ sym (print_response-append (response_of status parts) [])
  where
    regroup : (v d p f c : List ℕ) → ((((v ++ (32 ∷ [])) ++ d ++ (32 ∷ []) ++ p) ++ c) ++ f) ++ c ≡ v ++ 32 ∷ (d ++ ((32 ∷ p) ++ (c ++ ((f ++ c) ++ []))))
    regroup v d p f c = simp (append_assoc, cons-append, append-nil)

-- what is answered: names and values
record IsAnswering (parts : List Part) : Type 0 where
  seen : All IsSeen parts
  few : length parts ≤ 32
  light : weight parts ≤ 1000

status_length : (status : ℕ) → IsStatusCode status → length (status_line status) ≤ 200
status_length status code =
    omega (
      arith,
      three_digits status code,
      phrase_short status code,
      length-append (codes "HTTP/1.1 " ++ decimal status ++ codes " ") (phrase_of status),
      length-append (codes "HTTP/1.1 " ++ decimal status) (codes " "),
      length-append (codes "HTTP/1.1 ") (decimal status),
    )

module _ (status : ℕ) (parts : List Part) (lines : List (List ℕ)) (code : IsStatusCode status) (is : IsAnswering parts)
    (e : lines ++ last_field ∷ [] ≡ status_line status ∷ map line_of parts) where
  all_lines : head_bytes lines ≡ flat_map line_bytes (status_line status ∷ map line_of parts) ++ codes "\r\n"
  all_lines = head_lines lines ∙ ap (λ (l : List (List ℕ)). flat_map line_bytes l ++ codes "\r\n") e

  first_is : IsLine (status_line status)
  first_is = (
    omega (
      arith,
      length-append (codes "HTTP/1.1 " ++ decimal status ++ codes " ") (phrase_of status),
      length-append (codes "HTTP/1.1 " ++ decimal status) (codes " "),
      length-append (codes "HTTP/1.1 ") (decimal status),
    ),
    All-append (λ v. is_value_byte v ≡ true) (codes "HTTP/1.1 " ++ decimal status ++ codes " ") (phrase_of status)
        (All-append (λ v. is_value_byte v ≡ true) (codes "HTTP/1.1 " ++ decimal status) (codes " ")
        (All-append (λ v. is_value_byte v ≡ true) (codes "HTTP/1.1 ") (decimal status) (AllPass-from_list_all is_value_byte (codes "HTTP/1.1 ") refl)
        (visible_value (decimal status) (digits_visible status (omega (arith, code.1)))))
        (AllPass-from_list_all is_value_byte (codes " ") refl))
        (phrase_passes status code),
  )

  is_head : IsHead (head_bytes lines)
  is_head = record {
    ends = head_closed lines (subst (All IsLine) (sym e) (All-cons IsLine (status_line status) (map line_of parts) first_is (lines_are parts is.seen)));
    within = omega (
      arith,
      is.light,
      ap length all_lines,
      lines_weigh parts,
      status_length status code,
      length-append (line_bytes (status_line status) ++ flat_map line_bytes (map line_of parts)) (codes "\r\n"),
      length-append (line_bytes (status_line status)) (flat_map line_bytes (map line_of parts)),
      length-append (status_line status) (codes "\r\n"),
    );
  }

  announces : (a : Option Announced) → a ≡ announcement status parts → Announces (head_bytes lines) a
  announces a same = inl (
    response_of status parts,
    record {
      reads = (
        record {
          minor = omega arith;
          digits = (three_digits status code, digits_pass status (omega (arith, code.1)));
          reason = phrase_passes status code;
          fields = fields_are parts is.seen;
        },
        all_lines ∙ printed status parts,
      );
      few = omega (arith, is.few, length-map parts sent);
    },
    same ∙ (λ i. announcement (sym (decimal_is_IsNumeral status (omega (arith, code.1))).1 i) (sym (read_back parts is.seen) i)),
  )

-- ---- the lines

-- the names and values, by whether the status is 204
abbrev response_parts : Bool → List ℕ → List ℕ → List Part
response_parts true media body = (codes "Connection", codes "close") ∷ []
response_parts false media [] = (codes "Content-Length", decimal 0) ∷ (codes "Connection", codes "close") ∷ []
response_parts false media (b ∷ more) = (codes "Content-Type", media) ∷ (codes "Content-Length", decimal (length (b ∷ more))) ∷ (codes "Connection", codes "close") ∷ []

abbrev lines_with : Bool → ℕ → List ℕ → List ℕ → List (List ℕ)
lines_with none status media body = (status_line status ∷ []) ++ media_lines media body ++ cond none [] (length_line body ∷ [])

lines_are_parts : (none : Bool) (status : ℕ) (media body : List ℕ) → (none ≡ true → body ≡ [])
    → lines_with none status media body ++ last_field ∷ [] ≡ status_line status ∷ map line_of (response_parts none media body)
lines_are_parts true status media body empty = ap (λ (l : List ℕ). lines_with true status media l ++ last_field ∷ []) (empty refl)
lines_are_parts false status media [] empty = refl
lines_are_parts false status media (b ∷ more) empty = refl

type_seen : (media : List ℕ) → IsVisible media → IsSeen (codes "Content-Type", media)
unfolding is_token_byte
type_seen media visible = seen (codes "Content-Type") media (omega arith) refl refl visible

answering : (none : Bool) (media body : List ℕ) → IsVisible media → length media ≤ 255 → length body < 10 ^ 18 → IsAnswering (response_parts none media body)
answering true media body visible short small = record { seen = (and_seen close_seen no_more_seen).all; few = omega arith; light = omega arith }
answering false media [] visible short small = record {
  seen = (and_seen (length_seen 0 (omega arith)) (and_seen close_seen no_more_seen)).all;
  few = omega arith;
  light = omega (arith, length-decimal-le 1 0 (omega arith) (omega arith) (omega arith));
}
answering false media (b ∷ more) visible short small = record {
  seen = (and_seen (type_seen media visible) (and_seen (length_seen (length (b ∷ more)) (omega (arith, small))) (and_seen close_seen no_more_seen))).all;
  few = omega arith;
  light = omega (arith, short, length-decimal-le 18 (length (b ∷ more)) (omega arith) small (omega (arith, small)));
}

-- ---- what they announce

abbrev told : ℕ → List ℕ → List ℕ → Announced
told status media body = record { status = status; media = shown_media media body; size = length body }

sized : (status : ℕ) (parts : List Part) (said : BodyLength) (size : ℕ) → content_length parts ≡ said → body_size status said ≡ Some size
    → announced_with status parts (body_size status (content_length parts)) ≡ announced_with status parts (Some size)
sized status parts said size e f = ap (λ (l : BodyLength). announced_with status parts (body_size status l)) e ∙ ap (announced_with status parts) f

told_is : (none : Bool) (status : ℕ) (media body : List ℕ) → (status == 204) ≡ none → (none ≡ true → body ≡ []) → AllPass is_media_byte media → length body < 10 ^ 18
    → announcement status (response_parts none media body) ≡ Some (told status media body)
told_is true status media body e empty good small =
    sized status (response_parts true media body) Unsaid 0 refl (ap (λ (b : Bool). cond b (Some 0) None) e)
    ∙ ap (λ (l : List ℕ). Some (told status media l)) (sym (empty refl))
told_is false status media [] e empty good small =
    sized status (response_parts false media []) (Said 0) 0 (length_says 0 small) (ap (λ (b : Bool). cond b (Some 0) (Some 0)) e)
told_is false status media (b ∷ more) e empty good small =
    let n = length (b ∷ more) in
    sized status (response_parts false media (b ∷ more)) (Said n) n (length_says n small) (ap (λ (b : Bool). cond b (Some 0) (Some n)) e)
    ∙ (λ i. Some (record { status = status; media = media_kept media good i; size = n }))

pub written_responses : WrittenResponses
written_responses limit status media body old new code typed bodiless within small took =
    let good = and_parts (nat_le (length media) 255) (list_all is_media_byte media) typed in
    let all = AllPass-from_list_all is_media_byte media good.1 in
    by (status == 204) refl all (leb-true (length media) 255 good.0)
  where
    by : (none : Bool) → (status == 204) ≡ none → AllPass is_media_byte media → length media ≤ 255
        → Responded limit old new (Ok (record { status = status; media = shown_media media body; body = body }))
    by none e all short =
        let empty : none ≡ true → body ≡ [] = λ yes. bodiless (is_204 status (e ∙ yes)) in
        let lines = response_lines status media body in
        let are : lines ++ last_field ∷ [] ≡ status_line status ∷ map line_of (response_parts none media body) =
        ap (λ (b : Bool). lines_with b status media body ++ last_field ∷ []) e ∙ lines_are_parts none status media body empty in
        let is = answering none media body (media_visible media all) short small in
        record {
          within = within;
          took = record {
            head = head_bytes lines;
            head_is = record {
              is_head = is_head status (response_parts none media body) lines code is are;
              announces = announces status (response_parts none media body) lines code is are (Some (told status media body)) (sym (told_is none status media body e empty all small));
            };
            took = took;
          };
        }
      where
        is_204 : (n : ℕ) → (n == 204) ≡ true → n ≡ 204
        is_204 n h = grind (arith, nat_tests)
