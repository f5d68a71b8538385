-- A request that was written is read as it was written.
use Rattle.std.proofs.Common.{All, ◌≡◌, ◌≢◌, ◌+◌, ◌<◌, ◌≤◌, ◌^◌, ℕ, Bool, true, false, cond, List, [], ◌∷◌, ◌++◌, length, map, refl, sym, ap, ◌∙◌, subst, inl, arith}
use Rattle.std.proofs.Common.{append_assoc, append-nil, length-append, codes, decimal, IsTrue}
use Rattle.std.specs.Prelude.{nat_lt, ◌&&◌}
use Rattle.std.specs.Char.{is_ascii_graphic}
use Rattle.std.specs.List.{flat_map}
use Rattle.std.specs.Str.{bytes_eq}
use Rattle.std.proofs.lemmas.Bool.Decides.{nat_tests}
use Rattle.std.proofs.lemmas.Fmt.{length-decimal-le}
use Rattle.std.proofs.lemmas.List.{length-map}
use Rattle.std.proofs.lemmas.List.Elements.{All-append, All-cons, All-weaker}
use Rattle.std.proofs.lemmas.List.Sums.{AllPass-from_list_all}
use Rattle.std.proofs.lemmas.Slice.Eq.{bytes_eq-Decides}
use Rattle.fetch_uri.specs.Address.{is_host_byte, IsPath}
use Rattle.outside_core.specs.Stream.{Took}
use Rattle.httparse.specs.Grammar.{is_token_byte, is_value_byte, AllPass, IsToken, crlf, print_version, print_field, RequestHead, print_request}
use Rattle.httparse.proofs.GrammarLemmas.{cons-append, print_request-append}
use Rattle.http_wire.specs.Fields.{Part, content_length}
use Rattle.http_wire.specs.Parts.{IsHead}
use Rattle.http_wire.specs.Sending.{IsAuthority, IsTarget}
use Rattle.http_wire.specs.Verdicts.{IsJudged, verdict, verdict_by, post_verdict, route_of, is_bad, is_listed}
use Rattle.http_wire.specs.Writing.{line_bytes, head_bytes, request_lines}
use Rattle.http_wire.specs.Laws.{WrittenRequests}
use Rattle.http_wire.specs.declared.fields.BodyLength.{BodyLength}
use Rattle.http_wire.specs.declared.fields.BodyLength.TheVariants.{Unsaid, Said}
use Rattle.http_wire.specs.declared.method.Method.TheVariants.{Get, Post}
use Rattle.http_wire.specs.declared.routes.Routes.{Routes}
use Rattle.http_wire.specs.declared.routes.Route.{Route}
use Rattle.http_wire.specs.declared.routes.Route.TheVariants as route
use Rattle.http_wire.specs.declared.verdict.Verdict.{Verdict}
use Rattle.http_wire.specs.declared.verdict.Verdict.TheVariants.{Takes, Gets, Refused}
use Rattle.http_wire.proofs.Lines.{IsLine, last_field, head_lines, head_closed}
use Rattle.http_wire.proofs.Seen.{IsVisible, visible_value, visible_target, visible_text, IsSeen, seen, AreSeen, no_more_seen, and_seen, line_of, sent, lines_printed}
use Rattle.http_wire.proofs.Seen.{fields_are, read_back, lines_are, weight, lines_weigh}
use Rattle.http_wire.proofs.Numbers.{digits_visible, length_says, literal}

-- ---- any request

abbrev first_line : List ℕ → List ℕ → List ℕ
first_line method target = method ++ codes " " ++ target ++ codes " HTTP/1.1"

-- the head that the lines are read as
abbrev request_of : List ℕ → List ℕ → List Part → RequestHead
request_of method target parts = record { blank = []; method = method; target = target; minor = 1; line_end = crlf; fields = map sent parts; last = crlf }

printed : (method target : List ℕ) (parts : List Part)
    → flat_map line_bytes (first_line method target ∷ map line_of parts) ++ codes "\r\n" ≡ print_request (request_of method target parts) ++ []
printed method target parts =
    ap (λ (f : List ℕ). ((first_line method target ++ codes "\r\n") ++ f) ++ codes "\r\n") (sym (lines_printed parts))
    ∙ regroup method target (print_version 1) (flat_map print_field (map sent parts)) (codes "\r\n")
    ∙ sym (print_request-append (request_of method target parts) [])
  where
    regroup : (m t v f c : List ℕ) → (((m ++ (32 ∷ []) ++ t ++ (32 ∷ v)) ++ c) ++ f) ++ c ≡ m ++ 32 ∷ (t ++ 32 ∷ (v ++ (c ++ ((f ++ c) ++ []))))
    regroup m t v f c = simp (append_assoc, cons-append, append-nil)

-- what is asked for: a method, a target, names and values
record IsAsked (method target : List ℕ) (parts : List Part) : Type 0 where
  token : IsToken method
  plain : AllPass is_value_byte method
  some : 0 < length target
  visible : IsVisible target
  seen : All IsSeen parts
  few : length parts ≤ 32
  light : length method + length target + weight parts ≤ 8000

module _ (method target : List ℕ) (parts : List Part) (lines : List (List ℕ)) (is : IsAsked method target parts)
    (e : lines ++ last_field ∷ [] ≡ first_line method target ∷ map line_of parts) where
  all_lines : head_bytes lines ≡ flat_map line_bytes (first_line method target ∷ map line_of parts) ++ codes "\r\n"
  all_lines = head_lines lines ∙ ap (λ (l : List (List ℕ)). flat_map line_bytes l ++ codes "\r\n") e

  first_is : IsLine (first_line method target)
  first_is = (
    omega (arith, is.token.0, length-append (method ++ codes " " ++ target) (codes " HTTP/1.1"), length-append (method ++ codes " ") target, length-append method (codes " ")),
    All-append (λ v. is_value_byte v ≡ true) (method ++ codes " " ++ target) (codes " HTTP/1.1")
        (All-append (λ v. is_value_byte v ≡ true) (method ++ codes " ") target
        (All-append (λ v. is_value_byte v ≡ true) method (codes " ") is.plain (AllPass-from_list_all is_value_byte (codes " ") refl))
        (visible_value target is.visible))
        (AllPass-from_list_all is_value_byte (codes " HTTP/1.1") refl),
  )

  is_head : IsHead (head_bytes lines)
  is_head = record {
    ends = head_closed lines (subst (All IsLine) (sym e) (All-cons IsLine (first_line method target) (map line_of parts) first_is (lines_are parts is.seen)));
    within = omega (
      arith,
      is.light,
      ap length all_lines,
      lines_weigh parts,
      length-append (line_bytes (first_line method target) ++ flat_map line_bytes (map line_of parts)) (codes "\r\n"),
      length-append (line_bytes (first_line method target)) (flat_map line_bytes (map line_of parts)),
      length-append (first_line method target) (codes "\r\n"),
      length-append (method ++ codes " " ++ target) (codes " HTTP/1.1"),
      length-append (method ++ codes " ") target,
      length-append method (codes " "),
    );
  }

  is_judged : (routes : Routes) (v : Verdict) → v ≡ verdict routes method target parts → IsJudged routes (head_bytes lines) v
  is_judged routes v same = inl (
    request_of method target parts,
    record {
      reads = (
        record {
          method = is.token;
          target = (is.some, visible_target target is.visible);
          target_text = visible_text target is.visible;
          minor = omega arith;
          fields = fields_are parts is.seen;
        },
        all_lines ∙ printed method target parts,
      );
      few = omega (arith, is.few, length-map parts sent);
    },
    same ∙ ap (λ (ps : List Part). verdict routes method target ps) (sym (read_back parts is.seen)),
  )

-- ---- hosts and paths

host_byte_visible : (b : ℕ) → is_host_byte b ≡ true → is_ascii_graphic b ≡ true
host_byte_visible b h = grind (arith, nat_tests)

host_visible : (host : List ℕ) → IsAuthority host → IsVisible host
host_visible host is = subst IsVisible (sym is.spelled)
    (All-append (λ b. is_ascii_graphic b ≡ true) (is.host ++ codes ":") (decimal is.port)
    (All-append (λ b. is_ascii_graphic b ≡ true) is.host (codes ":")
    (All-weaker (λ b. is_host_byte b ≡ true) (λ b. is_ascii_graphic b ≡ true) host_byte_visible is.host is.host_is.bytes)
    (AllPass-from_list_all is_ascii_graphic (codes ":") refl))
    (digits_visible is.port (omega (arith, is.port_most))))

host_size : (host : List ℕ) → IsAuthority host → length host ≤ 261
host_size host is =
    omega (
      arith,
      ap length is.spelled,
      is.host_is.most,
      length-append (is.host ++ codes ":") (decimal is.port),
      length-append is.host (codes ":"),
      length-decimal-le 5 is.port (omega arith) (omega (arith, is.port_most)) (omega (arith, is.port_most)),
    )

path_some : (path : List ℕ) → IsPath path → 0 < length path
path_some [] is = absurd (omega (arith, is.slash))
path_some (b ∷ path) is = omega arith

-- ---- GET

abbrev get_parts : List ℕ → List Part
get_parts host = (codes "Host", host) ∷ (codes "Connection", codes "close") ∷ []

host_seen : (host : List ℕ) → IsAuthority host → IsSeen (codes "Host", host)
unfolding is_token_byte
host_seen host is = seen (codes "Host") host (omega arith) refl refl (host_visible host is)

pub close_seen : IsSeen (codes "Connection", codes "close")
unfolding is_token_byte
close_seen = seen (codes "Connection") (codes "close") (omega arith) refl refl (literal (codes "close") refl)

get_asked : (host path : List ℕ) → IsAuthority host → IsTarget path → IsAsked (codes "GET") path (get_parts host)
unfolding is_token_byte
get_asked host path h t = record {
  token = (omega arith, AllPass-from_list_all is_token_byte (codes "GET") refl);
  plain = AllPass-from_list_all is_value_byte (codes "GET") refl;
  some = path_some path t.path_is;
  visible = t.path_is.bytes;
  seen = (and_seen (host_seen host h) (and_seen close_seen no_more_seen)).all;
  few = omega arith;
  light = omega (arith, t.within, host_size host h);
}

not_same : (a b : List ℕ) → a ≢ b → bytes_eq a b ≡ false
not_same a b other = by (bytes_eq a b) refl
  where
    by : (x : Bool) → bytes_eq a b ≡ x → x ≡ false
    by true e = absurd (other ((bytes_eq-Decides a b).0 e))
    by false e = refl

get_route : (routes : Routes) (path : List ℕ) → path ≢ routes.post → IsTrue (is_listed path routes.gets) → route_of routes (codes "GET") path ≡ route.Get
get_route routes path other listed =
    ap (λ (b : Bool). cond b route.OtherMethod (cond (is_listed path routes.gets) route.Get route.Unknown)) (not_same path routes.post other)
    ∙ ap (λ (b : Bool). cond b route.Get route.Unknown) listed

get_verdict : (routes : Routes) (host path : List ℕ) → path ≢ routes.post → IsTrue (is_listed path routes.gets) → Gets path ≡ verdict routes (codes "GET") path (get_parts host)
get_verdict routes host path other listed = sym (ap (λ (r : Route). verdict_by r path Unsaid (get_parts host)) (get_route routes path other listed))

-- ---- POST

abbrev teep : List ℕ
teep = codes "application/teep+cbor"

abbrev post_parts : List ℕ → List ℕ → List Part
post_parts host [] = (codes "Host", host) ∷ (codes "Accept", teep) ∷ (codes "Content-Length", decimal 0) ∷ (codes "Connection", codes "close") ∷ []
post_parts host (b ∷ more) =
    (codes "Host", host) ∷ (codes "Accept", teep) ∷ (codes "Content-Type", teep) ∷ (codes "Content-Length", decimal (length (b ∷ more))) ∷ (codes "Connection", codes "close") ∷ []

accept_seen : IsSeen (codes "Accept", teep)
unfolding is_token_byte
accept_seen = seen (codes "Accept") teep (omega arith) refl refl (literal teep refl)

type_seen : IsSeen (codes "Content-Type", teep)
unfolding is_token_byte
type_seen = seen (codes "Content-Type") teep (omega arith) refl refl (literal teep refl)

pub length_seen : (n : ℕ) → n < 2 ^ 64 → IsSeen (codes "Content-Length", decimal n)
unfolding is_token_byte
length_seen n small = seen (codes "Content-Length") (decimal n) (omega arith) refl refl (digits_visible n small)

post_seen : (host body : List ℕ) → IsAuthority host → length body < 2 ^ 64 → AreSeen (post_parts host body)
post_seen host [] h small = and_seen (host_seen host h) (and_seen accept_seen (and_seen (length_seen 0 (omega arith)) (and_seen close_seen no_more_seen)))
post_seen host (b ∷ more) h small =
    and_seen (host_seen host h) (and_seen accept_seen (and_seen type_seen (and_seen (length_seen (length (b ∷ more)) small) (and_seen close_seen no_more_seen))))

post_size : (host body : List ℕ) → IsAuthority host → length body ≤ 16777216 → (length (post_parts host body) ≤ 32) × (weight (post_parts host body) ≤ 1000)
post_size host [] h small = (omega arith, omega (arith, host_size host h, length-decimal-le 1 0 (omega arith) (omega arith) (omega arith)))
post_size host (b ∷ more) h small =
    (omega arith, omega (arith, host_size host h, length-decimal-le 18 (length (b ∷ more)) (omega arith) (omega (arith, small)) (omega (arith, small))))

post_asked : (host path body : List ℕ) → IsAuthority host → IsTarget path → length body ≤ 16777216 → IsAsked (codes "POST") path (post_parts host body)
unfolding is_token_byte
post_asked host path body h t small =
    let size = post_size host body h small in
    record {
      token = (omega arith, AllPass-from_list_all is_token_byte (codes "POST") refl);
      plain = AllPass-from_list_all is_value_byte (codes "POST") refl;
      some = path_some path t.path_is;
      visible = t.path_is.bytes;
      seen = (post_seen host body h (omega (arith, small))).all;
      few = size.0;
      light = omega (arith, t.within, size.1);
    }

post_lines : (host path body : List ℕ) → request_lines Post host path body ++ last_field ∷ [] ≡ first_line (codes "POST") path ∷ map line_of (post_parts host body)
post_lines host path [] = refl
post_lines host path (b ∷ more) = refl

post_route : (routes : Routes) (path : List ℕ) → path ≡ routes.post → route_of routes (codes "POST") path ≡ route.Post
post_route routes path is =
    ap (λ (b : Bool). cond b route.Post (cond (is_listed path routes.gets) route.OtherMethod route.Unknown))
    ((bytes_eq-Decides path routes.post).1 is)

said : (host body : List ℕ) → length body ≤ 16777216 → content_length (post_parts host body) ≡ Said (length body)
said host [] small = length_says 0 (omega arith)
said host (b ∷ more) small = length_says (length (b ∷ more)) (omega (arith, small))

post_takes : (host body : List ℕ) → length body ≤ 16777216 → post_verdict (Said (length body)) (post_parts host body) ≡ Takes (length body)
post_takes host [] small = refl
post_takes host (b ∷ more) small =
    let n = length (b ∷ more) in
    ap (λ (x : Bool). cond x (Refused 413) (cond (nat_lt 0 n && false) (Refused 415) (Takes n))) (fits n small)
    ∙ ap (λ (x : Bool). cond x (Refused 415) (Takes n)) (never (nat_lt 0 n))
  where
    never : (x : Bool) → (x && false) ≡ false
    never true = refl
    never false = refl

    fits : (n : ℕ) → n ≤ 16777216 → nat_lt 16777216 n ≡ false
    fits n h = grind (arith, nat_tests)

post_is : (routes : Routes) (host path body : List ℕ) → path ≡ routes.post → length body ≤ 16777216
    → Takes (length body) ≡ verdict routes (codes "POST") path (post_parts host body)
post_is routes host path body is small = sym (
    ap (λ (l : BodyLength). cond (is_bad l) (Refused 400) (verdict_by (route_of routes (codes "POST") path) path l (post_parts host body))) (said host body small)
    ∙ ap (λ (r : Route). verdict_by r path (Said (length body)) (post_parts host body)) (post_route routes path is)
    ∙ post_takes host body small)

-- ---- both

pub written_requests : WrittenRequests
written_requests routes Get host path body old new h t bodiless served small took =
    let is = get_asked host path h t in
    record {
      head = head_bytes (request_lines Get host path body);
      head_is = record {
        is_head = is_head (codes "GET") path (get_parts host) (request_lines Get host path body) is refl;
        judged = is_judged (codes "GET") path (get_parts host) (request_lines Get host path body) is refl routes (Gets path) (get_verdict routes host path served.0 served.1);
      };
      took = subst (λ (l : List ℕ). Took (head_bytes (request_lines Get host path body) ++ l) old new) (bodiless refl) took;
    }
written_requests routes Post host path body old new h t bodiless served small took =
    let is = post_asked host path body h t small in
    record {
      head = head_bytes (request_lines Post host path body);
      head_is = record {
        is_head = is_head (codes "POST") path (post_parts host body) (request_lines Post host path body) is (post_lines host path body);
        judged = is_judged (codes "POST") path (post_parts host body) (request_lines Post host path body) is (post_lines host path body) routes (Takes (length body))
            (post_is routes host path body served small);
      };
      took = took;
    }
