-- What the parser's answer on a head that has ended says of it.
use Rattle.std.proofs.Common.{◌≡◌, ◌≢◌, ◌+◌, ◌<◌, ◌≤◌, ℕ, List, [], length, map, drop, sym, ap, ◌∙◌, subst, inl, arith, append-nil, length-append, Option, Some, Bor, Result, Ok, Err, IfOk}
use Rattle.std.specs.Option.{option_copied}
use Rattle.std.proofs.lemmas.List.{drop_all, length-map}
use Rattle.httparse.specs.Borrowed.{header_parts, HoldsRequest, HoldsSomeRequest, HoldsResponse, HoldsSomeResponse}
use Rattle.httparse.specs.Grammar.{RequestHead, ReadsRequest, print_request, HasNoRequest, ResponseHead, ReadsResponse, print_response, HasNoResponse, status_code}
use Rattle.httparse.specs.Spans.{name_and_value, RequestOverflows, ResponseOverflows}
use Rattle.httparse.specs.declared.borrowed.Request.{Request}
use Rattle.httparse.specs.declared.borrowed.Response.{Response}
use Rattle.httparse.proofs.GrammarLemmas.{request_unique, response_unique}
use Rattle.http_wire.specs.Verdicts.{IsRequest, IsJudged, verdict, IsResponse, Announces, announcement}
use Rattle.http_wire.specs.declared.routes.Routes.{Routes}
use Rattle.http_wire.specs.declared.verdict.Verdict.{Verdict}
use Rattle.http_wire.specs.declared.announced.Announced.{Announced}

-- what holds of the value at Ok is widened
pub ok_more : {A E : Type 0} (P Q : A → Type 0) → ((a : A) → P a → Q a) → (r : Result A E) → IfOk r P → IfOk r Q
ok_more P Q f (Ok a) p = f a p
ok_more P Q f (Err e) p = p

-- the text that a borrowed one is
shown : (o : Option (Bor (List ℕ))) (b : Bor (List ℕ)) (x : List ℕ) → o ≡ Some b → option_copied o ≡ Some x → b.now ≡ x
shown o b x is e = let both : Some b.now ≡ Some x = ap option_copied (sym is) ∙ e in cc

-- ---- requests

pub not_partial : (head : List ℕ) → HasNoRequest head → (h : RequestHead) → ¬ (IsRequest head h)
not_partial head none h x = none h [] x.reads

pub not_roomy : (head : List ℕ) (room : ℕ) → 32 ≤ room → RequestOverflows room head → (h : RequestHead) → ¬ (IsRequest head h)
not_roomy head room roomy over h x =
    omega (arith, x.few, over [] h [] (subst (λ (l : List ℕ). ReadsRequest l h []) (sym (append-nil head)) x.reads))

pub not_whole : (head : List ℕ) (size : ℕ) (r : Request) → HoldsSomeRequest head r size → size ≢ length head → (h : RequestHead) → ¬ (IsRequest head h)
not_whole head size r holds other h x =
    let k = holds.0 in
    let at = holds.1 in
    let rest = (request_unique head k h (drop size head) [] at.reads x.reads).1 in
    let total : length head ≡ length (print_request k) + length (drop size head) = ap length at.reads.1 ∙ length-append (print_request k) (drop size head) in
    other (omega (arith, at.len_is, total, ap length rest))

few_fields : (head : List ℕ) (size : ℕ) (r : Request) (h : RequestHead) → HoldsRequest head size r h → length r.headers.now ≡ length h.fields
few_fields head size r h at = sym (length-map r.headers.now header_parts) ∙ ap length at.fields ∙ length-map h.fields name_and_value

pub not_few : (head : List ℕ) (size : ℕ) (r : Request) → HoldsSomeRequest head r size → 32 < length r.headers.now → (h : RequestHead) → ¬ (IsRequest head h)
not_few head size r holds many h x =
    let same = (request_unique head holds.0 h (drop size head) [] holds.1.reads x.reads).0 in
    omega (arith, x.few, many, few_fields head size r holds.0 holds.1, ap (λ (k : RequestHead). length k.fields) same)

pub judged : (routes : Routes) (head : List ℕ) (size : ℕ) (r : Request) (method target : Bor (List ℕ)) → HoldsSomeRequest head r size
    → size ≡ length head → length r.headers.now ≤ 32 → r.method ≡ Some method → r.path ≡ Some target
    → (v : Verdict) → v ≡ verdict routes method.now target.now (map header_parts r.headers.now) → IsJudged routes head v
judged routes head size r method target holds whole few is_method is_target v is =
    let h = holds.0 in
    let at = holds.1 in
    let m = shown r.method method h.method is_method at.method in
    let t = shown r.path target h.target is_target at.path in
    inl (
      h,
      record {
        reads = subst (λ (l : List ℕ). ReadsRequest head h l) (drop_all size head (omega arith)) at.reads;
        few = omega (arith, few, few_fields head size r h at);
      },
      is ∙ (λ i. verdict routes (m i) (t i) (at.fields i)),
    )

-- ---- responses

pub no_partial : (head : List ℕ) → HasNoResponse head → (h : ResponseHead) → ¬ (IsResponse head h)
no_partial head none h x = none h [] x.reads

pub no_roomy : (head : List ℕ) (room : ℕ) → 32 ≤ room → ResponseOverflows room head → (h : ResponseHead) → ¬ (IsResponse head h)
no_roomy head room roomy over h x =
    omega (arith, x.few, over [] h [] (subst (λ (l : List ℕ). ReadsResponse l h []) (sym (append-nil head)) x.reads))

pub no_whole : (head : List ℕ) (size : ℕ) (r : Response) → HoldsSomeResponse head r size → size ≢ length head → (h : ResponseHead) → ¬ (IsResponse head h)
no_whole head size r holds other h x =
    let k = holds.0 in
    let at = holds.1 in
    let rest = (response_unique head k h (drop size head) [] at.reads x.reads).1 in
    let total : length head ≡ length (print_response k) + length (drop size head) = ap length at.reads.1 ∙ length-append (print_response k) (drop size head) in
    other (omega (arith, at.len_is, total, ap length rest))

few_lines : (head : List ℕ) (size : ℕ) (r : Response) (h : ResponseHead) → HoldsResponse head size r h → length r.headers.now ≡ length h.fields
few_lines head size r h at = sym (length-map r.headers.now header_parts) ∙ ap length at.fields ∙ length-map h.fields name_and_value

pub no_few : (head : List ℕ) (size : ℕ) (r : Response) → HoldsSomeResponse head r size → 32 < length r.headers.now → (h : ResponseHead) → ¬ (IsResponse head h)
no_few head size r holds many h x =
    let same = (response_unique head holds.0 h (drop size head) [] holds.1.reads x.reads).0 in
    omega (arith, x.few, many, few_lines head size r holds.0 holds.1, ap (λ (k : ResponseHead). length k.fields) same)

pub announces : (head : List ℕ) (size : ℕ) (r : Response) (status : ℕ) → HoldsSomeResponse head r size
    → size ≡ length head → length r.headers.now ≤ 32 → r.code ≡ Some status
    → (a : Option Announced) → a ≡ announcement status (map header_parts r.headers.now) → Announces head a
announces head size r status holds whole few is_status a is =
    let h = holds.0 in
    let at = holds.1 in
    let s : status ≡ status_code h = let both : Some status ≡ Some (status_code h) = sym is_status ∙ at.code in cc in
    inl (
      h,
      record {
        reads = subst (λ (l : List ℕ). ReadsResponse head h l) (drop_all size head (omega arith)) at.reads;
        few = omega (arith, few, few_lines head size r h at);
      },
      is ∙ (λ i. announcement (s i) (at.fields i)),
    )
