-- An input of a request has exactly one answer that follows from it.
use Rattle.std.proofs.Common.{◌≡◌, ◌<◌, ◌≤◌, ℕ, Bool, true, false, cond, List, [], ◌++◌, length, take, drop, map, refl, sym, ap, ◌∙◌, subst, inl, inr, arith}
use Rattle.std.proofs.Common.{append_assoc, append-nil, length-append, length-take-le, take-append-drop, Result, Ok, Err}
use Rattle.std.specs.Prelude.{nat_le}
use Rattle.std.proofs.lemmas.Bool.{cases_lt}
use Rattle.std.proofs.lemmas.List.{take_at, drop_at}
use Rattle.std.proofs.lemmas.Bool.Decides.{nat_tests}
use Rattle.outside_core.specs.Stream.{Stream}
use Rattle.httparse.proofs.GrammarLemmas.{request_unique}
use Rattle.httparse.specs.Grammar.{RequestHead}
use Rattle.httparse.specs.Spans.{name_and_value}
use Rattle.http_wire.specs.Parts.{IsPartHead}
use Rattle.http_wire.specs.Requests.{Requested}
use Rattle.http_wire.specs.Verdicts.{IsJudged, verdict}
use Rattle.http_wire.specs.Laws.{IsFromInput, OneRequest}
use Rattle.http_wire.specs.declared.routes.Routes.{Routes}
use Rattle.http_wire.specs.declared.verdict.Verdict.{Verdict}
use Rattle.http_wire.specs.declared.verdict.Verdict.TheVariants.{Takes, Gets, Refused}
use Rattle.http_wire.specs.declared.request.Asked.{Asked}
use Rattle.http_wire.specs.declared.request.Asked.TheVariants.{Post, Get}
use Rattle.http_wire.specs.declared.request.WireFault.{WireFault}
use Rattle.http_wire.specs.declared.request.WireFault.TheVariants as w
use Rattle.http_wire.proofs.Decided.{request_or_not}
use Rattle.http_wire.proofs.Firsts.{First, headed, headless, part, Came, one_answer, JudgesOnce, JudgesEach, first_of, behind, takes}

-- ---- heads

-- a head has one verdict
one_verdict : (routes : Routes) → JudgesOnce Verdict (IsJudged routes)
one_verdict routes head v u a b = elim a as (λ _. v ≡ u) [
  | inl x ↦ elim b as (λ _. v ≡ u) [
    | inl y ↦
        let same = (request_unique head x.0 y.0 [] [] x.1.reads y.1.reads).0 in
        x.2 ∙ ap (λ (h : RequestHead). verdict routes h.method h.target (map name_and_value h.fields)) same ∙ sym y.2
    | inr y ↦ absurd (y.0 x.0 x.1)
  ]
  | inr x ↦ elim b as (λ _. v ≡ u) [
    | inl y ↦ absurd (x.0 y.0 y.1)
    | inr y ↦ x.1 ∙ sym y.1
  ]
]

each_verdict : (routes : Routes) → JudgesEach Verdict (IsJudged routes)
each_verdict routes head = elim (request_or_not head) as (λ _. (v : Verdict) × IsJudged routes head v) [
  | inl x ↦ (verdict routes x.0.method x.0.target (map name_and_value x.0.fields), inl (x.0, x.1, refl))
  | inr none ↦ (Refused 400, inr (none, refl))
]

-- ---- at most one answer

-- what follows by a verdict, and what is left
abbrev act : Verdict → List ℕ → Result Asked WireFault × List ℕ
act (Takes n) behind = cond (nat_le n (length behind)) (Ok (Post (take n behind)), drop n behind) (Err w.Cut, [])
act (Gets path) behind = (Ok (Get path), behind)
act (Refused status) behind = (Err (w.Refuse status), behind)

taken_all : (n : ℕ) (body rest : List ℕ) → n ≡ length body → act (Takes n) (body ++ rest) ≡ (Ok (Post body), rest)
taken_all n body rest is =
    ap (λ (b : Bool). cond b (Ok (Post (take n (body ++ rest))), drop n (body ++ rest)) (Err w.Cut, [])) (fits n (body ++ rest) (omega (arith, is, length-append body rest)))
    ∙ (λ i. (Ok (Post (take_at body rest n (sym is) i)), drop_at body rest n (sym is) i))
  where
    fits : (n : ℕ) (l : List ℕ) → n ≤ length l → nat_le n (length l) ≡ true
    fits n l h = grind (arith, nat_tests)

taken_less : (n : ℕ) (rest : List ℕ) → length rest < n → act (Takes n) rest ≡ (Err w.Cut, [])
taken_less n rest less = ap (λ (b : Bool). cond b (Ok (Post (take n rest)), drop n rest) (Err w.Cut, [])) (fits n rest less)
  where
    fits : (n : ℕ) (l : List ℕ) → length l < n → nat_le n (length l) ≡ false
    fits n l h = grind (arith, nat_tests)

abbrev CameBy : Routes → Stream → Stream → Result Asked WireFault → Type 0
CameBy routes old new r = Came Verdict (Result Asked WireFault) (IsJudged routes) act (Err (w.Refuse 400)) (Err w.Cut) old new r

came : (routes : Routes) (old new : Stream) (r : Result Asked WireFault) → IsFromInput r → Requested routes old new r → CameBy routes old new r
came routes old new (Ok (Post body)) from q = record {
  first = headed (Takes (length body)) q.head (body ++ new.rest) q.head_is.is_head q.head_is.judged (sym (q.took.front ∙ append_assoc q.head body new.rest));
  is = taken_all (length body) body new.rest refl;
  bytes = q.head ++ body;
  took = q.took;
}
came routes old new (Ok (Get path)) from q = record {
  first = headed (Gets path) q.head new.rest q.head_is.is_head q.head_is.judged (sym (q.took.front ∙ ap (λ (l : List ℕ). l ++ new.rest) (append-nil q.head)));
  is = refl;
  bytes = q.head ++ [];
  took = q.took;
}
came routes old new (Err (w.Refuse status)) from (inl q) = record {
  first = headed (Refused status) q.head new.rest q.head_is.is_head q.head_is.judged (sym (q.took.front ∙ ap (λ (l : List ℕ). l ++ new.rest) (append-nil q.head)));
  is = refl;
  bytes = q.head ++ [];
  took = q.took;
}
came routes old new (Err (w.Refuse status)) from (inr q) = record {
  first = headless q.1.bytes new.rest q.1.headless (sym q.1.took.front);
  is = λ i. (Err (w.Refuse (sym q.0 i)), new.rest);
  bytes = q.1.bytes;
  took = q.1.took;
}
came routes old new (Err w.Cut) from q =
    let all : old.rest ≡ q.bytes = q.took.took.front ∙ ap (λ (l : List ℕ). q.bytes ++ l) q.took.ended ∙ append-nil q.bytes in
    elim q.part as (λ _. CameBy routes old new (Err w.Cut)) [
      | inl is ↦ record {
        first = part (subst IsPartHead (sym all) is);
        is = λ i. (Err w.Cut, sym q.took.ended i);
        bytes = q.bytes;
        took = q.took.took;
      }
      | inr it ↦ record {
        first = headed (Takes it.size) it.head it.behind it.head_is.is_head it.head_is.judged (sym (all ∙ it.whole));
        is = taken_less it.size it.behind it.fewer ∙ (λ i. (Err w.Cut, sym q.took.ended i));
        bytes = q.bytes;
        took = q.took.took;
      }
    ]
came routes old new (Err w.LinkFault) from q = absurd from
came routes old new (Err w.NoMemory) from q = absurd from

-- ---- there is an answer

record There (routes : Routes) (old : Stream) : Type 0 where
  answer : Result Asked WireFault
  left : Stream
  follows : IsFromInput answer
  there : Requested routes old left answer

there_is : (routes : Routes) (old : Stream) → First Verdict (IsJudged routes) old.rest → There routes old
there_is routes old (headed (Takes n) head rest is j e) = elim (cases_lt (length rest) n) as (λ _. There routes old) [
  | inl fewer ↦ record {
    answer = Err w.Cut;
    left = behind (head ++ rest) [] old;
    follows = tt;
    there = record {
      bytes = head ++ rest;
      part = inr (record { head = head; size = n; behind = rest; head_is = record { is_head = is; judged = j }; whole = refl; fewer = fewer });
      took = record { took = takes (head ++ rest) [] old (append-nil (head ++ rest) ∙ e); ended = refl };
    };
  }
  | inr fits ↦ record {
    answer = Ok (Post (take n rest));
    left = behind (head ++ take n rest) (drop n rest) old;
    follows = tt;
    there = record {
      head = head;
      head_is = record { is_head = is; judged = subst (λ (k : ℕ). IsJudged routes head (Takes k)) (sym (length-take-le n rest fits)) j };
      took = takes (head ++ take n rest) (drop n rest) old (append_assoc head (take n rest) (drop n rest) ∙ ap (λ (l : List ℕ). head ++ l) (take-append-drop n rest) ∙ e);
    };
  }
]
there_is routes old (headed (Gets path) head rest is j e) = record {
  answer = Ok (Get path);
  left = behind (head ++ []) rest old;
  follows = tt;
  there = record { head = head; head_is = record { is_head = is; judged = j }; took = takes (head ++ []) rest old (ap (λ (l : List ℕ). l ++ rest) (append-nil head) ∙ e) };
}
there_is routes old (headed (Refused status) head rest is j e) = record {
  answer = Err (w.Refuse status);
  left = behind (head ++ []) rest old;
  follows = tt;
  there = inl (record { head = head; head_is = record { is_head = is; judged = j }; took = takes (head ++ []) rest old (ap (λ (l : List ℕ). l ++ rest) (append-nil head) ∙ e) });
}
there_is routes old (headless bytes rest is e) = record {
  answer = Err (w.Refuse 400);
  left = behind bytes rest old;
  follows = tt;
  there = inr (refl, record { bytes = bytes; headless = is; took = takes bytes rest old e });
}
there_is routes old (part is) = record {
  answer = Err w.Cut;
  left = behind old.rest [] old;
  follows = tt;
  there = record { bytes = old.rest; part = inl is; took = record { took = takes old.rest [] old (append-nil old.rest); ended = refl } };
}

pub one_request : OneRequest
one_request routes old =
    let it = there_is routes old (first_of (IsJudged routes) (each_verdict routes) old.rest) in
    record {
      answer = it.answer;
      left = it.left;
      follows = it.follows;
      there = it.there;
      alone = λ other new from q.
          one_answer (IsJudged routes) act (Err (w.Refuse 400)) (Err w.Cut) (one_verdict routes)
          (came routes old new other from q) (came routes old it.left it.answer it.follows it.there);
    }
