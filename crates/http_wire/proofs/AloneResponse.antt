-- An input of a response has exactly one answer that follows from it.
use Rattle.std.proofs.Common.{◌≡◌, ◌<◌, ◌≤◌, ℕ, Bool, true, false, cond, List, [], ◌++◌, length, take, drop, map, refl, sym, ap, ◌∙◌, subst, inl, inr, arith}
use Rattle.std.proofs.Common.{append_assoc, append-nil, length-append, length-take-le, take-append-drop, Option, Some, None, Result, Ok, Err}
use Rattle.std.specs.Prelude.{nat_le, nat_lt}
use Rattle.std.proofs.lemmas.Bool.{cases_lt}
use Rattle.std.proofs.lemmas.List.{take_at, drop_at}
use Rattle.std.proofs.lemmas.Bool.Decides.{nat_tests}
use Rattle.outside_core.specs.Stream.{Stream}
use Rattle.httparse.proofs.GrammarLemmas.{response_unique}
use Rattle.httparse.specs.Grammar.{ResponseHead, status_code}
use Rattle.httparse.specs.Spans.{name_and_value}
use Rattle.http_wire.specs.Parts.{IsHead, IsPartHead}
use Rattle.http_wire.specs.Responses.{Responded}
use Rattle.http_wire.specs.Verdicts.{Announces, announcement}
use Rattle.http_wire.specs.Laws.{IsFromResponse, OneResponse}
use Rattle.http_wire.specs.declared.announced.Announced.{Announced}
use Rattle.http_wire.specs.declared.response.Answered.{Answered}
use Rattle.http_wire.specs.declared.response.ResponseFault.{ResponseFault}
use Rattle.http_wire.specs.declared.response.ResponseFault.TheVariants as r
use Rattle.http_wire.proofs.Decided.{response_or_not}
use Rattle.http_wire.proofs.Firsts.{First, headed, headless, part, Came, one_answer, JudgesOnce, JudgesEach, first_of, behind, takes}

-- ---- heads

-- a head announces one thing
one_announcement : JudgesOnce (Option Announced) Announces
one_announcement head v u a b = elim a as (λ _. v ≡ u) [
  | inl x ↦ elim b as (λ _. v ≡ u) [
    | inl y ↦
        let same = (response_unique head x.0 y.0 [] [] x.1.reads y.1.reads).0 in
        x.2 ∙ ap (λ (h : ResponseHead). announcement (status_code h) (map name_and_value h.fields)) same ∙ sym y.2
    | inr y ↦ absurd (y.0 x.0 x.1)
  ]
  | inr x ↦ elim b as (λ _. v ≡ u) [
    | inl y ↦ absurd (x.0 y.0 y.1)
    | inr y ↦ x.1 ∙ sym y.1
  ]
]

each_announcement : JudgesEach (Option Announced) Announces
each_announcement head = elim (response_or_not head) as (λ _. (a : Option Announced) × Announces head a) [
  | inl x ↦ (announcement (status_code x.0) (map name_and_value x.0.fields), inl (x.0, x.1, refl))
  | inr none ↦ (None, inr (none, refl))
]

-- ---- at most one answer

-- a response of these parts
abbrev made : Announced → List ℕ → Answered
made a body = record { status = a.status; media = a.media; body = body }

-- what follows of the body, where it is not too long
abbrev fulfilled : Announced → List ℕ → Result Answered ResponseFault × List ℕ
fulfilled a behind = cond (nat_le a.size (length behind)) (Ok (made a (take a.size behind)), drop a.size behind) (Err r.Cut, [])

-- what follows by what is announced, and what is left
abbrev act : ℕ → Option Announced → List ℕ → Result Answered ResponseFault × List ℕ
act limit None behind = (Err r.BadHead, behind)
act limit (Some a) behind = cond (nat_lt limit a.size) (Err r.TooLong, behind) (fulfilled a behind)

above : (limit : ℕ) (a : Announced) (rest : List ℕ) → limit < a.size → act limit (Some a) rest ≡ (Err r.TooLong, rest)
above limit a rest h = ap (λ (b : Bool). cond b (Err r.TooLong, rest) (fulfilled a rest)) (is a.size h)
  where
    is : (n : ℕ) → limit < n → nat_lt limit n ≡ true
    is n h = grind (arith, nat_tests)

within : (limit : ℕ) (a : Announced) (rest : List ℕ) → a.size ≤ limit → act limit (Some a) rest ≡ fulfilled a rest
within limit a rest h = ap (λ (b : Bool). cond b (Err r.TooLong, rest) (fulfilled a rest)) (is a.size h)
  where
    is : (n : ℕ) → n ≤ limit → nat_lt limit n ≡ false
    is n h = grind (arith, nat_tests)

fulfilled_all : (a : Announced) (body rest : List ℕ) → a.size ≡ length body → fulfilled a (body ++ rest) ≡ (Ok (made a body), rest)
fulfilled_all a body rest is =
    ap (λ (b : Bool). cond b (Ok (made a (take a.size (body ++ rest))), drop a.size (body ++ rest)) (Err r.Cut, []))
    (fits a.size (body ++ rest) (omega (arith, is, length-append body rest)))
    ∙ (λ i. (Ok (made a (take_at body rest a.size (sym is) i)), drop_at body rest a.size (sym is) i))
  where
    fits : (n : ℕ) (l : List ℕ) → n ≤ length l → nat_le n (length l) ≡ true
    fits n l h = grind (arith, nat_tests)

fulfilled_less : (a : Announced) (rest : List ℕ) → length rest < a.size → fulfilled a rest ≡ (Err r.Cut, [])
fulfilled_less a rest less = ap (λ (b : Bool). cond b (Ok (made a (take a.size rest)), drop a.size rest) (Err r.Cut, [])) (fits a.size rest less)
  where
    fits : (n : ℕ) (l : List ℕ) → length l < n → nat_le n (length l) ≡ false
    fits n l h = grind (arith, nat_tests)

abbrev CameBy : ℕ → Stream → Stream → Result Answered ResponseFault → Type 0
CameBy limit old new x = Came (Option Announced) (Result Answered ResponseFault) Announces (act limit) (Err r.BadHead) (Err r.Cut) old new x

came : (limit : ℕ) (old new : Stream) (x : Result Answered ResponseFault) → IsFromResponse x → Responded limit old new x → CameBy limit old new x
came limit old new (Ok it) from q =
    let a : Announced = record { status = it.status; media = it.media; size = length it.body } in
    let t = q.took in
    record {
      first = headed (Some a) t.head (it.body ++ new.rest) t.head_is.is_head t.head_is.announces (sym (t.took.front ∙ append_assoc t.head it.body new.rest));
      is = within limit a (it.body ++ new.rest) q.within ∙ fulfilled_all a it.body new.rest refl;
      bytes = t.head ++ it.body;
      took = t.took;
    }
came limit old new (Err r.BadHead) from (inl q) = record {
  first = headed None q.head new.rest q.head_is.is_head q.head_is.announces (sym (q.took.front ∙ ap (λ (l : List ℕ). l ++ new.rest) (append-nil q.head)));
  is = refl;
  bytes = q.head ++ [];
  took = q.took;
}
came limit old new (Err r.BadHead) from (inr q) = record {
  first = headless q.bytes new.rest q.headless (sym q.took.front);
  is = refl;
  bytes = q.bytes;
  took = q.took;
}
came limit old new (Err r.TooLong) from q =
    let t = q.took in
    record {
      first = headed (Some q.a) t.head new.rest t.head_is.is_head t.head_is.announces (sym (t.took.front ∙ ap (λ (l : List ℕ). l ++ new.rest) (append-nil t.head)));
      is = above limit q.a new.rest q.above;
      bytes = t.head ++ [];
      took = t.took;
    }
came limit old new (Err r.Cut) from q =
    let all : old.rest ≡ q.bytes = q.took.took.front ∙ ap (λ (l : List ℕ). q.bytes ++ l) q.took.ended ∙ append-nil q.bytes in
    elim q.part as (λ _. CameBy limit old new (Err r.Cut)) [
      | inl is ↦ record {
        first = part (subst IsPartHead (sym all) is);
        is = λ i. (Err r.Cut, sym q.took.ended i);
        bytes = q.bytes;
        took = q.took.took;
      }
      | inr it ↦ record {
        first = headed (Some it.a) it.head it.behind it.head_is.is_head it.head_is.announces (sym (all ∙ it.whole));
        is = within limit it.a it.behind it.within ∙ fulfilled_less it.a it.behind it.fewer ∙ (λ i. (Err r.Cut, sym q.took.ended i));
        bytes = q.bytes;
        took = q.took.took;
      }
    ]
came limit old new (Err r.LinkFault) from q = absurd from
came limit old new (Err r.NoMemory) from q = absurd from

-- ---- there is an answer

record There (limit : ℕ) (old : Stream) : Type 0 where
  answer : Result Answered ResponseFault
  left : Stream
  follows : IsFromResponse answer
  there : Responded limit old left answer

-- a head that announces a body within the limit
body_there : (limit : ℕ) (old : Stream) (a : Announced) (head rest : List ℕ) → IsHead head → Announces head (Some a) → head ++ rest ≡ old.rest → a.size ≤ limit → There limit old
body_there limit old a head rest is j e fits = elim (cases_lt (length rest) a.size) as (λ _. There limit old) [
  | inl fewer ↦ record {
    answer = Err r.Cut;
    left = behind (head ++ rest) [] old;
    follows = tt;
    there = record {
      bytes = head ++ rest;
      part = inr (record { head = head; a = a; behind = rest; head_is = record { is_head = is; announces = j }; within = fits; whole = refl; fewer = fewer });
      took = record { took = takes (head ++ rest) [] old (append-nil (head ++ rest) ∙ e); ended = refl };
    };
  }
  | inr enough ↦
      let size : length (take a.size rest) ≡ a.size = length-take-le a.size rest enough in
      record {
        answer = Ok (made a (take a.size rest));
        left = behind (head ++ take a.size rest) (drop a.size rest) old;
        follows = tt;
        there = record {
          within = omega (arith, size, fits);
          took = record {
            head = head;
            head_is = record { is_head = is; announces = subst (λ (k : ℕ). let it : Announced = record a { size = k } in Announces head (Some it)) (sym size) j };
            took = takes (head ++ take a.size rest) (drop a.size rest) old
                (append_assoc head (take a.size rest) (drop a.size rest) ∙ ap (λ (l : List ℕ). head ++ l) (take-append-drop a.size rest) ∙ e);
          };
        };
      }
]

there_is : (limit : ℕ) (old : Stream) → First (Option Announced) Announces old.rest → There limit old
there_is limit old (headed None head rest is j e) = record {
  answer = Err r.BadHead;
  left = behind (head ++ []) rest old;
  follows = tt;
  there = inl (record { head = head; head_is = record { is_head = is; announces = j }; took = takes (head ++ []) rest old (ap (λ (l : List ℕ). l ++ rest) (append-nil head) ∙ e) });
}
there_is limit old (headed (Some a) head rest is j e) = elim (cases_lt limit a.size) as (λ _. There limit old) [
  | inl more ↦ record {
    answer = Err r.TooLong;
    left = behind (head ++ []) rest old;
    follows = tt;
    there = record {
      a = a;
      above = more;
      took = record { head = head; head_is = record { is_head = is; announces = j }; took = takes (head ++ []) rest old (ap (λ (l : List ℕ). l ++ rest) (append-nil head) ∙ e) };
    };
  }
  | inr fits ↦ body_there limit old a head rest is j e fits
]
there_is limit old (headless bytes rest is e) = record {
  answer = Err r.BadHead;
  left = behind bytes rest old;
  follows = tt;
  there = inr (record { bytes = bytes; headless = is; took = takes bytes rest old e });
}
there_is limit old (part is) = record {
  answer = Err r.Cut;
  left = behind old.rest [] old;
  follows = tt;
  there = record { bytes = old.rest; part = inl is; took = record { took = takes old.rest [] old (append-nil old.rest); ended = refl } };
}

pub one_response : OneResponse
one_response limit old =
    let it = there_is limit old (first_of Announces each_announcement old.rest) in
    record {
      answer = it.answer;
      left = it.left;
      follows = it.follows;
      there = it.there;
      alone = λ other new from q.
          one_answer Announces (act limit) (Err r.BadHead) (Err r.Cut) one_announcement (came limit old new other from q) (came limit old it.left it.answer it.follows it.there);
    }
