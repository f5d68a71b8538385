-- A head, and what comes behind it, are one request or response.
use Rattle.std.proofs.Common.{◌≡◌, ◌≤◌, ℕ, List, [], ◌++◌, length, refl, sym, subst, inl, inr, arith, append-nil, Some, Result, Ok, Err}
use Rattle.outside_core.specs.Stream.{Stream, Took}
use Rattle.frames.proofs.Public.Pieces.{took_both}
use Rattle.http_wire.specs.Parts.{Heads, Bodies, TookSome, TookLast, IsHead}
use Rattle.http_wire.specs.Behind.{AskedBehind, Fulfilled, AnsweredBehind}
use Rattle.http_wire.specs.Requests.{Requested, wire_fault}
use Rattle.http_wire.specs.Responses.{Responded, response_fault}
use Rattle.http_wire.specs.Verdicts.{IsJudged, Announces}
use Rattle.http_wire.specs.declared.routes.Routes.{Routes}
use Rattle.http_wire.specs.declared.verdict.Verdict.TheVariants.{Takes}
use Rattle.http_wire.specs.declared.parts.PartFault.{PartFault}
use Rattle.http_wire.specs.declared.parts.PartFault.TheVariants as p
use Rattle.http_wire.specs.declared.request.Asked.{Asked}
use Rattle.http_wire.specs.declared.request.Asked.TheVariants.{Post, Get}
use Rattle.http_wire.specs.declared.request.WireFault.{WireFault}
use Rattle.http_wire.specs.declared.request.WireFault.TheVariants as w
use Rattle.http_wire.specs.declared.announced.Announced.{Announced}
use Rattle.http_wire.specs.declared.response.Answered.{Answered}
use Rattle.http_wire.specs.declared.response.ResponseFault.{ResponseFault}
use Rattle.http_wire.specs.declared.response.ResponseFault.TheVariants as r

-- bytes that came, and then nothing
pub took_alone : {bytes : List ℕ} {old mid new : Stream} → Took bytes old mid → new ≡ mid → Took (bytes ++ []) old new
took_alone {bytes} {old} {mid} t e = subst (λ (s : Stream). Took (bytes ++ []) old s) (sym e) (subst (λ (l : List ℕ). Took l old mid) (sym (append-nil bytes)) t)

pub took_some : {bytes : List ℕ} {old mid new : Stream} → Took bytes old mid → TookSome mid new → TookSome old new
took_some {bytes} t more = record { bytes = bytes ++ more.bytes; took = took_both t more.took }

took_last : {bytes more : List ℕ} {old mid new : Stream} → Took bytes old mid → TookLast more mid new → TookLast (bytes ++ more) old new
took_last t more = record { took = took_both t more.took; ended = more.ended }

-- ---- requests

-- no head of a request came
pub no_head : (routes : Routes) (old new : Stream) (fault : PartFault) (f : WireFault) → f ≡ wire_fault fault → Heads old new (Err fault) → Requested routes old new (Err f)
no_head routes old new fault f is h = subst (λ (x : WireFault). Requested routes old new (Err x)) (sym is) (by fault h)
  where
    by : (fault : PartFault) → Heads old new (Err fault) → Requested routes old new (Err (wire_fault fault))
    by p.Cut h = record { bytes = h.0; part = inl h.1; took = h.2 }
    by p.LinkFault h = h
    by p.NoMemory h = h

-- no body of a request came
pub no_body : (routes : Routes) (head : List ℕ) (size : ℕ) (old new : Stream) (fault : PartFault) (f : WireFault) → f ≡ wire_fault fault
    → IsJudged routes head (Takes size) → Bodies size old new (Err fault) → AskedBehind routes head old new (Err f)
no_body routes head size old new fault f is j h = subst (λ (x : WireFault). AskedBehind routes head old new (Err x)) (sym is) (by fault h)
  where
    by : (fault : PartFault) → Bodies size old new (Err fault) → AskedBehind routes head old new (Err (wire_fault fault))
    by p.Cut h = record { size = size; judged = j; took = record { bytes = h.0; fewer = h.1; took = h.2 } }
    by p.LinkFault h = h
    by p.NoMemory h = h

-- a head, and what came behind it
pub joined : (routes : Routes) (head : List ℕ) (old mid new : Stream) → IsHead head → Took head old mid
    → (result : Result Asked WireFault) → AskedBehind routes head mid new result → Requested routes old new result
joined routes head old mid new is t (Ok (Post body)) b = record { head = head; head_is = record { is_head = is; judged = b.0 }; took = took_both t b.1 }
joined routes head old mid new is t (Ok (Get path)) b = record { head = head; head_is = record { is_head = is; judged = b.0 }; took = took_alone t b.1 }
joined routes head old mid new is t (Err (w.Refuse status)) b = inl (record { head = head; head_is = record { is_head = is; judged = b.0 }; took = took_alone t b.1 })
joined routes head old mid new is t (Err w.Cut) b = record {
  bytes = head ++ b.took.bytes;
  part = inr (record { head = head; size = b.size; behind = b.took.bytes; head_is = record { is_head = is; judged = b.judged }; whole = refl; fewer = b.took.fewer });
  took = took_last t b.took.took;
}
joined routes head old mid new is t (Err w.LinkFault) b = took_some t b
joined routes head old mid new is t (Err w.NoMemory) b = took_some t b

-- ---- responses

-- no head of a response came
pub without_head : (limit : ℕ) (old new : Stream) (fault : PartFault) (f : ResponseFault) → f ≡ response_fault fault → Heads old new (Err fault) → Responded limit old new (Err f)
without_head limit old new fault f is h = subst (λ (x : ResponseFault). Responded limit old new (Err x)) (sym is) (by fault h)
  where
    by : (fault : PartFault) → Heads old new (Err fault) → Responded limit old new (Err (response_fault fault))
    by p.Cut h = record { bytes = h.0; part = inl h.1; took = h.2 }
    by p.LinkFault h = h
    by p.NoMemory h = h

-- no body of a response came
pub without_body : (limit : ℕ) (a : Announced) (old new : Stream) (fault : PartFault) (f : ResponseFault) → f ≡ response_fault fault
    → a.size ≤ limit → Bodies a.size old new (Err fault) → Fulfilled limit a old new (Err f)
without_body limit a old new fault f is within h = subst (λ (x : ResponseFault). Fulfilled limit a old new (Err x)) (sym is) (by fault h)
  where
    by : (fault : PartFault) → Bodies a.size old new (Err fault) → Fulfilled limit a old new (Err (response_fault fault))
    by p.Cut h = (within, record { bytes = h.0; fewer = h.1; took = h.2 })
    by p.LinkFault h = h
    by p.NoMemory h = h

-- what came behind a head that announces it
pub behind_announced : (limit : ℕ) (head : List ℕ) (a : Announced) (old new : Stream) → Announces head (Some a)
    → (result : Result Answered ResponseFault) → Fulfilled limit a old new result → AnsweredBehind limit head old new result
behind_announced limit head a old new is (Ok it) b = record { a = a; announces = is; behind = b }
behind_announced limit head a old new is (Err r.BadHead) b = absurd b
behind_announced limit head a old new is (Err r.TooLong) b = record { a = a; announces = is; behind = b }
behind_announced limit head a old new is (Err r.Cut) b = record { a = a; announces = is; behind = b }
behind_announced limit head a old new is (Err r.LinkFault) b = b
behind_announced limit head a old new is (Err r.NoMemory) b = b

-- a head, and what came behind it
pub answered : (limit : ℕ) (head : List ℕ) (old mid new : Stream) → IsHead head → Took head old mid
    → (result : Result Answered ResponseFault) → AnsweredBehind limit head mid new result → Responded limit old new result
answered limit head old mid new is t (Ok it) b =
    let f = b.behind in
    let same : b.a ≡ record { status = it.status; media = it.media; size = length it.body } = λ i. record { status = sym f.status i; media = sym f.media i; size = sym f.size i } in
    record {
      within = omega (arith, f.size, f.within);
      took = record { head = head; head_is = record { is_head = is; announces = subst (λ (a : Announced). Announces head (Some a)) same b.announces }; took = took_both t f.took };
    }
answered limit head old mid new is t (Err r.BadHead) b = inl (record { head = head; head_is = record { is_head = is; announces = b.0 }; took = took_alone t b.1 })
answered limit head old mid new is t (Err r.TooLong) b = record {
  a = b.a;
  above = b.behind.0;
  took = record { head = head; head_is = record { is_head = is; announces = b.announces }; took = took_alone t b.behind.1 };
}
answered limit head old mid new is t (Err r.Cut) b = record {
  bytes = head ++ b.behind.1.bytes;
  part = inr (record { head = head; a = b.a; behind = b.behind.1.bytes; head_is = record { is_head = is; announces = b.announces }; within = b.behind.0; whole = refl; fewer = b.behind.1.fewer });
  took = took_last t b.behind.1.took;
}
answered limit head old mid new is t (Err r.LinkFault) b = took_some t b
answered limit head old mid new is t (Err r.NoMemory) b = took_some t b
