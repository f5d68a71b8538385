-- Each row of a judgement holds or does not.
use Rattle.std.proofs.Common.{◌≡◌, ◌⊎◌, ℕ, ◌<◌, List, [], ◌∷◌, length, Option, None, Some, Result, Ok, Err, inl, inr, refl, sym, subst, ◌∙◌, arith}
use Rattle.std.specs.Prelude.{Bool, true, false, nat_eq, ◌≢◌, IfSome}
use Rattle.std.specs.List.{AllByRecursion}
use Rattle.std.specs.Cmp.Lexicographic.{pointwise, bytes_decides}
use Rattle.std.proofs.lemmas.Bool.{cases_lt}
use Rattle.base_types.specs.Bytes.{IsBytes}
use Rattle.item_codec.specs.Whole.{BytesGive}
use Rattle.trust_anchors.specs.declared.anchors.Anchors.{Anchors}
use Rattle.trust_anchors.specs.declared.role.Role.TheVariants.{Author}
use Rattle.trust_anchors.proofs.Public.Blocks.{any_or_none}
use Rattle.suit_commands.specs.declared.digest.Digest.{Digest}
use Rattle.suit_commands.specs.declared.fault.SequenceFault.{SequenceFault}
use Rattle.suit_commands.specs.Digests.{hash_of}
use Rattle.suit_envelope.specs.declared.envelope.Envelope.{Envelope}
use Rattle.suit_envelope.specs.declared.manifest.Manifest.{Manifest}
use Rattle.suit_envelope.specs.declared.plan.Plan.{Plan}
use Rattle.suit_envelope.specs.declared.fault.EnvelopeFault.{EnvelopeFault}
use Rattle.suit_envelope.specs.declared.fault.EnvelopeFault.TheVariants.{Cbor}
use Rattle.suit_envelope.specs.Envelopes.{EnvelopeIs, envelope_of}
use Rattle.suit_envelope.specs.Plans.{PlanIs, plan_of}
use Rattle.suit_envelope.proofs.Public.Envelopes.{exactly_one}
use Rattle.suit_envelope.proofs.Public.Plans.{one_plan}
use Rattle.suit_engine.specs.declared.outcome.Built.{Built}
use Rattle.device_state.specs.declared.heads.RowHead.{RowHead}
use Rattle.device_state.specs.declared.rows.ComponentRow.{ComponentRow}
use Rattle.manifest_judge.specs.Claims.{IsSigned, IsAbove, IsNewer, IsNoneOf, LeavesFree, IsFree, IsWhole, IsMade, AreMade}

-- it is so, or it is not
abbrev pub Decided : Type 0 → Type 0
Decided P = P ⊎ (P → ⊥)

-- ---- facts of facts

pub not_decided : (P : Type 0) → Decided P → Decided (P → ⊥)
not_decided P (inl is) = inr (λ none. none is)
not_decided P (inr none) = inl none

implied_decided : (P Q : Type 0) → Decided P → Decided Q → Decided (P → Q)
implied_decided P Q (inr none) q = inl (λ is. absurd (none is))
implied_decided P Q (inl is) (inl also) = inl (λ _. also)
implied_decided P Q (inl is) (inr none) = inr (λ follows. none (follows is))

all_decided : {A : Type 0} (P : A → Type 0) → ((x : A) → Decided (P x)) → (xs : List A) → Decided (AllByRecursion P xs)
all_decided P each [] = inl tt
all_decided P each (x ∷ xs) = elim (each x) [
  | inr none ↦ inr (λ all. none all.0)
  | inl is ↦ elim (all_decided P each xs) [
    | inr none ↦ inr (λ all. none all.1)
    | inl are ↦ inl (is, are)
  ]
]

pub bytes_decided : (a b : List ℕ) → Decided (a ≡ b)
bytes_decided a b = by_test (pointwise nat_eq a b) refl where
  by_test : (t : Bool) → pointwise nat_eq a b ≡ t → Decided (a ≡ b)
  by_test true is = inl ((bytes_decides a b).0 is)
  by_test false is = inr (λ same. (let true_is : pointwise nat_eq a b ≡ true = (bytes_decides a b).1 same in cc))

pub less_decided : (a b : ℕ) → Decided (a < b)
less_decided a b = elim (cases_lt a b) [ inl less ↦ inl less | inr least ↦ inr (λ less. omega arith) ]

same_decided : (a b : ℕ) → Decided (a ≡ b)
same_decided a b = elim (cases_lt a b) [
  | inl less ↦ inr (λ same. omega arith)
  | inr least ↦ elim (cases_lt b a) [ inl more ↦ inr (λ same. omega arith) | inr most ↦ inl (omega arith) ]
]

-- ---- the manifest among those that are kept

pub newer_decided : (rows : List RowHead) (m : Manifest) → Decided (IsNewer rows m)
newer_decided rows m = all_decided (IsAbove m) (λ row. implied_decided _ _ (bytes_decided row.id m.id) (less_decided row.sequence m.sequence)) rows

none_decided : (ids : List (List ℕ)) (id : List ℕ) → Decided (IsNoneOf ids id)
none_decided ids id = all_decided (λ other. other ≢ id) (λ other. not_decided _ (bytes_decided other id)) ids

pub free_decided : (rows : List RowHead) (m : Manifest) → Decided (IsFree rows m)
free_decided rows m = all_decided (LeavesFree m.id m.components) (λ row. implied_decided _ _ (not_decided _ (bytes_decided row.id m.id))
    (all_decided (λ part. IsNoneOf m.components part.id) (λ part. none_decided m.components part.id) row.components)) rows

-- ---- the components

-- a value is such, or none is
abbrev pub SomeOrNone : {A : Type 0} → (A → Type 0) → Type 0
SomeOrNone {A} P = ((x : A) × P x) ⊎ ((x : A) → P x → ⊥)

size_decided : (bytes : List ℕ) (size : Option ℕ) → Decided (IfSome size (λ n. length bytes ≡ n))
size_decided bytes None = inl tt
size_decided bytes (Some n) = same_decided (length bytes) n

whole_decided : (bytes : List ℕ) (digest : Digest) (size : Option ℕ) → Decided (IsWhole bytes digest size)
whole_decided bytes digest size = elim (bytes_decided digest.bytes (hash_of digest.algorithm bytes)) [
  | inr other ↦ inr (λ is. other is.matched)
  | inl matched ↦ elim (size_decided bytes size) [
    | inr other ↦ inr (λ is. other is.sized)
    | inl sized ↦ inl (record { matched = matched; sized = sized })
  ]
]

module _ (id : List ℕ) (b : Built) where
  by_whole : (bytes : List ℕ) (digest : Digest) → b.bytes ≡ Some bytes → b.digest ≡ Some digest → Decided (IsWhole bytes digest b.size) → SomeOrNone (IsMade id b)
  by_whole bytes digest at_bytes at_digest (inl is) = inl (
    record { id = id; bytes = bytes; digest = Some digest },
    record { digest = digest; id_is = refl; bytes_are = at_bytes; digest_set = at_digest; digest_kept = refl; whole = is },
  )
  by_whole bytes digest at_bytes at_digest (inr none) = inr (λ c is.
      (let both : Some bytes ≡ Some c.bytes = sym at_bytes ∙ is.bytes_are in
      let same : c.bytes ≡ bytes = cc in
      let digests : Some digest ≡ Some is.digest = sym at_digest ∙ is.digest_set in
      let same_digest : is.digest ≡ digest = cc in
      none (subst (λ (d : Digest). IsWhole bytes d b.size) same_digest (subst (λ (t : List ℕ). IsWhole t is.digest b.size) same is.whole))))

  by_digest : (bytes : List ℕ) (o : Option Digest) → b.bytes ≡ Some bytes → b.digest ≡ o → SomeOrNone (IsMade id b)
  by_digest bytes None at_bytes at_digest = inr (λ c is. (let both : None ≡ Some is.digest = sym at_digest ∙ is.digest_set in cc))
  by_digest bytes (Some digest) at_bytes at_digest = by_whole bytes digest at_bytes at_digest (whole_decided bytes digest b.size)

  by_bytes : (o : Option (List ℕ)) → b.bytes ≡ o → SomeOrNone (IsMade id b)
  by_bytes None at_bytes = inr (λ c is. (let both : None ≡ Some c.bytes = sym at_bytes ∙ is.bytes_are in cc))
  by_bytes (Some bytes) at_bytes = by_digest bytes b.digest at_bytes refl

  component_decided : SomeOrNone (IsMade id b)
  component_decided = by_bytes b.bytes refl

first_made : (id : List ℕ) (ids : List (List ℕ)) (b : Built) (all : List Built) (cs : List ComponentRow) → AreMade (id ∷ ids) (b ∷ all) cs → ((c : ComponentRow) → IsMade id b c → ⊥) → ⊥
first_made id ids b all [] are none = are
first_made id ids b all (c ∷ cs) are none = none c are.0

others_made : (id : List ℕ) (ids : List (List ℕ)) (b : Built) (all : List Built) (cs : List ComponentRow) → AreMade (id ∷ ids) (b ∷ all) cs → ((ds : List ComponentRow) → AreMade ids all ds → ⊥) → ⊥
others_made id ids b all [] are none = are
others_made id ids b all (c ∷ cs) are none = none cs are.1

fewer_built : (id : List ℕ) (ids : List (List ℕ)) (cs : List ComponentRow) → AreMade (id ∷ ids) [] cs → ⊥
fewer_built id ids cs are = are

more_built : (b : Built) (all : List Built) (cs : List ComponentRow) → AreMade [] (b ∷ all) cs → ⊥
more_built b all cs are = are

pub components_decided : (ids : List (List ℕ)) (all : List Built) → SomeOrNone (AreMade ids all)
components_decided [] [] = inl ([], tt)
components_decided [] (b ∷ all) = inr (more_built b all)
components_decided (id ∷ ids) [] = inr (fewer_built id ids)
components_decided (id ∷ ids) (b ∷ all) = elim (component_decided id b) [
  | inr none ↦ inr (λ cs are. first_made id ids b all cs are none)
  | inl first ↦ elim (components_decided ids all) [
    | inr none ↦ inr (λ cs are. others_made id ids b all cs are none)
    | inl others ↦ inl (first.0 ∷ others.0, (first.1, others.1))
  ]
]

-- ---- the envelope

pub envelope_decided : (bytes : List ℕ) → IsBytes bytes → SomeOrNone (λ e. EnvelopeIs e bytes)
envelope_decided bytes are = (let one = exactly_one bytes are in by_answer one.answer one.given one.alone) where
  by_answer : (r : Result Envelope EnvelopeFault) → BytesGive (λ f. Cbor f) envelope_of bytes r → ((other : Result Envelope EnvelopeFault) → BytesGive (λ f. Cbor f) envelope_of bytes other → other ≡ r)
      → SomeOrNone (λ e. EnvelopeIs e bytes)
  by_answer (Ok e) given alone = inl (e, given)
  by_answer (Err fault) given alone = inr (λ e is. (let same : Ok e ≡ Err fault = alone (Ok e) is in cc))

pub signed_decided : (anchors : Anchors) (e : Envelope) → AllByRecursion IsBytes e.blocks → Decided (IsSigned anchors e)
signed_decided anchors e blocks = elim (any_or_none anchors Author e.digest_bytes e.blocks blocks) [
  | inl first ↦ inl (record { block = first.0; anchor = first.1; verified = first.2 })
  | inr none ↦ inr (λ is. none is.block is.anchor is.verified)
]

pub plan_decided : (m : Manifest) → SomeOrNone (λ plan. PlanIs plan m)
plan_decided m = (let one = one_plan m in by_answer one.answer one.given) where
  by_answer : (r : Result Plan SequenceFault) → plan_of m ≡ r → SomeOrNone (λ plan. PlanIs plan m)
  by_answer (Ok plan) given = inl (plan, given)
  by_answer (Err fault) given = inr (λ plan is. (let same : Err fault ≡ Ok plan = sym given ∙ is in cc))
