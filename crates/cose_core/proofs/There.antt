-- Each item has an answer of the reader of COSE_Sign1.
use Rattle.std.proofs.Common.{◌≡◌, ◌⊎◌, ℕ, List, [], ◌∷◌, Option, None, Some, Result, Ok, Err, refl, sym, ap, subst, ◌∙◌, inl, inr}
use Rattle.std.proofs.lemmas.Bool.{cases_eq}
use Rattle.base_types.specs.Bytes.{IsBytes}
use Rattle.cbor_core.specs.declared.item.Item.{Item}
use Rattle.cbor_core.specs.declared.item.Pair.{Pair}
use Rattle.cbor_core.specs.declared.item.Item.TheVariants as i
use Rattle.cbor_core.specs.Spelling.{HasRanges, Spells}
use Rattle.cbor_core.specs.Views.{field, map_of, negative_of}
use Rattle.cose_core.specs.declared.sign1.Sign1.{Sign1}
use Rattle.cose_core.specs.declared.fault.CoseFault.{CoseFault}
use Rattle.cose_core.specs.declared.fault.CoseFault.TheVariants as faults
use Rattle.cose_core.specs.declared.labels.TheConstants.{ALG_HSS_LMS, HEADER_ALG, HEADER_CRIT}
use Rattle.cose_core.specs.Headers.{Wraps}
use Rattle.cose_core.specs.Sign1.{untagged, tagged}
use Rattle.cose_core.specs.Reading.{form_of, CheckedAs, ReadAs}
use Rattle.cbor_core.proofs.Public.Views.{negative_is, negative_back}
use Rattle.cbor_core.proofs.Public.Views.{map_is, map_back}
use Rattle.cose_core.proofs.Forms.{form_is}
use Rattle.cbor_core.proofs.Public.ExactlyOne.{exactly_one_whole}
use Rattle.cbor_core.proofs.Public.Whole.{one_for_one}
use Rattle.cose_core.proofs.Sign1s.{not_checked}

-- ---- an algorithm is HSS/LMS, or it is not

is_alg : (x : Item) (o : Option ℕ) → negative_of x ≡ o → (x ≡ i.Negative ALG_HSS_LMS) ⊎ (x ≡ i.Negative ALG_HSS_LMS → ⊥)
is_alg x None e = inr (λ is. (let both : None ≡ Some ALG_HSS_LMS = sym e ∙ ap negative_of is ∙ negative_back ALG_HSS_LMS in cc))
is_alg x (Some n) e = elim (cases_eq n ALG_HSS_LMS) [
  | inl same ↦ inl (negative_is x n e ∙ ap (λ (k : ℕ). i.Negative k) same)
  | inr other ↦ inr (λ is. (let both : Some n ≡ Some ALG_HSS_LMS = sym e ∙ ap negative_of is ∙ negative_back ALG_HSS_LMS in other cc))
]

pub alg_or_not : (o : Option Item) → (o ≡ Some (i.Negative ALG_HSS_LMS)) ⊎ (o ≡ Some (i.Negative ALG_HSS_LMS) → ⊥)
alg_or_not None = inr (λ is. cc)
alg_or_not (Some x) = elim (is_alg x (negative_of x) refl) [
  | inl same ↦ inl (ap (λ (y : Item). Some y) same)
  | inr other ↦ inr (λ is. other cc)
]

critical_or_not : (o : Option Item) → (o ≡ None) ⊎ (o ≡ None → ⊥)
critical_or_not None = inl refl
critical_or_not (Some x) = inr (λ is. cc)

-- ---- what is answered, if not want of memory

pub record Answered {V : Type 0} (As : Result V CoseFault → Type 0) : Type 0 where
  pub result : Result V CoseFault
  pub answers : As result
  pub not_memory : result ≡ Err faults.NoMemory → ⊥

judged : (bytes : List ℕ) (headers : List Pair) → Wraps bytes headers → Answered (CheckedAs {T = Unit {0}} bytes)
judged bytes headers w = elim (alg_or_not (field HEADER_ALG headers)) [
  | inr wrong ↦ record { result = Err faults.WrongAlg; answers = record { headers = headers; wrapped = w; wrong = wrong }; not_memory = λ e. cc }
  | inl alg ↦ elim (critical_or_not (field HEADER_CRIT headers)) [
    | inl good ↦ record { result = Ok tt; answers = record { headers = headers; wrapped = w; algorithm = alg; uncritical = good }; not_memory = λ e. cc }
    | inr bad ↦ record { result = Err faults.Critical; answers = record { headers = headers; wrapped = w; algorithm = alg; critical = bad }; not_memory = λ e. cc }
  ]
]

-- protected bytes that are not empty and wrap no map
unwrapped : (bytes : List ℕ) → (bytes ≡ [] → ⊥) → ((headers : List Pair) → Spells (i.Map headers) bytes → ⊥) → Answered (CheckedAs {T = Unit {0}} bytes)
unwrapped bytes some none = record {
  result = Err faults.Shape;
  answers = λ headers w. elim w [ inl empty ↦ some empty.0 | inr s ↦ none headers s ];
  not_memory = λ e. cc;
}

by_map : (bytes : List ℕ) (x : Item) (o : Option (List Pair)) → (bytes ≡ [] → ⊥) → Spells x bytes → map_of x ≡ o → Answered (CheckedAs {T = Unit {0}} bytes)
by_map bytes x None some s e = unwrapped bytes some (λ headers t. (
    let same : x ≡ i.Map headers = one_for_one.one_item x (i.Map headers) bytes s t in
    let both : None ≡ Some headers = sym e ∙ ap map_of same ∙ map_back headers in
    cc))
by_map bytes x (Some headers) some s e = judged bytes headers (inr (subst (λ (y : Item). Spells y bytes) (map_is x headers e) s))

checked : (bytes : List ℕ) → IsBytes bytes → Answered (CheckedAs {T = Unit {0}} bytes)
checked [] are = judged [] [] (inl (refl, refl))
checked (b ∷ bs) are =
    let some : b ∷ bs ≡ [] → ⊥ = λ e. cc in
    elim (exactly_one_whole (b ∷ bs) are) [
      | inl one ↦ by_map (b ∷ bs) one.item (map_of one.item) some one.spelled refl
      | inr fails ↦ unwrapped (b ∷ bs) some (λ headers s. fails.no_item (i.Map headers) s)
    ]

-- ---- the protected bytes of an item that bytes spell are bytes

untagged_bytes : (v : Sign1) → HasRanges (untagged v) → IsBytes v.protected
untagged_bytes v r =
    let level = rw i.outs-Array at r in
    let first = rw i.outs-Bytes at level.0.0 in
    first.0

tagged_bytes : (v : Sign1) → HasRanges (tagged v) → IsBytes v.protected
tagged_bytes v r =
    let level = rw i.outs-Tag at r in
    let inner = rw i.outs-Array at level.0 in
    let first = rw i.outs-Bytes at inner.0.0 in
    first.0

protected_bytes : (x : Item) (v : Sign1) → HasRanges x → form_of x ≡ Some v → IsBytes v.protected
protected_bytes x v r e = elim (form_is x v e) [
  | inl is ↦ untagged_bytes v (subst HasRanges is r)
  | inr is ↦ tagged_bytes v (subst HasRanges is r)
]

-- ---- an item

by_checked : (x : Item) (v : Sign1) (r : Result (Unit {0}) CoseFault) → form_of x ≡ Some v → CheckedAs v.protected r → (r ≡ Err faults.NoMemory → ⊥) → Answered (ReadAs x)
by_checked x v (Ok u) e h known = record { result = Ok v; answers = (e, h); not_memory = λ is. cc }
by_checked x v (Err fault) e h known = record { result = Err fault; answers = not_checked x v fault e h; not_memory = λ is. known (let same : fault ≡ faults.NoMemory = cc in ap (λ (f : CoseFault). Err f) same) }

by_form : (x : Item) (o : Option Sign1) → HasRanges x → form_of x ≡ o → Answered (ReadAs x)
by_form x None r e = record { result = Err faults.Shape; answers = λ v is headers w. (let both : None ≡ Some v = sym e ∙ is in cc); not_memory = λ is. cc }
by_form x (Some v) r e = let c = checked v.protected (protected_bytes x v r e) in by_checked x v c.result e c.answers c.not_memory

pub answered : (x : Item) → HasRanges x → Answered (ReadAs x)
answered x r = by_form x (form_of x) r refl
