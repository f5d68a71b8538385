-- Bytes are one COSE_Sign1, or have one refusal, and never both.
use Rattle.std.proofs.Common.{◌≡◌, ◌⊎◌, ℕ, suc, List, Result, Ok, Err, Option, Some, None, sym, ap, subst, ◌∙◌, inl, inr}
use Rattle.std.specs.Prelude.{IfSome}
use Rattle.base_types.specs.Bytes.{IsBytes}
use Rattle.cbor_core.specs.declared.item.Item.{Item}
use Rattle.cbor_heads.specs.declared.fault.Fault.{Fault}
use Rattle.cbor_core.specs.declared.item.Item.TheVariants as i
use Rattle.cbor_core.specs.Spelling.{Spells, HasRangesWithin}
use Rattle.cbor_core.specs.Law.{IsFaultyWhole, OneFaultWhole}
use Rattle.cose_core.specs.declared.sign1.Sign1.{Sign1}
use Rattle.cose_core.specs.declared.fault.CoseFault.{CoseFault}
use Rattle.cose_core.specs.declared.fault.CoseFault.TheVariants as faults
use Rattle.cose_core.specs.Sign1.{payload_item, untagged, tagged, Sign1Is, RefusedAs}
use Rattle.cose_core.specs.Reading.{ReadAs}
use Rattle.cose_core.specs.Law.{ExactlyOne, OneEnvelope}
use Rattle.cose_core.proofs.Forms.{form_at}
use Rattle.cose_core.proofs.Sign1s.{is_found, is_bad, is_only, is_refused}
use Rattle.cbor_core.proofs.Public.ExactlyOne.{exactly_one_whole}
use Rattle.cbor_core.proofs.Public.Whole.{no_fault}
use Rattle.cbor_core.proofs.Public.Ranges.{bytes_within}
use Rattle.cose_core.proofs.There.{answered}

-- the item that the bytes spell
spelled_item : (bytes : List ℕ) (v : Sign1) → Spells (untagged v) bytes ⊎ Spells (tagged v) bytes → (x : Item) × Spells x bytes
spelled_item bytes v (inl s) = (untagged v, s)
spelled_item bytes v (inr s) = (tagged v, s)

read_as : (bytes : List ℕ) (x : Item) (v : Sign1) → Spells x bytes → Sign1Is v bytes → ReadAs x (Ok v)
read_as bytes x v s is = (form_at bytes x v s is.form, record { headers = is.form.headers; wrapped = is.form.wrapped; algorithm = is.algorithm; uncritical = is.uncritical })

-- bytes are one value at most
pub one_envelope : (bytes : List ℕ) (v w : Sign1) → Sign1Is v bytes → Sign1Is w bytes → v ≡ w
one_envelope bytes v w is other =
    let x = spelled_item bytes v is.form.spelled in
    is_only bytes x.0 (Ok v) x.1 (read_as bytes x.0 v x.1 is) w other

-- a value's bytes have no refusal
pub not_refused : (bytes : List ℕ) (v : Sign1) (e : CoseFault) → Sign1Is v bytes → RefusedAs bytes e → ⊥
not_refused bytes v e is refused =
    let x = spelled_item bytes v is.form.spelled in
    is_refused bytes x.0 (Ok v) x.1 (λ f. no_fault bytes x.0 f x.1) (read_as bytes x.0 v x.1 is) e refused

-- ---- exactly one

module _ (bytes : List ℕ) where
  value : (v : Sign1) → Sign1Is v bytes → ExactlyOne (λ (w : Sign1). Sign1Is w bytes) (λ (e : CoseFault). RefusedAs bytes e)
  value v is = inl (record { value = v; is = is; alone = λ w other. one_envelope bytes w v other is; no_refusal = λ e refused. not_refused bytes v e is refused })

  one_told : (d e : CoseFault) → (d ≡ faults.NoMemory → ⊥) → (e ≡ d) ⊎ (e ≡ faults.NoMemory) → RefusedAs bytes e → e ≡ d
  one_told d e known (inl same) refused = same
  one_told d e known (inr memory) refused = absurd (let none : RefusedAs bytes faults.NoMemory = subst (RefusedAs bytes) memory refused in none)

  refusal : (d : CoseFault) → RefusedAs bytes d → ((e : CoseFault) → RefusedAs bytes e → e ≡ d) → ExactlyOne (λ (w : Sign1). Sign1Is w bytes) (λ (e : CoseFault). RefusedAs bytes e)
  refusal d refused alone = inr (record { fault = d; refused = refused; alone = alone; no_value = λ v is. not_refused bytes v d is refused })

  by_item : (x : Item) (r : Result Sign1 CoseFault) → Spells x bytes → ((f : Fault) → IsFaultyWhole bytes f → ⊥) → ReadAs x r → (r ≡ Err faults.NoMemory → ⊥)
      → ExactlyOne (λ (w : Sign1). Sign1Is w bytes) (λ (e : CoseFault). RefusedAs bytes e)
  by_item x (Ok v) s free h known = value v (is_found bytes x (Ok v) s h)
  by_item x (Err d) s free h known = elim (is_bad bytes x (Err d) s h) [
    | inl memory ↦ absurd (known (ap (λ (f : CoseFault). Err f) memory))
    | inr refused ↦ refusal d refused (λ e bad. elim (is_refused bytes x (Err d) s free h e bad) [
      | inl same ↦ sym same
      | inr memory ↦ absurd (known (ap (λ (f : CoseFault). Err f) memory))
    ])
  ]

  by_fault : OneFaultWhole bytes → ExactlyOne (λ (w : Sign1). Sign1Is w bytes) (λ (e : CoseFault). RefusedAs bytes e)
  by_fault fails = refusal (faults.NotCose fails.first) fails.faulty (λ e bad. is_not_cose e bad) where
    is_not_cose : (e : CoseFault) → RefusedAs bytes e → e ≡ faults.NotCose fails.first
    is_not_cose (faults.NotCose f) bad = ap (λ (g : Fault). faults.NotCose g) (fails.alone f bad)
    is_not_cose faults.Shape bad = absurd (fails.no_item bad.item bad.spelled)
    is_not_cose faults.WrongAlg bad = absurd (let x = spelled_item bytes bad.value bad.form.spelled in fails.no_item x.0 x.1)
    is_not_cose faults.Critical bad = absurd (let x = spelled_item bytes bad.value bad.form.spelled in fails.no_item x.0 x.1)
    is_not_cose faults.NoMemory bad = absurd bad

-- bytes are a value, or have a refusal
pub envelope_or_refused : OneEnvelope
envelope_or_refused bytes are = elim (exactly_one_whole bytes are) [
  | inl one ↦ (let a = answered one.item one.spelled.ranges in by_item bytes one.item a.result one.spelled one.no_fault a.answers a.not_memory)
  | inr fails ↦ by_fault bytes fails
]

-- bytes have one refusal at most
pub one_refusal : (bytes : List ℕ) → IsBytes bytes → (d e : CoseFault) → RefusedAs bytes d → RefusedAs bytes e → d ≡ e
one_refusal bytes are d e h refused = elim (envelope_or_refused bytes are) [
  | inl one ↦ absurd (one.no_refusal d h)
  | inr fails ↦ fails.alone d h ∙ sym (fails.alone e refused)
]

-- ---- the payload

in_payload : (d : ℕ) (o : Option (List ℕ)) → HasRangesWithin d (payload_item o) → IfSome o IsBytes
in_payload d None r = tt
in_payload d (Some bytes) r = bytes_within d bytes r

in_parts : (d : ℕ) (v : Sign1) → HasRangesWithin (suc d) (untagged v) → IfSome v.payload IsBytes
in_parts d v r = let level = rw i.outs-Array at r in in_payload d v.payload level.0.1.1.0

-- a payload of bytes is bytes
pub payload_is_bytes : (bytes : List ℕ) (v : Sign1) → Sign1Is v bytes → IfSome v.payload IsBytes
payload_is_bytes bytes v is = elim is.form.spelled [
  | inl plain ↦ in_parts 15 v plain.ranges
  | inr with_tag ↦ (let level = rw i.outs-Tag at with_tag.ranges in in_parts 14 v level.0)
]
