-- The answers of the reader of a COSE_Sign1 where it lies.
use Rattle.std.proofs.Common.{◌≡◌, ℕ, List, Option, None, Some, Result, Ok, Err, refl, ap, subst, inl, inr}
use Rattle.std.specs.Prelude.{◌↔◌, IfOk, MatchResult}
use Rattle.base_types.specs.Bytes.{IsBytes}
use Rattle.cbor_core.specs.declared.item.Item.{Item}
use Rattle.cbor_core.specs.Spelling.{Spells}
use Rattle.cose_core.specs.declared.borrowed.Signed.{Signed}
use Rattle.cose_core.specs.declared.fault.CoseFault.{CoseFault}
use Rattle.cose_core.specs.declared.fault.CoseFault.TheVariants as faults
use Rattle.cose_core.specs.declared.sign1.Sign1.{Sign1}
use Rattle.cose_core.specs.Borrowed.{IsPartsOf, FormIs, SignedAs}
use Rattle.cose_core.specs.Headers.{HasGoodHeaders}
use Rattle.cose_core.specs.Reading.{form_of, CheckedAs}
use Rattle.cose_core.specs.Sign1.{Sign1Is, RefusedAs}
use Rattle.cose_core.proofs.Forms.{form_at}
use Rattle.cose_core.proofs.Sign1s.{not_checked, is_found, is_bad}
use Rattle.cose_core.proofs.Public.Envelopes.{one_envelope, not_refused, one_refusal}

-- ---- of an item

form_some : (o : Option Sign1) (w : Signed) → FormIs o (Some w) → (v : Sign1) × (o ≡ Some v) × IsPartsOf w v
form_some None w h = absurd h
form_some (Some v) w h = (v, refl, h)

form_none : (o : Option Sign1) (v : Sign1) → FormIs o None → o ≡ Some v → ⊥
form_none None v h e = cc
form_none (Some u) v h e = h

module _ (bytes : List ℕ) (x : Item) (s : Spells x bytes) where
  pub good : (w : Signed) → FormIs (form_of x) (Some w) → HasGoodHeaders w.protected.now → SignedAs bytes (Ok w)
  good w f h =
      let v = form_some (form_of x) w f in
      (v.0, is_found bytes x (Ok v.0) s (v.1, subst HasGoodHeaders v.2.protected h), v.2)

  pub bad : (w : Signed) (e : CoseFault) → FormIs (form_of x) (Some w) → CheckedAs {T = Unit {0}} w.protected.now (Err e) → (e ≡ faults.NoMemory → ⊥) → RefusedAs bytes e
  bad w e f h memory =
      let v = form_some (form_of x) w f in
      elim (is_bad bytes x (Err e) s (not_checked x v.0 e v.1 (subst (λ (t : List ℕ). CheckedAs {T = Unit {0}} t (Err e)) v.2.protected h))) [
        | inl is ↦ absurd (memory is)
        | inr refused ↦ refused
      ]

  pub no_form : FormIs (form_of x) None → RefusedAs bytes faults.Shape
  no_form f = record { item = x; spelled = s; no_form = λ v form. form_none (form_of x) v f (form_at bytes x v s form) }

-- ---- of bytes

pub signed_found : (bytes : List ℕ) (r : Result Signed CoseFault) → SignedAs bytes r → IfOk r (λ w. (v : Sign1) × Sign1Is v bytes × IsPartsOf w v)
signed_found bytes (Ok w) h = h
signed_found bytes (Err e) h = tt

pub signed_only : (bytes : List ℕ) (r : Result Signed CoseFault) → SignedAs bytes r → (v : Sign1) → Sign1Is v bytes → MatchResult r (λ w. IsPartsOf w v) (λ _. ⊥)
signed_only bytes (Ok w) h v is = subst (λ (u : Sign1). IsPartsOf w u) (one_envelope bytes h.0 v h.1 is) h.2
signed_only bytes (Err e) h v is = not_refused bytes v e is h

ok_not_err : (w : Signed) (e : CoseFault) → (let r : Result Signed CoseFault = Ok w in r ≡ Err e) → ⊥
ok_not_err w e is = absurd cc

err_same : (d e : CoseFault) → (let r : Result Signed CoseFault = Err d in r ≡ Err e) → d ≡ e
err_same d e is = cc

pub signed_refused : (bytes : List ℕ) (r : Result Signed CoseFault) → IsBytes bytes → SignedAs bytes r → (e : CoseFault) → (r ≡ Err e) ↔ RefusedAs bytes e
signed_refused bytes (Ok w) are h e = (λ is. absurd (ok_not_err w e is), λ refused. absurd (not_refused bytes h.0 e h.1 refused))
signed_refused bytes (Err d) are h e = (
  λ is. subst (λ (f : CoseFault). RefusedAs bytes f) (err_same d e is) h,
  λ refused. ap (λ (f : CoseFault). Err f) (one_refusal bytes are d e h refused),
)
