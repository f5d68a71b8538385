-- The answers of the reader of COSE_Sign1, and what is written.
use Rattle.std.proofs.Common.{◌≡◌, ℕ, List, [], ◌∷◌, ◌++◌, Some, Result, Ok, Err, refl, sym, ap, subst, ◌∙◌, ◌⊎◌, inl, inr}
use Rattle.std.specs.Prelude.{IfOk, IfErr}
use Rattle.cbor_core.specs.declared.item.Item.{Item}
use Rattle.cbor_core.specs.declared.item.Pair.{Pair}
use Rattle.cbor_heads.specs.declared.fault.Fault.{Fault}
use Rattle.cbor_heads.specs.Head.{head}
use Rattle.cbor_core.specs.Spelling.{spelling, Spells}
use Rattle.cbor_core.specs.Law.{IsFaultyWhole}
use Rattle.cbor_core.proofs.Public.Spell.{spelling_Tag}
use Rattle.cose_core.specs.declared.sign1.Sign1.{Sign1}
use Rattle.cose_core.specs.declared.fault.CoseFault.{CoseFault}
use Rattle.cose_core.specs.declared.fault.CoseFault.TheVariants as faults
use Rattle.cose_core.specs.declared.labels.TheConstants.{SIGN1_TAG}
use Rattle.cose_core.specs.Headers.{Wraps, IsHssLms, IsUncritical, HasGoodHeaders}
use Rattle.cose_core.specs.Sign1.{untagged, tagged, HasForm, Sign1Is, RefusedAs, IsFound, IsRefused, IsTaggedForm}
use Rattle.cose_core.specs.Reading.{form_of, CheckedAs, ReadAs}
use Rattle.cose_core.proofs.Forms.{wraps_one, form_at, has_form}

-- a fault of the protected bytes is one of the item
pub not_checked : (x : Item) (v : Sign1) (e : CoseFault) → form_of x ≡ Some v → CheckedAs {T = Unit {0}} v.protected (Err e) → ReadAs x (Err e)
not_checked x v (faults.NotCose f) is h = h
not_checked x v faults.Shape is h = λ w here headers wrapped. (let same : v ≡ w = cc in h headers (subst (λ (u : Sign1). Wraps u.protected headers) (sym same) wrapped))
not_checked x v faults.WrongAlg is h = (v, is, h)
not_checked x v faults.Critical is h = (v, is, h)
not_checked x v faults.NoMemory is h = tt

-- protected bytes with a fault have no headers that are taken
pub not_good : (bytes : List ℕ) (e : CoseFault) → CheckedAs {T = Unit {0}} bytes (Err e) → (e ≡ faults.NoMemory → ⊥) → HasGoodHeaders bytes → ⊥
not_good bytes (faults.NotCose f) h other good = h
not_good bytes faults.Shape h other good = h good.headers good.wrapped
not_good bytes faults.WrongAlg h other good = h.wrong (subst IsHssLms (wraps_one bytes good.headers h.headers good.wrapped h.wrapped) good.algorithm)
not_good bytes faults.Critical h other good = h.critical (subst IsUncritical (wraps_one bytes good.headers h.headers good.wrapped h.wrapped) good.uncritical)
not_good bytes faults.NoMemory h other good = other refl

pub is_found : (bytes : List ℕ) (x : Item) (r : Result Sign1 CoseFault) → Spells x bytes → ReadAs x r → IfOk r (λ v. Sign1Is v bytes)
is_found bytes x (Ok v) s h = record { form = has_form bytes x v h.1.headers s h.0 h.1.wrapped; algorithm = h.1.algorithm; uncritical = h.1.uncritical }
is_found bytes x (Err e) s h = tt

pub is_bad : (bytes : List ℕ) (x : Item) (r : Result Sign1 CoseFault) → Spells x bytes → ReadAs x r → IfErr r (λ e. (e ≡ faults.NoMemory) ⊎ RefusedAs bytes e)
is_bad bytes x (Ok v) s h = tt
is_bad bytes x (Err (faults.NotCose f)) s h = absurd h
is_bad bytes x (Err faults.Shape) s h = inr (record { item = x; spelled = s; no_form = λ v f. h v (form_at bytes x v s f) f.headers f.wrapped })
is_bad bytes x (Err faults.WrongAlg) s h = inr (record { value = h.0; form = has_form bytes x h.0 h.2.headers s h.1 h.2.wrapped; wrong = h.2.wrong })
is_bad bytes x (Err faults.Critical) s h = inr (record { value = h.0; form = has_form bytes x h.0 h.2.headers s h.1 h.2.wrapped; algorithm = h.2.algorithm; critical = h.2.critical })
is_bad bytes x (Err faults.NoMemory) s h = inl refl

-- the headers of two forms of one item are the same
same_headers : (bytes : List ℕ) (x : Item) (v w : Sign1) (g : List Pair) (f : HasForm w bytes) → Spells x bytes → form_of x ≡ Some v → Wraps v.protected g → f.headers ≡ g
same_headers bytes x v w g f s is wrapped =
    let there : form_of x ≡ Some w = form_at bytes x w s f in
    let same : w ≡ v = cc in
    wraps_one v.protected f.headers g (subst (λ (u : Sign1). Wraps u.protected f.headers) same f.wrapped) wrapped

pub is_only : (bytes : List ℕ) (x : Item) (r : Result Sign1 CoseFault) → Spells x bytes → ReadAs x r → (w : Sign1) → Sign1Is w bytes → IsFound r w
is_only bytes x (Ok v) s h w is = let there : form_of x ≡ Some w = form_at bytes x w s is.form in let here : form_of x ≡ Some v = h.0 in cc
is_only bytes x (Err (faults.NotCose f)) s h w is = h
is_only bytes x (Err faults.Shape) s h w is = h w (form_at bytes x w s is.form) is.form.headers is.form.wrapped
is_only bytes x (Err faults.WrongAlg) s h w is = h.2.wrong (subst IsHssLms (same_headers bytes x h.0 w h.2.headers is.form s h.1 h.2.wrapped) is.algorithm)
is_only bytes x (Err faults.Critical) s h w is = h.2.critical (subst IsUncritical (same_headers bytes x h.0 w h.2.headers is.form s h.1 h.2.wrapped) is.uncritical)
is_only bytes x (Err faults.NoMemory) s h w is = tt

pub is_refused : (bytes : List ℕ) (x : Item) (r : Result Sign1 CoseFault) → Spells x bytes → ((f : Fault) → IsFaultyWhole bytes f → ⊥) → ReadAs x r
    → (e : CoseFault) → RefusedAs bytes e → IsRefused r e
is_refused bytes x r s none h (faults.NotCose f) bad = absurd (none f bad)
is_refused bytes x r s none h faults.NoMemory bad = absurd bad
is_refused bytes x (Ok v) s none h faults.Shape bad = bad.no_form v (has_form bytes x v h.1.headers s h.0 h.1.wrapped)
is_refused bytes x (Ok v) s none h faults.WrongAlg bad = bad.wrong (subst IsHssLms (sym (same_headers bytes x v bad.value h.1.headers bad.form s h.0 h.1.wrapped)) h.1.algorithm)
is_refused bytes x (Ok v) s none h faults.Critical bad = bad.critical (subst IsUncritical (sym (same_headers bytes x v bad.value h.1.headers bad.form s h.0 h.1.wrapped)) h.1.uncritical)
is_refused bytes x (Err (faults.NotCose f)) s none h e bad = absurd h
is_refused bytes x (Err faults.Shape) s none h faults.Shape bad = inl refl
is_refused bytes x (Err faults.Shape) s none h faults.WrongAlg bad = absurd (h bad.value (form_at bytes x bad.value s bad.form) bad.form.headers bad.form.wrapped)
is_refused bytes x (Err faults.Shape) s none h faults.Critical bad = absurd (h bad.value (form_at bytes x bad.value s bad.form) bad.form.headers bad.form.wrapped)
is_refused bytes x (Err faults.WrongAlg) s none h faults.Shape bad = absurd (bad.no_form h.0 (has_form bytes x h.0 h.2.headers s h.1 h.2.wrapped))
is_refused bytes x (Err faults.WrongAlg) s none h faults.WrongAlg bad = inl refl
is_refused bytes x (Err faults.WrongAlg) s none h faults.Critical bad = absurd (h.2.wrong (subst IsHssLms (same_headers bytes x h.0 bad.value h.2.headers bad.form s h.1 h.2.wrapped) bad.algorithm))
is_refused bytes x (Err faults.Critical) s none h faults.Shape bad = absurd (bad.no_form h.0 (has_form bytes x h.0 h.2.headers s h.1 h.2.wrapped))
is_refused bytes x (Err faults.Critical) s none h faults.WrongAlg bad = absurd (bad.wrong (subst IsHssLms (sym (same_headers bytes x h.0 bad.value h.2.headers bad.form s h.1 h.2.wrapped)) h.2.algorithm))
is_refused bytes x (Err faults.Critical) s none h faults.Critical bad = inl refl
is_refused bytes x (Err faults.NoMemory) s none h e bad = inr refl

-- ---- what is written

pub is_again : (v : Sign1) (bytes : List ℕ) → Spells (tagged v) bytes → HasGoodHeaders v.protected → Sign1Is v bytes
is_again v bytes s good = record {
  form = record { spelled = inr s; headers = good.headers; wrapped = good.wrapped };
  algorithm = good.algorithm;
  uncritical = good.uncritical;
}

tag_byte : head 6 SIGN1_TAG ≡ 0xd2 ∷ []
unfolding head
tag_byte = refl

pub is_tagged : (v : Sign1) (written : List ℕ) → Spells (tagged v) written → IsTaggedForm v written
is_tagged v written s = record {
  with_tag = λ bytes t. s.spelled ∙ sym t.spelled;
  without = λ bytes t. s.spelled ∙ spelling_Tag SIGN1_TAG (untagged v) ∙ ap (λ (l : List ℕ). l ++ spelling (untagged v)) tag_byte ∙ ap (λ (l : List ℕ). 0xd2 ∷ l) (sym t.spelled);
}
