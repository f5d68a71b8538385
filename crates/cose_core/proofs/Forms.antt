-- The members of a COSE_Sign1 in an item, and the headers of its protected bytes.
use Rattle.std.proofs.Common.{◌≡◌, ℕ, Bool, true, false, cond, List, [], ◌∷◌, Option, None, Some, refl, sym, ap, subst, ◌∙◌, ◌⊎◌, inl, inr}
use Rattle.std.specs.Prelude.{◌==◌, option_map, option_and_then}
use Rattle.std.proofs.lemmas.Bool.{eqb-true}
use Rattle.cbor_core.specs.declared.item.Item.{Item, out-Item}
use Rattle.cbor_core.specs.declared.item.Pair.{Pair}
use Rattle.cbor_core.specs.declared.item.Item.TheOpen.{Item-F}
use Rattle.cbor_core.specs.declared.item.Item.TheViews.{roll-Item, roll-out-Item}
use Rattle.cbor_core.specs.declared.item.Item.TheVariants as i
use Rattle.cbor_core.specs.Spelling.{spelling, bytes_below, Spells}
use Rattle.cbor_core.specs.Views.{bytes_of, map_of}
use Rattle.cbor_core.proofs.Public.KeyOrder.{nothing_below}
use Rattle.cbor_core.proofs.Public.Whole.{one_for_one}
use Rattle.cose_core.specs.declared.sign1.Sign1.{Sign1}
use Rattle.cose_core.specs.declared.labels.TheConstants.{SIGN1_TAG}
use Rattle.cose_core.specs.Headers.{Wraps}
use Rattle.cose_core.specs.Sign1.{payload_item, untagged, tagged, HasForm}
use Rattle.cose_core.specs.Reading.{payload_of, members_by, content_by, content_of, array_members, form_of}
use Rattle.cbor_core.proofs.Public.Views.{bytes_is, map_is, bytes_back, map_back, same_map}
use Rattle.cose_core.proofs.Views.{payload_is, payload_back}

-- ---- the members

abbrev joined : Option (List ℕ) → Option (List Pair) → Option (Option (List ℕ)) → Option (List ℕ) → Option Sign1
joined op ou oc os = option_and_then (λ s. option_and_then (λ c. option_and_then (λ u. option_map (λ p. record { protected = p; unprotected = u; payload = c; signature = s }) op) ou) oc) os

record Parts (op : Option (List ℕ)) (ou : Option (List Pair)) (oc : Option (Option (List ℕ))) (os : Option (List ℕ)) (v : Sign1) : Type 0 where
  protected : op ≡ Some v.protected
  unprotected : ou ≡ Some v.unprotected
  payload : oc ≡ Some v.payload
  signature : os ≡ Some v.signature

joined_is : (os : Option (List ℕ)) (oc : Option (Option (List ℕ))) (ou : Option (List Pair)) (op : Option (List ℕ)) (v : Sign1) → joined op ou oc os ≡ Some v → Parts op ou oc os v
joined_is (Some s) (Some c) (Some u) (Some p) v e =
    let same : record { protected = p; unprotected = u; payload = c; signature = s } ≡ v = cc in
    record {
      protected = ap (λ (w : Sign1). Some w.protected) same;
      unprotected = ap (λ (w : Sign1). Some w.unprotected) same;
      payload = ap (λ (w : Sign1). Some w.payload) same;
      signature = ap (λ (w : Sign1). Some w.signature) same;
    }
joined_is None _ _ _ v e = absurd cc
joined_is (Some s) None _ _ v e = absurd cc
joined_is (Some s) (Some c) None _ v e = absurd cc
joined_is (Some s) (Some c) (Some u) None v e = absurd cc

abbrev members_of : Sign1 → List Item
members_of v = i.Bytes v.protected ∷ i.Map v.unprotected ∷ payload_item v.payload ∷ i.Bytes v.signature ∷ []

members_are : (xs : List Item) (v : Sign1) → members_by xs ≡ Some v → xs ≡ members_of v
members_are (p ∷ u ∷ c ∷ s ∷ []) v e =
    let parts = joined_is (bytes_of s) (payload_of c) (map_of u) (bytes_of p) v e in
    let a : p ≡ i.Bytes v.protected = bytes_is p v.protected parts.protected in
    let b : u ≡ i.Map v.unprotected = map_is u v.unprotected parts.unprotected in
    let d : c ≡ payload_item v.payload = payload_is c v.payload parts.payload in
    let f : s ≡ i.Bytes v.signature = bytes_is s v.signature parts.signature in
    rw (a, b, d, f) refl
members_are _ v e = absurd cc

array_rolled : (l : Item-F Item Pair) (v : Sign1) → array_members l ≡ Some v → roll-Item l ≡ untagged v
array_rolled (Item-F.Array xs) v e = i.rolls-Array xs ∙ ap (λ (t : List Item). i.Array t) (members_are xs v e)
array_rolled _ v e = absurd cc

array_is : (x : Item) (v : Sign1) → array_members (out-Item x) ≡ Some v → x ≡ untagged v
array_is x v e = sym (roll-out-Item x) ∙ array_rolled (out-Item x) v e

-- ---- the tag

tag_by : (b : Bool) (x y : Item) (n : ℕ) (v : Sign1) → (n == SIGN1_TAG) ≡ b → x ≡ i.Tag n y → array_members (out-Item (cond b y x)) ≡ Some v → (x ≡ untagged v) ⊎ (x ≡ tagged v)
tag_by true x y n v is tag e =
    let eighteen : n ≡ SIGN1_TAG = eqb-true n SIGN1_TAG is in
    let inner : y ≡ untagged v = array_is y v e in
    inr (tag ∙ rw (eighteen, inner) refl)
tag_by false x y n v is tag e = inl (array_is x v e)

content_cases : (x : Item) (l : Item-F Item Pair) (v : Sign1) → x ≡ roll-Item l → array_members (out-Item (content_by x l)) ≡ Some v → (x ≡ untagged v) ⊎ (x ≡ tagged v)
content_cases x (Item-F.Tag n y) v is e = tag_by (n == SIGN1_TAG) x y n v refl (is ∙ i.rolls-Tag n y) e
content_cases x _ v is e = inl (array_is x v e)

pub form_is : (x : Item) (v : Sign1) → form_of x ≡ Some v → (x ≡ untagged v) ⊎ (x ≡ tagged v)
form_is x v e = content_cases x (out-Item x) v (sym (roll-out-Item x)) e

-- ---- back

members_back : (v : Sign1) → members_by (members_of v) ≡ Some v
members_back v = rw (bytes_back v.signature, payload_back v.payload, map_back v.unprotected, bytes_back v.protected) refl

pub form_untagged : (v : Sign1) → form_of (untagged v) ≡ Some v
form_untagged v =
    let here : content_of (untagged v) ≡ untagged v = rw i.outs-Array refl in
    rw here (rw i.outs-Array (members_back v))

pub form_tagged : (v : Sign1) → form_of (tagged v) ≡ Some v
form_tagged v =
    let here : content_of (tagged v) ≡ untagged v = rw i.outs-Tag refl in
    rw here (rw i.outs-Array (members_back v))

-- ---- the headers

-- no item is spelled by no bytes
pub not_empty : (x : Item) → Spells x [] → ⊥
not_empty x s =
    let none : spelling x ≡ [] = sym s.spelled in
    let below : bytes_below [] [] ≡ true = subst (λ (t : List ℕ). bytes_below [] t ≡ true) none (nothing_below x) in
    cc

pub wraps_one : (bytes : List ℕ) (g h : List Pair) → Wraps bytes g → Wraps bytes h → g ≡ h
wraps_one bytes g h (inl a) (inl b) = a.1 ∙ sym b.1
wraps_one bytes g h (inl a) (inr t) = absurd (not_empty (i.Map h) (subst (λ (l : List ℕ). Spells (i.Map h) l) a.0 t))
wraps_one bytes g h (inr s) (inl b) = absurd (not_empty (i.Map g) (subst (λ (l : List ℕ). Spells (i.Map g) l) b.0 s))
wraps_one bytes g h (inr s) (inr t) = same_map g h (one_for_one.one_item (i.Map g) (i.Map h) bytes s t)

-- ---- the form of bytes and the item that they spell

pub form_at : (bytes : List ℕ) (x : Item) (v : Sign1) → Spells x bytes → HasForm v bytes → form_of x ≡ Some v
form_at bytes x v s f = form_by bytes x v s f.spelled where
  form_by : (bytes : List ℕ) (x : Item) (v : Sign1) → Spells x bytes → Spells (untagged v) bytes ⊎ Spells (tagged v) bytes → form_of x ≡ Some v
  form_by bytes x v s (inl t) = ap form_of (one_for_one.one_item x (untagged v) bytes s t) ∙ form_untagged v
  form_by bytes x v s (inr t) = ap form_of (one_for_one.one_item x (tagged v) bytes s t) ∙ form_tagged v

pub spelled_by : (bytes : List ℕ) (x : Item) (v : Sign1) → Spells x bytes → (x ≡ untagged v) ⊎ (x ≡ tagged v) → Spells (untagged v) bytes ⊎ Spells (tagged v) bytes
spelled_by bytes x v s (inl e) = inl (subst (λ (y : Item). Spells y bytes) e s)
spelled_by bytes x v s (inr e) = inr (subst (λ (y : Item). Spells y bytes) e s)

abbrev pub has_form : (bytes : List ℕ) (x : Item) (v : Sign1) (headers : List Pair) → Spells x bytes → form_of x ≡ Some v → Wraps v.protected headers → HasForm v bytes
has_form bytes x v h s e w = record { spelled = spelled_by bytes x v s (form_is x v e); headers = h; wrapped = w }
