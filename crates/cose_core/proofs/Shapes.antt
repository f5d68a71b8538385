-- The members of a COSE_Sign1 where they lie.
use Rattle.std.proofs.Common.{◌≡◌, ℕ, true, List, [], ◌∷◌, length, Option, None, Some, refl, sym, ap, subst, ◌∙◌, arith}
use Rattle.std.specs.Prelude.{◌==◌, option_map, if◌then◌else◌}
use Rattle.std.proofs.lemmas.Bool.{eq-eqb}
use Rattle.cbor_core.specs.declared.item.Item.{Item, out-Item}
use Rattle.cbor_core.specs.declared.item.Item.TheOpen.{Item-F}
use Rattle.cbor_core.specs.declared.item.Item.TheViews.{roll-Item, roll-out-Item}
use Rattle.cbor_core.specs.declared.item.Item.TheVariants as i
use Rattle.cbor_core.specs.declared.item.Pair.{Pair}
use Rattle.cbor_core.specs.Spelling.{spelling, spellings, Spells}
use Rattle.cbor_core.specs.Views.{array_of, tagged_by, tagged_of}
use Rattle.cbor_core.proofs.Public.Views.{array_is}
use Rattle.cbor_span.specs.Parts.{HasSpelling, AreSpelled}
use Rattle.cbor_span.proofs.Public.Parts.{as_spelled, content_spelled, members_spelled}
use Rattle.cose_core.specs.declared.borrowed.Signed.{Signed}
use Rattle.cose_core.specs.declared.labels.TheConstants.{SIGN1_TAG}
use Rattle.cose_core.specs.declared.sign1.Sign1.{Sign1}
use Rattle.cose_core.specs.Borrowed.{FormIs}
use Rattle.cose_core.specs.Reading.{four_by, members_by, content_by, content_of, array_members, form_of}

-- ---- the tag

abbrev tag_parts : Option (ℕ × Item) → Option (ℕ × List ℕ)
tag_parts = option_map {U = ℕ × List ℕ} (λ (t : ℕ × Item). (t.0, spelling t.1))

abbrev tag_part : ℕ → List ℕ → Option (ℕ × List ℕ)
tag_part n m = Some (n, m)

tagged_here : (x : Item) (k n : ℕ) (y : Item) (m bytes : List ℕ) → Spells x bytes → x ≡ i.Tag k y → tag_part n m ≡ tag_part k (spelling y) → n ≡ SIGN1_TAG → Spells (if k == SIGN1_TAG then y else x) m
tagged_here x k n y m bytes s is e tag =
    let same : (n, m) ≡ (k, spelling y) = cc in
    let k-is : k ≡ SIGN1_TAG = ap (λ (z : ℕ × List ℕ). z.0) (sym same) ∙ tag in
    let m-is : m ≡ spelling y = ap (λ (z : ℕ × List ℕ). z.1) same in
    let here : (k == SIGN1_TAG) ≡ true = eq-eqb k SIGN1_TAG k-is in
    let whole : HasSpelling x = (s.proper, s.ranges) in
    rw here (as_spelled y m (content_spelled k y (subst HasSpelling is whole)) m-is)

content_lies_by : (x : Item) (l : Item-F Item Pair) (n : ℕ) (m bytes : List ℕ) → Spells x bytes → x ≡ roll-Item l → Some (n, m) ≡ tag_parts (tagged_by l) → n ≡ SIGN1_TAG → Spells (content_by x l) m
content_lies_by x (Item-F.Tag k y) n m bytes s is e tag = tagged_here x k n y m bytes s (is ∙ i.rolls-Tag k y) e tag
content_lies_by x _ n m bytes s is e tag = absurd cc

pub content_lies : (x : Item) (n : ℕ) (m bytes : List ℕ) → Spells x bytes → Some (n, m) ≡ tag_parts (tagged_of x) → n ≡ SIGN1_TAG → Spells (content_of x) m
content_lies x n m bytes s e tag = content_lies_by x (out-Item x) n m bytes s (sym (roll-out-Item x)) e tag

-- ---- the form

pub counted : {X : Type 0} (f : List X → List ℕ) (o : Option (List X)) (n : ℕ) (m : List ℕ) → Some (n, m) ≡ option_map {U = ℕ × List ℕ} (λ xs. (length xs, f xs)) o
    → (xs : List X) × (o ≡ Some xs) × (length xs ≡ n) × (m ≡ f xs)
counted f None n m e = absurd cc
counted f (Some xs) n m e =
    let same : (n, m) ≡ (length xs, f xs) = cc in
    (xs, refl, ap (λ (z : ℕ × List ℕ). z.0) (sym same), ap (λ (z : ℕ × List ℕ). z.1) same)

by_four : (xs : List Item) (m : List ℕ) (r : Option Signed) → length xs ≡ 4 → AreSpelled xs m → ((p u c s : Item) → AreSpelled (p ∷ u ∷ c ∷ s ∷ []) m → FormIs (four_by p u c s) r) → FormIs (members_by xs) r
by_four (p ∷ u ∷ c ∷ s ∷ []) m r len lie found = found p u c s lie
by_four [] m r len lie found = absurd (omega arith)
by_four (p ∷ []) m r len lie found = absurd (omega arith)
by_four (p ∷ u ∷ []) m r len lie found = absurd (omega arith)
by_four (p ∷ u ∷ c ∷ []) m r len lie found = absurd (omega arith)
by_four (p ∷ u ∷ c ∷ s ∷ t ∷ xs) m r len lie found = absurd (omega arith)

pub form_lies : (x : Item) (bytes : List ℕ) (n : ℕ) (m : List ℕ) (r : Option Signed) → Spells (content_of x) bytes
    → Some (n, m) ≡ option_map {U = ℕ × List ℕ} (λ xs. (length xs, spellings xs)) (array_of (content_of x)) → n ≡ 4
    → ((p u c s : Item) → AreSpelled (p ∷ u ∷ c ∷ s ∷ []) m → FormIs (four_by p u c s) r) → FormIs (form_of x) r
form_lies x bytes n m r s e four found =
    let q = counted spellings (array_of (content_of x)) n m e in
    let is : content_of x ≡ i.Array q.0 = array_is (content_of x) q.0 q.1 in
    let whole : HasSpelling (content_of x) = (s.proper, s.ranges) in
    let each = members_spelled q.0 (subst HasSpelling is whole) in
    let out : array_members (out-Item (i.Array q.0)) ≡ members_by q.0 = rw i.outs-Array refl in
    let form : form_of x ≡ members_by q.0 = ap (λ (y : Item). array_members (out-Item y)) is ∙ out in
    subst (λ (o : Option Sign1). FormIs o r) (sym form) (by_four q.0 m r (q.2 ∙ four) (each, q.3) found)
