-- The answers of the reader of anchors, and of the search for a signer.
use Rattle.std.proofs.Common.{◌≡◌, ◌≤◌, ℕ, List, [], ◌∷◌, ◌++◌, length, Some, Result, Ok, Err, refl, sym, ap, subst, ◌∙◌, ◌⊎◌, inl, inr, arith}
use Rattle.std.specs.Prelude.{IfOk, IfErr}
use Rattle.std.specs.List.{AllByRecursion, AllZip}
use Rattle.cbor_core.specs.declared.item.Item.{Item}
use Rattle.cbor_core.specs.declared.item.Item.TheVariants as i
use Rattle.cbor_core.specs.Views.{array_of}
use Rattle.cbor_core.proofs.Public.Views.{array_back}
use Rattle.trust_anchors.specs.declared.anchors.Anchors.{Anchors}
use Rattle.base_types.specs.declared.limits.TheConstants.{ANCHORS_LIMIT}
use Rattle.trust_anchors.specs.declared.role.Role.{Role}
use Rattle.trust_anchors.specs.declared.role.Role.TheVariants as role
use Rattle.trust_anchors.specs.declared.fault.AnchorFault.{AnchorFault}
use Rattle.trust_anchors.specs.declared.fault.AnchorFault.TheVariants as faults
use Rattle.trust_anchors.specs.Anchors.{IsString, Wraps, IsGood, IsBad, AnchorsIs, IsOver, IsBadAt, RefusedAs, IsFound, IsRefused, KeysReadAs, AreStrings, AreFew, RolesReadAs}
use Rattle.trust_anchors.proofs.Lists.{first_none, first_one, zip_one, zip_each, zip_length}
use Rattle.trust_anchors.proofs.Keys.{one_wrapped, good_not_bad}

-- ---- the two arrays of an item

same_array : (xs ys : List Item) → i.Array xs ≡ i.Array ys → xs ≡ ys
same_array xs ys e = let both : Some xs ≡ Some ys = sym (array_back xs) ∙ ap array_of e ∙ array_back ys in cc

same_parts : (ms bs ns cs : List Item) → i.Array (i.Array ms ∷ i.Array bs ∷ []) ≡ i.Array (i.Array ns ∷ i.Array cs ∷ []) → (ms ≡ ns) × (bs ≡ cs)
same_parts ms bs ns cs e =
    let lists : i.Array ms ∷ i.Array bs ∷ [] ≡ i.Array ns ∷ i.Array cs ∷ [] = same_array (i.Array ms ∷ i.Array bs ∷ []) (i.Array ns ∷ i.Array cs ∷ []) e in
    let one : i.Array ms ≡ i.Array ns = cc lists in
    let two : i.Array bs ≡ i.Array cs = cc lists in
    (same_array ms ns one, same_array bs cs two)

-- ---- one fault of the lists

over_not_few : (r : Role) (ms bs : List Item) → IsOver r ms bs → AreFew ms bs → ⊥
over_not_few role.Manager ms bs over few = let f = few.0 in omega arith
over_not_few role.Author ms bs over few = let f = few.1 in let o = over.1 in omega arith

over_one : (r s : Role) (ms bs : List Item) → IsOver r ms bs → IsOver s ms bs → r ≡ s
over_one role.Manager role.Manager ms bs a b = refl
over_one role.Manager role.Author ms bs a b = let few = b.0 in absurd (omega arith)
over_one role.Author role.Manager ms bs a b = let few = a.0 in absurd (omega arith)
over_one role.Author role.Author ms bs a b = refl

bad_not_good : (r : Role) (at : ℕ) (ms bs : List Item) → IsBadAt r at ms bs → AllByRecursion IsGood ms → AllByRecursion IsGood bs → ⊥
bad_not_good role.Manager at ms bs bad m b = first_none IsGood IsBad good_not_bad ms at m bad
bad_not_good role.Author at ms bs bad m b = first_none IsGood IsBad good_not_bad bs at b bad.1

bad_one : (r s : Role) (j k : ℕ) (ms bs : List Item) → IsBadAt r j ms bs → IsBadAt s k ms bs → faults.BadKey r j ≡ faults.BadKey s k
bad_one role.Manager role.Manager j k ms bs a b = ap (λ (n : ℕ). faults.BadKey role.Manager n) (first_one IsGood IsBad good_not_bad ms j k a b)
bad_one role.Manager role.Author j k ms bs a b = absurd (first_none IsGood IsBad good_not_bad ms j b.0 a)
bad_one role.Author role.Manager j k ms bs a b = absurd (first_none IsGood IsBad good_not_bad ms k a.0 b)
bad_one role.Author role.Author j k ms bs a b = ap (λ (n : ℕ). faults.BadKey role.Author n) (first_one IsGood IsBad good_not_bad bs j k a.1 b.1)

-- ---- the faults of one role's keys are those of both

pub manager_fault : (ms bs : List Item) (e : AnchorFault) → AreStrings ms bs → AreFew ms bs → KeysReadAs role.Manager ms (Err e) → RolesReadAs ms bs (Err e)
manager_fault ms bs faults.Shape s f h = absurd h
manager_fault ms bs (faults.TooMany r) s f h = absurd h
manager_fault ms bs (faults.BadKey r at) s f h = (s, f, subst (λ (q : Role). IsBadAt q at ms bs) (sym h.0) h.1)
manager_fault ms bs faults.NoMemory s f h = tt

pub author_fault : (ms bs : List Item) (keys : List (List ℕ)) (e : AnchorFault) → AreStrings ms bs → AreFew ms bs → AllZip Wraps keys ms → KeysReadAs role.Author bs (Err e) → RolesReadAs ms bs (Err e)
author_fault ms bs keys faults.Shape s f m h = absurd h
author_fault ms bs keys (faults.TooMany r) s f m h = absurd h
author_fault ms bs keys (faults.BadKey r at) s f m h = (s, f, subst (λ (q : Role). IsBadAt q at ms bs) (sym h.0) (zip_each Wraps keys ms m, h.1))
author_fault ms bs keys faults.NoMemory s f m h = tt

-- ---- the answers

abbrev pub two : List Item → List Item → Item
two ms bs = i.Array (i.Array ms ∷ i.Array bs ∷ [])

pub is_found : (x : Item) (ms bs : List Item) (r : Result Anchors AnchorFault) → x ≡ two ms bs → RolesReadAs ms bs r → IfOk r (λ v. AnchorsIs v x)
is_found x ms bs (Ok v) is h = record {
  managers = ms;
  authors = bs;
  small = record { form = record { array = is; manager = h.0.0; author = h.0.1 }; manager = h.1.0; author = h.1.1 };
  manager = h.2;
  author = h.3;
}
is_found x ms bs (Err e) is h = tt

pub is_bad : (x : Item) (ms bs : List Item) (r : Result Anchors AnchorFault) → x ≡ two ms bs → RolesReadAs ms bs r → IfErr r (λ e. (e ≡ faults.NoMemory) ⊎ RefusedAs x e)
is_bad x ms bs (Ok v) is h = tt
is_bad x ms bs (Err faults.Shape) is h = inr (λ ns cs form. (let same = same_parts ns cs ms bs (sym form.array ∙ is) in h (subst (AllByRecursion IsString) same.0 form.manager) (subst (AllByRecursion IsString) same.1 form.author)))
is_bad x ms bs (Err (faults.TooMany r)) is h = inr (record { managers = ms; authors = bs; form = record { array = is; manager = h.0.0; author = h.0.1 }; over = h.1 })
is_bad x ms bs (Err (faults.BadKey r at)) is h = inr (record {
  managers = ms;
  authors = bs;
  small = record { form = record { array = is; manager = h.0.0; author = h.0.1 }; manager = h.1.0; author = h.1.1 };
  bad = h.2;
})
is_bad x ms bs (Err faults.NoMemory) is h = inl refl

-- what an item is or is refused for, of its two arrays
carried : (P : List Item → List Item → Type 0) (x : Item) (ms bs ns cs : List Item) → x ≡ two ms bs → x ≡ two ns cs → P ns cs → P ms bs
carried P x ms bs ns cs is there p =
    let same = same_parts ns cs ms bs (sym there ∙ is) in
    subst (λ (t : List Item). P ms t) same.1 (subst (λ (t : List Item). P t cs) same.0 p)

pub roles_of : (x : Item) (ms bs : List Item) (v : Anchors) → x ≡ two ms bs → AnchorsIs v x → RolesReadAs ms bs (Ok v)
roles_of x ms bs v is h =
    carried (λ ns cs. RolesReadAs ns cs (Ok v)) x ms bs h.managers h.authors is h.small.form.array
    ((h.small.form.manager, h.small.form.author), (h.small.manager, h.small.author), h.manager, h.author)

refusal_of : (x : Item) (ms bs : List Item) (e : AnchorFault) → x ≡ two ms bs → RefusedAs x e → RolesReadAs ms bs (Err e)
refusal_of x ms bs faults.Shape is h = λ m b. h ms bs (record { array = is; manager = m; author = b })
refusal_of x ms bs (faults.TooMany r) is h =
    carried (λ ns cs. RolesReadAs ns cs (Err (faults.TooMany r))) x ms bs h.managers h.authors is h.form.array ((h.form.manager, h.form.author), h.over)
refusal_of x ms bs (faults.BadKey r at) is h =
    carried (λ ns cs. RolesReadAs ns cs (Err (faults.BadKey r at))) x ms bs h.managers h.authors is h.small.form.array
    ((h.small.form.manager, h.small.form.author), (h.small.manager, h.small.author), h.bad)
refusal_of x ms bs faults.NoMemory is h = tt

-- the anchors of two arrays are those that were found
one_anchors : (ms bs : List Item) (r : Result Anchors AnchorFault) (w : Anchors) → RolesReadAs ms bs r → RolesReadAs ms bs (Ok w) → IsFound r w
one_anchors ms bs (Ok v) w h g =
    let manager : v.manager ≡ w.manager = zip_one Wraps one_wrapped v.manager w.manager ms h.2 g.2 in
    let author : v.author ≡ w.author = zip_one Wraps one_wrapped v.author w.author bs h.3 g.3 in
    let with_manager : List (List ℕ) → Anchors = λ m. record { manager = m; author = v.author } in
    let with_author : List (List ℕ) → Anchors = λ a. record { manager = w.manager; author = a } in
    ap with_manager manager ∙ ap with_author author
one_anchors ms bs (Err faults.Shape) w h g = h g.0.0 g.0.1
one_anchors ms bs (Err (faults.TooMany r)) w h g = over_not_few r ms bs h.1 g.1
one_anchors ms bs (Err (faults.BadKey r at)) w h g = bad_not_good r at ms bs h.2 (zip_each Wraps w.manager ms g.2) (zip_each Wraps w.author bs g.3)
one_anchors ms bs (Err faults.NoMemory) w h g = tt

-- and their refusal is the one that was told
one_refusal : (ms bs : List Item) (r : Result Anchors AnchorFault) (e : AnchorFault) → RolesReadAs ms bs r → (e ≡ faults.NoMemory → ⊥) → RolesReadAs ms bs (Err e) → IsRefused r e
one_refusal ms bs r faults.NoMemory h known g = absurd (known refl)
one_refusal ms bs (Ok v) faults.Shape h known g = g h.0.0 h.0.1
one_refusal ms bs (Ok v) (faults.TooMany s) h known g = over_not_few s ms bs g.1 h.1
one_refusal ms bs (Ok v) (faults.BadKey s k) h known g = bad_not_good s k ms bs g.2 (zip_each Wraps v.manager ms h.2) (zip_each Wraps v.author bs h.3)
one_refusal ms bs (Err faults.Shape) faults.Shape h known g = inl refl
one_refusal ms bs (Err faults.Shape) (faults.TooMany s) h known g = absurd (h g.0.0 g.0.1)
one_refusal ms bs (Err faults.Shape) (faults.BadKey s k) h known g = absurd (h g.0.0 g.0.1)
one_refusal ms bs (Err (faults.TooMany r)) faults.Shape h known g = absurd (g h.0.0 h.0.1)
one_refusal ms bs (Err (faults.TooMany r)) (faults.TooMany s) h known g = inl (ap (λ (q : Role). faults.TooMany q) (over_one r s ms bs h.1 g.1))
one_refusal ms bs (Err (faults.TooMany r)) (faults.BadKey s k) h known g = absurd (over_not_few r ms bs h.1 g.1)
one_refusal ms bs (Err (faults.BadKey r j)) faults.Shape h known g = absurd (g h.0.0 h.0.1)
one_refusal ms bs (Err (faults.BadKey r j)) (faults.TooMany s) h known g = absurd (over_not_few s ms bs g.1 h.1)
one_refusal ms bs (Err (faults.BadKey r j)) (faults.BadKey s k) h known g = inl (bad_one r s j k ms bs h.2 g.2)
one_refusal ms bs (Err faults.NoMemory) e h known g = inr refl

pub is_only : (x : Item) (ms bs : List Item) (r : Result Anchors AnchorFault) → x ≡ two ms bs → RolesReadAs ms bs r → (w : Anchors) → AnchorsIs w x → IsFound r w
is_only x ms bs r is h w g = one_anchors ms bs r w h (roles_of x ms bs w is g)

not_memory : (x : Item) (e : AnchorFault) → RefusedAs x e → e ≡ faults.NoMemory → ⊥
not_memory x e h is = let none : RefusedAs x faults.NoMemory = subst (λ (d : AnchorFault). RefusedAs x d) is h in none

pub is_refused : (x : Item) (ms bs : List Item) (r : Result Anchors AnchorFault) → x ≡ two ms bs → RolesReadAs ms bs r → (e : AnchorFault) → RefusedAs x e → IsRefused r e
is_refused x ms bs r is h e g = one_refusal ms bs r e h (not_memory x e g) (refusal_of x ms bs e is g)

-- an item that is no two arrays

abbrev pub NotTwo : Item → Type 0
NotTwo x = (ms bs : List Item) → x ≡ two ms bs → ⊥

pub none_only : (x : Item) → NotTwo x → (w : Anchors) → AnchorsIs w x → ⊥
none_only x none w h = none h.managers h.authors h.small.form.array

pub none_refused : (x : Item) → NotTwo x → (e : AnchorFault) → RefusedAs x e → IsRefused (Err faults.Shape) e
none_refused x none faults.Shape h = inl refl
none_refused x none (faults.TooMany r) h = absurd (none h.managers h.authors h.form.array)
none_refused x none (faults.BadKey r at) h = absurd (none h.managers h.authors h.small.form.array)
none_refused x none faults.NoMemory h = absurd h

pub none_bad : (x : Item) → NotTwo x → RefusedAs x faults.Shape
none_bad x none = λ ms bs form. none ms bs form.array

-- ---- what is written

strings : (keys : List (List ℕ)) (xs : List Item) → AllZip Wraps keys xs → AllByRecursion IsString xs
strings [] [] all = tt
strings [] (x ∷ xs) all = absurd all
strings (k ∷ ks) [] all = tt
strings (k ∷ ks) (x ∷ xs) all = ((all.0.bytes, all.0.string), strings ks xs all.1)

pub written : (v : Anchors) (ms bs before between after : List Item) → before ≡ [] → between ≡ before ++ i.Array ms ∷ [] → after ≡ between ++ i.Array bs ∷ []
    → length v.manager ≤ ANCHORS_LIMIT → length v.author ≤ ANCHORS_LIMIT → AllZip Wraps v.manager ms → AllZip Wraps v.author bs → AnchorsIs v (i.Array after)
written v ms bs before between after e0 e1 e2 few_managers few_authors m b =
    let array : i.Array after ≡ two ms bs = rw (e2, e1, e0) refl in
    let few_ms : length ms ≤ ANCHORS_LIMIT = subst (λ (n : ℕ). n ≤ ANCHORS_LIMIT) (sym (zip_length Wraps v.manager ms m)) few_managers in
    let few_bs : length bs ≤ ANCHORS_LIMIT = subst (λ (n : ℕ). n ≤ ANCHORS_LIMIT) (sym (zip_length Wraps v.author bs b)) few_authors in
    is_found (i.Array after) ms bs (Ok v) array ((strings v.manager ms m, strings v.author bs b), (few_ms, few_bs), m, b)
