-- Where a reading ends does not hang on what was found before.
use Rattle.std.proofs.Common.{◌≡◌, ℕ, zero, suc, ◌+◌, ◌-◌, ◌<◌, ◌≤◌, Bool, true, false, cond, List, [], ◌∷◌, ◌++◌, Some, Ok, Err, Result, refl, sym, ap, ◌∙◌, arith}
use Rattle.cbor_heads.specs.declared.fault.Fault.{Fault}
use Rattle.cbor_heads.specs.declared.fault.Why.TheVariants as why
use Rattle.cbor_heads.specs.Place.{Place, between}
use Rattle.cbor_heads.specs.Reading.{Outcome, Reader, ◌>>=◌}
use Rattle.cbor_heads.specs.HeadReading.{fault}
use Rattle.cbor_core.specs.declared.item.Item.{Item}
use Rattle.cbor_core.specs.declared.item.Item.TheVariants as i
use Rattle.cbor_core.specs.declared.item.Pair.{Pair}
use Rattle.cbor_core.specs.Spelling.{bytes_below}
use Rattle.cbor_core.specs.Reading.{items_at, pairs_at, array_at, map_at, tag_at}
use Rattle.cbor_core.proofs.Public.Steps.{items_more, pair_more, pairs_more}
use Rattle.cbor_span.specs.Ending.{ending}

-- what is made of a value does not move the place
ending_made : {A B : Type 0} (f : A → B) (o : Outcome Fault A) → ending (o >>= λ x. Ok (f x.0, x.1)) ≡ ending o
ending_made f (Ok x) = refl
ending_made f (Err e) = refl

pub ending_array : (inner : Reader Fault Item) (at n : ℕ) (q : Place) → ending (array_at (Some inner) at n q) ≡ ending (items_at inner n [] q)
ending_array inner at n q = ending_made i.Array (items_at inner n [] q)

pub ending_map : (inner : Reader Fault Item) (at n : ℕ) (q : Place) → ending (map_at (Some inner) at n q) ≡ ending (pairs_at inner n [] [] q)
ending_map inner at n q = ending_made i.Map (pairs_at inner n [] [] q)

pub ending_tag : (inner : Reader Fault Item) (at n : ℕ) (q : Place) → ending (tag_at (Some inner) at n q) ≡ ending (inner q)
ending_tag inner at n q = ending_made (i.Tag n) (inner q)

pub ruleset wrapped = (ending_array, ending_map, ending_tag)

-- what stood where a reading ended
pub ended_ok : {A : Type 0} (o : Outcome Fault A) (q : Place) → ending o ≡ Ok q → (x : A) × (o ≡ Ok (x, q))
ended_ok (Ok x) q e = (x.0, let is : x.1 ≡ q = cc in ap (λ (r : Place). Ok (x.0, r)) is)
ended_ok (Err f) q e = absurd cc

pub ended_err : {A : Type 0} (o : Outcome Fault A) (f : Fault) → ending o ≡ Err f → o ≡ Err f
ended_err (Ok x) f e = absurd cc
ended_err (Err g) f e = let is : g ≡ f = cc in ap (λ (h : Fault). Err h) is

-- ---- members

-- a step and then the others, whatever was found
bind_same : {A B C : Type 0} (o : Outcome Fault A) (f : A × Place → Outcome Fault B) (g : A × Place → Outcome Fault C) → ((x : A × Place) → ending (f x) ≡ ending (g x))
    → ending (o >>= f) ≡ ending (o >>= g)
bind_same (Ok x) f g same = same x
bind_same (Err e) f g same = refl

items_same : (inner : Reader Fault Item) (n : ℕ) (a b : List Item) (p : Place) → ending (items_at inner n a p) ≡ ending (items_at inner n b p)
unfolding items_at
items_same inner zero a b p = refl
items_same inner (suc n) a b p = bind_same (inner p) (λ x. items_at inner n (a ++ x.0 ∷ []) x.1) (λ x. items_at inner n (b ++ x.0 ∷ []) x.1) (λ x. items_same inner n (a ++ x.0 ∷ []) (b ++ x.0 ∷ []) x.1)

pub items_go_on : (inner : Reader Fault Item) (n k : ℕ) (p : Place) (total : Result Place Fault) (q : Place) → k < n → ending (inner p) ≡ Ok q
    → ending (items_at inner (n - k) [] p) ≡ total → ending (items_at inner (n - (k + 1)) [] q) ≡ total
items_go_on inner n k p total q lt here so_far =
    let x = ended_ok (inner p) q here in
    items_same inner (n - (k + 1)) [] ([] ++ x.0 ∷ []) q ∙ sym (rw x.1 at (ap ending (items_more inner n k [] p lt))) ∙ so_far

pub items_stop : (inner : Reader Fault Item) (n k : ℕ) (p : Place) (total : Result Place Fault) (f : Fault) → k < n → ending (inner p) ≡ Err f
    → ending (items_at inner (n - k) [] p) ≡ total → total ≡ Err f
items_stop inner n k p total f lt here so_far =
    let e = ended_err (inner p) f here in
    sym so_far ∙ (rw e at (ap ending (items_more inner n k [] p lt)))

pub items_end : (inner : Reader Fault Item) (n k : ℕ) (p : Place) (total : Result Place Fault) → n ≤ k
    → ending (items_at inner (n - k) [] p) ≡ total → total ≡ Ok p
unfolding items_at
items_end inner n k p total le so_far = let e : n - k ≡ 0 = omega arith in sym so_far ∙ rw e refl

-- ---- pairs

test_same : {A : Type 0} (b : Bool) (x y z : Outcome Fault A) → ending x ≡ ending y → ending (cond b x z) ≡ ending (cond b y z)
test_same true x y z e = e
test_same false x y z e = refl

pairs_same : (inner : Reader Fault Item) (n : ℕ) (a b : List Pair) (last : List ℕ) (p : Place) → ending (pairs_at inner n a last p) ≡ ending (pairs_at inner n b last p)
unfolding pairs_at
pairs_same inner zero a b last p = refl
pairs_same inner (suc n) a b last p =
    bind_same (inner p)
    (λ key. cond (bytes_below last (between p key.1)) (inner key.1 >>= λ value. pairs_at inner n (a ++ record { key = key.0; value = value.0 } ∷ []) (between p key.1) value.1) (fault p.at why.KeyOrder))
    (λ key. cond (bytes_below last (between p key.1)) (inner key.1 >>= λ value. pairs_at inner n (b ++ record { key = key.0; value = value.0 } ∷ []) (between p key.1) value.1) (fault p.at why.KeyOrder))
    (λ key. test_same (bytes_below last (between p key.1)) _ _ (fault p.at why.KeyOrder)
    (bind_same (inner key.1)
    (λ value. pairs_at inner n (a ++ record { key = key.0; value = value.0 } ∷ []) (between p key.1) value.1)
    (λ value. pairs_at inner n (b ++ record { key = key.0; value = value.0 } ∷ []) (between p key.1) value.1)
    (λ value. pairs_same inner n (a ++ record { key = key.0; value = value.0 } ∷ []) (b ++ record { key = key.0; value = value.0 } ∷ []) (between p key.1) value.1)))

pub key_stop : (inner : Reader Fault Item) (n k : ℕ) (last : List ℕ) (p : Place) (total : Result Place Fault) (f : Fault) → k < n → ending (inner p) ≡ Err f
    → ending (pairs_at inner (n - k) [] last p) ≡ total → total ≡ Err f
key_stop inner n k last p total f lt here so_far =
    let e = ended_err (inner p) f here in
    sym so_far ∙ (rw e at (ap ending (pairs_more inner n k [] last p lt)))

pub order_stop : (inner : Reader Fault Item) (n k : ℕ) (last : List ℕ) (p : Place) (total : Result Place Fault) (q : Place) → k < n → ending (inner p) ≡ Ok q
    → bytes_below last (between p q) ≡ false
    → ending (pairs_at inner (n - k) [] last p) ≡ total → total ≡ Err (record { at = p.at; why = why.KeyOrder })
order_stop inner n k last p total q lt here below so_far =
    let x = ended_ok (inner p) q here in
    sym so_far ∙ (rw below at (rw x.1 at (ap ending (pairs_more inner n k [] last p lt))))

pub value_stop : (inner : Reader Fault Item) (n k : ℕ) (last : List ℕ) (p : Place) (total : Result Place Fault) (q : Place) (f : Fault) → k < n → ending (inner p) ≡ Ok q
    → bytes_below last (between p q) ≡ true → ending (inner q) ≡ Err f
    → ending (pairs_at inner (n - k) [] last p) ≡ total → total ≡ Err f
value_stop inner n k last p total q f lt here below there so_far =
    let x = ended_ok (inner p) q here in
    let e = ended_err (inner q) f there in
    sym so_far ∙ (rw e at (rw below at (rw x.1 at (ap ending (pairs_more inner n k [] last p lt)))))

pub pair_go_on : (inner : Reader Fault Item) (n k : ℕ) (last : List ℕ) (p : Place) (total : Result Place Fault) (q r : Place) → k < n → ending (inner p) ≡ Ok q
    → bytes_below last (between p q) ≡ true → ending (inner q) ≡ Ok r
    → ending (pairs_at inner (n - k) [] last p) ≡ total → ending (pairs_at inner (n - (k + 1)) [] (between p q) r) ≡ total
pair_go_on inner n k last p total q r lt here below there so_far =
    let x = ended_ok (inner p) q here in
    let y = ended_ok (inner q) r there in
    pairs_same inner (n - (k + 1)) [] ([] ++ record { key = x.0; value = y.0 } ∷ []) (between p q) r
    ∙ sym (rw y.1 at (rw below at (rw x.1 at (ap ending (pairs_more inner n k [] last p lt)))))
    ∙ so_far

pub pairs_end : (inner : Reader Fault Item) (n k : ℕ) (last : List ℕ) (p : Place) (total : Result Place Fault) → n ≤ k
    → ending (pairs_at inner (n - k) [] last p) ≡ total → total ≡ Ok p
unfolding pairs_at
pairs_end inner n k last p total le so_far = let e : n - k ≡ 0 = omega arith in sym so_far ∙ rw e refl
