-- What is read is spelled so, and what is spelled so is read.
use Rattle.cbor_heads.specs.declared.fault.Fault.{Fault}
use Rattle.std.proofs.Common.{◌≡◌, ℕ, zero, suc, ◌+◌, ◌-◌, ◌^◌, ◌<◌, ◌≤◌, Bool, true, false, cond, List, [], ◌∷◌, ◌++◌, length, take, Some, None, Ok, refl, sym, ap, subst, ◌∙◌, append_assoc, arith, inl, inr}
use Rattle.std.specs.Prelude.{nat_lt, ◌==◌}
use Rattle.std.specs.List.{AllByRecursion}
use Rattle.std.specs.Str.{is_utf8}
use Rattle.std.proofs.lemmas.Bool.{cases_Bool, ltb-false, eqb-true, eq-eqb}
use Rattle.std.proofs.lemmas.Str.{IsUtf8-from_is_utf8}
use Rattle.std.proofs.lemmas.List.{append-nil, take_at, take-append-drop, length-append, length-take}
use Rattle.std.proofs.lemmas.List.Concat.{flat_map-cons}
use Rattle.cbor_core.specs.declared.item.Item.{Item, out-Item}
use Rattle.cbor_core.specs.declared.item.Item.TheVariants as i
use Rattle.cbor_core.specs.declared.item.Pair.{Pair}
use Rattle.cbor_heads.specs.declared.fault.Why.TheVariants as why
use Rattle.cbor_heads.specs.declared.head.Kind.{Kind}
use Rattle.cbor_heads.specs.declared.head.Kind.TheVariants as k
use Rattle.cbor_heads.specs.Place.{Place, skip, between}
use Rattle.cbor_heads.specs.Head.{head}
use Rattle.cbor_core.specs.Spelling.{spelling, spellings, pair_spelling, pair_spellings, bytes_below, KeysAscend, IsSpellable}
use Rattle.base_types.specs.Bytes.{IsBytes}
use Rattle.cbor_heads.specs.Reading.{Reader, ◌>>=◌, nested}
use Rattle.cbor_heads.specs.HeadReading.{fault, head_at}
use Rattle.cbor_core.specs.Reading.{part, text_by, bytes_at, text_at, items_at, pairs_at, simple, content, item_at}
use Rattle.cbor_core.proofs.Public.Spell.{spelling_Unsigned, spelling_Negative, spelling_Bytes, spelling_Text, spelling_Array, spelling_Map, spelling_Tag, spelling_Truth, spelling_Null, pair_spelling_out}
use Rattle.base_types.proofs.Public.Bytes.{IsBytes-drop, IsBytes-take}
use Rattle.cbor_heads.proofs.Public.Outcomes.{passed, chosen, ok_is, not_ok, done, bind_ok}
use Rattle.cbor_heads.proofs.Public.Heads.{Took, head_short, false_true}
use Rattle.cbor_core.proofs.Public.Levels.{IsWholeBy, to_spellable}
use Rattle.cbor_heads.proofs.Public.Kinds.{Took-none, major_of, Took-then, kind_takes}

-- ---- depth

-- what a reader reads is spelled so
abbrev pub TakesBy : Reader Fault Item → (Item → Type 0) → Type 0
TakesBy inner P = (p : Place) (x : Item × Place) → IsBytes p.rest → inner p ≡ Ok x → Took p (spelling x.0) x.1 × P x.0

-- what a reader found behind those found before
pub record Found (P : Item → Type 0) (n : ℕ) (found : List Item) (p : Place) (x : List Item × Place) : Type 0 where
  pub items : List Item
  pub all : x.0 ≡ found ++ items
  pub count : length items ≡ n
  pub each : AllByRecursion P items
  pub took : Took p (spellings items) x.1

pub items_take : (inner : Reader Fault Item) (P : Item → Type 0) → TakesBy inner P → (n : ℕ) (found : List Item) (p : Place) (x : List Item × Place) → IsBytes p.rest
    → items_at inner n found p ≡ Ok x → Found P n found p x
unfolding items_at
items_take inner P law zero found p x fits e =
    subst (λ (y : List Item × Place). Found P 0 found p y) (ok_is (found, p) x e) (record { items = []; all = sym (append-nil found); count = refl; each = tt; took = Took-none p fits })
items_take inner P law (suc n) found p x fits e =
    let a = bind_ok (inner p) (λ y. items_at inner n (found ++ y.0 ∷ []) y.1) x e in
    let one = law p a.0 fits a.1 in
    let more = items_take inner P law n (found ++ a.0.0 ∷ []) a.0.1 x one.0.fits a.2 in
    record {
      items = a.0.0 ∷ more.items;
      all = more.all ∙ append_assoc found (a.0.0 ∷ []) more.items;
      count = ap suc more.count;
      each = (one.1, more.each);
      took = rw flat_map-cons (Took-then p (spelling a.0.0) a.0.1 (spellings more.items) x.1 one.0 more.took);
    }

-- ---- bytes

pub part_takes : (at n : ℕ) (q : Place) (x : List ℕ × Place) → IsBytes q.rest → part at n q ≡ Ok x → Took q x.0 x.1 × (length x.0 ≡ n) × IsBytes x.0
unfolding part
part_takes at n q x fits e =
    let g = passed (nat_lt (length q.rest) n) (record { at = at; why = why.CutBody }) (Ok (take n q.rest, skip n q)) x e in
    let room : n ≤ length q.rest = ltb-false _ _ g.0 in
    let len : length (take n q.rest) ≡ n = omega (arith, length-take n q.rest) in
    subst (λ (y : List ℕ × Place). Took q y.0 y.1 × (length y.0 ≡ n) × IsBytes y.0) (ok_is (take n q.rest, skip n q) x g.1)
    (record { rest = sym (take-append-drop n q.rest); at = omega (arith, len); fits = IsBytes-drop n q.rest fits }, len, IsBytes-take n q.rest fits)

-- a head and what it announces
pub record Whole (room : Bool) (P : Item → Type 0) (p : Place) (x : Item × Place) : Type 0 where
  pub took : Took p (spelling x.0) x.1
  pub proper : IsWholeBy room P (out-Item x.0)

module _ (room : Bool) (P : Item → Type 0) where
  -- an item of a head alone
  pub head_only : (major n : ℕ) (p q : Place) (y : Item) (x : Item × Place) → Took p (head major n) q → spelling y ≡ head major n → IsWholeBy room P (out-Item y)
      → done {E = Fault} (y, q) ≡ Ok x → Whole room P p x
  head_only major n p q y x h is ok e = subst (λ (z : Item × Place). Whole room P p z) (ok_is (y, q) x e) (record { took = rw is h; proper = ok })

  pub bytes_take : (at n : ℕ) (p q : Place) (x : Item × Place) → n < 2 ^ 64 → Took p (head 2 n) q → bytes_at at n q ≡ Ok x → Whole room P p x
  bytes_take at n p q x lt h e =
      let a = bind_ok (part at n q) (λ y. Ok (i.Bytes y.0, y.1)) x e in
      let t = part_takes at n q a.0 h.fits a.1 in
      let both = Took-then p (head 2 n) q a.0.0 a.0.1 h t.0 in
      let spelled : spelling (i.Bytes a.0.0) ≡ head 2 n ++ a.0.0 = spelling_Bytes a.0.0 ∙ ap (λ (m : ℕ). head 2 m ++ a.0.0) t.1 in
      subst (λ (y : Item × Place). Whole room P p y) (ok_is (i.Bytes a.0.0, a.0.1) x a.2) (record {
        took = rw spelled both;
        proper = rw i.outs-Bytes (t.2, omega (arith, t.1));
      })

  pub text_take : (at n : ℕ) (p q : Place) (x : Item × Place) → n < 2 ^ 64 → Took p (head 3 n) q → text_at at n q ≡ Ok x → Whole room P p x
  text_take at n p q x lt h e =
      let a = bind_ok (part at n q) (text_by at) x e in
      let t = part_takes at n q a.0 h.fits a.1 in
      let both = Took-then p (head 3 n) q a.0.0 a.0.1 h t.0 in
      let spelled : spelling (i.Text a.0.0) ≡ head 3 n ++ a.0.0 = spelling_Text a.0.0 ∙ ap (λ (m : ℕ). head 3 m ++ a.0.0) t.1 in
      elim (chosen (is_utf8 a.0.0) (Ok (i.Text a.0.0, a.0.1)) (fault at why.BadText) (Ok x) a.2) [
        | inl here ↦ subst (λ (y : Item × Place). Whole room P p y) (ok_is (i.Text a.0.0, a.0.1) x here.1) (record {
          took = rw spelled both;
          proper = rw i.outs-Text (IsUtf8-from_is_utf8 a.0.0 here.0, omega (arith, t.1));
        })
        | inr there ↦ absurd (not_ok (record { at = at; why = why.BadText }) x there.1)
      ]

  pub simple_take : (n : ℕ) (p q : Place) (x : Item × Place) → 20 ≤ n → n ≤ 22 → Took p (head 7 n) q → done {E = Fault} (simple n, q) ≡ Ok x → Whole room P p x
  simple_take n p q x low high h e =
      let lt : n < 24 = omega arith in
      let is : head 7 n ≡ (224 + n) ∷ [] = head_short 7 n lt in
      elim (cases_Bool (n == 20)) [
        | inl here ↦
            let n-is = eqb-true n 20 here in
            head_only 7 n p q (simple n) x h (rw here (spelling_Truth false ∙ sym (is ∙ ap (λ (m : ℕ). (224 + m) ∷ []) n-is))) (rw (here, i.outs-Truth) tt) e
        | inr no20 ↦ elim (cases_Bool (n == 21)) [
          | inl here ↦
              let n-is = eqb-true n 21 here in
              head_only 7 n p q (simple n) x h (rw (no20, here) (spelling_Truth true ∙ sym (is ∙ ap (λ (m : ℕ). (224 + m) ∷ []) n-is))) (rw (no20, here, i.outs-Truth) tt) e
          | inr no21 ↦
              let a : n ≡ 20 → ⊥ = λ s. false_true _ no20 (eq-eqb n 20 s) in
              let b : n ≡ 21 → ⊥ = λ s. false_true _ no21 (eq-eqb n 21 s) in
              let n-is : n ≡ 22 = omega arith in
              head_only 7 n p q (simple n) x h (rw (no20, no21) (spelling_Null ∙ sym (is ∙ ap (λ (m : ℕ). (224 + m) ∷ []) n-is))) (rw (no20, no21, i.outs-Null) tt) e
        ]
      ]

-- ---- maps

pub between_is : (p : Place) (text : List ℕ) (q : Place) → Took p text q → between p q ≡ text
between_is p text q t =
    let n : length p.rest - length q.rest ≡ length text = omega (arith, ap length t.rest, length-append text q.rest) in
    rw (n, t.rest) (take_at text q.rest (length text) refl)

pub record FoundPairs (P : Item → Type 0) (n : ℕ) (found : List Pair) (last : List ℕ) (p : Place) (x : List Pair × Place) : Type 0 where
  pub pairs : List Pair
  pub all : x.0 ≡ found ++ pairs
  pub count : length pairs ≡ n
  pub each : AllByRecursion (λ e. P e.key × P e.value) pairs
  pub ascend : KeysAscend last pairs
  pub took : Took p (pair_spellings pairs) x.1

pub pairs_take : (inner : Reader Fault Item) (P : Item → Type 0) → TakesBy inner P → (n : ℕ) (found : List Pair) (last : List ℕ) (p : Place) (x : List Pair × Place) → IsBytes p.rest
    → pairs_at inner n found last p ≡ Ok x → FoundPairs P n found last p x
unfolding pairs_at
pairs_take inner P law zero found last p x fits e =
    subst (λ (y : List Pair × Place). FoundPairs P 0 found last p y) (ok_is (found, p) x e)
    (record { pairs = []; all = sym (append-nil found); count = refl; each = tt; ascend = tt; took = Took-none p fits })
pairs_take inner P law (suc n) found last p x fits e =
    let a = bind_ok (inner p) (λ key. cond (bytes_below last (between p key.1)) (inner key.1 >>= λ value. pairs_at inner n (found ++ record { key = key.0; value = value.0 } ∷ []) (between p key.1) value.1) (fault p.at why.KeyOrder)) x e in
    let one = law p a.0 fits a.1 in
    let text : between p a.0.1 ≡ spelling a.0.0 = between_is p (spelling a.0.0) a.0.1 one.0 in
    elim (chosen (bytes_below last (between p a.0.1)) (inner a.0.1 >>= λ value. pairs_at inner n (found ++ record { key = a.0.0; value = value.0 } ∷ []) (between p a.0.1) value.1) (fault p.at why.KeyOrder) (Ok x) a.2) [
      | inr there ↦ absurd (not_ok (record { at = p.at; why = why.KeyOrder }) x there.1)
      | inl here ↦
          let b = bind_ok (inner a.0.1) (λ value. pairs_at inner n (found ++ record { key = a.0.0; value = value.0 } ∷ []) (between p a.0.1) value.1) x here.1 in
          let two = law a.0.1 b.0 one.0.fits b.1 in
          let pair : Pair = record { key = a.0.0; value = b.0.0 } in
          let more = pairs_take inner P law n (found ++ pair ∷ []) (between p a.0.1) b.0.1 x two.0.fits b.2 in
          let both = Took-then p (spelling a.0.0) a.0.1 (spelling b.0.0) b.0.1 one.0 two.0 in
          let spelled : pair_spelling pair ≡ spelling a.0.0 ++ spelling b.0.0 = pair_spelling_out pair in
          record {
            pairs = pair ∷ more.pairs;
            all = more.all ∙ append_assoc found (pair ∷ []) more.pairs;
            count = ap suc more.count;
            each = ((one.1, two.1), more.each);
            ascend = (subst (λ (t : List ℕ). bytes_below last t ≡ true) text here.0, subst (λ (t : List ℕ). KeysAscend t more.pairs) text more.ascend);
            took = rw (flat_map-cons, spelled) (Took-then p (spelling a.0.0 ++ spelling b.0.0) b.0.1 (pair_spellings more.pairs) x.1 both more.took);
          }
    ]

-- ---- containers

module _ (inner : Reader Fault Item) (P : Item → Type 0) (law : TakesBy inner P) where
  pub array_take : (at n : ℕ) (p q : Place) (x : Item × Place) → n < 2 ^ 64 → Took p (head 4 n) q → (items_at inner n [] q >>= λ y. Ok (i.Array y.0, y.1)) ≡ Ok x → Whole true P p x
  array_take at n p q x lt h e =
      let a = bind_ok (items_at inner n [] q) (λ y. Ok (i.Array y.0, y.1)) x e in
      let f = items_take inner P law n [] q a.0 h.fits a.1 in
      let spelled : spelling (i.Array f.items) ≡ head 4 n ++ spellings f.items = spelling_Array f.items ∙ ap (λ (m : ℕ). head 4 m ++ spellings f.items) f.count in
      let whole : Whole true P p (i.Array f.items, a.0.1) = record {
        took = rw spelled (Took-then p (head 4 n) q (spellings f.items) a.0.1 h f.took);
        proper = rw i.outs-Array (refl, f.each, omega (arith, f.count));
      } in
      subst (λ (y : Item × Place). Whole true P p y) (ok_is (i.Array a.0.0, a.0.1) x a.2) (subst (λ (xs : List Item). Whole true P p (i.Array xs, a.0.1)) (sym f.all) whole)

  pub map_take : (at n : ℕ) (p q : Place) (x : Item × Place) → n < 2 ^ 64 → Took p (head 5 n) q → (pairs_at inner n [] [] q >>= λ y. Ok (i.Map y.0, y.1)) ≡ Ok x → Whole true P p x
  map_take at n p q x lt h e =
      let a = bind_ok (pairs_at inner n [] [] q) (λ y. Ok (i.Map y.0, y.1)) x e in
      let f = pairs_take inner P law n [] [] q a.0 h.fits a.1 in
      let spelled : spelling (i.Map f.pairs) ≡ head 5 n ++ pair_spellings f.pairs = spelling_Map f.pairs ∙ ap (λ (m : ℕ). head 5 m ++ pair_spellings f.pairs) f.count in
      let whole : Whole true P p (i.Map f.pairs, a.0.1) = record {
        took = rw spelled (Took-then p (head 5 n) q (pair_spellings f.pairs) a.0.1 h f.took);
        proper = rw i.outs-Map (refl, f.each, omega (arith, f.count), f.ascend);
      } in
      subst (λ (y : Item × Place). Whole true P p y) (ok_is (i.Map a.0.0, a.0.1) x a.2) (subst (λ (xs : List Pair). Whole true P p (i.Map xs, a.0.1)) (sym f.all) whole)

  pub tag_take : (at n : ℕ) (p q : Place) (x : Item × Place) → n < 2 ^ 64 → Took p (head 6 n) q → (inner q >>= λ y. Ok (i.Tag n y.0, y.1)) ≡ Ok x → Whole true P p x
  tag_take at n p q x lt h e =
      let a = bind_ok (inner q) (λ y. Ok (i.Tag n y.0, y.1)) x e in
      let one = law q a.0 h.fits a.1 in
      subst (λ (y : Item × Place). Whole true P p y) (ok_is (i.Tag n a.0.0, a.0.1) x a.2) (record {
        took = rw (spelling_Tag n a.0.0) (Took-then p (head 6 n) q (spelling a.0.0) a.0.1 h one.0);
        proper = rw i.outs-Tag (refl, one.1, lt);
      })

  pub content_take_inside : (at : ℕ) (kind : Kind) (n : ℕ) (p q : Place) (x : Item × Place) → n < 2 ^ 64 → (major_of kind ≡ 7 → (20 ≤ n) × (n ≤ 22)) → Took p (head (major_of kind) n) q
      → content (Some inner) at kind n q ≡ Ok x → Whole true P p x
  content_take_inside at k.Unsigned n p q x lt s h e = head_only true P 0 n p q (i.Unsigned n) x h (spelling_Unsigned n) (rw i.outs-Unsigned lt) e
  content_take_inside at k.Negative n p q x lt s h e = head_only true P 1 n p q (i.Negative n) x h (spelling_Negative n) (rw i.outs-Negative lt) e
  content_take_inside at k.Bytes n p q x lt s h e = bytes_take true P at n p q x lt h e
  content_take_inside at k.Text n p q x lt s h e = text_take true P at n p q x lt h e
  content_take_inside at k.Array n p q x lt s h e = array_take at n p q x lt h e
  content_take_inside at k.Map n p q x lt s h e = map_take at n p q x lt h e
  content_take_inside at k.Tag n p q x lt s h e = tag_take at n p q x lt h e
  content_take_inside at k.Simple n p q x lt s h e = simple_take true P n p q x (s refl).0 (s refl).1 h e

pub content_take_leaf : (at : ℕ) (kind : Kind) (n : ℕ) (p q : Place) (x : Item × Place) → n < 2 ^ 64 → (major_of kind ≡ 7 → (20 ≤ n) × (n ≤ 22)) → Took p (head (major_of kind) n) q
    → content None at kind n q ≡ Ok x → Whole false (λ _. ⊥) p x
content_take_leaf at k.Unsigned n p q x lt s h e = head_only false (λ _. ⊥) 0 n p q (i.Unsigned n) x h (spelling_Unsigned n) (rw i.outs-Unsigned lt) e
content_take_leaf at k.Negative n p q x lt s h e = head_only false (λ _. ⊥) 1 n p q (i.Negative n) x h (spelling_Negative n) (rw i.outs-Negative lt) e
content_take_leaf at k.Bytes n p q x lt s h e = bytes_take false (λ _. ⊥) at n p q x lt h e
content_take_leaf at k.Text n p q x lt s h e = text_take false (λ _. ⊥) at n p q x lt h e
content_take_leaf at k.Array n p q x lt s h e = absurd (not_ok (record { at = at; why = why.TooDeep }) x e)
content_take_leaf at k.Map n p q x lt s h e = absurd (not_ok (record { at = at; why = why.TooDeep }) x e)
content_take_leaf at k.Tag n p q x lt s h e = absurd (not_ok (record { at = at; why = why.TooDeep }) x e)
content_take_leaf at k.Simple n p q x lt s h e = simple_take false (λ _. ⊥) n p q x (s refl).0 (s refl).1 h e

-- what is read is spelled so
pub item_takes : (d : ℕ) → TakesBy (item_at d) (IsSpellable d)
unfolding nested
item_takes zero p x fits e =
    let a = bind_ok (head_at p) (λ h. content None p.at h.0.kind h.0.argument h.1) x e in
    let h = kind_takes p a.0 fits a.1 in
    let w = content_take_leaf p.at a.0.0.kind a.0.0.argument p a.0.1 x h.below h.simple h.took a.2 in
    (w.took, to_spellable zero x.0 w.proper)
item_takes (suc d) p x fits e =
    let a = bind_ok (head_at p) (λ h. content (Some (item_at d)) p.at h.0.kind h.0.argument h.1) x e in
    let h = kind_takes p a.0 fits a.1 in
    let w = content_take_inside (item_at d) (IsSpellable d) (item_takes d) p.at a.0.0.kind a.0.0.argument p a.0.1 x h.below h.simple h.took a.2 in
    (w.took, to_spellable (suc d) x.0 w.proper)
