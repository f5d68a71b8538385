-- What is faulty is refused, with that fault.
use Rattle.std.proofs.Common.{◌≡◌, ℕ, zero, suc, ◌+◌, ◌-◌, ◌⊎◌, Bool, true, false, cond, List, [], ◌∷◌, ◌++◌, length, take, Option, Some, None, Ok, Err, refl, sym, ap, ◌∙◌, append_assoc, arith, inl, inr}
use Rattle.std.specs.Prelude.{nat_lt}
use Rattle.std.specs.List.{AllByRecursion}
use Rattle.std.specs.Str.{is_utf8}
use Rattle.std.proofs.lemmas.List.{append-nil, length-append, take_at}
use Rattle.std.proofs.lemmas.List.Concat.{flat_map-cons}
use Rattle.cbor_core.specs.declared.item.Item.{Item}
use Rattle.cbor_core.specs.declared.item.Pair.{Pair}
use Rattle.cbor_heads.specs.declared.fault.Fault.{Fault}
use Rattle.cbor_heads.specs.declared.fault.Why.{Why}
use Rattle.cbor_heads.specs.declared.fault.Why.TheVariants as why
use Rattle.cbor_heads.specs.declared.head.Kind.{Kind}
use Rattle.cbor_heads.specs.declared.head.Kind.TheVariants as k
use Rattle.cbor_heads.specs.declared.head.Head.{Head}
use Rattle.cbor_heads.specs.Place.{Place, between, behind}
use Rattle.cbor_core.specs.Spelling.{spelling, spellings, pair_spelling, pair_spellings, KeysAscend, IsSpellable}
use Rattle.cbor_heads.specs.Reading.{Outcome, Reader, ◌>>=◌, nested}
use Rattle.cbor_heads.specs.HeadReading.{fault, head_at}
use Rattle.cbor_core.specs.Reading.{part, bytes_at, text_at, items_at, pairs_at, content, item_at}
use Rattle.cbor_core.specs.Faulty.{last_key, ArrayFault, AfterKey, MapFault, PartFault, PartFaultBy, FaultyBy, Faulty}
use Rattle.cbor_core.specs.Table.{body_rule}
use Rattle.cbor_core.proofs.Tables.{rule_by, first_rule-table, part_in}
use Rattle.cbor_core.proofs.Public.Spell.{pair_spelling_out}
use Rattle.cbor_core.proofs.Again.{ReadsAgain, item_again}
use Rattle.cbor_heads.proofs.Public.Places.{behind-append}
use Rattle.cbor_core.proofs.Faults.{head_fault}

abbrev none : {A : Type 0} → Option A
none = None

abbrev just : {A : Type 0} → A → Option A
just x = Some x

some_is : (w v : Why) → just w ≡ just v → w ≡ v
some_is w v e = cc

not_some : (w : Why) → none ≡ just w → ⊥
not_some w e = cc

-- a test that gave a rule
some_by : (b : Bool) (w v : Why) (x : Option Why) → cond b (just w) x ≡ just v → ((b ≡ true) × (w ≡ v)) ⊎ ((b ≡ false) × (x ≡ just v))
some_by true w v x e = inl (refl, some_is w v e)
some_by false w v x e = inr (refl, e)

abbrev RefusesIf : Reader Fault Item → (Place → Fault → Type 0) → Type 0
RefusesIf inner F = (p : Place) (f : Fault) → F p f → inner p ≡ Err f

at_place : (q : Place) (text : List ℕ) → q.rest ≡ text → q ≡ record { at = q.at; rest = text }
at_place q text e = ap (λ (t : List ℕ). record { at = q.at; rest = t }) e

fault_is : (f : Fault) (at : ℕ) (w : Why) → f.at ≡ at → w ≡ f.why → record { at = at; why = w } ≡ f
fault_is f at w e v = rw (← e, v) refl

between_text : (before n : ℕ) (text more : List ℕ) → between (record { at = before; rest = text ++ more }) (record { at = n; rest = more }) ≡ text
between_text before n text more =
    let len : length (text ++ more) - length more ≡ length text = omega (arith, length-append text more) in
    rw len (take_at text more (length text) refl)

module _ (inner : Reader Fault Item) (P : Item → Type 0) (F : Place → Fault → Type 0) (law : (x : Item) → P x → ReadsAgain inner x) (refuses : RefusesIf inner F) where
  items_prefix : (xs found : List Item) (n before : ℕ) (more : List ℕ) → AllByRecursion P xs
      → items_at inner (length xs + n) found (record { at = before; rest = spellings xs ++ more }) ≡ items_at inner n (found ++ xs) (behind before (spellings xs) more)
  unfolding items_at
  items_prefix [] found n before more each =
      let e : before ≡ before + 0 = omega arith in
      let z : 0 + n ≡ n = omega arith in
      rw (z, append-nil found) (ap (λ (b : ℕ). items_at inner n found (record { at = b; rest = more })) e)
  items_prefix (x ∷ xs) found n before more each =
      let count : suc (length xs) + n ≡ suc (length xs + n) = omega arith in
      let bytes : spellings (x ∷ xs) ++ more ≡ spelling x ++ (spellings xs ++ more) = ap (λ (t : List ℕ). t ++ more) (flat_map-cons spelling x xs) ∙ append_assoc (spelling x) (spellings xs) more in
      let one = law x each.0 before (spellings xs ++ more) in
      let others = items_prefix xs (found ++ x ∷ []) n (before + length (spelling x)) more each.1 in
      let place : behind (before + length (spelling x)) (spellings xs) more ≡ behind before (spellings (x ∷ xs)) more = behind-append before (spelling x) (spellings xs) more
      ∙ ap (λ (t : List ℕ). behind before t more) (sym (flat_map-cons spelling x xs)) in
      ap (λ (c : ℕ). items_at inner c found (record { at = before; rest = spellings (x ∷ xs) ++ more })) count
      ∙ ap (λ (t : List ℕ). items_at inner (suc (length xs + n)) found (record { at = before; rest = t })) bytes
      ∙ (rw one others)
      ∙ ap (λ (q : Place). items_at inner n ((found ++ x ∷ []) ++ xs) q) place
      ∙ ap (λ (ys : List Item). items_at inner n ys (behind before (spellings (x ∷ xs)) more)) (append_assoc found (x ∷ []) xs)

  items_stop : (n : ℕ) (found : List Item) (q : Place) (f : Fault) → inner q ≡ Err f → items_at inner (suc n) found q ≡ Err f
  unfolding items_at
  items_stop n found q f e = rw e refl

  items_err : (n : ℕ) (found : List Item) (q : Place) (f : Fault) → ArrayFault P F n q f → items_at inner n found q ≡ Err f
  items_err n found q f a =
      let m = n - length a.members - 1 in
      let count : n ≡ length a.members + suc m = omega (arith, a.fewer) in
      ap (λ (p : Place). items_at inner n found p) (at_place q (spellings a.members ++ a.more) a.spelled)
      ∙ ap (λ (c : ℕ). items_at inner c found (record { at = q.at; rest = spellings a.members ++ a.more })) count
      ∙ items_prefix a.members found (suc m) q.at a.more a.proper
      ∙ items_stop m (found ++ a.members) (behind q.at (spellings a.members) a.more) f (refuses _ f a.next)

  pairs_prefix : (ps found : List Pair) (last : List ℕ) (n before : ℕ) (more : List ℕ) → AllByRecursion (λ p. P p.key × P p.value) ps → KeysAscend last ps
      → pairs_at inner (length ps + n) found last (record { at = before; rest = pair_spellings ps ++ more }) ≡ pairs_at inner n (found ++ ps) (last_key last ps) (behind before (pair_spellings ps) more)
  unfolding pairs_at
  pairs_prefix [] found last n before more each ascend =
      let e : before ≡ before + 0 = omega arith in
      let z : 0 + n ≡ n = omega arith in
      rw (z, append-nil found) (ap (λ (b : ℕ). pairs_at inner n found last (record { at = b; rest = more })) e)
  pairs_prefix (p ∷ ps) found last n before more each ascend =
      let count : suc (length ps) + n ≡ suc (length ps + n) = omega arith in
      let key = spelling p.key in
      let value = spelling p.value in
      let rest = pair_spellings ps ++ more in
      let pair : pair_spelling p ≡ key ++ value = pair_spelling_out p in
      let bytes : pair_spellings (p ∷ ps) ++ more ≡ key ++ (value ++ rest) = ap (λ (t : List ℕ). t ++ more) (flat_map-cons pair_spelling p ps) ∙ append_assoc (pair_spelling p) (pair_spellings ps) more
      ∙ ap (λ (t : List ℕ). t ++ rest) pair ∙ append_assoc key value rest in
      let one = law p.key each.0.0 before (value ++ rest) in
      let two = law p.value each.0.1 (before + length key) rest in
      let others = pairs_prefix ps (found ++ p ∷ []) key n (before + length key + length value) more each.1 ascend.1 in
      let place : behind (before + length key + length value) (pair_spellings ps) more ≡ behind before (pair_spellings (p ∷ ps)) more =
      (let e : before + length key + length value + length (pair_spellings ps) ≡ before + length (pair_spelling p ++ pair_spellings ps) = omega
      (arith, length-append (pair_spelling p) (pair_spellings ps), ap length pair, length-append key value) in
      ap (λ (m : ℕ). record { at = m; rest = more }) e ∙ ap (λ (t : List ℕ). behind before t more) (sym (flat_map-cons pair_spelling p ps))) in
      ap (λ (c : ℕ). pairs_at inner c found last (record { at = before; rest = pair_spellings (p ∷ ps) ++ more })) count
      ∙ ap (λ (t : List ℕ). pairs_at inner (suc (length ps + n)) found last (record { at = before; rest = t })) bytes
      ∙ (rw (one, between_text before (before + length key) key (value ++ rest), ascend.0, two) others)
      ∙ ap (λ (q : Place). pairs_at inner n ((found ++ p ∷ []) ++ ps) (last_key key ps) q) place
      ∙ ap (λ (ys : List Pair). pairs_at inner n ys (last_key key ps) (behind before (pair_spellings (p ∷ ps)) more)) (append_assoc found (p ∷ []) ps)

  key_stop : (n : ℕ) (found : List Pair) (last : List ℕ) (q : Place) (f : Fault) → inner q ≡ Err f → pairs_at inner (suc n) found last q ≡ Err f
  unfolding pairs_at
  key_stop n found last q f e = rw e refl

  after_key : (n : ℕ) (found : List Pair) (last : List ℕ) (q : Place) (f : Fault) → AfterKey P F last q f → pairs_at inner (suc n) found last q ≡ Err f
  unfolding pairs_at
  after_key n found last q f a =
      let one = law a.key a.proper q.at a.more in
      let text = between_text q.at (q.at + length (spelling a.key)) (spelling a.key) a.more in
      ap (λ (p : Place). pairs_at inner (suc n) found last p) (at_place q (spelling a.key ++ a.more) a.spelled)
      ∙ elim a.next [
        | inl wrong ↦ rw (one, text, wrong.0) (ap (λ (g : Fault). Err g) (sym wrong.1))
        | inr right ↦ rw (one, text, right.0, refuses _ f right.1) refl
      ]

  pairs_err : (n : ℕ) (found : List Pair) (last : List ℕ) (q : Place) (f : Fault) → MapFault P F n last q f → pairs_at inner n found last q ≡ Err f
  pairs_err n found last q f a =
      let m = n - length a.pairs - 1 in
      let count : n ≡ length a.pairs + suc m = omega (arith, a.fewer) in
      ap (λ (p : Place). pairs_at inner n found last p) (at_place q (pair_spellings a.pairs ++ a.more) a.spelled)
      ∙ ap (λ (c : ℕ). pairs_at inner c found last (record { at = q.at; rest = pair_spellings a.pairs ++ a.more })) count
      ∙ pairs_prefix a.pairs found last (suc m) q.at a.more a.proper a.ascend
      ∙ elim a.next [
        | inl key ↦ key_stop m (found ++ a.pairs) (last_key last a.pairs) (behind q.at (pair_spellings a.pairs) a.more) f (refuses _ f key)
        | inr value ↦ after_key m (found ++ a.pairs) (last_key last a.pairs) (behind q.at (pair_spellings a.pairs) a.more) f value
      ]

  part_err : (at : ℕ) (kind : Kind) (n : ℕ) (q : Place) (f : Fault) → PartFault P F kind n q f → content (Some inner) at kind n q ≡ Err f
  part_err at k.Unsigned n q f h = absurd h
  part_err at k.Negative n q f h = absurd h
  part_err at k.Bytes n q f h = absurd h
  part_err at k.Text n q f h = absurd h
  part_err at k.Array n q f h = rw (items_err n [] q f h) refl
  part_err at k.Map n q f h = rw (pairs_err n [] [] q f h) refl
  part_err at k.Tag n q f h = rw (refuses q f h) refl
  part_err at k.Simple n q f h = absurd h

cut_err : (at n : ℕ) (q : Place) → nat_lt (length q.rest) n ≡ true → part at n q ≡ Err (record { at = at; why = why.CutBody })
unfolding part
cut_err at n q cut = rw cut refl

text_err : (at n : ℕ) (q : Place) → nat_lt (length q.rest) n ≡ false → is_utf8 (take n q.rest) ≡ false → text_at at n q ≡ Err (record { at = at; why = why.BadText })
unfolding part
text_err at n q whole wrong = rw (whole, wrong) refl

wrong_text : (b : Bool) (w : Why) → cond b none (just why.BadText) ≡ just w → (b ≡ false) × (why.BadText ≡ w)
wrong_text true w e = absurd (not_some w e)
wrong_text false w e = (refl, some_is why.BadText w e)

-- a rule that is broken behind the head
body_err_bytes : (at n : ℕ) (q : Place) (w : Why) (room : Bool) → body_rule room k.Bytes n q ≡ Some w → bytes_at at n q ≡ Err (record { at = at; why = w })
body_err_bytes at n q w room e =
    elim (some_by (nat_lt (length q.rest) n) why.CutBody w none e) [
      | inl cut ↦ rw (cut_err at n q cut.0) (ap (λ (v : Why). Err (record { at = at; why = v })) cut.1)
      | inr whole ↦ absurd (not_some w whole.1)
    ]

body_err_text : (at n : ℕ) (q : Place) (w : Why) (room : Bool) → body_rule room k.Text n q ≡ Some w → text_at at n q ≡ Err (record { at = at; why = w })
body_err_text at n q w room e =
    elim (some_by (nat_lt (length q.rest) n) why.CutBody w (cond (is_utf8 (take n q.rest)) none (just why.BadText)) e) [
      | inl cut ↦ rw (cut_err at n q cut.0) (ap (λ (v : Why). Err (record { at = at; why = v })) cut.1)
      | inr whole ↦ let t = wrong_text (is_utf8 (take n q.rest)) w whole.1 in text_err at n q whole.0 t.0 ∙ ap (λ (v : Why). Err (record { at = at; why = v })) t.1
    ]

body_err_inside : (inner : Reader Fault Item) (at : ℕ) (kind : Kind) (n : ℕ) (q : Place) (w : Why) → body_rule true kind n q ≡ Some w → content (Some inner) at kind n q ≡ Err (record { at = at; why = w })
body_err_inside inner at k.Unsigned n q w e = absurd (not_some w e)
body_err_inside inner at k.Negative n q w e = absurd (not_some w e)
body_err_inside inner at k.Bytes n q w e = body_err_bytes at n q w true e
body_err_inside inner at k.Text n q w e = body_err_text at n q w true e
body_err_inside inner at k.Array n q w e = absurd (not_some w e)
body_err_inside inner at k.Map n q w e = absurd (not_some w e)
body_err_inside inner at k.Tag n q w e = absurd (not_some w e)
body_err_inside inner at k.Simple n q w e = absurd (not_some w e)

too_deep : (at : ℕ) (w : Why) → just why.TooDeep ≡ just w → fault {A = Item} at why.TooDeep ≡ Err (record { at = at; why = w })
too_deep at w e = ap (λ (v : Why). Err (record { at = at; why = v })) (some_is why.TooDeep w e)

body_err_leaf : (at : ℕ) (kind : Kind) (n : ℕ) (q : Place) (w : Why) → body_rule false kind n q ≡ Some w → content None at kind n q ≡ Err (record { at = at; why = w })
body_err_leaf at k.Unsigned n q w e = absurd (not_some w e)
body_err_leaf at k.Negative n q w e = absurd (not_some w e)
body_err_leaf at k.Bytes n q w e = body_err_bytes at n q w false e
body_err_leaf at k.Text n q w e = body_err_text at n q w false e
body_err_leaf at k.Array n q w e = too_deep at w e
body_err_leaf at k.Map n q w e = too_deep at w e
body_err_leaf at k.Tag n q w e = too_deep at w e
body_err_leaf at k.Simple n q w e = absurd (not_some w e)

-- no part of a leaf is faulty
no_part : (kind : Kind) (n : ℕ) (q : Place) (f : Fault) → body_rule false kind n q ≡ None → PartFault (λ _. ⊥) (λ _ _. ⊥) kind n q f → ⊥
no_part k.Unsigned n q f e h = h
no_part k.Negative n q f e h = h
no_part k.Bytes n q f e h = h
no_part k.Text n q f e h = h
no_part k.Array n q f e h = not_some why.TooDeep (sym e)
no_part k.Map n q f e h = not_some why.TooDeep (sym e)
no_part k.Tag n q f e h = not_some why.TooDeep (sym e)
no_part k.Simple n q f e h = h

-- a part of what the head that was read announces is faulty
abbrev pub PartByHead : (P : Item → Type 0) (F : Place → Fault → Type 0) → Outcome Fault Head → Fault → Type 0
PartByHead P F (Err g) f = ⊥
PartByHead P F (Ok x) f = PartFault P F x.0.kind x.0.argument x.1 f

-- by what the head is
leaf_refuses : (p : Place) (f : Fault) (o : Outcome Fault Head) → head_at p ≡ o → ((rule_by false o ≡ Some f.why) × (f.at ≡ p.at)) ⊎ ((rule_by false o ≡ None) × PartByHead (λ _. ⊥) (λ _ _. ⊥) o f)
    → (o >>= λ h. content None p.at h.0.kind h.0.argument h.1) ≡ Err f
leaf_refuses p f (Err g) is (inl a) = ap (λ (x : Fault). Err x) (sym (fault_is g p.at f.why (head_fault p g is) (sym (some_is g.why f.why a.0))) ∙ fault_is f p.at f.why a.1 refl)
leaf_refuses p f (Err g) is (inr b) = absurd b.1
leaf_refuses p f (Ok x) is (inl a) = body_err_leaf p.at x.0.kind x.0.argument x.1 f.why a.0 ∙ ap (λ (y : Fault). Err y) (fault_is f p.at f.why a.1 refl)
leaf_refuses p f (Ok x) is (inr b) = absurd (no_part x.0.kind x.0.argument x.1 f b.0 b.1)

inside_refuses : (inner : Reader Fault Item) (P : Item → Type 0) (F : Place → Fault → Type 0) (law : (x : Item) → P x → ReadsAgain inner x) (refuses : RefusesIf inner F)
    → (p : Place) (f : Fault) (o : Outcome Fault Head) → head_at p ≡ o → ((rule_by true o ≡ Some f.why) × (f.at ≡ p.at)) ⊎ ((rule_by true o ≡ None) × PartByHead P F o f)
    → (o >>= λ h. content (Some inner) p.at h.0.kind h.0.argument h.1) ≡ Err f
inside_refuses inner P F law refuses p f (Err g) is (inl a) = ap (λ (x : Fault). Err x) (sym (fault_is g p.at f.why (head_fault p g is) (sym (some_is g.why f.why a.0))) ∙ fault_is f p.at f.why a.1 refl)
inside_refuses inner P F law refuses p f (Err g) is (inr b) = absurd b.1
inside_refuses inner P F law refuses p f (Ok x) is (inl a) = body_err_inside inner p.at x.0.kind x.0.argument x.1 f.why a.0 ∙ ap (λ (y : Fault). Err y) (fault_is f p.at f.why a.1 refl)
inside_refuses inner P F law refuses p f (Ok x) is (inr b) = part_err inner P F law refuses p.at x.0.kind x.0.argument x.1 f b.1

-- the rule in the table is that of the head that is read
abbrev RuleOrPart : (P : Item → Type 0) (F : Place → Fault → Type 0) → Option Why → Place → Fault → Type 0
RuleOrPart P F rule p f = ((rule ≡ Some f.why) × (f.at ≡ p.at)) ⊎ ((rule ≡ None) × PartByHead P F (head_at p) f)

part_by_head : (P : Item → Type 0) (F : Place → Fault → Type 0) (room : Bool) (p : Place) (f : Fault) (o : Outcome Fault Head) → head_at p ≡ o → rule_by room o ≡ None
    → PartFaultBy P F p p.rest f → PartByHead P F o f
part_by_head P F room p f (Err g) is none h = absurd (not_some g.why (sym none))
part_by_head P F room p f (Ok x) is none h = part_in P F f x p is h

by_head : (P : Item → Type 0) (F : Place → Fault → Type 0) (room : Bool) (p : Place) (f : Fault) → FaultyBy P F room p f → RuleOrPart P F (rule_by room (head_at p)) p f
by_head P F room p f (inl a) = inl (first_rule-table room p ∙ a.0, a.1)
by_head P F room p f (inr b) =
    let none : rule_by room (head_at p) ≡ None = first_rule-table room p ∙ b.0 in
    inr (none, part_by_head P F room p f (head_at p) refl none b.1)

-- what is faulty is refused
pub item_refuses : (d : ℕ) (p : Place) (f : Fault) → Faulty d p f → item_at d p ≡ Err f
unfolding nested
item_refuses zero p f h = leaf_refuses p f (head_at p) refl (by_head (λ _. ⊥) (λ _ _. ⊥) false p f h)
item_refuses (suc d) p f h = inside_refuses (item_at d) (IsSpellable d) (Faulty d) (item_again d) (item_refuses d) p f (head_at p) refl (by_head (IsSpellable d) (Faulty d) true p f h)
