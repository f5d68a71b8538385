-- What is spelled so is read.
use Rattle.cbor_heads.specs.declared.fault.Fault.{Fault}
use Rattle.std.proofs.Common.{◌≡◌, ℕ, zero, suc, ◌+◌, ◌-◌, ◌^◌, ◌<◌, Bool, true, false, List, [], ◌∷◌, ◌++◌, length, Option, Some, None, Ok, refl, sym, ap, subst, ◌∙◌, append_assoc, arith, lit≤, lit<}
use Rattle.std.specs.Prelude.{nat_lt}
use Rattle.std.specs.List.{AllByRecursion}
use Rattle.std.specs.Str.{IsUtf8}
use Rattle.std.proofs.lemmas.Bool.{le-ltb}
use Rattle.std.proofs.lemmas.Str.{is_utf8-from_IsUtf8}
use Rattle.std.proofs.lemmas.List.{append-nil, take_at, drop_at, length-append}
use Rattle.std.proofs.lemmas.List.Concat.{flat_map-cons}
use Rattle.cbor_core.specs.declared.item.Item.{Item, out-Item}
use Rattle.cbor_core.specs.declared.item.Item.TheOpen.{Item-F}
use Rattle.cbor_core.specs.declared.item.Item.TheViews.{roll-Item, roll-out-Item}
use Rattle.cbor_core.specs.declared.item.Item.TheVariants as i
use Rattle.cbor_core.specs.declared.item.Pair.{Pair}
use Rattle.cbor_heads.specs.Place.{Place, behind, between}
use Rattle.cbor_heads.specs.Head.{head, kind_of}
use Rattle.cbor_core.specs.Spelling.{spelling, spellings, pair_spelling, pair_spellings, KeysAscend, IsSpellable}
use Rattle.cbor_heads.specs.Reading.{Reader, nested}
use Rattle.cbor_core.specs.Reading.{part, items_at, pairs_at, content, item_by, item_at}
use Rattle.cbor_core.proofs.Public.Spell.{spelling_Unsigned, spelling_Negative, spelling_Bytes, spelling_Text, spelling_Array, spelling_Map, spelling_Tag, spelling_Truth, spelling_Null, pair_spelling_out}
use Rattle.cbor_heads.proofs.Public.Heads.{IsHead, head_again, head_short, plain}
use Rattle.cbor_heads.proofs.Public.Places.{behind-append}
use Rattle.cbor_core.proofs.Public.Levels.{IsWholeBy, from_spellable}

abbrev pub ReadsAgain : Reader Fault Item → Item → Type 0
ReadsAgain inner x = (before : ℕ) (more : List ℕ) → inner (record { at = before; rest = spelling x ++ more }) ≡ Ok (x, behind before (spelling x) more)

-- a head, and then what it announces
step : (inner : Option (Reader Fault Item)) (major n before : ℕ) (text more : List ℕ) (x : Item) → IsHead major n → spelling x ≡ head major n ++ text
    → content inner before (kind_of major) n (record { at = before + length (head major n); rest = text ++ more }) ≡ Ok (x, behind (before + length (head major n)) text more)
    → item_by inner (record { at = before; rest = spelling x ++ more }) ≡ Ok (x, behind before (spelling x) more)
step inner major n before text more x h is read =
    let bytes : spelling x ++ more ≡ head major n ++ (text ++ more) = ap (λ (t : List ℕ). t ++ more) is ∙ append_assoc (head major n) text more in
    let one : item_by inner (record { at = before; rest = head major n ++ (text ++ more) }) ≡ Ok (x, behind (before + length (head major n)) text more) = rw (head_again major n before (text ++ more) h) read in
    let place : behind (before + length (head major n)) text more ≡ behind before (spelling x) more = behind-append before (head major n) text more ∙ ap (λ (t : List ℕ). behind before t more) (sym is) in
    ap (λ (t : List ℕ). item_by inner (record { at = before; rest = t })) bytes ∙ one ∙ ap (λ (q : Place). Ok (x, q)) place

-- a head alone
step_only : (inner : Option (Reader Fault Item)) (major n : ℕ) (x : Item) → IsHead major n → spelling x ≡ head major n
    → ((before : ℕ) (q : Place) → content inner before (kind_of major) n q ≡ Ok (x, q)) → ReadsAgain (item_by inner) x
step_only inner major n x h is read before more =
    let q : Place = record { at = before + length (head major n); rest = more } in
    let place : q ≡ behind (before + length (head major n)) [] more = let e : before + length (head major n) ≡ before + length (head major n) + 0 = omega arith in ap (λ (k : ℕ). record { at = k; rest = more }) e in
    step inner major n before [] more x h (is ∙ sym (append-nil (head major n))) (read before q ∙ ap (λ (r : Place). Ok (x, r)) place)

part_again : (at before : ℕ) (text more : List ℕ) → part at (length text) (record { at = before; rest = text ++ more }) ≡ Ok (text, behind before text more)
unfolding part
part_again at before text more =
    let room : nat_lt (length (text ++ more)) (length text) ≡ false = le-ltb _ _ (omega (arith, length-append text more)) in
    rw (room, take_at text more (length text) refl, drop_at text more (length text) refl) refl

module _ (inner : Option (Reader Fault Item)) where
  unsigned_again : (n : ℕ) → n < 2 ^ 64 → ReadsAgain (item_by inner) (i.Unsigned n)
  unsigned_again n lt = step_only inner 0 n (i.Unsigned n) (plain 0 n (lit< tt) lt) (spelling_Unsigned n) (λ b q. refl)

  negative_again : (n : ℕ) → n < 2 ^ 64 → ReadsAgain (item_by inner) (i.Negative n)
  negative_again n lt = step_only inner 1 n (i.Negative n) (plain 1 n (lit< tt) lt) (spelling_Negative n) (λ b q. refl)

  bytes_again : (bytes : List ℕ) → length bytes < 2 ^ 64 → ReadsAgain (item_by inner) (i.Bytes bytes)
  bytes_again bytes lt before more = step inner 2 (length bytes) before bytes more (i.Bytes bytes) (plain 2 _ (lit< tt) lt) (spelling_Bytes bytes)
      (rw (part_again before (before + length (head 2 (length bytes))) bytes more) refl)

  text_again : (text : List ℕ) → IsUtf8 text → length text < 2 ^ 64 → ReadsAgain (item_by inner) (i.Text text)
  text_again text ok lt before more = step inner 3 (length text) before text more (i.Text text) (plain 3 _ (lit< tt) lt) (spelling_Text text)
      (rw (part_again before (before + length (head 3 (length text))) text more, is_utf8-from_IsUtf8 text ok) refl)

  truth_again : (b : Bool) → ReadsAgain (item_by inner) (i.Truth b)
  truth_again true = step_only inner 7 21 (i.Truth true) (record { below = lit< tt; simple = λ e. (lit≤ tt, lit≤ tt) }) (spelling_Truth true ∙ sym (head_short 7 21 (lit< tt))) (λ b q. refl)
  truth_again false = step_only inner 7 20 (i.Truth false) (record { below = lit< tt; simple = λ e. (lit≤ tt, lit≤ tt) }) (spelling_Truth false ∙ sym (head_short 7 20 (lit< tt))) (λ b q. refl)

  null_again : ReadsAgain (item_by inner) i.Null
  null_again = step_only inner 7 22 i.Null (record { below = lit< tt; simple = λ e. (lit≤ tt, lit≤ tt) }) (spelling_Null ∙ sym (head_short 7 22 (lit< tt))) (λ b q. refl)

module _ (inner : Reader Fault Item) (P : Item → Type 0) (law : (x : Item) → P x → ReadsAgain inner x) where
  pub items_again : (xs found : List Item) (before : ℕ) (more : List ℕ) → AllByRecursion P xs
      → items_at inner (length xs) found (record { at = before; rest = spellings xs ++ more }) ≡ Ok (found ++ xs, behind before (spellings xs) more)
  unfolding items_at
  items_again [] found before more each =
      let e : before ≡ before + 0 = omega arith in
      ap (λ (y : List Item × ℕ). Ok (y.0, record { at = y.1; rest = more })) (let both : (found, before) ≡ (found ++ [], before + 0) = rw (append-nil found, ← e) refl in both)
  items_again (x ∷ xs) found before more each =
      let bytes : spellings (x ∷ xs) ++ more ≡ spelling x ++ (spellings xs ++ more) = ap (λ (t : List ℕ). t ++ more) (flat_map-cons spelling x xs) ∙ append_assoc (spelling x) (spellings xs) more in
      let one = law x each.0 before (spellings xs ++ more) in
      let others = items_again xs (found ++ x ∷ []) (before + length (spelling x)) more each.1 in
      let place : behind (before + length (spelling x)) (spellings xs) more ≡ behind before (spellings (x ∷ xs)) more = behind-append before (spelling x) (spellings xs) more
      ∙ ap (λ (t : List ℕ). behind before t more) (sym (flat_map-cons spelling x xs)) in
      ap (λ (t : List ℕ). items_at inner (suc (length xs)) found (record { at = before; rest = t })) bytes
      ∙ (rw one others)
      ∙ ap (λ (q : Place). Ok ((found ++ x ∷ []) ++ xs, q)) place
      ∙ ap (λ (ys : List Item). Ok (ys, behind before (spellings (x ∷ xs)) more)) (append_assoc found (x ∷ []) xs)

  pub between_again : (before n : ℕ) (text more : List ℕ) → between (record { at = before; rest = text ++ more }) (record { at = n; rest = more }) ≡ text
  between_again before n text more =
      let len : length (text ++ more) - length more ≡ length text = omega (arith, length-append text more) in
      rw len (take_at text more (length text) refl)

  pub pairs_again : (ps found : List Pair) (last : List ℕ) (before : ℕ) (more : List ℕ) → AllByRecursion (λ p. P p.key × P p.value) ps → KeysAscend last ps
      → pairs_at inner (length ps) found last (record { at = before; rest = pair_spellings ps ++ more }) ≡ Ok (found ++ ps, behind before (pair_spellings ps) more)
  unfolding pairs_at
  pairs_again [] found last before more each ascend =
      let e : before ≡ before + 0 = omega arith in
      ap (λ (y : List Pair × ℕ). Ok (y.0, record { at = y.1; rest = more })) (let both : (found, before) ≡ (found ++ [], before + 0) = rw (append-nil found, ← e) refl in both)
  pairs_again (p ∷ ps) found last before more each ascend =
      let key = spelling p.key in
      let value = spelling p.value in
      let rest = pair_spellings ps ++ more in
      let pair : pair_spelling p ≡ key ++ value = pair_spelling_out p in
      let bytes : pair_spellings (p ∷ ps) ++ more ≡ key ++ (value ++ rest) = ap (λ (t : List ℕ). t ++ more) (flat_map-cons pair_spelling p ps) ∙ append_assoc (pair_spelling p) (pair_spellings ps) more
      ∙ ap (λ (t : List ℕ). t ++ rest) pair ∙ append_assoc key value rest in
      let one = law p.key each.0.0 before (value ++ rest) in
      let two = law p.value each.0.1 (before + length key) rest in
      let others = pairs_again ps (found ++ p ∷ []) key (before + length key + length value) more each.1 ascend.1 in
      let place : behind (before + length key + length value) (pair_spellings ps) more ≡ behind before (pair_spellings (p ∷ ps)) more =
      (let e : before + length key + length value + length (pair_spellings ps) ≡ before + length (pair_spelling p ++ pair_spellings ps) = omega
      (arith, length-append (pair_spelling p) (pair_spellings ps), ap length pair, length-append key value) in
      ap (λ (n : ℕ). record { at = n; rest = more }) e ∙ ap (λ (t : List ℕ). behind before t more) (sym (flat_map-cons pair_spelling p ps))) in
      ap (λ (t : List ℕ). pairs_at inner (suc (length ps)) found last (record { at = before; rest = t })) bytes
      ∙ (rw (one, between_again before (before + length key) key (value ++ rest), ascend.0, two) others)
      ∙ ap (λ (q : Place). Ok ((found ++ p ∷ []) ++ ps, q)) place
      ∙ ap (λ (ys : List Pair). Ok (ys, behind before (pair_spellings (p ∷ ps)) more)) (append_assoc found (p ∷ []) ps)

  array_again : (xs : List Item) → AllByRecursion P xs → length xs < 2 ^ 64 → ReadsAgain (item_by (Some inner)) (i.Array xs)
  array_again xs each lt before more = step (Some inner) 4 (length xs) before (spellings xs) more (i.Array xs) (plain 4 _ (lit< tt) lt) (spelling_Array xs)
      (rw (items_again xs [] (before + length (head 4 (length xs))) more each) refl)

  map_again : (ps : List Pair) → AllByRecursion (λ p. P p.key × P p.value) ps → length ps < 2 ^ 64 → KeysAscend [] ps → ReadsAgain (item_by (Some inner)) (i.Map ps)
  map_again ps each lt ascend before more = step (Some inner) 5 (length ps) before (pair_spellings ps) more (i.Map ps) (plain 5 _ (lit< tt) lt) (spelling_Map ps)
      (rw (pairs_again ps [] [] (before + length (head 5 (length ps))) more each ascend) refl)

  tag_again : (n : ℕ) (x : Item) → P x → n < 2 ^ 64 → ReadsAgain (item_by (Some inner)) (i.Tag n x)
  tag_again n x ok lt before more = step (Some inner) 6 n before (spelling x) more (i.Tag n x) (plain 6 _ (lit< tt) lt) (spelling_Tag n x)
      (rw (law x ok (before + length (head 6 n)) more) refl)

  by_layer : (l : Item-F Item Pair) → IsWholeBy true P l → ReadsAgain (item_by (Some inner)) (roll-Item l)
  by_layer (Item-F.Unsigned n) h = subst (ReadsAgain (item_by (Some inner))) (sym (i.rolls-Unsigned n)) (unsigned_again (Some inner) n h)
  by_layer (Item-F.Negative n) h = subst (ReadsAgain (item_by (Some inner))) (sym (i.rolls-Negative n)) (negative_again (Some inner) n h)
  by_layer (Item-F.Bytes bytes) h = subst (ReadsAgain (item_by (Some inner))) (sym (i.rolls-Bytes bytes)) (bytes_again (Some inner) bytes h.1)
  by_layer (Item-F.Text text) h = subst (ReadsAgain (item_by (Some inner))) (sym (i.rolls-Text text)) (text_again (Some inner) text h.0 h.1)
  by_layer (Item-F.Array xs) h = subst (ReadsAgain (item_by (Some inner))) (sym (i.rolls-Array xs)) (array_again xs h.1 h.2)
  by_layer (Item-F.Map ps) h = subst (ReadsAgain (item_by (Some inner))) (sym (i.rolls-Map ps)) (map_again ps h.1 h.2 h.3)
  by_layer (Item-F.Tag n x) h = subst (ReadsAgain (item_by (Some inner))) (sym (i.rolls-Tag n x)) (tag_again n x h.1 h.2)
  by_layer (Item-F.Truth b) h = subst (ReadsAgain (item_by (Some inner))) (sym (i.rolls-Truth b)) (truth_again (Some inner) b)
  by_layer Item-F.Null h = subst (ReadsAgain (item_by (Some inner))) (sym i.rolls-Null) (null_again (Some inner))

leaf_again : (l : Item-F Item Pair) → IsWholeBy false (λ _. ⊥) l → ReadsAgain (item_by None) (roll-Item l)
leaf_again (Item-F.Unsigned n) h = subst (ReadsAgain (item_by None)) (sym (i.rolls-Unsigned n)) (unsigned_again None n h)
leaf_again (Item-F.Negative n) h = subst (ReadsAgain (item_by None)) (sym (i.rolls-Negative n)) (negative_again None n h)
leaf_again (Item-F.Bytes bytes) h = subst (ReadsAgain (item_by None)) (sym (i.rolls-Bytes bytes)) (bytes_again None bytes h.1)
leaf_again (Item-F.Text text) h = subst (ReadsAgain (item_by None)) (sym (i.rolls-Text text)) (text_again None text h.0 h.1)
leaf_again (Item-F.Array xs) h = absurd (let e : false ≡ true = h.0 in cc)
leaf_again (Item-F.Map ps) h = absurd (let e : false ≡ true = h.0 in cc)
leaf_again (Item-F.Tag n x) h = absurd (let e : false ≡ true = h.0 in cc)
leaf_again (Item-F.Truth b) h = subst (ReadsAgain (item_by None)) (sym (i.rolls-Truth b)) (truth_again None b)
leaf_again Item-F.Null h = subst (ReadsAgain (item_by None)) (sym i.rolls-Null) (null_again None)

-- what is spelled so is read, whatever follows it
pub item_again : (d : ℕ) (x : Item) → IsSpellable d x → ReadsAgain (item_at d) x
unfolding nested
item_again zero x h = subst (ReadsAgain (item_by None)) (roll-out-Item x) (leaf_again (out-Item x) (from_spellable zero x h))
item_again (suc d) x h = subst (ReadsAgain (item_by (Some (item_at d)))) (roll-out-Item x) (by_layer (item_at d) (IsSpellable d) (item_again d) (out-Item x) (from_spellable (suc d) x h))
