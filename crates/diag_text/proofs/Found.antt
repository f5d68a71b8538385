-- An item that is read has the text that stood there, and is proper and in range.
use Rattle.std.proofs.Common.{◌≡◌, ℕ, zero, suc, ◌+◌, ◌-◌, ◌^◌, ◌<◌, ◌≤◌, Bool, true, false, cond, nat_lt, List, [], ◌∷◌, ◌++◌, length, Ok, Err, Option, Some, None, refl, sym, ap, subst, ◌∙◌}
use Rattle.std.proofs.Common.{arith, inl, inr, codes, decimal, ltb-true, lt-ltb, le-ltb}
use Rattle.std.specs.Prelude.{slice_index}
use Rattle.std.specs.List.{flat_map, AllByRecursion}
use Rattle.std.specs.Str.{is_utf8}
use Rattle.std.proofs.lemmas.Bool.{cases_lt}
use Rattle.std.proofs.lemmas.Str.{IsUtf8-from_is_utf8}
use Rattle.cbor_core.specs.declared.item.Item.{Item, out-Item}
use Rattle.cbor_core.specs.declared.item.Item.TheVariants as i
use Rattle.cbor_core.specs.declared.item.Pair.{Pair}
use Rattle.cbor_heads.specs.Place.{Place, skip, begins}
use Rattle.cbor_core.specs.Faulty.{last_key}
use Rattle.cbor_core.specs.Spelling.{spelling, bytes_below, KeysAscend, IsSpellable, IsProper, IsProperWithin}
use Rattle.cbor_core.proofs.Public.Parts.{proper_more}
use Rattle.diag_text.proofs.Loops.{last_key_more, member_is}
use Rattle.cbor_core.proofs.Public.Levels.{IsWholeBy, to_spellable}
use Rattle.diag_text.specs.Printed.{hex_byte, escaped, listed, printed, pair_printed}
use Rattle.cbor_heads.specs.Reading.{Reader, ◌>>=◌, nested}
use Rattle.diag_text.specs.Reading.{past, hex_value, hex_guess, text_guess, bytes_at, text_at, parts_at, inside_at, member_at, key_at, pair_at, array_at, map_at, tag_at, number_at, number_or_tag}
use Rattle.diag_text.specs.Reading.{negative_by, negative_at, text_by, string_at, item_by, item_at}
use Rattle.diag_text.proofs.Texts.{printed_Unsigned, printed_Negative, printed_Bytes, printed_Text, printed_Array, printed_Map, printed_Tag, printed_Truth, printed_Null, pair_printed_out}
use Rattle.diag_text.specs.Faulty.{Ends}
use Rattle.diag_text.proofs.Fronts.{not_starts}
use Rattle.cbor_heads.proofs.Public.Outcomes.{bind_ok, not_ok, ok_is, chosen, held, done}
use Rattle.diag_text.proofs.Takes.{TextTook, text_then, took_fits, token_took, behind_took, pieces_take, Chain, parts_take, NumberTook, number_takes}

hex_small : (c : ℕ) → hex_value c < 16
hex_small c = elim (cases_lt c 48) [
  | inl a ↦ rw (lt-ltb c 48 a) (omega arith)
  | inr a ↦ elim (cases_lt c 58) [
    | inl b ↦ rw (le-ltb c 48 a, lt-ltb c 58 b) (omega arith)
    | inr b ↦ elim (cases_lt c 97) [
      | inl d ↦ rw (le-ltb c 48 a, le-ltb c 58 b, lt-ltb c 97 d) (omega arith)
      | inr d ↦ elim (cases_lt c 103) [
        | inl f ↦ rw (le-ltb c 48 a, le-ltb c 58 b, le-ltb c 97 d, lt-ltb c 103 f) (omega arith)
        | inr f ↦ rw (le-ltb c 48 a, le-ltb c 58 b, le-ltb c 97 d, le-ltb c 103 f) (omega arith)
      ]
    ]
  ]
]

hex_fits : (text : List ℕ) → hex_guess text < 256
unfolding hex_guess
hex_fits text = omega (arith, hex_small (slice_index text 0), hex_small (slice_index text 1))

-- an item whose text stood between two places
pub record Whole (room : Bool) (P : Item → Type 0) (p : Place) (x : Item × Place) : Type 0 where
  pub took : TextTook p (printed x.0) x.1
  pub ends : Ends x.0 x.1.rest
  pub proper : IsWholeBy room P (out-Item x.0)

-- an item whose text stood between two places, and did not go on behind the second
pub record Taken (P : Item → Type 0) (p : Place) (x : Item × Place) : Type 0 where
  pub took : TextTook p (printed x.0) x.1
  pub ends : Ends x.0 x.1.rest
  pub proper : P x.0

abbrev pub TakesBy : Reader ℕ Item → (Item → Type 0) → Type 0
TakesBy inner P = (p : Place) (x : Item × Place) → length p.rest < 2 ^ 64 → inner p ≡ Ok x → Taken P p x

module _ (room : Bool) (P : Item → Type 0) where
  made : (p q : Place) (y : Item) (text : List ℕ) (x : Item × Place) → TextTook p text q → printed y ≡ text → Ends y q.rest → IsWholeBy room P (out-Item y) → done {E = ℕ} (y, q) ≡ Ok x → Whole room P p x
  made p q y text x t is ends whole e = subst (λ (z : Item × Place). Whole room P p z) (ok_is (y, q) x e) (record { took = rw is t; ends = ends; proper = whole })

  pub word_takes : (p : Place) (token : List ℕ) (n : ℕ) (y : Item) (x : Item × Place) → begins token p.rest ≡ true → length token ≡ n → printed y ≡ token → Ends y (skip n p).rest
      → IsWholeBy room P (out-Item y) → done {E = ℕ} (y, skip n p) ≡ Ok x → Whole room P p x
  word_takes p token n y x here len is ends whole e = made p (skip n p) y token x (subst (λ (k : ℕ). TextTook p token (skip k p)) len (token_took token p here)) is ends whole e

  pub bytes_takes : (p : Place) (at : ℕ) (x : Item × Place) → begins (codes "h'") p.rest ≡ true → length p.rest < 2 ^ 64 → (bytes_at at (skip 2 p) >>= λ y. Ok (i.Bytes y.0, y.1)) ≡ Ok x → Whole room P p x
  bytes_takes p at x here fits e =
      let a = bind_ok (bytes_at at (skip 2 p)) (λ y. Ok (i.Bytes y.0, y.1)) x e in
      let q : Place = skip 2 p in
      let front : TextTook p (codes "h'") q = token_took (codes "h'") p here in
      let left = took_fits p (codes "h'") q front fits in
      let f = pieces_take hex_byte hex_guess (codes "'") at (length q.rest) [] q a.0 a.1 in
      let whole : IsWholeBy room P (out-Item (i.Bytes f.bytes)) = rw i.outs-Bytes (f.fit hex_fits, omega (arith, f.count, left)) in
      made p a.0.1 (i.Bytes f.bytes) (codes "h'" ++ (flat_map hex_byte f.bytes ++ codes "'")) x (text_then p (codes "h'") q (flat_map hex_byte f.bytes ++ codes "'") a.0.1 front f.took) (printed_Bytes f.bytes) (rw i.outs-Bytes tt) whole
      (ap (λ (bs : List ℕ). Ok (i.Bytes bs, a.0.1)) (sym f.all) ∙ a.2)

  pub string_takes : (p : Place) (at : ℕ) (x : Item × Place) → begins (codes "\"") p.rest ≡ true → length p.rest < 2 ^ 64 → string_at at (skip 1 p) ≡ Ok x → Whole room P p x
  string_takes p at x here fits e =
      let a = bind_ok (text_at at (skip 1 p)) (text_by at) x e in
      let q : Place = skip 1 p in
      let front : TextTook p (codes "\"") q = token_took (codes "\"") p here in
      let left = took_fits p (codes "\"") q front fits in
      let f = pieces_take escaped text_guess (codes "\"") at (length q.rest) [] q a.0 a.1 in
      let h = held (is_utf8 a.0.0) (Ok (i.Text a.0.0, a.0.1)) at x a.2 in
      let utf8 = IsUtf8-from_is_utf8 f.bytes (subst (λ (bs : List ℕ). is_utf8 bs ≡ true) f.all h.0) in
      let whole : IsWholeBy room P (out-Item (i.Text f.bytes)) = rw i.outs-Text (utf8, omega (arith, f.count, left)) in
      made p a.0.1 (i.Text f.bytes) (codes "\"" ++ (flat_map escaped f.bytes ++ codes "\"")) x (text_then p (codes "\"") q (flat_map escaped f.bytes ++ codes "\"") a.0.1 front f.took) (printed_Text f.bytes) (rw i.outs-Text tt) whole
      (ap (λ (bs : List ℕ). Ok (i.Text bs, a.0.1)) (sym f.all) ∙ h.1)

  pub negative_takes : (p : Place) (at : ℕ) (x : Item × Place) → begins (codes "-") p.rest ≡ true → negative_at at (skip 1 p) ≡ Ok x → Whole room P p x
  negative_takes p at x here e =
      let a = bind_ok (number_at at (2 ^ 64 + 1) (skip 1 p)) (negative_by at) x e in
      let q : Place = skip 1 p in
      let number = number_takes at (2 ^ 64 + 1) q a.0 a.1 in
      let h = held (nat_lt 0 a.0.0) (Ok (i.Negative (a.0.0 - 1), a.0.1)) at x a.2 in
      let some : 0 < a.0.0 = ltb-true 0 a.0.0 h.0 in
      let back : (a.0.0 - 1) + 1 ≡ a.0.0 = omega arith in
      let text : printed (i.Negative (a.0.0 - 1)) ≡ codes "-" ++ decimal a.0.0 = printed_Negative (a.0.0 - 1) ∙ ap (λ (k : ℕ). codes "-" ++ decimal k) back in
      let whole : IsWholeBy room P (out-Item (i.Negative (a.0.0 - 1))) = rw i.outs-Negative (omega (arith, number.below, some)) in
      made p a.0.1 (i.Negative (a.0.0 - 1)) (codes "-" ++ decimal a.0.0) x (text_then p (codes "-") q (decimal a.0.0) a.0.1 (token_took (codes "-") p here) number.took) text (rw i.outs-Negative number.ends) whole h.1

-- ---- containers

pub record Inside {X : Type 0} (text : X → List ℕ) (P : List X → X → Type 0) (close : List ℕ) (p : Place) (x : List X × Place) : Type 0 where
  pub count : length x.0 < 2 ^ 64
  pub each : Chain P [] x.0
  pub took : TextTook p (listed text x.0 ++ close) x.1

inside_takes : {X : Type 0} (part : List X → Reader ℕ X) (text : X → List ℕ) (P : List X → X → Type 0) (close : List ℕ)
    → ((found : List X) (p : Place) (x : X × Place) → length p.rest < 2 ^ 64 → part found p ≡ Ok x → TextTook p (text x.0) x.1 × P found x.0)
    → (p : Place) (x : List X × Place) → length p.rest < 2 ^ 64 → inside_at part close p ≡ Ok x → Inside text P close p x
inside_takes {X = X} part text P close law p x fits e =
    elim (chosen (begins close p.rest) (Ok ([], skip (length close) p)) (parts_at part close (length p.rest) [] p) (Ok x) e) [
      | inl here ↦ subst (λ (y : List X × Place). Inside text P close p y) (ok_is ([], skip (length close) p) x here.1) (record { count = omega arith; each = tt; took = token_took close p here.0 })
      | inr more ↦
          let f = parts_take part text P close law (length p.rest) [] p x fits more.1 in
          let made : Inside text P close p (f.first ∷ f.others, x.1) = record { count = omega (arith, f.count, fits); each = f.each; took = f.took } in
          subst (λ (xs : List X). Inside text P close p (xs, x.1)) (sym f.all) made
    ]

pub chain_all : (Q : Item → Type 0) (found xs : List Item) → Chain (λ before y. Q y) found xs → AllByRecursion Q xs
chain_all Q found [] c = tt
chain_all Q found (x ∷ xs) c = (c.0, chain_all Q (found ++ x ∷ []) xs c.1)

abbrev pub PairIs : (Item → Type 0) → List Pair → Pair → Type 0
PairIs Q before p = (Q p.key × Q p.value) × (bytes_below (last_key [] before) (spelling p.key) ≡ true)

pub chain_pairs : (Q : Item → Type 0) (found ps : List Pair) → Chain (PairIs Q) found ps → AllByRecursion (λ p. Q p.key × Q p.value) ps
chain_pairs Q found [] c = tt
chain_pairs Q found (p ∷ ps) c = (c.0.0, chain_pairs Q (found ++ p ∷ []) ps c.1)

pub chain_ascends : (Q : Item → Type 0) (found ps : List Pair) → Chain (PairIs Q) found ps → KeysAscend (last_key [] found) ps
chain_ascends Q found [] c = tt
chain_ascends Q found (p ∷ ps) c = (c.0.1, subst (λ (t : List ℕ). KeysAscend t ps) (last_key_more [] found p) (chain_ascends Q (found ++ p ∷ []) ps c.1))

-- a key and its value were taken, one behind the other
pub record PairTaken (Q : Item → Type 0) (last : List ℕ) (p : Place) (x : Pair × Place) : Type 0 where
  pub middle : Place
  pub key : Taken Q p (x.0.key, middle)
  pub below : bytes_below last (spelling x.0.key) ≡ true
  pub colon : TextTook middle (codes ": ") (skip 2 middle)
  pub value : Taken Q (skip 2 middle) (x.0.value, x.1)

module _ (inner : Reader ℕ Item) (Q : Item → Type 0) (law : TakesBy inner Q) where
  pub member_takes : (found : List Item) (p : Place) (x : Item × Place) → length p.rest < 2 ^ 64 → member_at inner found p ≡ Ok x → TextTook p (printed x.0) x.1 × Q x.0
  member_takes found p x fits e = let t = law p x fits (sym (member_is inner found p) ∙ e) in (t.took, t.proper)

  pub pair_parts : (found : List Pair) (p : Place) (x : Pair × Place) → length p.rest < 2 ^ 64 → pair_at inner found p ≡ Ok x → PairTaken Q (last_key [] found) p x
  pair_parts found p x fits e =
      let a = bind_ok (key_at inner (last_key [] found) p) (λ key. past (codes ": ") key.1 (λ q. inner q >>= λ value. Ok (record { key = key.0; value = value.0 }, value.1))) x e in
      let b = bind_ok (inner p) (λ key. cond (bytes_below (last_key [] found) (spelling key.0)) (Ok key) (Err p.at)) a.0 a.1 in
      let h = held (bytes_below (last_key [] found) (spelling b.0.0)) (Ok b.0) p.at a.0 b.2 in
      let is : b.0 ≡ a.0 = ok_is b.0 a.0 h.1 in
      let key = law p a.0 fits (b.1 ∙ ap (λ (y : Item × Place). Ok y) is) in
      let below : bytes_below (last_key [] found) (spelling a.0.0) ≡ true = subst (λ (y : Item × Place). bytes_below (last_key [] found) (spelling y.0) ≡ true) is h.0 in
      let sep = behind_took (codes ": ") a.0.1 (λ q. inner q >>= λ value. Ok (record { key = a.0.0; value = value.0 }, value.1)) x a.2 in
      let q : Place = skip 2 a.0.1 in
      let left = took_fits a.0.1 (codes ": ") q sep.0 (took_fits p (printed a.0.0) a.0.1 key.took fits) in
      let v = bind_ok (inner q) (λ value. Ok (record { key = a.0.0; value = value.0 }, value.1)) x sep.1 in
      let made : PairTaken Q (last_key [] found) p (record { key = a.0.0; value = v.0.0 }, v.0.1) = record { middle = a.0.1; key = key; below = below; colon = sep.0; value = law q v.0 left v.1 } in
      subst (λ (y : Pair × Place). PairTaken Q (last_key [] found) p y) (ok_is (record { key = a.0.0; value = v.0.0 }, v.0.1) x v.2) made

  pub pair_takes : (found : List Pair) (p : Place) (x : Pair × Place) → length p.rest < 2 ^ 64 → pair_at inner found p ≡ Ok x → TextTook p (pair_printed x.0) x.1 × PairIs Q found x.0
  pair_takes found p x fits e =
      let t = pair_parts found p x fits e in
      let q : Place = skip 2 t.middle in
      let k : List ℕ = printed x.0.key in
      let v : List ℕ = printed x.0.value in
      let took = text_then p k t.middle (codes ": " ++ v) x.1 t.key.took (text_then t.middle (codes ": ") q v x.1 t.colon t.value.took) in
      (subst (λ (y : List ℕ). TextTook p y x.1) (sym (pair_printed_out x.0)) took, ((t.key.proper, t.value.proper), t.below))

  array_takes : (p : Place) (at : ℕ) (x : Item × Place) → begins (codes "[") p.rest ≡ true → length p.rest < 2 ^ 64 → array_at (Some inner) at (skip 1 p) ≡ Ok x → Whole true Q p x
  array_takes p at x here fits e =
      let q : Place = skip 1 p in
      let front : TextTook p (codes "[") q = token_took (codes "[") p here in
      let a = bind_ok (inside_at (member_at inner) (codes "]") q) (λ y. Ok (i.Array y.0, y.1)) x e in
      let f = inside_takes (member_at inner) printed (λ before y. Q y) (codes "]") member_takes q a.0 (took_fits p (codes "[") q front fits) a.1 in
      let whole : IsWholeBy true Q (out-Item (i.Array a.0.0)) = rw i.outs-Array (refl, chain_all Q [] a.0.0 f.each, f.count) in
      made true Q p a.0.1 (i.Array a.0.0) (codes "[" ++ (listed printed a.0.0 ++ codes "]")) x (text_then p (codes "[") q (listed printed a.0.0 ++ codes "]") a.0.1 front f.took) (printed_Array a.0.0) (rw i.outs-Array tt) whole a.2

  map_takes : (p : Place) (at : ℕ) (x : Item × Place) → begins (codes "{") p.rest ≡ true → length p.rest < 2 ^ 64 → map_at (Some inner) at (skip 1 p) ≡ Ok x → Whole true Q p x
  map_takes p at x here fits e =
      let q : Place = skip 1 p in
      let front : TextTook p (codes "{") q = token_took (codes "{") p here in
      let a = bind_ok (inside_at (pair_at inner) (codes "}") q) (λ y. Ok (i.Map y.0, y.1)) x e in
      let f = inside_takes (pair_at inner) pair_printed (PairIs Q) (codes "}") pair_takes q a.0 (took_fits p (codes "{") q front fits) a.1 in
      let whole : IsWholeBy true Q (out-Item (i.Map a.0.0)) = rw i.outs-Map (refl, chain_pairs Q [] a.0.0 f.each, f.count, chain_ascends Q [] a.0.0 f.each) in
      made true Q p a.0.1 (i.Map a.0.0) (codes "{" ++ (listed pair_printed a.0.0 ++ codes "}")) x (text_then p (codes "{") q (listed pair_printed a.0.0 ++ codes "}") a.0.1 front f.took) (printed_Map a.0.0) (rw i.outs-Map tt) whole a.2

  tag_takes : (p : Place) (at n : ℕ) (q : Place) (x : Item × Place) → TextTook p (decimal n) q → n < 2 ^ 64 → begins (codes "(") q.rest ≡ true → length p.rest < 2 ^ 64 → tag_at (Some inner) at n (skip 1 q) ≡ Ok x → Whole true Q p x
  tag_takes p at n q x number lt here fits e =
      let r : Place = skip 1 q in
      let front : TextTook q (codes "(") r = token_took (codes "(") q here in
      let left = took_fits q (codes "(") r front (took_fits p (decimal n) q number fits) in
      let a = bind_ok (inner r) (λ y. past (codes ")") y.1 (λ s. Ok (i.Tag n y.0, s))) x e in
      let one = law r a.0 left a.1 in
      let end = behind_took (codes ")") a.0.1 (λ s. Ok (i.Tag n a.0.0, s)) x a.2 in
      let s : Place = skip 1 a.0.1 in
      let whole : IsWholeBy true Q (out-Item (i.Tag n a.0.0)) = rw i.outs-Tag (refl, one.proper, lt) in
      made true Q p s (i.Tag n a.0.0) (decimal n ++ (codes "(" ++ (printed a.0.0 ++ codes ")"))) x
      (text_then p (decimal n) q (codes "(" ++ (printed a.0.0 ++ codes ")")) s number (text_then q (codes "(") r (printed a.0.0 ++ codes ")") s front (text_then r (printed a.0.0) a.0.1 (codes ")") s one.took end.0)))
      (printed_Tag n a.0.0) (rw i.outs-Tag tt) whole end.1

-- ---- an item

pub number_or_tag_leaf : (p : Place) (a : ℕ × Place) (x : Item × Place) → NumberTook (2 ^ 64) p a → number_or_tag None p.at a ≡ Ok x → Whole false (λ _. ⊥) p x
number_or_tag_leaf p a x number e = elim (chosen (begins (codes "(") a.1.rest) (Err p.at) (Ok (i.Unsigned a.0, a.1)) (Ok x) e) [
  | inl tagged ↦ absurd (not_ok p.at x tagged.1)
  | inr plain ↦ made false (λ _. ⊥) p a.1 (i.Unsigned a.0) (decimal a.0) x number.took (printed_Unsigned a.0) (rw i.outs-Unsigned (number.ends, not_starts (codes "(") a.1.rest plain.0)) (rw i.outs-Unsigned number.below) plain.1
]

number_or_tag_inside : (inner : Reader ℕ Item) (Q : Item → Type 0) (law : TakesBy inner Q) (p : Place) (a : ℕ × Place) (x : Item × Place) → NumberTook (2 ^ 64) p a → length p.rest < 2 ^ 64
    → number_or_tag (Some inner) p.at a ≡ Ok x → Whole true Q p x
number_or_tag_inside inner Q law p a x number fits e = elim (chosen (begins (codes "(") a.1.rest) (tag_at (Some inner) p.at a.0 (skip 1 a.1)) (Ok (i.Unsigned a.0, a.1)) (Ok x) e) [
  | inl tagged ↦ tag_takes inner Q law p p.at a.0 a.1 x number.took number.below tagged.0 fits tagged.1
  | inr plain ↦ made true Q p a.1 (i.Unsigned a.0) (decimal a.0) x number.took (printed_Unsigned a.0) (rw i.outs-Unsigned (number.ends, not_starts (codes "(") a.1.rest plain.0)) (rw i.outs-Unsigned number.below) plain.1
]

-- what the readers of containers and of plain numbers take
record Readers (inner : Option (Reader ℕ Item)) (room : Bool) (P : Item → Type 0) : Type 0 where
  array : (p : Place) (x : Item × Place) → begins (codes "[") p.rest ≡ true → length p.rest < 2 ^ 64 → array_at inner p.at (skip 1 p) ≡ Ok x → Whole room P p x
  map : (p : Place) (x : Item × Place) → begins (codes "{") p.rest ≡ true → length p.rest < 2 ^ 64 → map_at inner p.at (skip 1 p) ≡ Ok x → Whole room P p x
  number : (p : Place) (a : ℕ × Place) (x : Item × Place) → NumberTook (2 ^ 64) p a → length p.rest < 2 ^ 64 → number_or_tag inner p.at a ≡ Ok x → Whole room P p x

level_takes : (inner : Option (Reader ℕ Item)) (room : Bool) (P : Item → Type 0) → Readers inner room P → (p : Place) (x : Item × Place) → length p.rest < 2 ^ 64 → item_by inner p ≡ Ok x → Whole room P p x
level_takes inner room P readers p x fits e0 = elim (chosen (begins (codes "true") p.rest) _ _ (Ok x) e0) [
  | inl h ↦ word_takes room P p (codes "true") 4 (i.Truth true) x h.0 refl (printed_Truth true) (rw i.outs-Truth tt) (rw i.outs-Truth tt) h.1
  | inr e1 ↦ elim (chosen (begins (codes "false") p.rest) _ _ (Ok x) e1.1) [
    | inl h ↦ word_takes room P p (codes "false") 5 (i.Truth false) x h.0 refl (printed_Truth false) (rw i.outs-Truth tt) (rw i.outs-Truth tt) h.1
    | inr e2 ↦ elim (chosen (begins (codes "null") p.rest) _ _ (Ok x) e2.1) [
      | inl h ↦ word_takes room P p (codes "null") 4 i.Null x h.0 refl printed_Null (rw i.outs-Null tt) (rw i.outs-Null tt) h.1
      | inr e3 ↦ elim (chosen (begins (codes "h'") p.rest) _ _ (Ok x) e3.1) [
        | inl h ↦ bytes_takes room P p p.at x h.0 fits h.1
        | inr e4 ↦ elim (chosen (begins (codes "\"") p.rest) _ _ (Ok x) e4.1) [
          | inl h ↦ string_takes room P p p.at x h.0 fits h.1
          | inr e5 ↦ elim (chosen (begins (codes "[") p.rest) _ _ (Ok x) e5.1) [
            | inl h ↦ readers.array p x h.0 fits h.1
            | inr e6 ↦ elim (chosen (begins (codes "{") p.rest) _ _ (Ok x) e6.1) [
              | inl h ↦ readers.map p x h.0 fits h.1
              | inr e7 ↦ elim (chosen (begins (codes "-") p.rest) _ _ (Ok x) e7.1) [
                | inl h ↦ negative_takes room P p p.at x h.0 h.1
                | inr e8 ↦
                    let a = bind_ok (number_at p.at (2 ^ 64) p) (number_or_tag inner p.at) x e8.1 in
                    let number = number_takes p.at (2 ^ 64) p a.0 a.1 in
                    readers.number p a.0 x number fits a.2
              ]
            ]
          ]
        ]
      ]
    ]
  ]
]

leaf_readers : Readers None false (λ _. ⊥)
leaf_readers = record {
  array = λ p x h fits e. absurd (not_ok p.at x e);
  map = λ p x h fits e. absurd (not_ok p.at x e);
  number = λ p a x number fits e. number_or_tag_leaf p a x number e;
}

inside_readers : (inner : Reader ℕ Item) (Q : Item → Type 0) → TakesBy inner Q → Readers (Some inner) true Q
inside_readers inner Q law = record {
  array = λ p x h fits e. array_takes inner Q law p p.at x h fits e;
  map = λ p x h fits e. map_takes inner Q law p p.at x h fits e;
  number = λ p a x number fits e. number_or_tag_inside inner Q law p a x number fits e;
}

-- what is read has this text
pub item_takes : (d : ℕ) → TakesBy (item_at d) (IsSpellable d)
unfolding nested
item_takes zero p x fits e = let w = level_takes None false (λ _. ⊥) leaf_readers p x fits e in record { took = w.took; ends = w.ends; proper = to_spellable zero x.0 w.proper }
item_takes (suc d) p x fits e =
    let w = level_takes (Some (item_at d)) true (IsSpellable d) (inside_readers (item_at d) (IsSpellable d) (item_takes d)) p x fits e in record { took = w.took; ends = w.ends; proper = to_spellable (suc d) x.0 w.proper }

-- ---- depth

proper_up : (k d : ℕ) (x : Item) → IsProperWithin d x → IsProperWithin (k + d) x
proper_up zero d x h = let e : 0 + d ≡ d = omega arith in subst (λ (n : ℕ). IsProperWithin n x) (sym e) h
proper_up (suc k) d x h = let e : suc k + d ≡ suc (k + d) = omega arith in subst (λ (n : ℕ). IsProperWithin n x) (sym e) (proper_more (k + d) x (proper_up k d x h))

-- an item that was read is proper
pub item_proper : (d : ℕ) (p : Place) (x : Item) (q : Place) → d ≤ 16 → length p.rest < 2 ^ 64 → item_at d p ≡ Ok (x, q) → IsProper x
item_proper d p x q le fits e =
    let t = item_takes d p (x, q) fits e in
    let n : (16 - d) + d ≡ 16 = omega arith in
    subst (λ (n : ℕ). IsProperWithin n x) n (proper_up (16 - d) d x t.proper.0)
