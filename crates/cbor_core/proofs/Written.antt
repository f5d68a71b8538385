-- What the checked writer wrote spells an item, or the item is not proper.
use Rattle.std.proofs.Common.{◌≡◌, ℕ, zero, suc, ◌+◌, ◌-◌, ◌<◌, ◌^◌, Bool, true, false, cond, List, [], ◌∷◌, ◌++◌, length, get_or, take, drop, Result, Ok, Err, refl, sym, ap, subst, ◌∙◌, append_assoc, arith}
use Rattle.std.specs.List.{AllByRecursion, slice_range}
use Rattle.std.specs.Str.{IsUtf8}
use Rattle.std.proofs.lemmas.List.{take_at, drop_at, length-append}
use Rattle.std.proofs.Math.Seq.{drop-cons}
use Rattle.std.proofs.lemmas.List.Concat.{flat_map-cons}
use Rattle.base_types.specs.declared.memory.NoMemory.{NoMemory}
use Rattle.cbor_core.specs.declared.item.Item.{Item}
use Rattle.cbor_core.specs.declared.item.Pair.{Pair}
use Rattle.cbor_core.specs.declared.item.Item.TheVariants as i
use Rattle.cbor_heads.specs.Head.{head}
use Rattle.cbor_core.specs.Spelling.{spelling, spellings, pair_spelling, pair_spellings, bytes_below, IsProperWithin, IsSpellable}
use Rattle.base_types.specs.Bytes.{IsBytes}
use Rattle.cbor_core.specs.Writing.{Writes, PairsAre}
use Rattle.cbor_core.proofs.Public.Spell.{spelling_Unsigned, spelling_Negative, spelling_Bytes, spelling_Text, spelling_Array, spelling_Map, spelling_Tag, spelling_Truth, spelling_Null, pair_spelling_out}
use Rattle.cbor_core.proofs.Public.Levels.{to_spellable}

-- ---- items without parts

pub spellable_Unsigned : (d n : ℕ) → n < 2 ^ 64 → IsSpellable d (i.Unsigned n)
spellable_Unsigned d n lt = to_spellable d (i.Unsigned n) (rw i.outs-Unsigned lt)

pub spellable_Negative : (d n : ℕ) → n < 2 ^ 64 → IsSpellable d (i.Negative n)
spellable_Negative d n lt = to_spellable d (i.Negative n) (rw i.outs-Negative lt)

pub spellable_Bytes : (d : ℕ) (bytes : List ℕ) → IsBytes bytes → length bytes < 2 ^ 64 → IsSpellable d (i.Bytes bytes)
spellable_Bytes d bytes fits lt = to_spellable d (i.Bytes bytes) (rw i.outs-Bytes (fits, lt))

pub spellable_Text : (d : ℕ) (text : List ℕ) → IsUtf8 text → length text < 2 ^ 64 → IsSpellable d (i.Text text)
spellable_Text d text ok lt = to_spellable d (i.Text text) (rw i.outs-Text (ok, lt))

pub spellable_Truth : (d : ℕ) (b : Bool) → IsSpellable d (i.Truth b)
spellable_Truth d b = to_spellable d (i.Truth b) (rw i.outs-Truth tt)

pub spellable_Null : (d : ℕ) → IsSpellable d i.Null
spellable_Null d = to_spellable d i.Null (rw i.outs-Null tt)

-- an item without parts, and what was written of it
pub leaf_Unsigned : (d : ℕ) (x : Item) (n : ℕ) (old new : List ℕ) → x ≡ i.Unsigned n → n < 2 ^ 64 → new ≡ old ++ head 0 n → IsSpellable d x × (new ≡ old ++ spelling x)
leaf_Unsigned d x n old new is lt e = rw is (spellable_Unsigned d n lt, e ∙ ap (λ (t : List ℕ). old ++ t) (sym (spelling_Unsigned n)))

pub leaf_Negative : (d : ℕ) (x : Item) (n : ℕ) (old new : List ℕ) → x ≡ i.Negative n → n < 2 ^ 64 → new ≡ old ++ head 1 n → IsSpellable d x × (new ≡ old ++ spelling x)
leaf_Negative d x n old new is lt e = rw is (spellable_Negative d n lt, e ∙ ap (λ (t : List ℕ). old ++ t) (sym (spelling_Negative n)))

pub leaf_Bytes : (d : ℕ) (x : Item) (bytes seen old new : List ℕ) → x ≡ i.Bytes bytes → seen ≡ bytes → IsBytes seen → length seen < 2 ^ 64
    → new ≡ old ++ (head 2 (length seen) ++ seen) → IsSpellable d x × (new ≡ old ++ spelling x)
leaf_Bytes d x bytes seen old new is same fits lt e =
    let whole : IsSpellable d (i.Bytes seen) × (new ≡ old ++ spelling (i.Bytes seen)) = (spellable_Bytes d seen fits lt, e ∙ ap (λ (t : List ℕ). old ++ t) (sym (spelling_Bytes seen))) in
    rw (is, ← same) whole

pub leaf_Text : (d : ℕ) (x : Item) (text seen old new : List ℕ) → x ≡ i.Text text → seen ≡ text → IsUtf8 seen → length seen < 2 ^ 64
    → new ≡ old ++ (head 3 (length seen) ++ seen) → IsSpellable d x × (new ≡ old ++ spelling x)
leaf_Text d x text seen old new is same ok lt e =
    let whole : IsSpellable d (i.Text seen) × (new ≡ old ++ spelling (i.Text seen)) = (spellable_Text d seen ok lt, e ∙ ap (λ (t : List ℕ). old ++ t) (sym (spelling_Text seen))) in
    rw (is, ← same) whole

pub leaf_Truth : (d : ℕ) (x : Item) (b : Bool) (byte : ℕ) (old new : List ℕ) → x ≡ i.Truth b → byte ≡ cond b 245 244 → new ≡ old ++ byte ∷ [] → IsSpellable d x × (new ≡ old ++ spelling x)
leaf_Truth d x b byte old new is byte_is e = rw is (spellable_Truth d b, e ∙ ap (λ (n : ℕ). old ++ n ∷ []) byte_is ∙ ap (λ (t : List ℕ). old ++ t) (sym (spelling_Truth b)))

pub leaf_Null : (d : ℕ) (x : Item) (old new : List ℕ) → x ≡ i.Null → new ≡ old ++ 246 ∷ [] → IsSpellable d x × (new ≡ old ++ spelling x)
leaf_Null d x old new is e = rw is (spellable_Null d, e ∙ ap (λ (t : List ℕ). old ++ t) (sym spelling_Null))

-- ---- containers

-- an answer about parts, carried to the whole
writes_whole : (r : Result Bool NoMemory) (Q Q' P P' : Type 0) (old old' text text' new : List ℕ) → (Q → Q') → (P' → P) → old ++ text ≡ old' ++ text'
    → Writes r Q P old text new → Writes r Q' P' old' text' new
writes_whole (Ok true) Q Q' P P' old old' text text' new up down same w = (up w.0, w.1 ∙ same)
writes_whole (Ok false) Q Q' P P' old old' text text' new up down same w = λ p. w (down p)
writes_whole (Err e) Q Q' P P' old old' text text' new up down same w = tt

pub writes_Array : (r : Result Bool NoMemory) (d : ℕ) (xs : List Item) (old new : List ℕ) → 0 < d → length xs < 2 ^ 64
    → Writes r (AllByRecursion (IsSpellable (d - 1)) xs) (AllByRecursion (IsProperWithin (d - 1)) xs) (old ++ head 4 (length xs)) (spellings xs) new
    → Writes r (IsSpellable d (i.Array xs)) (IsProperWithin d (i.Array xs)) old (spelling (i.Array xs)) new
writes_Array r zero xs old new room len w = absurd (omega arith)
writes_Array r (suc d) xs old new room len w =
    let e : suc d - 1 ≡ d = omega arith in
    let same : (old ++ head 4 (length xs)) ++ spellings xs ≡ old ++ spelling (i.Array xs) = append_assoc old (head 4 (length xs)) (spellings xs) ∙ ap (λ (t : List ℕ). old ++ t) (sym (spelling_Array xs)) in
    let up : AllByRecursion (IsSpellable (suc d - 1)) xs → IsSpellable (suc d) (i.Array xs) = λ all. (to_spellable (suc d) (i.Array xs) (rw i.outs-Array (refl, subst (λ (k : ℕ). AllByRecursion (IsSpellable k) xs) e all, len))) in
    let down : IsProperWithin (suc d) (i.Array xs) → AllByRecursion (IsProperWithin (suc d - 1)) xs = λ p. (let q = rw i.outs-Array at p in subst (λ (k : ℕ). AllByRecursion (IsProperWithin k) xs) (sym e) q.1) in
    writes_whole r _ (IsSpellable (suc d) (i.Array xs)) _ (IsProperWithin (suc d) (i.Array xs)) (old ++ head 4 (length xs)) old (spellings xs) (spelling (i.Array xs)) new up down same w

pub writes_Map : (r : Result Bool NoMemory) (d : ℕ) (ps : List Pair) (old new : List ℕ) → 0 < d → length ps < 2 ^ 64
    → Writes r (PairsAre (IsSpellable (d - 1)) [] ps) (PairsAre (IsProperWithin (d - 1)) [] ps) (old ++ head 5 (length ps)) (pair_spellings ps) new
    → Writes r (IsSpellable d (i.Map ps)) (IsProperWithin d (i.Map ps)) old (spelling (i.Map ps)) new
writes_Map r zero ps old new room len w = absurd (omega arith)
writes_Map r (suc d) ps old new room len w =
    let e : suc d - 1 ≡ d = omega arith in
    let same : (old ++ head 5 (length ps)) ++ pair_spellings ps ≡ old ++ spelling (i.Map ps) = append_assoc old (head 5 (length ps)) (pair_spellings ps) ∙ ap (λ (t : List ℕ). old ++ t) (sym (spelling_Map ps)) in
    let up : PairsAre (IsSpellable (suc d - 1)) [] ps → IsSpellable (suc d) (i.Map ps) = λ all. (let a = subst (λ (k : ℕ). PairsAre (IsSpellable k) [] ps) e all in to_spellable (suc d) (i.Map ps) (rw i.outs-Map (refl, a.0, len, a.1))) in
    let down : IsProperWithin (suc d) (i.Map ps) → PairsAre (IsProperWithin (suc d - 1)) [] ps = λ p. (let q = rw i.outs-Map at p in subst (λ (k : ℕ). PairsAre (IsProperWithin k) [] ps) (sym e) (q.1, q.2)) in
    writes_whole r _ (IsSpellable (suc d) (i.Map ps)) _ (IsProperWithin (suc d) (i.Map ps)) (old ++ head 5 (length ps)) old (pair_spellings ps) (spelling (i.Map ps)) new up down same w

pub writes_Tag : (r : Result Bool NoMemory) (d n : ℕ) (x : Item) (old new : List ℕ) → 0 < d → n < 2 ^ 64
    → Writes r (IsSpellable (d - 1) x) (IsProperWithin (d - 1) x) (old ++ head 6 n) (spelling x) new
    → Writes r (IsSpellable d (i.Tag n x)) (IsProperWithin d (i.Tag n x)) old (spelling (i.Tag n x)) new
writes_Tag r zero n x old new room lt w = absurd (omega arith)
writes_Tag r (suc d) n x old new room lt w =
    let e : suc d - 1 ≡ d = omega arith in
    let same : (old ++ head 6 n) ++ spelling x ≡ old ++ spelling (i.Tag n x) = append_assoc old (head 6 n) (spelling x) ∙ ap (λ (t : List ℕ). old ++ t) (sym (spelling_Tag n x)) in
    let up : IsSpellable (suc d - 1) x → IsSpellable (suc d) (i.Tag n x) = λ ok. (to_spellable (suc d) (i.Tag n x) (rw i.outs-Tag (refl, subst (λ (k : ℕ). IsSpellable k x) e ok, lt))) in
    let down : IsProperWithin (suc d) (i.Tag n x) → IsProperWithin (suc d - 1) x = λ p. (let q = rw i.outs-Tag at p in subst (λ (k : ℕ). IsProperWithin k x) (sym e) q.1) in
    writes_whole r _ (IsSpellable (suc d) (i.Tag n x)) _ (IsProperWithin (suc d) (i.Tag n x)) (old ++ head 6 n) old (spelling x) (spelling (i.Tag n x)) new up down same w

-- no container stands where there is no room
pub no_room_Array : (d : ℕ) (xs : List Item) → d ≡ 0 → ¬ (IsProperWithin d (i.Array xs))
no_room_Array d xs e p =
    let none : IsProperWithin 0 (i.Array xs) = subst (λ (k : ℕ). IsProperWithin k (i.Array xs)) e p in
    let q = rw i.outs-Array at none in
    let f : false ≡ true = q.0 in absurd cc

pub no_room_Map : (d : ℕ) (ps : List Pair) → d ≡ 0 → ¬ (IsProperWithin d (i.Map ps))
no_room_Map d ps e p =
    let none : IsProperWithin 0 (i.Map ps) = subst (λ (k : ℕ). IsProperWithin k (i.Map ps)) e p in
    let q = rw i.outs-Map at none in
    let f : false ≡ true = q.0 in absurd cc

pub no_room_Tag : (d n : ℕ) (x : Item) → d ≡ 0 → ¬ (IsProperWithin d (i.Tag n x))
no_room_Tag d n x e p =
    let none : IsProperWithin 0 (i.Tag n x) = subst (λ (k : ℕ). IsProperWithin k (i.Tag n x)) e p in
    let q = rw i.outs-Tag at none in
    let f : false ≡ true = q.0 in absurd cc

-- ---- items one behind the other

-- what is still to be written of some items, and what that says of them all
pub record ItemsLeft (d : ℕ) (items left : List Item) (old new : List ℕ) : Type 0 where
  pub written : new ++ spellings left ≡ old ++ spellings items
  pub spellable : AllByRecursion (IsSpellable d) left → AllByRecursion (IsSpellable d) items
  pub proper : AllByRecursion (IsProperWithin d) items → AllByRecursion (IsProperWithin d) left

-- ---- pairs one behind the other

pub record PairsLeft (d : ℕ) (pairs left : List Pair) (last old new : List ℕ) : Type 0 where
  pub written : new ++ pair_spellings left ≡ old ++ pair_spellings pairs
  pub spellable : PairsAre (IsSpellable d) last left → PairsAre (IsSpellable d) [] pairs
  pub proper : PairsAre (IsProperWithin d) [] pairs → PairsAre (IsProperWithin d) last left

pairs_step : (d : ℕ) (pairs left more : List Pair) (p : Pair) (last old new now : List ℕ) → left ≡ p ∷ more → PairsLeft d pairs left last old new
    → IsSpellable d p.key → bytes_below last (spelling p.key) ≡ true → IsSpellable d p.value → now ≡ (new ++ spelling p.key) ++ spelling p.value
    → PairsLeft d pairs more (spelling p.key) old now
pairs_step d pairs left more p last old new now is h key below value wrote =
    let from = subst (λ (l : List Pair). PairsLeft d pairs l last old new) is h in
    let pair : spelling p.key ++ spelling p.value ≡ pair_spelling p = sym (pair_spelling_out p) in
    let whole : now ≡ new ++ pair_spelling p = wrote ∙ append_assoc new (spelling p.key) (spelling p.value) ∙ ap (λ (t : List ℕ). new ++ t) pair in
    record {
      written = ap (λ (t : List ℕ). t ++ pair_spellings more) whole ∙ append_assoc new (pair_spelling p) (pair_spellings more) ∙ ap (λ (t : List ℕ). new ++ t) (sym (flat_map-cons pair_spelling p more)) ∙ from.written;
      spellable = λ all. from.spellable (((key, value), all.0), (below, all.1));
      proper = λ all. (let a = from.proper all in (a.0.1, a.1.1));
    }

-- the pair at a place, and those behind it
pub next_pair : (pairs : List Pair) (k : ℕ) (p : Pair) → k < length pairs → p ≡ get_or pairs k p → drop k pairs ≡ p ∷ drop (k + 1) pairs
next_pair pairs k p lt is = let one : k + 1 ≡ suc k = omega arith in rw one (drop-cons pairs k p lt ∙ ap (λ (q : Pair). q ∷ drop (suc k) pairs) (sym is))

-- one more pair was written, and its key lies between two places
pub pairs_more : (d : ℕ) (pairs left more : List Pair) (p : Pair) (old before mid now : List ℕ) (last_start last_end start end : ℕ) → left ≡ p ∷ more
    → PairsLeft d pairs left (slice_range before last_start last_end) old before → start ≡ length before → end ≡ length mid
    → IsSpellable d p.key × (bytes_below (slice_range before last_start last_end) (spelling p.key) ≡ true) → mid ≡ before ++ spelling p.key
    → IsSpellable d p.value → now ≡ mid ++ spelling p.value → PairsLeft d pairs more (slice_range now start end) old now
pairs_more d pairs left more p old before mid now last_start last_end start end is h start_is end_is key wrote_key value wrote_value =
    let whole : now ≡ (before ++ spelling p.key) ++ spelling p.value = wrote_value ∙ ap (λ (t : List ℕ). t ++ spelling p.value) wrote_key in
    let flat : now ≡ before ++ (spelling p.key ++ spelling p.value) = whole ∙ append_assoc before (spelling p.key) (spelling p.value) in
    let size : end - start ≡ length (spelling p.key) = omega (arith, ap length wrote_key, length-append before (spelling p.key)) in
    let behind : drop start now ≡ spelling p.key ++ spelling p.value = ap (λ (t : List ℕ). drop start t) flat ∙ drop_at before (spelling p.key ++ spelling p.value) start (sym start_is) in
    let between : slice_range now start end ≡ spelling p.key =
    (ap (λ (t : List ℕ). take (end - start) t) behind ∙ take_at (spelling p.key) (spelling p.value) (end - start) (sym size)) in
    rw between (pairs_step d pairs left more p (slice_range before last_start last_end) old before now is h key.0 key.1 value whole)
