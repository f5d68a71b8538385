-- Which keys of an ascending map stand before a label, and which behind it.
use Rattle.std.proofs.Common.{◌≡◌, ℕ, ◌+◌, ◌*◌, ◌<◌, ◌≤◌, Bool, true, false, cond, List, [], ◌∷◌, ◌++◌, length, refl, sym, ap, subst, ◌∙◌, arith, inl, inr}
use Rattle.std.specs.Prelude.{nat_lt, ◌==◌}
use Rattle.std.specs.List.{AllByRecursion}
use Rattle.std.proofs.lemmas.Bool.{cases_lt, le-ltb, lt-ltb, ltb-true, eqb-true}
use Rattle.cbor_core.specs.declared.item.Item.{Item, out-Item}
use Rattle.cbor_core.specs.declared.item.Pair.{Pair}
use Rattle.cbor_core.specs.declared.item.Item.TheOpen.{Item-F}
use Rattle.cbor_core.specs.declared.item.Item.TheViews.{roll-Item, roll-out-Item}
use Rattle.cbor_core.specs.declared.item.Item.TheVariants as i
use Rattle.cbor_heads.specs.Head.{head}
use Rattle.cbor_core.specs.Spelling.{spelling, spellings, pair_spellings, bytes_below, KeysAscend}
use Rattle.cbor_core.specs.Views.{labelled_by}
use Rattle.cbor_core.proofs.Public.Spell.{spelling_Unsigned, spelling_Negative, spelling_Bytes, spelling_Text, spelling_Array, spelling_Map, spelling_Tag, spelling_Truth, spelling_Null}
use Rattle.cbor_core.proofs.Public.KeyOrder.{first_smaller}
use Rattle.cbor_heads.proofs.Public.Heads.{head_short}
use Rattle.cbor_heads.proofs.Public.Fronts.{head_front}
use Rattle.cbor_fields.specs.Written.{is_below_by}

-- what begins with the head of another major type is not below a label
not_below : (major n label : ℕ) (more bytes : List ℕ) → 1 ≤ major → label < 24 → bytes ≡ head major n ++ more → bytes_below bytes (label ∷ []) ≡ true → ⊥
not_below major n label more bytes typed small is below =
    let f = head_front major n in
    let begins : bytes ≡ f.first ∷ (f.more ++ more) = is ∙ ap (λ (t : List ℕ). t ++ more) f.is in
    let h : bytes_below (f.first ∷ (f.more ++ more)) (label ∷ []) ≡ true = subst (λ (t : List ℕ). bytes_below t (label ∷ []) ≡ true) begins below in
    let lt : f.first < label = first_smaller f.first label (f.more ++ more) h in
    let low : 32 * major ≤ f.first = f.low in
    omega arith

alone_not_below : (major n label : ℕ) (bytes : List ℕ) → 1 ≤ major → label < 24 → bytes ≡ head major n → bytes_below bytes (label ∷ []) ≡ true → ⊥
alone_not_below major n label bytes typed small is below =
    let f = head_front major n in
    let h : bytes_below (f.first ∷ f.more) (label ∷ []) ≡ true = subst (λ (t : List ℕ). bytes_below t (label ∷ []) ≡ true) (is ∙ f.is) below in
    let lt : f.first < label = first_smaller f.first label f.more h in
    let low : 32 * major ≤ f.first = f.low in
    omega arith

simple_not_below : (byte label : ℕ) (bytes : List ℕ) → 24 ≤ byte → label < 24 → bytes ≡ byte ∷ [] → bytes_below bytes (label ∷ []) ≡ true → ⊥
simple_not_below byte label bytes high small is below =
    let h : bytes_below (byte ∷ []) (label ∷ []) ≡ true = subst (λ (t : List ℕ). bytes_below t (label ∷ []) ≡ true) is below in
    let lt : byte < label = first_smaller byte label [] h in
    omega arith

number_below : (n label : ℕ) (bytes : List ℕ) → label < 24 → bytes ≡ head 0 n → bytes_below bytes (label ∷ []) ≡ true → nat_lt n label ≡ true
number_below n label bytes small is below =
    let f = head_front 0 n in
    let h : bytes_below (f.first ∷ f.more) (label ∷ []) ≡ true = subst (λ (t : List ℕ). bytes_below t (label ∷ []) ≡ true) (is ∙ f.is) below in
    let lt : f.first < label = first_smaller f.first label f.more h in
    let same : f.first ≡ 32 * 0 + n = f.short (omega arith) in
    lt-ltb n label (omega arith)

truth_byte : (b : Bool) → 24 ≤ cond b 245 244
truth_byte true = omega arith
truth_byte false = omega arith

rolled_below : (label : ℕ) (l : Item-F Item Pair) → label < 24 → bytes_below (spelling (roll-Item l)) (label ∷ []) ≡ true → is_below_by label l ≡ true
rolled_below label (Item-F.Unsigned n) small below = number_below n label _ small (ap spelling (i.rolls-Unsigned n) ∙ spelling_Unsigned n) below
rolled_below label (Item-F.Negative n) small below = absurd (alone_not_below 1 n label _ (omega arith) small (ap spelling (i.rolls-Negative n) ∙ spelling_Negative n) below)
rolled_below label (Item-F.Bytes bytes) small below = absurd (not_below 2 (length bytes) label bytes _ (omega arith) small (ap spelling (i.rolls-Bytes bytes) ∙ spelling_Bytes bytes) below)
rolled_below label (Item-F.Text text) small below = absurd (not_below 3 (length text) label text _ (omega arith) small (ap spelling (i.rolls-Text text) ∙ spelling_Text text) below)
rolled_below label (Item-F.Array xs) small below = absurd (not_below 4 (length xs) label (spellings xs) _ (omega arith) small (ap spelling (i.rolls-Array xs) ∙ spelling_Array xs) below)
rolled_below label (Item-F.Map ps) small below = absurd (not_below 5 (length ps) label (pair_spellings ps) _ (omega arith) small (ap spelling (i.rolls-Map ps) ∙ spelling_Map ps) below)
rolled_below label (Item-F.Tag n x) small below = absurd (not_below 6 n label (spelling x) _ (omega arith) small (ap spelling (i.rolls-Tag n x) ∙ spelling_Tag n x) below)
rolled_below label (Item-F.Truth b) small below = absurd (simple_not_below (cond b 245 244) label _ (truth_byte b) small (ap spelling (i.rolls-Truth b) ∙ spelling_Truth b) below)
rolled_below label Item-F.Null small below = absurd (simple_not_below 246 label _ (omega arith) small (ap spelling i.rolls-Null ∙ spelling_Null) below)

-- a key below a label in the order of encodings is a number below it
pub key_below : (label : ℕ) (key : Item) → label < 24 → bytes_below (spelling key) (spelling (i.Unsigned label)) ≡ true → is_below_by label (out-Item key) ≡ true
key_below label key small below =
    let short : spelling (i.Unsigned label) ≡ label ∷ [] = spelling_Unsigned label ∙ head_short 0 label small ∙ ap (λ (n : ℕ). n ∷ []) (omega arith) in
    let h : bytes_below (spelling key) (label ∷ []) ≡ true = subst (λ (t : List ℕ). bytes_below (spelling key) t ≡ true) short below in
    rolled_below label (out-Item key) small (subst (λ (y : Item). bytes_below (spelling y) (label ∷ []) ≡ true) (sym (roll-out-Item key)) h)

-- ---- behind a label

-- neither the label nor a number below it
pub record IsPast (label : ℕ) (key : Item) : Type 0 where
  pub above : is_below_by label (out-Item key) ≡ false
  pub other : labelled_by label (out-Item key) ≡ false

wider : (m label : ℕ) (l : Item-F Item Pair) → m ≤ label → is_below_by m l ≡ true → is_below_by label l ≡ true
wider m label (Item-F.Unsigned n) le below = let lt : n < m = ltb-true n m below in lt-ltb n label (omega arith)
wider m label _ le below = absurd cc

not_same : (m label : ℕ) (b : Bool) → label < m → (m == label) ≡ b → (m == label) ≡ false
not_same m label true lt is = let e : m ≡ label = eqb-true m label is in absurd (omega arith)
not_same m label false lt is = is

past_by : (label : ℕ) (last : Item) (l : Item-F Item Pair) → label < 24 → is_below_by label (out-Item last) ≡ false → bytes_below (spelling last) (spelling (roll-Item l)) ≡ true
    → (is_below_by label l ≡ false) × (labelled_by label l ≡ false)
past_by label last (Item-F.Unsigned m) small reached below = elim (cases_lt label m) [
  | inl lt ↦ (le-ltb m label (omega arith), not_same m label (m == label) lt refl)
  | inr le ↦
      let h : bytes_below (spelling last) (spelling (i.Unsigned m)) ≡ true = subst (λ (y : Item). bytes_below (spelling last) (spelling y) ≡ true) (i.rolls-Unsigned m) below in
      let low : is_below_by m (out-Item last) ≡ true = key_below m last (omega arith) h in
      let both : true ≡ false = sym (wider m label (out-Item last) le low) ∙ reached in
      absurd cc
]
past_by label last _ small reached below = (refl, refl)

-- what stands behind a key that is not below the label
past : (label : ℕ) (last key : Item) → label < 24 → is_below_by label (out-Item last) ≡ false → bytes_below (spelling last) (spelling key) ≡ true → IsPast label key
past label last key small reached below =
    let h : bytes_below (spelling last) (spelling (roll-Item (out-Item key))) ≡ true = subst (λ (y : Item). bytes_below (spelling last) (spelling y) ≡ true) (sym (roll-out-Item key)) below in
    let p = past_by label last (out-Item key) small reached h in
    record { above = p.0; other = p.1 }

pub all_past : (label : ℕ) (last : Item) (ps : List Pair) → label < 24 → is_below_by label (out-Item last) ≡ false → KeysAscend (spelling last) ps → AllByRecursion (λ p. IsPast label p.key) ps
all_past label last [] small reached ascend = tt
all_past label last (p ∷ ps) small reached ascend =
    let here = past label last p.key small reached ascend.0 in
    (here, all_past label p.key ps small here.above ascend.1)
