-- The order of keys by their encodings.
use Rattle.std.proofs.Common.{◌≡◌, ℕ, ◌+◌, ◌*◌, ◌%◌, ◌<◌, Bool, true, false, cond, List, [], ◌∷◌, ◌++◌, length, refl, ap, subst, ◌∙◌, arith, inl, inr}
use Rattle.std.specs.Prelude.{nat_lt, ◌==◌}
use Rattle.std.specs.Int.{to_be_bytes, w8}
use Rattle.std.proofs.lemmas.Bool.{cases_lt, le-ltb, lt-ltb, eq-eqb, ltb-true}
use Rattle.cbor_core.specs.declared.item.Item.{Item, out-Item}
use Rattle.cbor_core.specs.declared.item.Pair.{Pair}
use Rattle.cbor_core.specs.declared.item.Item.TheOpen.{Item-F}
use Rattle.cbor_core.specs.declared.item.Item.TheViews.{roll-Item, roll-out-Item}
use Rattle.cbor_core.specs.declared.item.Item.TheVariants as i
use Rattle.cbor_heads.specs.Head.{head}
use Rattle.cbor_core.specs.Spelling.{spelling, spellings, pair_spellings, bytes_below}
use Rattle.cbor_core.proofs.Public.Spell.{spelling_Unsigned, spelling_Negative, spelling_Bytes, spelling_Text, spelling_Array, spelling_Map, spelling_Tag, spelling_Truth, spelling_Null}
use Rattle.cbor_heads.proofs.Public.Heads.{head_short, head_8}
use Rattle.cbor_heads.proofs.Public.Fronts.{head_front}

-- the first byte decides, or else what is behind it
first_below : (a b : ℕ) (s t : List ℕ) → a < b → bytes_below (a ∷ s) (b ∷ t) ≡ true
first_below a b s t lt = let e : nat_lt a b ≡ true = lt-ltb a b lt in rw e refl

first_same : (a : ℕ) (s t : List ℕ) → bytes_below s t ≡ true → bytes_below (a ∷ s) (a ∷ t) ≡ true
first_same a s t below =
    let not_less : nat_lt a a ≡ false = le-ltb a a (omega arith) in
    let same : (a == a) ≡ true = eq-eqb a a refl in
    rw (not_less, same) below

-- bytes below one byte begin with a smaller one
not_above : (first label : ℕ) (more : List ℕ) (b c : Bool) → nat_lt first label ≡ b → (first == label) ≡ c → bytes_below (first ∷ more) (label ∷ []) ≡ true → nat_lt first label ≡ true
not_above first label more true c is same below = is
not_above first label [] false true is same below = absurd (let h = rw (is, same) at below in cc)
not_above first label (m ∷ ms) false true is same below = absurd (let h = rw (is, same) at below in cc)
not_above first label more false false is same below = absurd (let h = rw (is, same) at below in cc)

pub first_smaller : (first label : ℕ) (more : List ℕ) → bytes_below (first ∷ more) (label ∷ []) ≡ true → first < label
first_smaller first label more below = ltb-true first label (not_above first label more (nat_lt first label) (first == label) refl refl below)

-- heads of one major type ascend by the argument
arguments_below : (major m n : ℕ) → m < n → n < 256 → bytes_below (head major m) (head major n) ≡ true
arguments_below major m n lt small = elim (cases_lt n 24) [
  | inl short ↦
      let m_short : m < 24 = omega arith in
      rw (head_short major m m_short, head_short major n short) (first_below (32 * major + m) (32 * major + n) [] [] (omega arith))
  | inr long ↦ elim (cases_lt m 24) [
    | inl m_short ↦ rw (head_short major m m_short, head_8 major n long small) (first_below (32 * major + m) (32 * major + 24) [] (to_be_bytes w8 n) (omega arith))
    | inr m_long ↦
        let m_small : m < 256 = omega arith in
        rw (head_8 major m m_long m_small, head_8 major n long small) (first_same (32 * major + 24) (to_be_bytes w8 m) (to_be_bytes w8 n) (first_below (m % 256) (n % 256) [] [] (omega arith)))
  ]
]

-- no bytes at all are below the bytes of any item
fronted : (major n : ℕ) (s bytes : List ℕ) → bytes ≡ head major n ++ s → bytes_below [] bytes ≡ true
fronted major n s bytes e = let f = head_front major n in rw (e, f.is) refl

alone : (major n : ℕ) (bytes : List ℕ) → bytes ≡ head major n → bytes_below [] bytes ≡ true
alone major n bytes e = let f = head_front major n in rw (e, f.is) refl

rolled_above : (l : Item-F Item Pair) → bytes_below [] (spelling (roll-Item l)) ≡ true
rolled_above (Item-F.Unsigned n) = alone 0 n _ (ap spelling (i.rolls-Unsigned n) ∙ spelling_Unsigned n)
rolled_above (Item-F.Negative n) = alone 1 n _ (ap spelling (i.rolls-Negative n) ∙ spelling_Negative n)
rolled_above (Item-F.Bytes bytes) = fronted 2 (length bytes) bytes _ (ap spelling (i.rolls-Bytes bytes) ∙ spelling_Bytes bytes)
rolled_above (Item-F.Text text) = fronted 3 (length text) text _ (ap spelling (i.rolls-Text text) ∙ spelling_Text text)
rolled_above (Item-F.Array xs) = fronted 4 (length xs) (spellings xs) _ (ap spelling (i.rolls-Array xs) ∙ spelling_Array xs)
rolled_above (Item-F.Map ps) = fronted 5 (length ps) (pair_spellings ps) _ (ap spelling (i.rolls-Map ps) ∙ spelling_Map ps)
rolled_above (Item-F.Tag n x) = fronted 6 n (spelling x) _ (ap spelling (i.rolls-Tag n x) ∙ spelling_Tag n x)
rolled_above (Item-F.Truth b) = let e : spelling (roll-Item (Item-F.Truth b)) ≡ cond b 245 244 ∷ [] = ap spelling (i.rolls-Truth b) ∙ spelling_Truth b in rw e refl
rolled_above Item-F.Null = let e : spelling (roll-Item Item-F.Null) ≡ 246 ∷ [] = ap spelling i.rolls-Null ∙ spelling_Null in rw e refl

pub nothing_below : (x : Item) → bytes_below [] (spelling x) ≡ true
nothing_below x = subst (λ (y : Item). bytes_below [] (spelling y) ≡ true) (roll-out-Item x) (rolled_above (out-Item x))

-- ---- the keys that maps of this repository have

pub unsigned_below : (m n : ℕ) → m < n → n < 256 → bytes_below (spelling (i.Unsigned m)) (spelling (i.Unsigned n)) ≡ true
unsigned_below m n lt small = rw (spelling_Unsigned m, spelling_Unsigned n) (arguments_below 0 m n lt small)

pub negative_below : (m n : ℕ) → m < n → n < 256 → bytes_below (spelling (i.Negative m)) (spelling (i.Negative n)) ≡ true
negative_below m n lt small = rw (spelling_Negative m, spelling_Negative n) (arguments_below 1 m n lt small)

-- keys of different major types ascend by the type
heads_below : (a b m n : ℕ) → a < b → bytes_below (head a m) (head b n) ≡ true
heads_below a b m n lt =
    let f = head_front a m in
    let g = head_front b n in
    let le : f.first < g.first = omega (arith, f.high, g.low) in
    rw (f.is, g.is) (first_below f.first g.first f.more g.more le)

head_text_below : (a b m n : ℕ) (t : List ℕ) → a < b → bytes_below (head a m) (head b n ++ t) ≡ true
head_text_below a b m n t lt =
    let f = head_front a m in
    let g = head_front b n in
    let le : f.first < g.first = omega (arith, f.high, g.low) in
    rw (f.is, g.is) (first_below f.first g.first f.more (g.more ++ t) le)

pub unsigned_below_negative : (m n : ℕ) → bytes_below (spelling (i.Unsigned m)) (spelling (i.Negative n)) ≡ true
unsigned_below_negative m n = rw (spelling_Unsigned m, spelling_Negative n) (heads_below 0 1 m n (omega arith))

pub unsigned_below_text : (m : ℕ) (text : List ℕ) → bytes_below (spelling (i.Unsigned m)) (spelling (i.Text text)) ≡ true
unsigned_below_text m text = rw (spelling_Unsigned m, spelling_Text text) (head_text_below 0 3 m (length text) text (omega arith))

pub negative_below_text : (m : ℕ) (text : List ℕ) → bytes_below (spelling (i.Negative m)) (spelling (i.Text text)) ≡ true
negative_below_text m text = rw (spelling_Negative m, spelling_Text text) (head_text_below 1 3 m (length text) text (omega arith))

-- what shows that an item built of its levels is proper
pub ruleset layers = (
  i.outs-Unsigned,
  i.outs-Negative,
  i.outs-Bytes,
  i.outs-Text,
  i.outs-Array,
  i.outs-Map,
  i.outs-Tag,
  i.outs-Truth,
  i.outs-Null,
  nothing_below,
  unsigned_below,
  negative_below,
  unsigned_below_negative,
  unsigned_below_text,
  negative_below_text,
)
