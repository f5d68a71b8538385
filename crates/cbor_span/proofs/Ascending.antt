-- Behind a key above a label of one byte, no key is the label.
use Rattle.std.proofs.Common.{◌≡◌, ℕ, ◌+◌, ◌*◌, ◌<◌, Bool, true, false, List, [], ◌∷◌, ◌++◌, length, None, refl, sym, ap, subst, ◌∙◌, arith, inl, inr, lit<}
use Rattle.std.specs.Prelude.{nat_lt, ◌==◌}
use Rattle.std.proofs.lemmas.Bool.{cases_lt, le-ltb, eqb-true, ltb-true}
use Rattle.std.proofs.lemmas.List.{append-nil}
use Rattle.cbor_heads.specs.declared.head.Head.{Head}
use Rattle.cbor_heads.specs.Head.{head}
use Rattle.cbor_heads.proofs.Public.Heads.{head_short}
use Rattle.cbor_heads.proofs.Public.Fronts.{head_front}
use Rattle.cbor_core.specs.declared.item.Item.{Item, out-Item}
use Rattle.cbor_core.specs.declared.item.Item.TheOpen.{Item-F}
use Rattle.cbor_core.specs.declared.item.Item.TheViews.{roll-Item, roll-out-Item}
use Rattle.cbor_core.specs.declared.item.Item.TheVariants as i
use Rattle.cbor_core.specs.declared.item.Pair.{Pair}
use Rattle.cbor_core.specs.Spelling.{spelling, spellings, pair_spellings, bytes_below, KeysAscend}
use Rattle.cbor_core.specs.Views.{field, labelled_by}
use Rattle.cbor_core.proofs.Public.Spell.{spelling_Unsigned, spelling_Negative, spelling_Bytes, spelling_Text, spelling_Array, spelling_Map, spelling_Tag, spelling_Truth, spelling_Null}
use Rattle.cbor_span.specs.Opening.{opening}
use Rattle.cbor_span.specs.Fields.{is_past}

-- the first of the bytes is above the label
pub record Above (label : ℕ) (bytes : List ℕ) : Type 0 where
  pub first : ℕ
  pub more : List ℕ
  pub is : bytes ≡ first ∷ more
  pub above : label < first

unsigned_above : (label n : ℕ) (bytes : List ℕ) → label < 24 → label < n → bytes ≡ head 0 n → Above label bytes
unsigned_above label n bytes small lt e =
    let f = head_front 0 n in
    let above : label < f.first = elim (cases_lt f.first 24) [ inl short ↦ (let is = f.short short in omega arith) | inr long ↦ omega arith ] in
    record { first = f.first; more = f.more; is = e ∙ f.is; above = above }

other_above : (label major n : ℕ) (text bytes : List ℕ) → label < 24 → 0 < major → bytes ≡ head major n ++ text → Above label bytes
other_above label major n text bytes small lt e =
    let f = head_front major n in
    record { first = f.first; more = f.more ++ text; is = e ∙ ap (λ (t : List ℕ). t ++ text) f.is; above = omega (arith, f.low) }

alone_above : (label major n : ℕ) (bytes : List ℕ) → label < 24 → 0 < major → bytes ≡ head major n → Above label bytes
alone_above label major n bytes small lt e = other_above label major n [] bytes small lt (e ∙ sym (append-nil (head major n)))

past_by : (label : ℕ) (l : Item-F Item Pair) → label < 24 → is_past label (opening l).0 ≡ true → Above label (spelling (roll-Item l))
past_by label (Item-F.Unsigned n) small e = unsigned_above label n _ small (ltb-true _ _ e) (ap spelling (i.rolls-Unsigned n) ∙ spelling_Unsigned n)
past_by label (Item-F.Negative n) small e = alone_above label 1 n _ small (lit< tt) (ap spelling (i.rolls-Negative n) ∙ spelling_Negative n)
past_by label (Item-F.Bytes b) small e = other_above label 2 (length b) b _ small (lit< tt) (ap spelling (i.rolls-Bytes b) ∙ spelling_Bytes b)
past_by label (Item-F.Text b) small e = other_above label 3 (length b) b _ small (lit< tt) (ap spelling (i.rolls-Text b) ∙ spelling_Text b)
past_by label (Item-F.Array xs) small e = other_above label 4 (length xs) (spellings xs) _ small (lit< tt) (ap spelling (i.rolls-Array xs) ∙ spelling_Array xs)
past_by label (Item-F.Map ps) small e = other_above label 5 (length ps) (pair_spellings ps) _ small (lit< tt) (ap spelling (i.rolls-Map ps) ∙ spelling_Map ps)
past_by label (Item-F.Tag n x) small e = other_above label 6 n (spelling x) _ small (lit< tt) (ap spelling (i.rolls-Tag n x) ∙ spelling_Tag n x)
past_by label (Item-F.Truth true) small e = record { first = 245; more = []; is = ap spelling (i.rolls-Truth true) ∙ spelling_Truth true; above = omega arith }
past_by label (Item-F.Truth false) small e = record { first = 244; more = []; is = ap spelling (i.rolls-Truth false) ∙ spelling_Truth false; above = omega arith }
past_by label Item-F.Null small e = record { first = 246; more = []; is = ap spelling i.rolls-Null ∙ spelling_Null; above = omega arith }

pub past_above : (label : ℕ) (x : Item) (h : Head) → label < 24 → h ≡ (opening (out-Item x)).0 → is_past label h ≡ true → Above label (spelling x)
past_above label x h small is e =
    let past : is_past label (opening (out-Item x)).0 ≡ true = ap (is_past label) (sym is) ∙ e in
    subst (λ (y : Item). Above label (spelling y)) (roll-out-Item x) (past_by label (out-Item x) small past)

-- ---- and each key behind it is above too

equal_by : (f g : ℕ) (b : Bool) → (f == g) ≡ b → g < f → (f == g) ≡ false
equal_by f g true e lt = let is = eqb-true f g e in absurd (omega arith)
equal_by f g false e lt = e

not_below : (f g : ℕ) (s t : List ℕ) → g < f → bytes_below (f ∷ s) (g ∷ t) ≡ false
not_below f g s t lt =
    let less : nat_lt f g ≡ false = le-ltb f g (omega arith) in
    let same : (f == g) ≡ false = equal_by f g (f == g) refl lt in
    rw (less, same) refl

next_by : (label f : ℕ) (s b : List ℕ) → label < f → bytes_below (f ∷ s) b ≡ true → Above label b
next_by label f s [] lt below = absurd cc
next_by label f s (g ∷ t) lt below = elim (cases_lt g f) [
  | inl less ↦ (let both : false ≡ true = sym (not_below f g s t less) ∙ below in absurd cc)
  | inr more ↦ record { first = g; more = t; is = refl; above = omega arith }
]

next_above : (label : ℕ) (a b : List ℕ) → Above label a → bytes_below a b ≡ true → Above label b
next_above label a b h below = next_by label h.first h.more b h.above (subst (λ (t : List ℕ). bytes_below t b ≡ true) h.is below)

-- and so is not the label
first_is : (a b : ℕ) (s t : List ℕ) → a ∷ s ≡ b ∷ t → a ≡ b
first_is a b s t e = cc

labelled : (label n : ℕ) (b : Bool) → label < 24 → (n == label) ≡ b → Above label (spelling (roll-Item (Item-F.Unsigned n))) → (n == label) ≡ false
labelled label n true small e h =
    let is : n ≡ label = eqb-true n label e in
    let one : (32 * 0 + n) ∷ [] ≡ h.first ∷ h.more = sym (ap spelling (i.rolls-Unsigned n) ∙ spelling_Unsigned n ∙ head_short 0 n (omega arith)) ∙ h.is in
    let first : 32 * 0 + n ≡ h.first = first_is _ _ _ _ one in
    let above = h.above in
    absurd (omega arith)
labelled label n false small e h = e

other_by : (label : ℕ) (l : Item-F Item Pair) → label < 24 → Above label (spelling (roll-Item l)) → labelled_by label l ≡ false
other_by label (Item-F.Unsigned n) small h = labelled label n (n == label) small refl h
other_by label (Item-F.Negative n) small h = refl
other_by label (Item-F.Bytes b) small h = refl
other_by label (Item-F.Text b) small h = refl
other_by label (Item-F.Array xs) small h = refl
other_by label (Item-F.Map ps) small h = refl
other_by label (Item-F.Tag n x) small h = refl
other_by label (Item-F.Truth b) small h = refl
other_by label Item-F.Null small h = refl

other : (label : ℕ) (x : Item) → label < 24 → Above label (spelling x) → labelled_by label (out-Item x) ≡ false
other label x small h = other_by label (out-Item x) small (subst (λ (y : Item). Above label (spelling y)) (sym (roll-out-Item x)) h)

pub none_above : (label : ℕ) (last : List ℕ) (ps : List Pair) → label < 24 → Above label last → KeysAscend last ps → field label ps ≡ None
none_above label last [] small h ascend = refl
none_above label last (p ∷ ps) small h ascend =
    let above = next_above label last (spelling p.key) h ascend.0 in
    rw (other label p.key small above) (none_above label (spelling p.key) ps small above ascend.1)
