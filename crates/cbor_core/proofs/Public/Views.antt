-- A view of an item tells which item it is.
use Rattle.std.proofs.Common.{◌≡◌, ℕ, Bool, true, List, Option, None, Some, refl, sym, ap, ◌∙◌}
use Rattle.std.proofs.lemmas.Bool.{eqb-true, eq-eqb}
use Rattle.cbor_core.specs.declared.item.Item.{Item, out-Item}
use Rattle.cbor_core.specs.declared.item.Pair.{Pair}
use Rattle.cbor_core.specs.declared.item.Item.TheOpen.{Item-F}
use Rattle.cbor_core.specs.declared.item.Item.TheViews.{roll-Item, roll-out-Item}
use Rattle.cbor_core.specs.declared.item.Item.TheVariants as i
use Rattle.cbor_core.specs.Views.{unsigned_by, unsigned_of, bytes_by, bytes_of, text_by, text_of, truth_by, truth_of, array_by, array_of, map_by, map_of, negative_by, negative_of, labelled_by}

module _ {V : Type 0} (view : Item-F Item Pair → Option V) (item : V → Item) (rolled : (l : Item-F Item Pair) (v : V) → view l ≡ Some v → roll-Item l ≡ item v) where
  pub by_layer : (x : Item) (v : V) → view (out-Item x) ≡ Some v → x ≡ item v
  by_layer x v e = sym (roll-out-Item x) ∙ rolled (out-Item x) v e

unsigned_rolled : (l : Item-F Item Pair) (n : ℕ) → unsigned_by l ≡ Some n → roll-Item l ≡ i.Unsigned n
unsigned_rolled (Item-F.Unsigned m) n e = let same : m ≡ n = cc in i.rolls-Unsigned m ∙ ap (λ (k : ℕ). i.Unsigned k) same
unsigned_rolled _ n e = absurd cc

pub unsigned_is : (x : Item) (n : ℕ) → unsigned_of x ≡ Some n → x ≡ i.Unsigned n
unsigned_is x n e = by_layer unsigned_by (λ k. i.Unsigned k) unsigned_rolled x n e

bytes_rolled : (l : Item-F Item Pair) (b : List ℕ) → bytes_by l ≡ Some b → roll-Item l ≡ i.Bytes b
bytes_rolled (Item-F.Bytes c) b e = let same : c ≡ b = cc in i.rolls-Bytes c ∙ ap (λ (t : List ℕ). i.Bytes t) same
bytes_rolled _ b e = absurd cc

pub bytes_is : (x : Item) (b : List ℕ) → bytes_of x ≡ Some b → x ≡ i.Bytes b
bytes_is x b e = by_layer bytes_by (λ t. i.Bytes t) bytes_rolled x b e

text_rolled : (l : Item-F Item Pair) (b : List ℕ) → text_by l ≡ Some b → roll-Item l ≡ i.Text b
text_rolled (Item-F.Text c) b e = let same : c ≡ b = cc in i.rolls-Text c ∙ ap (λ (t : List ℕ). i.Text t) same
text_rolled _ b e = absurd cc

pub text_is : (x : Item) (b : List ℕ) → text_of x ≡ Some b → x ≡ i.Text b
text_is x b e = by_layer text_by (λ t. i.Text t) text_rolled x b e

truth_rolled : (l : Item-F Item Pair) (b : Bool) → truth_by l ≡ Some b → roll-Item l ≡ i.Truth b
truth_rolled (Item-F.Truth c) b e = let same : c ≡ b = cc in i.rolls-Truth c ∙ ap (λ (t : Bool). i.Truth t) same
truth_rolled _ b e = absurd cc

pub truth_is : (x : Item) (b : Bool) → truth_of x ≡ Some b → x ≡ i.Truth b
truth_is x b e = by_layer truth_by (λ t. i.Truth t) truth_rolled x b e

array_rolled : (l : Item-F Item Pair) (xs : List Item) → array_by l ≡ Some xs → roll-Item l ≡ i.Array xs
array_rolled (Item-F.Array ys) xs e = let same : ys ≡ xs = cc in i.rolls-Array ys ∙ ap (λ (t : List Item). i.Array t) same
array_rolled _ xs e = absurd cc

pub array_is : (x : Item) (xs : List Item) → array_of x ≡ Some xs → x ≡ i.Array xs
array_is x xs e = by_layer array_by (λ t. i.Array t) array_rolled x xs e

map_rolled : (l : Item-F Item Pair) (ps : List Pair) → map_by l ≡ Some ps → roll-Item l ≡ i.Map ps
map_rolled (Item-F.Map qs) ps e = let same : qs ≡ ps = cc in i.rolls-Map qs ∙ ap (λ (t : List Pair). i.Map t) same
map_rolled _ ps e = absurd cc

pub map_is : (x : Item) (ps : List Pair) → map_of x ≡ Some ps → x ≡ i.Map ps
map_is x ps e = by_layer map_by (λ t. i.Map t) map_rolled x ps e

-- ---- and an item of a kind has its view

pub bytes_back : (b : List ℕ) → bytes_of (i.Bytes b) ≡ Some b
bytes_back b = rw i.outs-Bytes refl

pub map_back : (ps : List Pair) → map_of (i.Map ps) ≡ Some ps
map_back ps = rw i.outs-Map refl

pub array_back : (xs : List Item) → array_of (i.Array xs) ≡ Some xs
array_back xs = rw i.outs-Array refl

pub same_bytes : (a b : List ℕ) → i.Bytes a ≡ i.Bytes b → a ≡ b
same_bytes a b e = let both : Some a ≡ Some b = sym (bytes_back a) ∙ ap bytes_of e ∙ bytes_back b in cc

pub same_map : (ps qs : List Pair) → i.Map ps ≡ i.Map qs → ps ≡ qs
same_map ps qs e = let both : Some ps ≡ Some qs = sym (map_back ps) ∙ ap map_of e ∙ map_back qs in cc

-- ---- negative integers

negative_rolled : (l : Item-F Item Pair) (n : ℕ) → negative_by l ≡ Some n → roll-Item l ≡ i.Negative n
negative_rolled (Item-F.Negative m) n e = let same : m ≡ n = cc in i.rolls-Negative m ∙ ap (λ (k : ℕ). i.Negative k) same
negative_rolled _ n e = absurd cc

pub negative_is : (x : Item) (n : ℕ) → negative_of x ≡ Some n → x ≡ i.Negative n
negative_is x n e = by_layer negative_by (λ k. i.Negative k) negative_rolled x n e

pub negative_back : (n : ℕ) → negative_of (i.Negative n) ≡ Some n
negative_back n = rw i.outs-Negative refl

-- ---- keys

-- a label is its own key
pub labelled_itself : (label : ℕ) → labelled_by label (out-Item (i.Unsigned label)) ≡ true
labelled_itself label = rw i.outs-Unsigned (eq-eqb label label refl)

-- a key under a label is that number
pub key_is : (label : ℕ) (l : Item-F Item Pair) → labelled_by label l ≡ true → roll-Item l ≡ i.Unsigned label
key_is label (Item-F.Unsigned n) is = i.rolls-Unsigned n ∙ ap (λ (k : ℕ). i.Unsigned k) (eqb-true n label is)
key_is label _ is = absurd cc
