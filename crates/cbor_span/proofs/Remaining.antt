-- Pairs one behind the other: those that are left, and what a label has among them.
use Rattle.std.proofs.Common.{◌≡◌, ℕ, ◌+◌, ◌-◌, ◌<◌, true, false, List, [], ◌∷◌, ◌++◌, length, take, Option, Some, None, refl, sym, ap, subst, ◌∙◌, append_assoc, arith}
use Rattle.std.proofs.lemmas.List.{append-nil, take_at, length-append}
use Rattle.std.proofs.lemmas.List.Concat.{flat_map-cons}
use Rattle.cbor_heads.specs.declared.head.Head.{Head}
use Rattle.cbor_heads.specs.declared.head.Kind.TheVariants as k
use Rattle.cbor_core.specs.declared.item.Item.{Item, out-Item}
use Rattle.cbor_core.specs.declared.item.Item.TheOpen.{Item-F}
use Rattle.cbor_core.specs.declared.item.Pair.{Pair}
use Rattle.cbor_core.specs.Spelling.{spelling, pair_spelling, pair_spellings, KeysAscend}
use Rattle.cbor_core.specs.Views.{field, labelled_by, map_by, map_of}
use Rattle.cbor_span.specs.Fields.{is_past}
use Rattle.cbor_core.proofs.Public.Views.{map_is}
use Rattle.cbor_core.proofs.Public.KeyOrder.{nothing_below}
use Rattle.cbor_span.specs.Opening.{opening}
use Rattle.cbor_span.specs.Parts.{HasSpelling, HaveSpellings, PairsSpelled, PairsInFront, IsThere}
use Rattle.cbor_span.proofs.Public.Parts.{as_spelled, pairs_spelled, keys_ascend}
use Rattle.cbor_span.proofs.Ascending.{past_above, none_above}

-- ---- those that are left

-- Of so many pairs that a front of the bytes spells, these many are left.
abbrev pub Rest : ℕ → List ℕ → ℕ → List ℕ → Type 0
Rest n bytes left rest = (ps : List Pair) (more : List ℕ) → PairsInFront ps bytes more → length ps ≡ n
    → (qs : List Pair) × PairsInFront qs rest more × (length qs ≡ left)

-- the same, and the field is among them
abbrev pub Left : ℕ → ℕ → List ℕ → ℕ → List ℕ → Type 0
Left label n bytes left rest = (ps : List Pair) (more : List ℕ) → PairsInFront ps bytes more → length ps ≡ n
    → (qs : List Pair) × PairsInFront qs rest more × (length qs ≡ left) × (field label ps ≡ field label qs)

-- one more pair, of those that are left
pub record Next (qs : List Pair) (left : ℕ) (rest more : List ℕ) : Type 0 where
  pub pair : Pair
  pub others : List Pair
  pub are : qs ≡ pair ∷ others
  pub key : HasSpelling pair.key
  pub value : HasSpelling pair.value
  pub each : HaveSpellings others
  pub ascend : KeysAscend (spelling pair.key) others
  pub bytes : rest ≡ pair_spelling pair ++ (pair_spellings others ++ more)
  pub count : length others + 1 ≡ left

pub next : (qs : List Pair) (left : ℕ) (rest more : List ℕ) → 0 < left → PairsInFront qs rest more → length qs ≡ left → Next qs left rest more
next [] left rest more lt s len = absurd (omega arith)
next (q ∷ qs) left rest more lt s len = record {
  pair = q;
  others = qs;
  are = refl;
  key = s.0.0.0;
  value = s.0.0.1;
  each = s.0.1;
  ascend = s.1.1;
  bytes = s.2 ∙ ap (λ (t : List ℕ). t ++ more) (flat_map-cons pair_spelling q qs) ∙ append_assoc (pair_spelling q) (pair_spellings qs) more;
  count = omega (arith, len);
}

-- the pairs behind one more are those of a map
ascend_alone : (last : List ℕ) (ps : List Pair) → KeysAscend last ps → KeysAscend [] ps
ascend_alone last [] ascend = tt
ascend_alone last (p ∷ ps) ascend = (nothing_below p.key, ascend.1)

pub behind_next : (qs : List Pair) (left : ℕ) (rest more : List ℕ) (q : Next qs left rest more) (behind : List ℕ) → behind ≡ pair_spellings q.others ++ more → PairsInFront q.others behind more
behind_next qs left rest more q behind is = (q.each, ascend_alone (spelling q.pair.key) q.others q.ascend, is)

-- none are left
pub none_left : (qs : List Pair) (rest more : List ℕ) → PairsInFront qs rest more → length qs ≡ 0 → rest ≡ more
none_left [] rest more s len = s.2
none_left (q ∷ qs) rest more s len = absurd (omega arith)

pub no_field : (label : ℕ) (qs : List Pair) → length qs ≡ 0 → field label qs ≡ None
no_field label [] len = refl
no_field label (q ∷ qs) len = absurd (omega arith)

-- ---- the field

-- the pair has the label
pub has_field : (label : ℕ) (qs : List Pair) (left : ℕ) (rest more : List ℕ) (q : Next qs left rest more) → labelled_by label (out-Item q.pair.key) ≡ true → field label qs ≡ Some q.pair.value
has_field label qs left rest more q has = ap (field label) q.are ∙ rw has refl

-- the pair has another label
pub passes_field : (label : ℕ) (qs : List Pair) (left : ℕ) (rest more : List ℕ) (q : Next qs left rest more) → labelled_by label (out-Item q.pair.key) ≡ false → field label qs ≡ field label q.others
passes_field label qs left rest more q has = ap (field label) q.are ∙ rw has refl

pub is_there : {T : Type 0} (now : T → List ℕ) (o : Option Item) (x : Item) (t : T) → o ≡ Some x → HasSpelling x → now t ≡ spelling x → IsThere now o (Some t)
is_there now o x t is h bytes = rw is (as_spelled x (now t) h bytes)

pub is_not_there : {T : Type 0} (now : T → List ℕ) (o : Option Item) → o ≡ None → IsThere {T = T} now o None
is_not_there now o is = rw is tt

-- the pair has another label, and each pair behind it
pub past_field : (label : ℕ) (qs : List Pair) (left : ℕ) (rest more : List ℕ) (q : Next qs left rest more) (h : Head) → labelled_by label (out-Item q.pair.key) ≡ false
    → label < 24 → h ≡ (opening (out-Item q.pair.key)).0 → is_past label h ≡ true → field label qs ≡ None
past_field label qs left rest more q h has small is past =
    passes_field label qs left rest more q has ∙ none_above label (spelling q.pair.key) q.others small (past_above label q.pair.key h small is past) q.ascend

-- pairs that are all of the bytes
pub in_front : (ps : List Pair) (bytes : List ℕ) → PairsSpelled ps bytes → PairsInFront ps bytes []
in_front ps bytes s = (s.0, s.1, s.2 ∙ sym (append-nil (pair_spellings ps)))

-- the bytes of the pairs
pub pairs_front : (ps : List Pair) (bytes rest more : List ℕ) → PairsInFront ps bytes more → rest ≡ more → take (length bytes - length rest) bytes ≡ pair_spellings ps
pairs_front ps bytes rest more s is =
    let len : length bytes - length rest ≡ length (pair_spellings ps) = omega (arith, ap length s.2, ap length is, length-append (pair_spellings ps) more) in
    rw (len, s.2) (take_at (pair_spellings ps) more (length (pair_spellings ps)) refl)

-- ---- maps

opening_by : (l : Item-F Item Pair) (ps : List Pair) → map_by l ≡ Some ps → opening l ≡ (record { kind = k.Map; argument = length ps }, pair_spellings ps)
opening_by (Item-F.Map qs) ps e = let is : qs ≡ ps = cc in rw is refl
opening_by _ ps e = absurd cc

-- the head of a map and its pairs
pub map_opening : (x : Item) (ps : List Pair) → map_of x ≡ Some ps → opening (out-Item x) ≡ (record { kind = k.Map; argument = length ps }, pair_spellings ps)
map_opening x ps e = opening_by (out-Item x) ps e

pub map_pairs : (x : Item) (ps : List Pair) → map_of x ≡ Some ps → HasSpelling x → HaveSpellings ps × KeysAscend [] ps
map_pairs x ps e h = let is = subst HasSpelling (map_is x ps e) h in (pairs_spelled ps is, keys_ascend ps is)

no_map_by : (l : Item-F Item Pair) → map_by l ≡ None → (opening l).0.kind ≡ k.Map → ⊥
no_map_by (Item-F.Unsigned n) e kind = absurd cc
no_map_by (Item-F.Negative n) e kind = absurd cc
no_map_by (Item-F.Bytes bytes) e kind = absurd cc
no_map_by (Item-F.Text text) e kind = absurd cc
no_map_by (Item-F.Array xs) e kind = absurd cc
no_map_by (Item-F.Map ps) e kind = absurd cc
no_map_by (Item-F.Tag n x) e kind = absurd cc
no_map_by (Item-F.Truth b) e kind = absurd cc
no_map_by Item-F.Null e kind = absurd cc

-- no other item has the head of a map
pub no_map : (x : Item) (h : Head) → h ≡ (opening (out-Item x)).0 → map_of x ≡ None → h.kind ≡ k.Map → ⊥
no_map x h is e kind = no_map_by (out-Item x) e (sym (ap (λ (y : Head). y.kind) is) ∙ kind)
