-- The fields of a map that has no others, in the order of its pairs.
use Rattle.std.proofs.Common.{◌≡◌, ℕ, ◌<◌, Bool, true, false, List, [], ◌∷◌, Option, Some, None, refl, sym, ap, subst, ◌∙◌, arith}
use Rattle.std.specs.Prelude.{Result, Ok, Err, nat_lt, ◌==◌, IfSome}
use Rattle.std.specs.List.{AllByRecursion}
use Rattle.std.proofs.lemmas.Bool.{ltb-true, lt-ltb, eqb-true}
use Rattle.cbor_core.specs.declared.item.Item.{Item, out-Item}
use Rattle.cbor_core.specs.declared.item.Item.TheOpen.{Item-F}
use Rattle.cbor_core.specs.declared.item.Item.TheVariants as i
use Rattle.cbor_core.specs.declared.item.Pair.{Pair}
use Rattle.cbor_core.specs.Views.{labelled_by, map_of}
use Rattle.cbor_fields.specs.Views.{behind_key}
use Rattle.cbor_fields.specs.Written.{IsSpelled, labelled}
use Rattle.cbor_fields.proofs.Public.Spelled.{pairs_spelled}
use Rattle.cbor_fields.proofs.Public.Puts.{pair_is}
use Rattle.cbor_core.proofs.Public.Views.{map_is, labelled_itself}
use Rattle.item_codec.specs.Answers.{and_then, mapped, or_fault, IsSettled}
use Rattle.item_codec.specs.Part.{Part}
use Rattle.item_codec.specs.Fields.{optional_at, needed_at, in_map}
use Rattle.item_codec.specs.Ordered.{first_item, taken, field, taken_needed, needed, no_more, row, needed_row}
use Rattle.item_codec.proofs.Public.Settled.{fault_settled, then_settled, optional_settled, needed_settled}

-- ---- keys

-- the key is a number above the label
abbrev pub above_by : ℕ → Item-F Item Pair → Bool
above_by label (Item-F.Unsigned n) = nat_lt label n
above_by label _ = false

-- the first key, where there is one, is a number above the label
abbrev pub IsAbove : ℕ → List Pair → Type 0
IsAbove label [] = Unit {0}
IsAbove label (p ∷ ps) = above_by label (out-Item p.key) ≡ true

apart : (n label : ℕ) (b : Bool) → (n == label) ≡ b → label < n → (n == label) ≡ false
apart n label true is lt = let e : n ≡ label = eqb-true n label is in absurd (omega arith)
apart n label false is lt = is

other_key : (label : ℕ) (l : Item-F Item Pair) → above_by label l ≡ true → labelled_by label l ≡ false
other_key label (Item-F.Unsigned n) is = apart n label (n == label) refl (ltb-true label n is)
other_key label _ is = absurd cc

no_item : (label : ℕ) (ps : List Pair) → IsAbove label ps → first_item label ps ≡ None
no_item label [] above = refl
no_item label (p ∷ ps) above = rw (other_key label (out-Item p.key) above) refl

same_behind : (label : ℕ) (ps : List Pair) → IsAbove label ps → behind_key label ps ≡ ps
same_behind label [] above = refl
same_behind label (p ∷ ps) above = rw (other_key label (out-Item p.key) above) refl

higher : (label other : ℕ) (l : Item-F Item Pair) → label < other → above_by other l ≡ true → above_by label l ≡ true
higher label other (Item-F.Unsigned n) lt is = let h : other < n = ltb-true other n is in lt-ltb label n (omega arith)
higher label other _ lt is = absurd cc

-- ---- what was read

-- bytes spell each key and each value
abbrev pub AreSpelled : List Pair → Type 0
AreSpelled ps = AllByRecursion (λ p. IsSpelled p.key × IsSpelled p.value) ps

-- A reader of pairs. Its refusals are not want of memory. Where it gives a value, the pairs behind those that were read before are the
-- value's rows, and the value has the property.
pub record Reads {S E : Type 0} (none : E) (rows : S → List Pair) (others : List Pair → Result S E) (front : List Pair → List Pair) (Q : S → Type 0) : Type 0 where
  pub settled : (ps : List Pair) → IsSettled none (others ps)
  pub back : (ps : List Pair) (value : S) → AreSpelled ps → others ps ≡ Ok value → front ps ≡ rows value
  pub proper : (ps : List Pair) (value : S) → AreSpelled ps → others ps ≡ Ok value → Q value

-- Pairs are a row and what follows it, which the other fields read.
record FieldRead {V S E : Type 0} (item : V → Item) (P : V → Type 0) (label : ℕ) (ps : List Pair) (others : Option V → List Pair → Result S E) (value : S) : Type 0 where
  found : Option V
  rest : List Pair
  is : ps ≡ row item label found rest
  has : IfSome found P
  spelled : AreSpelled rest
  more : others found rest ≡ Ok value

record NeededRead {V S E : Type 0} (item : V → Item) (P : V → Type 0) (label : ℕ) (ps : List Pair) (others : V → List Pair → Result S E) (value : S) : Type 0 where
  found : V
  rest : List Pair
  is : ps ≡ needed_row item label found rest
  has : P found
  spelled : AreSpelled rest
  more : others found rest ≡ Ok value

row_is : {V E : Type 0} {none : E} {view : Item → Result V E} {item : V → Item} {P : V → Type 0} (part : Part none view item P) (label : ℕ) (p : Pair) (ps : List Pair) (v : V)
    → labelled_by label (out-Item p.key) ≡ true → IsSpelled p.value → view p.value ≡ Ok v → p ∷ ps ≡ labelled label (item v) ∷ ps
row_is part label p ps v is s at = ap (λ (q : Pair). q ∷ ps) (sym (pair_is label p is) ∙ ap (labelled label) (part.fixes p.value v s at))

module _ {V S E : Type 0} {none : E} {view : Item → Result V E} {item : V → Item} {P : V → Type 0} (part : Part none view item P) (label : ℕ) where
  module _ (others : Option V → List Pair → Result S E) (value : S) where
    by_view : (p : Pair) (ps : List Pair) → labelled_by label (out-Item p.key) ≡ true → AreSpelled (p ∷ ps) → (r : Result V E) → view p.value ≡ r
        → and_then (λ (t : Option V × List Pair). others t.0 t.1) (mapped (λ (f : Option V). (f, ps)) (mapped (λ (v : V). Some v) r)) ≡ Ok value → FieldRead item P label (p ∷ ps) others value
    by_view p ps is all (Err fault) at e = absurd cc
    by_view p ps is all (Ok v) at e = record { found = Some v; rest = ps; is = row_is part label p ps v is all.0.1 at; has = part.proper p.value v all.0.1 at; spelled = all.1; more = e }

    by_key : (p : Pair) (ps : List Pair) → AreSpelled (p ∷ ps) → (b : Bool) → labelled_by label (out-Item p.key) ≡ b → field view label (p ∷ ps) others ≡ Ok value
        → FieldRead item P label (p ∷ ps) others value
    by_key p ps all true is e = by_view p ps is all (view p.value) refl (rw is at e)
    by_key p ps all false is e = record { found = None; rest = p ∷ ps; is = refl; has = tt; spelled = all; more = rw is at e }

    field_read : (ps : List Pair) → AreSpelled ps → field view label ps others ≡ Ok value → FieldRead item P label ps others value
    field_read [] all e = record { found = None; rest = []; is = refl; has = tt; spelled = tt; more = e }
    field_read (p ∷ ps) all e = by_key p ps all (labelled_by label (out-Item p.key)) refl e

  module _ (missing : E) (others : V → List Pair → Result S E) (value : S) where
    needed_by_view : (p : Pair) (ps : List Pair) → labelled_by label (out-Item p.key) ≡ true → AreSpelled (p ∷ ps) → (r : Result V E) → view p.value ≡ r
        → and_then (λ (t : V × List Pair). others t.0 t.1) (mapped (λ (v : V). (v, ps)) r) ≡ Ok value → NeededRead item P label (p ∷ ps) others value
    needed_by_view p ps is all (Err fault) at e = absurd cc
    needed_by_view p ps is all (Ok v) at e = record { found = v; rest = ps; is = row_is part label p ps v is all.0.1 at; has = part.proper p.value v all.0.1 at; spelled = all.1; more = e }

    needed_by_key : (p : Pair) (ps : List Pair) → AreSpelled (p ∷ ps) → (b : Bool) → labelled_by label (out-Item p.key) ≡ b → needed view missing label (p ∷ ps) others ≡ Ok value
        → NeededRead item P label (p ∷ ps) others value
    needed_by_key p ps all true is e = needed_by_view p ps is all (view p.value) refl (rw is at e)
    needed_by_key p ps all false is e = absurd (let h : Err missing ≡ Ok value = rw is at e in cc)

    needed_read : (ps : List Pair) → AreSpelled ps → needed view missing label ps others ≡ Ok value → NeededRead item P label ps others value
    needed_read [] all e = absurd cc
    needed_read (p ∷ ps) all e = needed_by_key p ps all (labelled_by label (out-Item p.key)) refl e

-- an optional field more
pub field_reads : {V S E : Type 0} {none : E} {view : Item → Result V E} {item : V → Item} {P : V → Type 0} (part : Part none view item P) (label : ℕ) (rows : S → List Pair)
    (others : Option V → List Pair → Result S E) (front : List Pair → List Pair) {Q : S → Type 0}
    → ((o : Option V) → Reads none rows (others o) (λ ps. front (row item label o ps)) (λ value. IfSome o P → Q value)) → Reads none rows (λ ps. field view label ps others) front Q
field_reads {V} {none = none} {view = view} part label rows others front more = record {
  settled = λ ps. then_settled none (λ (t : Option V × List Pair). others t.0 t.1) (taken view label ps)
      (then_settled none (λ (o : Option V). Ok (o, behind_key label ps)) (optional_at view (first_item label ps)) (optional_settled none view part.settled (first_item label ps)) (λ _. tt))
      (λ t. (more t.0).settled t.1);
  back = λ ps value all e. (let r = field_read part label others value ps all e in ap front r.is ∙ (more r.found).back r.rest value r.spelled r.more);
  proper = λ ps value all e. (let r = field_read part label others value ps all e in (more r.found).proper r.rest value r.spelled r.more r.has);
}

-- a field more that must be there
pub needed_reads : {V S E : Type 0} {none : E} {view : Item → Result V E} {item : V → Item} {P : V → Type 0} (part : Part none view item P) (missing : E) (told : missing ≡ none → ⊥) (label : ℕ)
    (rows : S → List Pair)
    (others : V → List Pair → Result S E) (front : List Pair → List Pair) {Q : S → Type 0}
    → ((v : V) → Reads none rows (others v) (λ ps. front (needed_row item label v ps)) (λ value. P v → Q value)) → Reads none rows (λ ps. needed view missing label ps others) front Q
needed_reads {V} {none = none} {view = view} part missing told label rows others front more = record {
  settled = λ ps. then_settled none (λ (t : V × List Pair). others t.0 t.1) (taken_needed view missing label ps)
      (then_settled none (λ (v : V). Ok (v, behind_key label ps)) (needed_at view missing (first_item label ps)) (needed_settled none view part.settled missing told (first_item label ps)) (λ _. tt))
      (λ t. (more t.0).settled t.1);
  back = λ ps value all e. (let r = needed_read part label missing others value ps all e in ap front r.is ∙ (more r.found).back r.rest value r.spelled r.more);
  proper = λ ps value all e. (let r = needed_read part label missing others value ps all e in (more r.found).proper r.rest value r.spelled r.more r.has);
}

-- no field is left
pub none_reads : {S E : Type 0} (none : E) (rows : S → List Pair) (fault : Pair → E) → ((p : Pair) → fault p ≡ none → ⊥) → (made : S) (front : List Pair → List Pair) {Q : S → Type 0}
    → front [] ≡ rows made → Q made
    → Reads none rows (λ ps. no_more fault ps made) front Q
none_reads {S} {E} none rows fault told made front {Q} are has = record { settled = settled; back = back; proper = proper } where
  settled : (ps : List Pair) → IsSettled none (no_more fault ps made)
  settled [] = tt
  settled (p ∷ ps) = told p

  back : (ps : List Pair) (value : S) → AreSpelled ps → no_more fault ps made ≡ Ok value → front ps ≡ rows value
  back [] value all e = let same : made ≡ value = cc in are ∙ ap rows same
  back (p ∷ ps) value all e = absurd cc

  proper : (ps : List Pair) (value : S) → AreSpelled ps → no_more fault ps made ≡ Ok value → Q value
  proper [] value all e = let same : made ≡ value = cc in subst Q same has
  proper (p ∷ ps) value all e = absurd cc

-- ---- what was written

-- What stands behind a label has keys above it, and is read as a value.
pub record RowsRead {S E : Type 0} (label : ℕ) (others : List Pair → Result S E) (ps : List Pair) (value : S) : Type 0 where
  pub above : IsAbove label ps
  pub reads : others ps ≡ Ok value

-- no row is left
pub no_rows : {S E : Type 0} (label : ℕ) (fault : Pair → E) (value : S) → RowsRead label (λ ps. no_more fault ps value) [] value
no_rows label fault value = record { above = tt; reads = refl }

module _ {V S E : Type 0} {none : E} {view : Item → Result V E} {item : V → Item} {P : V → Type 0} (part : Part none view item P) (label : ℕ) where
  module _ (others : Option V → List Pair → Result S E) (ps : List Pair) (value : S) where
    -- the first row, of an optional field
    pub first_row : (o : Option V) → IfSome o P → RowsRead label (others o) ps value → field view label (row item label o ps) others ≡ Ok value
    first_row None is more = rw (no_item label ps more.above, same_behind label ps more.above) more.reads
    first_row (Some v) is more = rw (labelled_itself label, part.seen v is) more.reads

    row_above : (lower : ℕ) → nat_lt lower label ≡ true → (o : Option V) (qs : List Pair) → IsAbove label qs → IsAbove lower (row item label o qs)
    row_above lower lt None [] above = tt
    row_above lower lt None (p ∷ qs) above = higher lower label (out-Item p.key) (ltb-true lower label lt) above
    row_above lower lt (Some v) qs above = rw i.outs-Unsigned lt

    -- a row behind a label
    pub next_row : (o : Option V) → IfSome o P → (lower : ℕ) → nat_lt lower label ≡ true → RowsRead label (others o) ps value
        → RowsRead lower (λ qs. field view label qs others) (row item label o ps) value
    next_row o is lower lt more = record { above = row_above lower lt o ps more.above; reads = first_row o is more }

  module _ (missing : E) (others : V → List Pair → Result S E) (v : V) (ps : List Pair) (value : S) (is : P v) where
    -- the first row, of a field that must be there
    pub first_needed : RowsRead label (others v) ps value → needed view missing label (needed_row item label v ps) others ≡ Ok value
    first_needed more = rw (labelled_itself label, part.seen v is) more.reads

    -- such a row behind a label
    pub next_needed : (lower : ℕ) → nat_lt lower label ≡ true → RowsRead label (others v) ps value → RowsRead lower (λ qs. needed view missing label qs others) (needed_row item label v ps) value
    next_needed lower lt more = record { above = rw i.outs-Unsigned lt; reads = first_needed more }

-- ---- the map as a part

pub map_part : {S E : Type 0} (none fault : E) (pairs : List Pair → Result S E) (rows : S → List Pair) (P : S → Type 0) → (fault ≡ none → ⊥) → Reads none rows pairs (λ ps. ps) P
    → ((v : S) → P v → pairs (rows v) ≡ Ok v) → Part none (in_map fault pairs) (λ v. i.Map (rows v)) P
map_part {S} {E} none fault pairs rows P told reads seen = record {
  settled = λ x. then_settled none pairs (or_fault fault (map_of x)) (fault_settled none fault told (map_of x)) reads.settled;
  fixes = λ x v s e. by_map x v s (map_of x) refl e;
  proper = λ x v s e. proper_map x v s (map_of x) refl e;
  seen = λ v is. rw i.outs-Map (seen v is);
} where
  by_map : (x : Item) (v : S) → IsSpelled x → (o : Option (List Pair)) → map_of x ≡ o → and_then pairs (or_fault fault o) ≡ Ok v → x ≡ i.Map (rows v)
  by_map x v s None at h = absurd cc
  by_map x v s (Some ps) at h =
      let are = pairs_spelled x ps s at in
      map_is x ps at ∙ ap (λ (qs : List Pair). i.Map qs) (reads.back ps v are.spelled h)

  proper_map : (x : Item) (v : S) → IsSpelled x → (o : Option (List Pair)) → map_of x ≡ o → and_then pairs (or_fault fault o) ≡ Ok v → P v
  proper_map x v s None at h = absurd cc
  proper_map x v s (Some ps) at h = let are = pairs_spelled x ps s at in reads.proper ps v are.spelled h
