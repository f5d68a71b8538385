-- Values that are put into a map are found under their labels, and nothing else changes.
use Rattle.std.proofs.Common.{◌≡◌, ℕ, ◌<◌, Bool, true, false, cond, List, [], ◌∷◌, Option, Some, None, map, refl, ap, subst, ◌∙◌, arith}
use Rattle.std.specs.Prelude.{option_map, nat_lt, IfSome, not, ◌==◌}
use Rattle.std.specs.Option.{option_or}
use Rattle.std.specs.List.{AllByRecursion}
use Rattle.std.proofs.lemmas.Bool.{ltb-true, eqb-true}
use Rattle.cbor_core.specs.declared.item.Item.{Item, out-Item}
use Rattle.cbor_core.specs.declared.item.Pair.{Pair}
use Rattle.cbor_core.specs.declared.item.Item.TheOpen.{Item-F}
use Rattle.cbor_core.specs.declared.item.Item.TheVariants as i
use Rattle.cbor_core.specs.Spelling.{Spells}
use Rattle.cbor_core.specs.Views.{field, labelled_by}
use Rattle.cbor_core.proofs.Public.Views.{labelled_itself}
use Rattle.cbor_fields.specs.Views.{each_of, list_of, is_id, id_of, optional, is_among, is_other, others}
use Rattle.cbor_fields.specs.Written.{decoded, labelled, is_below_by, is_below, put, put_if}
use Rattle.cbor_fields.proofs.Ids.{id_value}
use Rattle.cbor_fields.proofs.Public.Forms.{decoded_is}
use Rattle.cbor_fields.proofs.Public.Puts.{put_end, put_behind, put_here}

-- ---- one item put

apart : (n label : ℕ) (b : Bool) → (n == label) ≡ b → n < label → (n == label) ≡ false
apart n label true is lt = let e : n ≡ label = eqb-true n label is in absurd (omega arith)
apart n label false is lt = is

-- a number below a label is not the label
not_label : (label : ℕ) (l : Item-F Item Pair) → is_below_by label l ≡ true → labelled_by label l ≡ false
not_label label (Item-F.Unsigned n) below = apart n label (n == label) refl (ltb-true n label below)
not_label label _ below = absurd cc

another : (label other : ℕ) → (other == label) ≡ false → labelled_by label (out-Item (i.Unsigned other)) ≡ false
another label other new = rw i.outs-Unsigned new

known : (labels : List ℕ) (label : ℕ) → is_among labels (Item-F.Unsigned label) ≡ true → is_among labels (out-Item (i.Unsigned label)) ≡ true
known labels label among = rw i.outs-Unsigned among

-- what is put stands under its label
pub put_found : (label : ℕ) (x : Item) (ps : List Pair) → field label (put label x ps) ≡ Some x
put_found label x [] = rw (put_end label x, labelled_itself label) refl
put_found label x (p ∷ ps) = by_test (is_below label p) refl (put_found label x ps) where
  by_test : (b : Bool) → is_below label p ≡ b → field label (put label x ps) ≡ Some x → field label (put label x (p ∷ ps)) ≡ Some x
  by_test true below more =
      let other : labelled_by label (out-Item p.key) ≡ false = not_label label (out-Item p.key) below in
      rw (put_behind label x p ps below, other) more
  by_test false above more = rw (put_here label x p ps above, labelled_itself label) refl

-- what stands under another label stays
pub put_skipped : (label other : ℕ) (x : Item) (ps : List Pair) → (other == label) ≡ false → field label (put other x ps) ≡ field label ps
put_skipped label other x [] new = rw (put_end other x, another label other new) refl
put_skipped label other x (p ∷ ps) new = by_test (is_below other p) refl (put_skipped label other x ps new) where
  by_test : (b : Bool) → is_below other p ≡ b → field label (put other x ps) ≡ field label ps → field label (put other x (p ∷ ps)) ≡ field label (p ∷ ps)
  by_test true below more = rw (put_behind other x p ps below) (ap (λ (o : Option Item). cond (labelled_by label (out-Item p.key)) (Some p.value) o) more)
  by_test false above more = rw (put_here other x p ps above, another label other new) refl

-- the pairs that have none of the labels stay
pub put_others : (labels : List ℕ) (label : ℕ) (x : Item) (ps : List Pair) → is_among labels (Item-F.Unsigned label) ≡ true → others labels (put label x ps) ≡ others labels ps
put_others labels label x [] among = rw (put_end label x, known labels label among) refl
put_others labels label x (p ∷ ps) among = by_test (is_below label p) refl (put_others labels label x ps among) where
  by_test : (b : Bool) → is_below label p ≡ b → others labels (put label x ps) ≡ others labels ps → others labels (put label x (p ∷ ps)) ≡ others labels (p ∷ ps)
  by_test true below more = rw (put_behind label x p ps below) (ap (λ (qs : List Pair). cond (is_other labels p) (p ∷ qs) qs) more)
  by_test false above more = rw (put_here label x p ps above, known labels label among) refl

-- two labels that ascend, put one behind the other
pub put_two : (m n : ℕ) (x y : Item) → nat_lt m n ≡ true → put n y (put m x []) ≡ labelled m x ∷ labelled n y ∷ []
put_two m n x y lt = ap (put n y) (put_end m x) ∙ put_behind n y (labelled m x) [] (rw i.outs-Unsigned lt) ∙ ap (λ (ps : List Pair). labelled m x ∷ ps) (put_end n y)

-- three
pub put_three : (m n o : ℕ) (x y z : Item) → nat_lt m n ≡ true → nat_lt m o ≡ true → nat_lt n o ≡ true → put o z (put n y (put m x [])) ≡ labelled m x ∷ labelled n y ∷ labelled o z ∷ []
put_three m n o x y z lt1 lt2 lt3 =
    ap (put o z) (put_two m n x y lt1)
    ∙ put_behind o z (labelled m x) (labelled n y ∷ []) (rw i.outs-Unsigned lt2)
    ∙ ap (λ (ps : List Pair). labelled m x ∷ ps) (put_behind o z (labelled n y) [] (rw i.outs-Unsigned lt3) ∙ ap (λ (ps : List Pair). labelled n y ∷ ps) (put_end o z))

-- ---- pairs that have none of the labels

unlabelled : (label : ℕ) (labels : List ℕ) (l : Item-F Item Pair) → is_among labels (Item-F.Unsigned label) ≡ true → not (is_among labels l) ≡ true → labelled_by label l ≡ false
unlabelled label labels (Item-F.Unsigned n) among other = by_test (n == label) refl where
  by_test : (b : Bool) → (n == label) ≡ b → (n == label) ≡ false
  by_test true is =
      let e : n ≡ label = eqb-true n label is in
      let h : not (is_among labels (Item-F.Unsigned label)) ≡ true = subst (λ (k : ℕ). not (is_among labels (Item-F.Unsigned k)) ≡ true) e other in
      let k : not true ≡ true = subst (λ (b : Bool). not b ≡ true) among h in
      absurd cc
  by_test false is = is
unlabelled label labels _ among other = refl

-- nothing stands under a label that no pair has
pub none_under : (label : ℕ) (labels : List ℕ) (ps : List Pair) → is_among labels (Item-F.Unsigned label) ≡ true → AllByRecursion (λ p. is_other labels p ≡ true) ps → field label ps ≡ None
none_under label labels [] among all = refl
none_under label labels (p ∷ ps) among all =
    let e : labelled_by label (out-Item p.key) ≡ false = unlabelled label labels (out-Item p.key) among all.0 in
    rw e (none_under label labels ps among all.1)

-- all of them are others
pub others_all : (labels : List ℕ) (ps : List Pair) → AllByRecursion (λ p. is_other labels p ≡ true) ps → others labels ps ≡ ps
others_all labels [] all = refl
others_all labels (p ∷ ps) all =
    let e : is_other labels p ≡ true = all.0 in
    rw e (ap (λ (qs : List Pair). p ∷ qs) (others_all labels ps all.1))

-- ---- rows of labels put one behind the other

-- a label, and the item that stands under it, where one does
pub record Row : Type 0 where
  pub label : ℕ
  pub item : Option Item

abbrev pub row : {V : Type 0} → (V → Item) → ℕ → Option V → Row
row item label value = record { label = label; item = option_map item value }

-- the rows put among pairs, the last of them first
unfoldable pub put_rows : List Row → List Pair → List Pair
put_rows [] ps = ps
put_rows (r ∷ rows) ps = put_if (λ (x : Item). x) r.label r.item (put_rows rows ps)

abbrev pub or_under : Bool → Option Item → Option Item → Option Item
or_under true o more = option_or o more
or_under false o more = more

-- the item of the first row under a label that has one
abbrev pub under : ℕ → List Row → Option Item
under label [] = None
under label (r ∷ rows) = or_under (r.label == label) r.item (under label rows)

-- no row
pub put_none : (ps : List Pair) → ps ≡ put_rows [] ps
unfolding put_rows
put_none ps = refl

-- one row more
pub put_row : {V : Type 0} (item : V → Item) (label : ℕ) (value : Option V) (rows : List Row) (ps so_far : List Pair) → so_far ≡ put_rows rows ps → put_if item label value so_far ≡ put_rows (row item label value ∷ rows) ps
unfolding put_if put_rows
put_row item label None rows ps so_far e = e
put_row item label (Some w) rows ps so_far e = ap (put label (item w)) e

field_put : (label other : ℕ) (o : Option Item) (ps : List Pair) (b : Bool) → (other == label) ≡ b → field label (put_if (λ (x : Item). x) other o ps) ≡ or_under b o (field label ps)
unfolding put_if
field_put label other None ps true is = refl
field_put label other None ps false is = refl
field_put label other (Some x) ps true is = let e : other ≡ label = eqb-true other label is in ap (λ (n : ℕ). field label (put n x ps)) e ∙ put_found label x ps
field_put label other (Some x) ps false is = put_skipped label other x ps is

-- what stands under a label behind all rows
pub rows_found : (label : ℕ) (rows : List Row) (ps : List Pair) → field label ps ≡ None → field label (put_rows rows ps) ≡ under label rows
unfolding put_rows
rows_found label [] ps none = none
rows_found label (r ∷ rows) ps none =
    field_put label r.label r.item (put_rows rows ps) (r.label == label) refl ∙ ap (or_under (r.label == label) r.item) (rows_found label rows ps none)

others_put : (labels : List ℕ) (label : ℕ) (o : Option Item) (ps : List Pair) → is_among labels (Item-F.Unsigned label) ≡ true → others labels (put_if (λ (x : Item). x) label o ps) ≡ others labels ps
unfolding put_if
others_put labels label None ps among = refl
others_put labels label (Some x) ps among = put_others labels label x ps among

-- what rows whose labels are among some leave of all others
pub rows_others : (labels : List ℕ) (rows : List Row) (ps : List Pair) → AllByRecursion (λ r. is_among labels (Item-F.Unsigned r.label) ≡ true) rows → others labels (put_rows rows ps) ≡ others labels ps
unfolding put_rows
rows_others labels [] ps all = refl
rows_others labels (r ∷ rows) ps all = others_put labels r.label r.item (put_rows rows ps) all.0 ∙ rows_others labels rows ps all.1

-- ---- what is written is seen again

-- an optional value, under its label
pub option_seen : {V : Type 0} (view : Item → Option V) (item : V → Item) (value : Option V) → IfSome value (λ w. view (item w) ≡ Some w) → optional view (option_or (option_map item value) None) ≡ Some value
option_seen view item None seen = refl
option_seen view item (Some w) seen = ap (λ o. option_map (λ v. Some v) o) seen

each_seen : {V : Type 0} (view : Item → Option V) (item : V → Item) (values : List V) → AllByRecursion (λ w. view (item w) ≡ Some w) values → each_of view (map item values) ≡ Some values
each_seen view item [] all = refl
each_seen view item (w ∷ ws) all =
    let first : view (item w) ≡ Some w = all.0 in
    let more : each_of view (map item ws) ≡ Some ws = each_seen view item ws all.1 in
    rw (first, more) refl

-- an array
pub list_seen : {V : Type 0} (view : Item → Option V) (item : V → Item) (values : List V) → AllByRecursion (λ w. view (item w) ≡ Some w) values → list_of view (i.Array (map item values)) ≡ Some values
list_seen view item values all = rw i.outs-Array (each_seen view item values all)

-- an identifier
pub id_seen : (bytes : List ℕ) (x : Item) → Spells x bytes → is_id x ≡ true → id_of (decoded bytes) ≡ Some bytes
id_seen bytes x spells is = ap id_of (decoded_is bytes x spells) ∙ id_value x bytes is spells
