-- Alternatives, each a wrapped sequence, and null behind them.
use Rattle.std.proofs.Common.{◌≡◌, Bool, true, false, cond, List, [], ◌∷◌, refl, sym, ap, subst, ◌∙◌}
use Rattle.std.specs.Prelude.{Result, Ok, Err}
use Rattle.std.specs.List.{AllByRecursion}
use Rattle.cbor_core.specs.declared.item.Item.{Item, out-Item}
use Rattle.cbor_core.specs.declared.item.Item.TheOpen.{Item-F}
use Rattle.cbor_core.specs.declared.item.Item.TheVariants as i
use Rattle.cbor_core.specs.declared.item.Item.TheViews.{roll-Item, roll-out-Item}
use Rattle.cbor_core.specs.declared.item.Pair.{Pair}
use Rattle.cbor_fields.specs.Written.{IsSpelled}
use Rattle.item_codec.specs.Answers.{and_then, mapped, IsSettled}
use Rattle.item_codec.specs.Part.{Part}
use Rattle.item_codec.specs.Fields.{in_array}
use Rattle.item_codec.specs.Wrapped.{wrap}
use Rattle.item_codec.proofs.Public.Settled.{then_settled}
use Rattle.item_codec.proofs.Public.Arrays.{Makes, array_part}
use Rattle.suit_commands.specs.declared.fault.SequenceFault.{SequenceFault}
use Rattle.suit_commands.specs.declared.fault.SequenceFault.TheVariants.{Shape}
use Rattle.cbor_core.specs.Views.{is_null}
use Rattle.suit_commands.specs.Sequences.{Sequence, Inner, wrapped_sequence, last_alternative, alternatives}
use Rattle.suit_commands.specs.Written.{alternative_items}
use Rattle.suit_commands.specs.Proper.{HasAlternative}
use Rattle.suit_commands.proofs.Fields.{IsOutside}

null_rolled : (l : Item-F Item Pair) → is_null l ≡ true → roll-Item l ≡ i.Null
null_rolled Item-F.Null e = i.rolls-Null
null_rolled _ e = absurd cc

-- one alternative, and null in place of one
abbrev pub alone : Sequence → List Sequence × Bool
alone s = (s ∷ [], false)

abbrev pub null_alone : List Sequence × Bool
null_alone = ([], true)

-- one more before others
abbrev pub more_of : Sequence → List Sequence × Bool → List Sequence × Bool
more_of s t = (s ∷ t.0, t.1)

-- some, and whether null stands behind them
abbrev pub ended_by : Bool → List Sequence → List Sequence × Bool
ended_by null_last ss = (ss, null_last)

null_is : (x : Item) → is_null (out-Item x) ≡ true → x ≡ i.Null
null_is x e = sym (roll-out-Item x) ∙ null_rolled (out-Item x) e

module _ (none : SequenceFault) (outside : IsOutside none) (inner : Inner) (item : Sequence → Item) (P : Sequence → Type 0) (one : Part none (wrapped_sequence inner) (wrap item) P) where
  -- the items of alternatives
  abbrev items : List Sequence × Bool → List Item
  items t = alternative_items (wrap item) t.0 t.1

  abbrev IsProperTry : List Sequence × Bool → Type 0
  IsProperTry t = HasAlternative t.0 t.1 × AllByRecursion P t.0

  -- ---- no refusal is want of memory

  last_settled : (x : Item) (b : Bool) → IsSettled none (cond b (Ok null_alone) (mapped alone (wrapped_sequence inner x)))
  last_settled x true = tt
  last_settled x false = then_settled none (λ (s : Sequence). Ok (alone s)) (wrapped_sequence inner x) (one.settled x) (λ _. tt)

  settled : (xs : List Item) → IsSettled none (alternatives inner xs)
  settled [] = outside.shape
  settled (x ∷ []) = last_settled x (is_null (out-Item x))
  settled (x ∷ y ∷ xs) =
      then_settled none (λ (s : Sequence). mapped (more_of s) (alternatives inner (y ∷ xs))) (wrapped_sequence inner x) (one.settled x) (λ s.
      then_settled none (λ (t : List Sequence × Bool). Ok (more_of s t)) (alternatives inner (y ∷ xs)) (settled (y ∷ xs)) (λ _. tt))

  -- ---- what was read

  record AreRead (xs : List Item) (t : List Sequence × Bool) : Type 0 where
    is : xs ≡ items t
    proper : IsProperTry t

  same_read : (xs : List Item) (t u : List Sequence × Bool) → t ≡ u → AreRead xs t → AreRead xs u
  same_read xs t u e r = subst (λ (w : List Sequence × Bool). AreRead xs w) e r

  last_wrapped : (x : Item) (t : List Sequence × Bool) → IsSpelled x → (r : Result Sequence SequenceFault) → wrapped_sequence inner x ≡ r
      → mapped alone r ≡ Ok t → AreRead (x ∷ []) t
  last_wrapped x t sp (Err e) at h = absurd cc
  last_wrapped x t sp (Ok s) at h =
      let same : alone s ≡ t = cc in
      same_read (x ∷ []) (alone s) t same (record { is = ap (λ (y : Item). y ∷ []) (one.fixes x s sp at); proper = (tt, (one.proper x s sp at, tt)) })

  last_read : (x : Item) (t : List Sequence × Bool) → IsSpelled x → (b : Bool) → is_null (out-Item x) ≡ b
      → cond b (Ok null_alone) (mapped alone (wrapped_sequence inner x)) ≡ Ok t → AreRead (x ∷ []) t
  last_read x t sp true null h =
      let same : null_alone ≡ t = cc in
      same_read (x ∷ []) null_alone t same (record { is = ap (λ (y : Item). y ∷ []) (null_is x null); proper = (tt, tt) })
  last_read x t sp false null h = last_wrapped x t sp (wrapped_sequence inner x) refl h

  any_more : (s : Sequence) (ss : List Sequence) (b : Bool) → HasAlternative (s ∷ ss) b
  any_more s ss b = tt

  more_read : (x : Item) (xs : List Item) (s : Sequence) (t : List Sequence × Bool) → IsSpelled x → wrapped_sequence inner x ≡ Ok s → (r : Result (List Sequence × Bool) SequenceFault)
      → ((u : List Sequence × Bool) → r ≡ Ok u → AreRead xs u) → mapped (more_of s) r ≡ Ok t → AreRead (x ∷ xs) t
  more_read x xs s t sp at (Err e) rest h = absurd cc
  more_read x xs s t sp at (Ok u) rest h =
      let same : more_of s u ≡ t = cc in
      let behind = rest u refl in
      let front : x ∷ xs ≡ wrap item s ∷ items u = ap (λ (y : Item). y ∷ xs) (one.fixes x s sp at) ∙ ap (λ (ys : List Item). wrap item s ∷ ys) behind.is in
      same_read (x ∷ xs) (more_of s u) t same (record { is = front; proper = (any_more s u.0 u.1, (one.proper x s sp at, behind.proper.1)) })

  first_read : (x : Item) (xs : List Item) (t : List Sequence × Bool) → IsSpelled x → (r : Result Sequence SequenceFault) → wrapped_sequence inner x ≡ r
      → (more : Result (List Sequence × Bool) SequenceFault) → ((u : List Sequence × Bool) → more ≡ Ok u → AreRead xs u)
      → and_then (λ (s : Sequence). mapped (more_of s) more) r ≡ Ok t → AreRead (x ∷ xs) t
  first_read x xs t sp (Err e) at more rest h = absurd cc
  first_read x xs t sp (Ok s) at more rest h = more_read x xs s t sp at more rest h

  all_read : (xs : List Item) (t : List Sequence × Bool) → AllByRecursion IsSpelled xs → alternatives inner xs ≡ Ok t → AreRead xs t
  all_read [] t all h = absurd cc
  all_read (x ∷ []) t all h = last_read x t all.0 (is_null (out-Item x)) refl h
  all_read (x ∷ y ∷ xs) t all h =
      first_read x (y ∷ xs) t all.0 (wrapped_sequence inner x) refl (alternatives inner (y ∷ xs)) (λ u e. all_read (y ∷ xs) u all.1 e) h

  -- ---- what was written

  last_seen : (s : Sequence) → P s → alternatives inner (wrap item s ∷ []) ≡ Ok (alone s)
  last_seen s is =
      let other : is_null (out-Item (wrap item s)) ≡ false = rw i.outs-Bytes refl in
      let read : last_alternative inner (wrap item s) ≡ mapped alone (wrapped_sequence inner (wrap item s)) = ap (λ (b : Bool). cond b (Ok null_alone) (mapped alone (wrapped_sequence inner (wrap item s)))) other in
      read ∙ ap (λ (r : Result Sequence SequenceFault). mapped alone r) (one.seen s is)

  null_seen : alternatives inner (i.Null ∷ []) ≡ Ok null_alone
  null_seen = rw i.outs-Null refl

  more_seen : (s : Sequence) (xs : List Item) (t : List Sequence × Bool) → P s → alternatives inner xs ≡ Ok t → alternatives inner (wrap item s ∷ xs) ≡ Ok (more_of s t)
  more_seen s [] t is h = absurd cc
  more_seen s (x ∷ xs) t is h =
      ap (λ (r : Result Sequence SequenceFault). and_then (λ (s : Sequence). mapped (more_of s) (alternatives inner (x ∷ xs))) r) (one.seen s is)
      ∙ ap (λ (r : Result (List Sequence × Bool) SequenceFault). mapped (more_of s) r) h

  seen_by : (ss : List Sequence) (b : Bool) → HasAlternative ss b → AllByRecursion P ss → alternatives inner (alternative_items (wrap item) ss b) ≡ Ok (ss, b)
  seen_by [] false has all = absurd has
  seen_by [] true has all = null_seen
  seen_by (s ∷ []) false has all = last_seen s all.0
  seen_by (s ∷ []) true has all = more_seen s (i.Null ∷ []) null_alone all.0 null_seen
  seen_by (s ∷ t ∷ ss) b has all = more_seen s (alternative_items (wrap item) (t ∷ ss) b) (t ∷ ss, b) all.0 (seen_by (t ∷ ss) b tt all.1)

  -- ---- the array as a part

  makes : (xs : List Item) → Makes none items (alternatives inner xs) xs IsProperTry
  makes xs = record {
    settled = settled xs;
    back = λ all t h. (let r = all_read xs t all h in r.is);
    proper = λ all t h. (let r = all_read xs t all h in r.proper);
  }

  pub alternatives_part : Part none (in_array Shape (alternatives inner)) (λ t. i.Array (alternative_items (wrap item) t.0 t.1)) (λ t. HasAlternative t.0 t.1 × AllByRecursion P t.0)
  alternatives_part = array_part none Shape (alternatives inner) items IsProperTry outside.shape makes (λ t is. seen_by t.0 t.1 is.0 is.1)
