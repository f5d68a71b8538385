-- The fields of a map that has no others, in the order of its pairs.
use Rattle.std.specs.Prelude.{ℕ, List, [], ◌∷◌, Option, Some, None, Result, Ok, Err, if◌then◌else◌}
use Rattle.cbor_core.specs.declared.item.Item.{Item, out-Item}
use Rattle.cbor_core.specs.declared.item.Pair.{Pair}
use Rattle.cbor_core.specs.Views.{labelled_by}
use Rattle.cbor_fields.specs.Views.{behind_key}
use Rattle.cbor_fields.specs.Written.{labelled}
use Rattle.item_codec.specs.Answers.{and_then, mapped}
use Rattle.item_codec.specs.Fields.{optional_at, needed_at}

-- the value of the first pair, where its key is the label
abbrev pub first_item : ℕ → List Pair → Option Item
first_item label [] = None
first_item label (p ∷ ps) = if labelled_by label (out-Item p.key) then Some p.value else None

-- the field under a label, where it stands first, and the pairs behind it
abbrev pub taken : {V E : Type 0} → (Item → Result V E) → ℕ → List Pair → Result (Option V × List Pair) E
taken view label ps = mapped (λ o. (o, behind_key label ps)) (optional_at view (first_item label ps))

-- an optional field, and then the others
abbrev pub field : {V S E : Type 0} → (Item → Result V E) → ℕ → List Pair → (Option V → List Pair → Result S E) → Result S E
field view label ps others = and_then (λ t. others t.0 t.1) (taken view label ps)

-- the field under a label, which must stand first, and the pairs behind it
abbrev pub taken_needed : {V E : Type 0} → (Item → Result V E) → E → ℕ → List Pair → Result (V × List Pair) E
taken_needed view missing label ps = mapped (λ v. (v, behind_key label ps)) (needed_at view missing (first_item label ps))

-- a field that must be there, and then the others
abbrev pub needed : {V S E : Type 0} → (Item → Result V E) → E → ℕ → List Pair → (V → List Pair → Result S E) → Result S E
needed view missing label ps others = and_then (λ t. others t.0 t.1) (taken_needed view missing label ps)

-- no pair is left, or the first one is refused
abbrev pub no_more : {S E : Type 0} → (Pair → E) → List Pair → S → Result S E
no_more fault [] value = Ok value
no_more fault (p ∷ ps) value = Err (fault p)

-- ---- written

-- an optional value under its label, before the others
abbrev pub row : {V : Type 0} → (V → Item) → ℕ → Option V → List Pair → List Pair
row item label None ps = ps
row item label (Some value) ps = labelled label (item value) ∷ ps

-- a value under its label, before the others
abbrev pub needed_row : {V : Type 0} → (V → Item) → ℕ → V → List Pair → List Pair
needed_row item label value ps = labelled label (item value) ∷ ps
