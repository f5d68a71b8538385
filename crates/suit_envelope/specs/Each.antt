-- Items that are all read in one way.
use Rattle.std.specs.Prelude.{List, [], ◌∷◌, Result, Ok}
use Rattle.cbor_core.specs.declared.item.Item.{Item}
use Rattle.item_codec.specs.Answers.{and_then, mapped}

-- the values of all items, in their order, or the first refusal
abbrev pub each_read : {V E : Type 0} → (Item → Result V E) → List Item → Result (List V) E
each_read view [] = Ok []
each_read view (x ∷ xs) = and_then (λ v. mapped (λ vs. v ∷ vs) (each_read view xs)) (view x)
