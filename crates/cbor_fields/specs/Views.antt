-- What an item stands for in a typed form: a value, or none where it has another shape.
use Rattle.std.specs.Prelude.{◌==◌, ◌≡◌, ℕ, Bool, true, false, List, [], ◌∷◌, Option, Some, None, option_map, option_and_then, if◌then◌else◌, not}
use Rattle.std.specs.List.{filter}
use Rattle.cbor_core.specs.declared.item.Item.{Item, out-Item}
use Rattle.cbor_core.specs.declared.item.Item.TheOpen.{Item-F}
use Rattle.cbor_core.specs.declared.item.Pair.{Pair}
use Rattle.cbor_core.specs.Views.{array_of, field, labelled_by}
use Rattle.cbor_core.specs.Spelling.{spelling, Spells}

-- ---- lists

-- the values of all members, in their order; none where a member has none
abbrev pub each_of : {A B : Type 0} → (A → Option B) → List A → Option (List B)
each_of view [] = Some []
each_of view (x ∷ xs) = option_and_then (λ y. option_map (λ ys. y ∷ ys) (each_of view xs)) (view x)

-- the values of the members of an array
abbrev pub list_of : {B : Type 0} → (Item → Option B) → Item → Option (List B)
list_of view x = option_and_then (each_of view) (array_of x)

-- ---- identifiers

-- a byte string, by its layer
abbrev pub is_bytes_by : Item-F Item Pair → Bool
is_bytes_by (Item-F.Bytes bytes) = true
is_bytes_by _ = false

-- each item is a byte string
abbrev pub all_bytes : List Item → Bool
all_bytes [] = true
all_bytes (x ∷ xs) = if is_bytes_by (out-Item x) then all_bytes xs else false

-- an array of one or more byte strings, by its layer
abbrev pub is_id_by : Item-F Item Pair → Bool
is_id_by (Item-F.Array (x ∷ xs)) = all_bytes (x ∷ xs)
is_id_by _ = false

-- an array of one or more byte strings
abbrev pub is_id : Item → Bool
is_id x = is_id_by (out-Item x)

-- the encoding of an identifier
abbrev pub id_of : Item → Option (List ℕ)
id_of x = if is_id x then Some (spelling x) else None

-- the bytes spell an item, which is an identifier
abbrev pub SpellsId : Item → List ℕ → Type 0
SpellsId x bytes = Spells x bytes × (is_id x ≡ true)

-- the bytes are the encoding of an identifier
abbrev pub IsIdentifier : List ℕ → Type 0
IsIdentifier bytes = (x : Item) × SpellsId x bytes

-- ---- fields of a map

-- the value of an optional field: an absent one stands for None
abbrev pub optional : {B : Type 0} → (Item → Option B) → Option Item → Option (Option B)
optional view None = Some None
optional view (Some x) = option_map Some (view x)

-- the optional field under a label
abbrev pub field_of : {B : Type 0} → (Item → Option B) → ℕ → List Pair → Option (Option B)
field_of view label pairs = optional view (field label pairs)

-- the field under a label, which must be there
abbrev pub needed_of : {B : Type 0} → (Item → Option B) → ℕ → List Pair → Option B
needed_of view label pairs = option_and_then view (field label pairs)

-- a key is the number -1-n
abbrev pub negative_labelled_by : ℕ → Item-F Item Pair → Bool
negative_labelled_by label (Item-F.Negative n) = n == label
negative_labelled_by label _ = false

-- the value of the first pair whose key is the number -1-n
abbrev pub negative_field : ℕ → List Pair → Option Item
negative_field label [] = None
negative_field label (p ∷ ps) = if negative_labelled_by label (out-Item p.key) then Some p.value else negative_field label ps

-- the pairs behind the first, where its key is the label
abbrev pub behind_key : ℕ → List Pair → List Pair
behind_key label [] = []
behind_key label (p ∷ ps) = if labelled_by label (out-Item p.key) then ps else p ∷ ps

-- the keys are some of the labels, in the labels' order
abbrev pub keys_among : List ℕ → List Pair → Bool
keys_among [] [] = true
keys_among [] (p ∷ ps) = false
keys_among (label ∷ labels) ps = keys_among labels (behind_key label ps)

-- the key is one of the labels
abbrev pub is_among : List ℕ → Item-F Item Pair → Bool
is_among [] key = false
is_among (label ∷ labels) key = if labelled_by label key then true else is_among labels key

-- the key is none of the labels
abbrev pub is_other : List ℕ → Pair → Bool
is_other labels p = not (is_among labels (out-Item p.key))

-- the pairs whose key is none of the labels, in their order
abbrev pub others : List ℕ → List Pair → List Pair
others labels = filter (is_other labels)
